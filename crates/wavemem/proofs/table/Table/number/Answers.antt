-- `wavemem::table::Table::number` meets its contract: the working number is that of the characters so far.
-- Assumes nothing.
use mathlib.Core.Path.{◌∙◌}
use Prim.Native.Nat.{◌<◌}
use native.Mathlib.Omega.{arith}
use lib.ListN.{length, get_or}
use Rattle.wavemem.proofs.Packing.{code_below, next_code}
use Rattle.wavemem.proofs.table.Table.number.Goals.{In-loop-c}
use Rattle.wavemem.proofs.table.Table.number.Goals as goal

pub loop-c-preserved : goal.loop-c-preserved
loop-c-preserved c =
    let i = c.loop-c.c-index in
    let more : i < length c.args.value.now = omega arith in
    let ok = c.requires in
    next_code ok i more c.bits-bits.result c.loop-c.working _ c.bits-bits.ensures c.loop-c.invariant
    (c.from-code.ensures
    ∙ c.args.self.now.by_low_bits.here (get_or c.args.value.now i 0) (omega (arith, c.type_inv.value i)) (code_below 9 c.args.value.now i ok.codes.known more))
