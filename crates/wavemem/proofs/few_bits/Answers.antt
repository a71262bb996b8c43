-- `wavemem::few_bits` meets its contract: the working number is that of the characters so far.
-- Assumes nothing.
use mathlib.Core.Path.{refl, ◌∙◌}
use native.Mathlib.Omega.{arith}
use Prim.Native.Nat.{◌<◌}
use lib.ListN.{length, get_or}
use Rattle.value.proofs.Classes.{binary_bit}
use Rattle.wavemem.proofs.Packing.{code_below, next_code}
use Rattle.wavemem.proofs.few_bits.Goals as goal

pub loop-c-preserved : goal.loop-c-preserved
loop-c-preserved c =
    let i = c.loop-c.c-index in
    let more : i < length c.args.value.now = omega arith in
    let ok = c.requires in
    next_code ok i more 1 c.loop-c.working _ refl c.loop-c.invariant
    (c.from-bit.ensures
    ∙ binary_bit (get_or c.args.value.now i 0) (omega (arith, c.type_inv.value i)) (code_below 2 c.args.value.now i ok.codes.below more))
