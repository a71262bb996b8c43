-- `entries::real::repeats_real` meets its contract.
-- Assumes nothing.
use mathlib.Core.Path.{ap, ◌∙◌}
use mathlib.Core.List.{List, reverse}
use Prim.Native.Nat.{ℕ}
use native.Mathlib.Omega.{arith}
use Rattle.std.proofs.Common.{rules}
use Rattle.value.specs.Digits.{digits}
use Rattle.value.specs.Slice.{part, same}
use Rattle.entries.proofs.LastEntry.{repeats_plain_lem}
use Rattle.entries.proofs.Reals.{same_real}
use Rattle.entries.proofs.real.repeats_real.Goals as goal

pub returns : goal.returns
returns c =
    let x = c.args in
    let b = x.bytes.now in
    let new = reverse (digits 256 8 x.bits) in
    let at = c.in-Some.ensures in
    same_real c.read_block.result c.from_le_bytes.result x.bits (search rules) (search rules) (omega arith) c.from_le_bytes.ensures
    ∙ ap (λ (l : List ℕ). same l new) (c.read_block.ensures ∙ ap (λ (k : ℕ). part k 8 b) at.1)
    ∙ repeats_plain_lem 8 x.count x.byte_start b new at.0
