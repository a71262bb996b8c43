-- `signal::packed::has_bad_code` meets its contract: a code of the first byte is bad where that has but one, or one of the full bytes is.
-- Assumes nothing.
use mathlib.Core.Path.{◌≡◌, refl, sym, ap, ◌∙◌}
use Prim.Native.Nat.{◌-◌, ◌%◌, ◌≤◌}
use native.Mathlib.Omega.{arith}
use lib.ListN.{length, drop, length-drop}
use lib.Seq.{take_all}
use Rattle.value.specs.declared.States.TheVariants.{Nine}
use Rattle.value.specs.Slice.{any}
use Rattle.value.proofs.Digits.{below_all}
use Rattle.signal.specs.Parts.{Levels, is_bad_byte}
use Rattle.signal.proofs.CodesOfBytes.{nine_bits, bad_whole}
use Rattle.signal.proofs.packed.has_bad_code.Goals.{Else-bits-lt4}
use Rattle.signal.proofs.packed.has_bad_code.Goals as goal

-- the set is Nine
nine : (c : Else-bits-lt4) → c.args.states ≡ Nine
nine c = nine_bits c.args.states (rw c.bits.ensures at c.if-bits-lt4.false)

within : (c : Else-bits-lt4) → let a = c.args in a.width % 2 ≤ length a.levels.now
within c =
    let h : Levels c.args.width Nine c.args.levels.now = rw (nine c) at c.requires in
    omega (arith, h.long)

pub returns-then-has_bad_first : goal.returns-then-has_bad_first
returns-then-has_bad_first c =
    c.if-has_bad_first.true
    ∙ bad_whole (nine (goal.at.returns-then-has_bad_first c).Else-bits-lt4) c.requires (below_all 256 c.args.levels.now (λ i. omega (arith, c.type_inv.levels i)))
    (sym c.if-has_bad_first.true ∙ c.has_bad_first.ensures) refl

pub returns-else-has_bad_first : goal.returns-else-has_bad_first
returns-else-has_bad_first c =
    let v = c.args.levels.now in
    let n = c.args.width % 2 in
    let t = take_all (length v - n) (drop n v) (rw length-drop (omega arith)) in
    bad_whole (nine (goal.at.returns-else-has_bad_first c).Else-bits-lt4) c.requires (below_all 256 v (λ i. omega (arith, c.type_inv.levels i)))
    (sym c.if-has_bad_first.false ∙ c.has_bad_first.ensures) (c.has_bad_byte.ensures ∙ ap (any is_bad_byte) t)
