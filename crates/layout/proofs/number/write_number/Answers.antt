-- `layout::number::write_number` meets its contract: as many of the lowest digits stand there as turns were taken.
-- Assumes nothing.
use mathlib.Core.Path.{◌≡◌, sym, ap, ap₂, ◌∙◌}
use mathlib.Core.List.{List}
use Prim.Native.Nat.{ℕ, suc, ◌+◌, ◌-◌, ◌^◌, ◌/◌, ◌%◌}
use native.Mathlib.Nat.{sub_self, div-one}
use native.Mathlib.Omega.{arith}
use lib.Bits.{bit_and, and_mask}
use lib.ListN.{set}
use Rattle.value.specs.Digits.{digits}
use Rattle.value.specs.Slice.{overlay}
use Rattle.value.proofs.Slices.{overlay_nil}
use Rattle.layout.proofs.Numbers.{stored_next, rest_next}
use Rattle.layout.proofs.number.write_number.Goals as goal

pub loop-k-init : goal.loop-k-init
unfolding digits
loop-k-init c = (rw (sub_self, overlay_nil), rw sub_self (sym (div-one _)))

pub loop-k-preserved : goal.loop-k-preserved
loop-k-preserved c =
    let x = c.args in
    let d = x.out.now in
    let k = c.loop-k.k - 1 in
    let n = x.size - c.loop-k.k in
    let e : x.at + c.loop-k.k ≡ x.at + k + 1 = omega arith in
    let f : suc n ≡ x.size - k = omega arith in
    let v : bit_and c.loop-k.rest 255 ≡ x.number / 256 ^ n % 256 = and_mask c.loop-k.rest 8 ∙ ap (λ (r : ℕ). r % 256) c.loop-k.invariant.1 in (
      ap₂ (λ (o : List ℕ) (y : ℕ). set o (x.at + k) y) (c.loop-k.invariant.0 ∙ ap (λ (q : ℕ). overlay d q (digits 256 n x.number)) e) v
          ∙ stored_next x.number d n (x.at + k) (omega arith)
          ∙ ap (λ (j : ℕ). overlay d (x.at + k) (digits 256 j x.number)) f,
      ap (λ (r : ℕ). r / 256) c.loop-k.invariant.1 ∙ rest_next x.number d n ∙ ap (λ (j : ℕ). x.number / 256 ^ j) f,
    )
