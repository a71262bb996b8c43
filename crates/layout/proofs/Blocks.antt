-- Laws of parts that are borrowed, and of a part that is laid over a list as its end and its front, which overlap: elements moved within the
-- list, and zeros.
-- Assumes nothing.
use mathlib.Core.Path.{◌≡◌, sym, ap, ap₂, ◌∙◌}
use mathlib.Core.List.{List, ◌++◌}
use Prim.Native.Nat.{ℕ, ◌+◌, ◌-◌, ◌≤◌}
use native.Mathlib.Omega.{arith}
use lib.ListN.{length, take, drop, length-drop, take-append-drop}
use lib.Seq.{take-add, drop-drop, length-take-le}
use borrow.Rule.Slice.PartMut.{put_mid}
use Rattle.value.specs.Slice.{part, overlay}
use Rattle.value.proofs.Slices.{part_length, part_overlay, overlay_part, overlay_length}
use Rattle.value.proofs.Backward.{take_part, drop_part, overlay_front}
use Rattle.layout.specs.Blocks.{Halves}

module _ {A : Type 0} where
  -- what `&l[start..start + n]` holds
  pub part_borrowed : (l : List A) (start n : ℕ) → take (start + n - start) (drop start l) ≡ part start n l
  unfolding part
  part_borrowed l start n = ap (λ (k : ℕ). take k (drop start l)) (omega arith)

  -- the list once `&mut l[start..start + n]` holds new
  pub part_stored : (l new : List A) (start n : ℕ) → length new ≡ n → put_mid start (start + n - start) l new ≡ overlay l start new
  unfolding overlay
  part_stored l new start n e =
      ap (λ (r : List A). take start l ++ (new ++ r))
      (drop-drop (start + n - start) start l ∙ ap (λ (k : ℕ). drop k l) (omega (arith, e)))

  -- and once `&mut l[..n]` does
  pub front_stored : (l new : List A) (n : ℕ) → length new ≡ n → new ++ drop n l ≡ overlay l 0 new
  unfolding overlay
  front_stored l new n e = ap (λ (k : ℕ). new ++ drop k l) (omega (arith, e))

  -- all but the first r elements, and then the first b, of which the last are laid a second time
  pub ends_laid : (l v : List A) (start n r b : ℕ) → length v ≡ n → start + n ≤ length l → r ≤ b → b ≤ n
      → overlay (overlay l (start + r) (drop r v)) start (take b v) ≡ overlay l start v
  ends_laid l v start n r b s h i k =
      let x : List A = overlay l (start + r) (drop r v) in
      let t : length (take r v) ≡ r = length-take-le r v (omega arith) in
      let u : length (drop r v) ≡ (b - r) + (n - b) = rw length-drop (omega arith) in
      let w : length x ≡ length l = overlay_length l (drop r v) (start + r) (omega arith) in
      let e : b ≡ r + (b - r) = omega arith in
      let m : part (start + r) (b - r) x ≡ take (b - r) (drop r v)
      = sym (take_part x (start + r) (b - r) (n - b) (omega arith)) ∙ ap (take (b - r)) (part_overlay l (drop r v) (start + r) ((b - r) + (n - b)) (omega arith) u) in
      let f : take b v ≡ take r v ++ part (start + r) (b - r) x
      = ap (λ (j : ℕ). take j v) e ∙ take-add r (b - r) v ∙ ap (λ (y : List A). take r v ++ y) (sym m) in
      ap (overlay x start) f
      ∙ sym (overlay_front x start (take r v) (part (start + r) (b - r) x) (start + r) (rw t) (omega arith))
      ∙ ap (λ (y : List A). overlay y start (take r v)) (overlay_part x (start + r) (b - r) (omega arith))
      ∙ overlay_front l start (take r v) (drop r v) (start + r) (rw t) (omega arith)
      ∙ ap (overlay l start) (take-append-drop r v)

  -- the end and the front of a part
  pub part_end : (l : List A) (p n r : ℕ) → p + n ≤ length l → r ≤ n → drop r (part p n l) ≡ part (p + r) (n - r) l
  part_end l p n r h i =
      let e : n ≡ r + (n - r) = omega arith in
      ap (λ (j : ℕ). drop r (part p j l)) e ∙ drop_part l p r (n - r) (omega arith)

  pub part_front : (l : List A) (p n b : ℕ) → p + n ≤ length l → b ≤ n → take b (part p n l) ≡ part p b l
  part_front l p n b h k =
      let e : n ≡ b + (n - b) = omega arith in
      ap (λ (j : ℕ). take b (part p j l)) e ∙ take_part l p b (n - b) (omega arith)

  pub ends_moved : (l : List A) (p q n r b : ℕ) → p ≤ q → q + n ≤ length l → r ≤ b → b ≤ n
      → overlay (overlay l (q + r) (part (p + r) (n - r) l)) q (part p b l) ≡ overlay l q (part p n l)
  ends_moved l p q n r b o h i k =
      ap₂ (λ (x y : List A). overlay (overlay l (q + r) x) q y) (sym (part_end l p n r (omega arith) (omega arith))) (sym (part_front l p n b (omega arith) k))
      ∙ ends_laid l (part p n l) q n r b (part_length l p n (omega arith)) h i k

  -- the last half of n elements is stored, and then the first
  pub halves_laid : {half n : ℕ} → Halves half n → (l v : List A) (at : ℕ) → length v ≡ n → at + n ≤ length l
      → {first last l₁ l₂ : List A} → last ≡ drop (n - half) v → first ≡ take half v
      → l₁ ≡ overlay l (at + (n - half)) last → l₂ ≡ overlay l₁ at first → l₂ ≡ overlay l at v
  halves_laid {half} {n} c l v at s h e f i j =
      j ∙ ap₂ (λ (x y : List A). overlay x at y) (i ∙ ap (overlay l (at + (n - half))) e) f
      ∙ ends_laid l v at n (n - half) half s h (omega (arith, c.covers)) c.fits
