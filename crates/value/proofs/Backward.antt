-- Laws of lent slices that are written from the back: what stands before a part, and a part or a store in front of one.
-- Assumes nothing.
use mathlib.Core.Path.{◌≡◌, sym, ap, ap₂, ◌∙◌}
use mathlib.Core.List.{List, [], ◌∷◌, ◌++◌, append_assoc, append-nil}
use Prim.Native.Nat.{ℕ, suc, ◌+◌, ◌-◌, ◌≤◌, ◌<◌}
use native.Mathlib.Nat.{add_assoc, zero-add}
use native.Mathlib.Numerals.{add-one}
use native.Mathlib.Omega.{arith}
use lib.ListN.{length, take, drop, get_or, set, length-append, length-drop, take-append-drop}
use lib.Seq.{set_at, take-append-le, drop-append-le, take-take, take_at, drop_at, drop-cons, drop-length, length-take-le}
use Rattle.value.specs.Slice.{part, overlay}
use Rattle.value.specs.Digits.{Below}
use Rattle.value.proofs.Digits.{below_take, below_drop}
use Rattle.value.proofs.Slices.{part_length, part_add, overlay_length, overlay_one}

pub below_part : (B : ℕ) (ds : List ℕ) → Below B ds → (start n : ℕ) → Below B (part start n ds)
unfolding part
below_part B ds h start n = below_take B (drop start ds) (below_drop B ds h start) n

module _ {A : Type 0} where
  -- ---- parts of parts

  pub part_cons : (l : List A) (start n : ℕ) (d : A) → start < length l → part start (suc n) l ≡ get_or l start d ∷ part (start + 1) n l
  unfolding part
  part_cons l start n d h = rw (drop-cons l start d h, add-one)

  pub take_part : (l : List A) (start n m : ℕ) → start + n ≤ length l → take n (part start (n + m) l) ≡ part start n l
  take_part l start n m h =
      ap (take n) (part_add l start n m) ∙ take_at (part start n l) (part (start + n) m l) n (part_length l start n h)

  pub drop_part : (l : List A) (start n m : ℕ) → start + n ≤ length l → drop n (part start (n + m) l) ≡ part (start + n) m l
  drop_part l start n m h =
      ap (drop n) (part_add l start n m) ∙ drop_at (part start n l) (part (start + n) m l) n (part_length l start n h)

  -- ---- what stands before a part that was laid over a list

  front : (xs ys : List A) (start n : ℕ) → start + n ≤ length xs → part start n (xs ++ ys) ≡ part start n xs
  unfolding part
  front xs ys start n h =
      ap (take n) (drop-append-le start xs ys (omega arith))
      ∙ take-append-le n (drop start xs) ys (rw length-drop (omega arith))

  pub part_before : (l new : List A) (start p n : ℕ) → p + n ≤ start → start ≤ length l → part p n (overlay l start new) ≡ part p n l
  unfolding overlay
  part_before l new start p n h k =
      let e : p + n ≤ length (take start l) = rw (length-take-le start l k) h in
      front (take start l) (new ++ drop (start + length new) l) p n e
      ∙ sym (front (take start l) (drop start l) p n e)
      ∙ ap (part p n) (take-append-drop start l)

  -- ---- a part in front of a part

  pub overlay_front : (l : List A) (start : ℕ) (xs ys : List A) (n : ℕ) → start + length xs ≡ n → n ≤ length l
      → overlay (overlay l n ys) start xs ≡ overlay l start (xs ++ ys)
  unfolding overlay
  overlay_front l start xs ys n e h =
      let q : List A = drop (n + length ys) l in
      let t : length (take n l) ≡ n = length-take-le n l h in
      let a : take start (take n l ++ (ys ++ q)) ≡ take start l
      = take-append-le start (take n l) (ys ++ q) (rw t (omega arith)) ∙ take-take start n l (omega arith) in
      let b : drop (start + length xs) (take n l ++ (ys ++ q)) ≡ ys ++ q = rw e (drop_at (take n l) (ys ++ q) n t) in
      let k : start + length (xs ++ ys) ≡ n + length ys = rw length-append (omega arith) in
      ap₂ (λ (u v : List A). u ++ (xs ++ v)) a b
      ∙ ap (λ (u : List A). take start l ++ u) (sym (append_assoc xs ys q))
      ∙ ap (λ (i : ℕ). take start l ++ ((xs ++ ys) ++ drop i l)) (sym k)

  -- a store in front of a part
  pub store_front : (l ys : List A) (start n : ℕ) (v : A) → start + 1 ≡ n → n + length ys ≤ length l
      → set (overlay l n ys) start v ≡ overlay l start (v ∷ ys)
  store_front l ys start n v e h =
      sym (overlay_one (overlay l n ys) start v (rw (overlay_length l ys n h) (omega arith)))
      ∙ overlay_front l start (v ∷ []) ys n e (omega arith)

  -- a store at a part's first place
  pub store_first : (l xs : List A) (start : ℕ) (x v : A) → start ≤ length l → set (overlay l start (x ∷ xs)) start v ≡ overlay l start (v ∷ xs)
  unfolding overlay
  store_first l xs start x v h = set_at (take start l) x (xs ++ drop (start + suc (length xs)) l) v start (length-take-le start l h)

  -- ---- elements moved within a list

  -- n elements from p are moved to q, which is not before p, the last ones first: all but the first k + b, and then b more
  pub moved_more : (l : List A) (p q n k b : ℕ) → p ≤ q → q + n ≤ length l → k + b ≤ n
      → overlay (overlay l (q + (k + b)) (part (p + (k + b)) (n - (k + b)) l)) (q + k) (part (p + k) b (overlay l (q + (k + b)) (part (p + (k + b)) (n - (k + b)) l)))
      ≡ overlay l (q + k) (part (p + k) (n - k) l)
  moved_more l p q n k b o h i =
      let ys : List A = part (p + (k + b)) (n - (k + b)) l in
      let e : n - k ≡ b + (n - (k + b)) = omega arith in
      let s : length (part (p + k) b l) ≡ b = part_length l (p + k) b (omega arith) in
      ap (overlay (overlay l (q + (k + b)) ys) (q + k)) (part_before l ys (q + (k + b)) (p + k) b (omega arith) (omega arith))
      ∙ overlay_front l (q + k) (part (p + k) b l) ys (q + (k + b)) (rw s (omega arith)) (omega arith)
      ∙ ap (overlay l (q + k)) (rw (e, part_add l (p + k) b (n - (k + b)), add_assoc p k b))

  -- over the whole list
  pub overlay_whole : (l new : List A) → length new ≡ length l → overlay l 0 new ≡ new
  unfolding overlay
  overlay_whole l new e = rw (zero-add, e, drop-length, append-nil)
