-- Laws of lent slices as lists: a part, a part laid over a list, equal lists, a test that holds of an element.
-- Assumes nothing.
use mathlib.Core.Path.{◌≡◌, refl, sym, ap, ap₂, ◌∙◌, subst}
use mathlib.Core.Bool.{Bool, true, false, ◌||◌}
use mathlib.Core.List.{List, [], ◌∷◌, ◌++◌, append_assoc}
use Prim.Native.Nat.{ℕ, zero, suc, ◌+◌, ◌≤◌, ◌<◌}
use native.Mathlib.Nat.{add-zero}
use native.Mathlib.Numerals.{add-one}
use native.Mathlib.Omega.{arith}
use lib.Dec.{T, eqb, eqb→eq, eqb_refl}
use lib.ListN.{length, take, drop, get_or, set, length-append, length-drop, take-append-drop}
use lib.Seq.{take_at, drop_at, take-add, take-take, drop-drop, drop-append-add, drop-append_seam, get_or-take, get_or-drop, length-take-le, set_split}
use Rattle.value.specs.Slice.{part, overlay, same, any}
use Rattle.value.proofs.Tests.{and_left, and_right, and_both, or_left, or_right, both_ways}

module _ {A : Type 0} where
  -- ---- a part

  pub part_length : (l : List A) (start n : ℕ) → start + n ≤ length l → length (part start n l) ≡ n
  unfolding part
  part_length l start n h = length-take-le n (drop start l) (simp length-drop (omega arith))

  pub part_at : (l : List A) (start n i : ℕ) (d : A) → i < n → get_or (part start n l) i d ≡ get_or l (start + i) d
  unfolding part
  part_at l start n i d h = get_or-take n (drop start l) i d h ∙ get_or-drop start l i d

  -- a part of a part
  pub part_part : (l : List A) (start n at m : ℕ) → at + m ≤ n → part at m (part start n l) ≡ part (start + at) m l
  unfolding part
  part_part l start n at m h = go at n (drop start l) h ∙ ap (take m) (drop-drop at start l)
    where
      go : (at n : ℕ) (r : List A) → at + m ≤ n → take m (drop at (take n r)) ≡ take m (drop at r)
      go zero n r h = take-take m n r (omega arith)
      go (suc at) zero r h = absurd (omega arith)
      go (suc at) (suc n) [] h = refl
      go (suc at) (suc n) (x ∷ r) h = go at n r (omega arith)

  -- two parts, one behind the other
  pub part_add : (l : List A) (start n m : ℕ) → part start (n + m) l ≡ part start n l ++ part (start + n) m l
  unfolding part
  part_add l start n m = take-add n m (drop start l) ∙ ap (λ (r : List A). take n (drop start l) ++ take m r) (drop-drop n start l)

  pub part_nil : (l : List A) (start : ℕ) → part start 0 l ≡ []
  unfolding part
  part_nil l start = refl

  pub part_all : (l : List A) → part 0 (length l) l ≡ l
  unfolding part
  part_all [] = refl
  part_all (x ∷ l) = ap (λ (r : List A). x ∷ r) (part_all l)

  -- ---- a part laid over a list

  -- what was there
  pub overlay_part : (l : List A) (start n : ℕ) → start + n ≤ length l → overlay l start (part start n l) ≡ l
  unfolding overlay part
  overlay_part l start n h =
      let e : length (take n (drop start l)) ≡ n = length-take-le n (drop start l) (simp length-drop (omega arith)) in
      ap (λ (k : ℕ). take start l ++ (take n (drop start l) ++ drop (start + k) l)) e
      ∙ ap (λ (r : List A). take start l ++ (take n (drop start l) ++ r)) (sym (drop-drop n start l))
      ∙ ap (λ (r : List A). take start l ++ r) (take-append-drop n (drop start l))
      ∙ take-append-drop start l

  -- is found there
  pub part_overlay : (l new : List A) (start n : ℕ) → start ≤ length l → length new ≡ n → part start n (overlay l start new) ≡ new
  unfolding part overlay
  part_overlay l new start n h e =
      ap (take n) (drop_at (take start l) (new ++ drop (start + length new) l) start (length-take-le start l h))
      ∙ take_at new (drop (start + length new) l) n e

  -- and nothing else alters
  pub overlay_length : (l new : List A) (start : ℕ) → start + length new ≤ length l → length (overlay l start new) ≡ length l
  unfolding overlay
  overlay_length l new start h =
      let s : start ≤ length l = omega arith in
      simp (length-append, length-take-le start l s, length-drop) (omega arith)

  pub overlay_past : (l new : List A) (start : ℕ) → start ≤ length l → drop (start + length new) (overlay l start new) ≡ drop (start + length new) l
  unfolding overlay
  overlay_past l new start h =
      sym (drop-drop (length new) start (take start l ++ (new ++ drop (start + length new) l)))
      ∙ ap (drop (length new)) (drop_at (take start l) (new ++ drop (start + length new) l) start (length-take-le start l h))
      ∙ drop-append_seam new (drop (start + length new) l)

  pub overlay_nil : (l : List A) (start : ℕ) → overlay l start [] ≡ l
  unfolding overlay
  overlay_nil l start = rw (add-zero, take-append-drop)

  -- one element is a store
  pub overlay_one : (l : List A) (start : ℕ) (v : A) → start < length l → overlay l start (v ∷ []) ≡ set l start v
  unfolding overlay
  overlay_one l start v h = rw (add-one, ← set_split l start v h)

  -- two parts, one behind the other
  pub overlay_overlay : (l : List A) (start : ℕ) (xs ys : List A) (n : ℕ) → start + length xs ≡ n → n ≤ length l
      → overlay (overlay l start xs) n ys ≡ overlay l start (xs ++ ys)
  unfolding overlay
  overlay_overlay l start xs ys n e h =
      let p = take start l in
      let q = drop (start + length xs) l in
      let o = p ++ (xs ++ q) in
      let r : o ≡ (p ++ xs) ++ q = sym (append_assoc p xs q) in
      let z : length (p ++ xs) ≡ n = simp (length-append, length-take-le start l (omega arith)) e in
      let a : take n o ≡ p ++ xs = ap (take n) r ∙ take_at (p ++ xs) q n z in
      let w : start + length xs + length ys ≡ start + length (xs ++ ys) = simp length-append (omega arith) in
      let b : drop (n + length ys) o ≡ drop (start + length (xs ++ ys)) l =
      ap (drop (n + length ys)) r
      ∙ ap (λ (k : ℕ). drop (k + length ys) ((p ++ xs) ++ q)) (sym z)
      ∙ drop-append-add (p ++ xs) q (length ys)
      ∙ drop-drop (length ys) (start + length xs) l
      ∙ ap (λ (k : ℕ). drop k l) w in
      ap₂ (λ (u v : List A). u ++ (ys ++ v)) a b
      ∙ append_assoc p xs (ys ++ drop (start + length (xs ++ ys)) l)
      ∙ ap (λ (u : List A). p ++ u) (sym (append_assoc xs ys (drop (start + length (xs ++ ys)) l)))

  -- a store behind a part
  pub overlay_store : (l : List A) (start : ℕ) (xs : List A) (n : ℕ) (v : A) → start + length xs ≡ n → n < length l
      → set (overlay l start xs) n v ≡ overlay l start (xs ++ (v ∷ []))
  overlay_store l start xs n v e h =
      let z : length (overlay l start xs) ≡ length l = overlay_length l xs start (omega arith) in
      sym (overlay_one (overlay l start xs) n v (rw z h)) ∙ overlay_overlay l start xs (v ∷ []) n e (omega arith)

  -- a store behind a part of the list itself
  pub overlay_snoc : (l : List A) (start n : ℕ) (v : A) → start + n < length l → overlay l start (part start n l ++ (v ∷ [])) ≡ set l (start + n) v
  overlay_snoc l start n v h =
      let z : start + length (part start n l) ≡ start + n = ap (λ (k : ℕ). start + k) (part_length l start n (omega arith)) in
      sym (overlay_store l start (part start n l) (start + n) v z h)
      ∙ ap (λ (r : List A). set r (start + n) v) (overlay_part l start n (omega arith))

  -- ---- a test over all elements

  pub any_append : (test : A → Bool) (xs ys : List A) → any test (xs ++ ys) ≡ any test xs || any test ys
  unfolding any
  any_append test [] ys = refl
  any_append test (x ∷ xs) ys = ap (λ (b : Bool). test x || b) (any_append test xs ys) ∙ sym (assoc (test x) (any test xs) (any test ys))
    where
      assoc : (a b c : Bool) → (a || b) || c ≡ a || (b || c)
      assoc true b c = refl
      assoc false b c = refl

  pub any_snoc : (test : A → Bool) (xs : List A) (x : A) → any test (xs ++ (x ∷ [])) ≡ any test xs || test x
  unfolding any
  any_snoc test xs x = any_append test xs (x ∷ []) ∙ ap (λ (b : Bool). any test xs || b) (or_false (test x))
    where
      or_false : (b : Bool) → b || false ≡ b
      or_false true = refl
      or_false false = refl

  -- a test that holds of an element
  pub any_at : (test : A → Bool) (l : List A) (i : ℕ) (d : A) → i < length l → test (get_or l i d) ≡ true → any test l ≡ true
  unfolding any
  any_at test [] i d h e = absurd (omega arith)
  any_at test (x ∷ l) zero d h e = ap (λ (b : Bool). b || any test l) e
  any_at test (x ∷ l) (suc i) d h e = ap (λ (b : Bool). test x || b) (any_at test l i d (omega arith) e) ∙ or_true (test x)
    where
      or_true : (b : Bool) → b || true ≡ true
      or_true true = refl
      or_true false = refl

  -- a test that holds of none
  pub any_none : (test : A → Bool) (l : List A) → any test l ≡ false → (i : ℕ) (d : A) → i < length l → test (get_or l i d) ≡ false
  unfolding any
  any_none test [] e i d h = absurd (omega arith)
  any_none test (x ∷ l) e zero d h = or_left (test x) (any test l) e
  any_none test (x ∷ l) e (suc i) d h = any_none test l (or_right (test x) (any test l) e) i d (omega arith)

-- ---- equal lists

pub same_sound : (a b : List ℕ) → T (same a b) → a ≡ b
unfolding same
same_sound [] [] t = refl
same_sound [] (y ∷ ys) t = absurd t
same_sound (x ∷ xs) [] t = absurd t
same_sound (x ∷ xs) (y ∷ ys) t =
    let p = eqb→eq x y (and_left (eqb x y) (same xs ys) t) in
    let q = same_sound xs ys (and_right (eqb x y) (same xs ys) t) in
    λ i. p i ∷ q i

pub same_refl : (a : List ℕ) → T (same a a)
unfolding same
same_refl [] = tt
same_refl (x ∷ xs) = and_both (eqb x x) (same xs xs) (eqb_refl x) (same_refl xs)

pub same_by : (a b c d : List ℕ) → (a ≡ b → c ≡ d) → (c ≡ d → a ≡ b) → same a b ≡ same c d
same_by a b c d f g =
    both_ways (same a b) (same c d)
    (λ t. subst (λ (x : List ℕ). T (same c x)) (f (same_sound a b t)) (same_refl c))
    (λ t. subst (λ (x : List ℕ). T (same a x)) (g (same_sound c d t)) (same_refl a))
