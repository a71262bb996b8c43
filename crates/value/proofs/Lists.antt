-- A test over a list: where it holds of no element, and of none of the first. What a closure makes of each element of an array.
-- Assumes nothing.
use mathlib.Core.Path.{◌≡◌, refl, sym, ap, ◌∙◌}
use mathlib.Core.Bool.{Bool, false, ◌||◌}
use mathlib.Core.List.{List, [], ◌∷◌, map}
use Prim.Native.Nat.{ℕ, zero, suc, ◌+◌, ◌≤◌, ◌<◌}
use native.Mathlib.Numerals.{add-one}
use native.Mathlib.Omega.{arith}
use borrow.Author.Tests.{leb-false, lt-leb}
use lib.Dec.{leb}
use lib.ListN.{length, length-map, take, get_or}
use lib.Seq.{take-suc, take_all}
use denote.Param.Members.{Mut}
use Rattle.std.specs.Array.{IsMapOf}
use Rattle.std.specs.Fn.{Called}
use Rattle.std.specs.List.{list_any}
use Rattle.std.proofs.lemmas.List.{same_lists, get_or-map}
use Rattle.value.specs.Digits.{Below}
use Rattle.value.specs.Slice.{any}
use Rattle.value.proofs.Slices.{any_snoc}
use Rattle.value.proofs.Tests.{or_left, or_right, or_both}

pub any_map : {A B : Type 0} (test : B → Bool) (f : A → B) (l : List A) → any test (map f l) ≡ any (λ x. test (f x)) l
unfolding any
any_map test f [] = refl
any_map test f (x ∷ l) = ap (λ (b : Bool). test (f x) || b) (any_map test f l)

-- as std tests a list
pub any_listed : {A : Type 0} (test : A → Bool) (l : List A) → list_any test l ≡ any test l
unfolding any
any_listed test [] = refl
any_listed test (x ∷ l) = ap (λ (b : Bool). test x || b) (any_listed test l)

-- a test that holds of no element
pub any_each : {A : Type 0} (test : A → Bool) (l : List A) (d : A) → ((i : ℕ) → i < length l → test (get_or l i d) ≡ false) → any test l ≡ false
unfolding any
any_each test [] d f = refl
any_each test (x ∷ l) d f = or_both (test x) (any test l) (f zero (omega arith)) (any_each test l d (λ i h. f (suc i) (omega arith)))

-- no number is B or above: each is below B
pub none_from : (B : ℕ) (ds : List ℕ) → any (leb B) ds ≡ false → Below B ds
unfolding any
none_from B [] e = tt
none_from B (d ∷ ds) e = (leb-false B d (or_left (leb B d) (any (leb B) ds) e), none_from B ds (or_right (leb B d) (any (leb B) ds) e))

pub below_none : (B : ℕ) (ds : List ℕ) → Below B ds → any (leb B) ds ≡ false
unfolding any
below_none B [] b = refl
below_none B (d ∷ ds) b = or_both (leb B d) (any (leb B) ds) (lt-leb B d b.0) (below_none B ds b.1)

-- an element within a list is there whatever stands for none
pub at_any : {A : Type 0} (l : List A) (i : ℕ) (d e : A) → i < length l → get_or l i d ≡ get_or l i e
at_any [] i d e h = absurd (omega arith)
at_any (x ∷ l) zero d e h = refl
at_any (x ∷ l) (suc i) d e h = at_any l i d e (omega arith)

-- what an array's `map` gives by a closure that gives f of each element
pub mapped : {A B F : Type 0} {g : Mut F (A × Unit {0}) B} {p : F} {n : ℕ} (f : A → B) (l : List A) (r : List B) → IsMapOf g p l r n → length l ≡ n
    → ((x : A) (y : B) (q s : F) → Called g q (x, tt) y s → y ≡ f x) → r ≡ map f l
mapped f [] [] m e told = refl
mapped f [] (y ∷ r) m e told = let n = m.long in absurd (omega arith)
mapped f (x ∷ l) r m e told =
    same_lists r (map f (x ∷ l)) (m.long ∙ sym e ∙ sym (length-map (x ∷ l) f))
    (λ k d h. let below : k < length (x ∷ l) = rw (e, ← m.long) h in
    told _ _ _ _ (m.at k x d (rw m.long at h)).2 ∙ sym (get_or-map f (x ∷ l) k x d below))

-- a test that holds of none of the first i elements
pub record Clear {A : Type 0} (test : A → Bool) (l : List A) (i : ℕ) : Type 0 where
  pub none : any test (take i l) ≡ false

module _ {A : Type 0} {test : A → Bool} {l : List A} where
  pub clear_none : Clear test l 0
  unfolding any
  clear_none = record { none = refl }

  pub clear_more : {i : ℕ} (d : A) → i < length l → test (get_or l i d) ≡ false → Clear test l i → Clear test l (i + 1)
  clear_more {i} d h e c =
      record { none = rw (add-one, take-suc l i d) (any_snoc test (take i l) (get_or l i d) ∙ or_both (any test (take i l)) (test (get_or l i d)) c.none e) }

  pub clear_all : {i : ℕ} → length l ≤ i → Clear test l i → any test l ≡ false
  clear_all {i} h c = rw (take_all i l h) at c.none
