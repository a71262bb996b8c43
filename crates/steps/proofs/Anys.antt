-- A test of each element of a list, by an iterator over it.
-- Assumes nothing.
use Prim.Native.Nat.{◌+◌, ◌<◌, ◌≤◌, zero, suc, ℕ}
use native.Mathlib.Numerals.{add-one}
use lib.ListN.{drop, get_or, length, take}
use lib.Seq.{drop-cons}
use mathlib.Core.Bool.{Bool, false, true, ◌||◌}
use mathlib.Core.List.{List, [], ◌∷◌, map}
use mathlib.Core.Path.{◌∙◌, ◌≡◌, ap, ap₂, refl, subst, sym}
use native.Mathlib.Omega.{arith}
use denote.Param.Members.{Mut}
use denote.Ref.{Bor}
use Rattle.std.specs.declared.slice.Iter.{Iter}
use Rattle.std.specs.Fn.{Called}
use Rattle.std.specs.Iterator.{CallableAtEachTurn, YieldsThen}
use Rattle.std.specs.List.{FoldsTo, list_any, range_with_len}
use Rattle.std.specs.Option.{MatchOption}
use Rattle.std.specs.Prelude.{Option}
use Rattle.std.specs.Slice.Iter.{iter_rest}
use Rattle.std.proofs.iter.Yields.{fronts}
use Rattle.std.proofs.lemmas.Iterator.{YieldsList-from_slice}
use Rattle.std.proofs.lemmas.Iterator.Adapters.{serves_from_places}
use Rattle.std.proofs.lemmas.Iterator.Search.{any_from_yields_List}
use Rattle.value.specs.Slice.{any, part}
use Rattle.value.proofs.Lists.{any_listed, any_map}
use Rattle.value.proofs.Slices.{any_none}
use Rattle.value.proofs.Tests.{or_both}
use Rattle.runs.specs.All.{All}
use Rattle.fst.specs.Record.{Kept}
use Rattle.signal.specs.Decode.{Indexed, entries_from, entries_in, indexed_by}

-- of a test that holds of no element, at a place
pub none_here : {A : Type 0} (test : A → Bool) (l : List A) → any test l ≡ false → (x : A) (k : ℕ) → k < length l → x ≡ get_or l k x → test x ≡ false
none_here test l n x k h e = ap test e ∙ any_none test l n k x h

-- of what each element of a slice stands for, by a closure
pub any_image : {A B F : Type 0} {g : Mut F (Bor A × Unit {0}) Bool} (test : B → Bool) (h : A → B) (l : List A) (s u : Iter A) (f : F) (r : Bool)
    → (xs : List (Bor A)) × (o : Option (Bor A)) × (j : F) × YieldsThen fronts s xs o u × FoldsTo (λ p x q. Called g p (x, tt) false q) f xs j × MatchOption o (r ≡ false) (λ x. (r ≡ true) × ((k : F) × Called g j (x, tt) true k))
    → iter_rest s ≡ l → ((x : Bor A) (b : Bool) (q : F) → Called g f (x, tt) b q → (q ≡ f) × (b ≡ test (h x.now))) → r ≡ any test (map h l)
any_image test h l s u f r ran rest told =
    any_from_yields_List (λ x. test (h x)) u f r ran (YieldsList-from_slice l rest) told ∙ any_listed (λ x. test (h x)) l ∙ sym (any_map test h l)

-- a closure that may be asked where a test doesn't hold, of elements of which it holds of none
pub asked_of_none : {A F : Type 0} {R : F → Bor A → F → Type 0} {Q : F → Bor A → Type 0} (test : A → Bool) (l : List A) (s : Iter A) (f : F) → any test l ≡ false
    → iter_rest s ≡ l → ((x : Bor A) (q : F) → R f x q → q ≡ f) → ((x : Bor A) → test x.now ≡ false → Q f x) → CallableAtEachTurn fronts R Q s f
asked_of_none test l s f n rest same asked = serves_from_places (YieldsList-from_slice l rest) same (λ x k h e. asked x (none_here test l n x.now k h e))

-- of each entry of a record, by its number
module _ (r : Kept) (test : Indexed → Bool) (by : ℕ → Bool) (is : (k i : ℕ) → by k ≡ test (indexed_by r k i)) where
  entries_any : (k : ℕ) (l : List ℕ) → list_any by (range_with_len k (length l)) ≡ any test (entries_from k r l)
  unfolding any entries_from
  entries_any k [] = refl
  entries_any k (i ∷ l) =
      let n : k + 1 ≡ suc k = add-one k in
      ap₂ (λ (a b : Bool). a || b) (is k i) (ap (λ (j : ℕ). list_any by (range_with_len j (length l))) n ∙ entries_any (suc k) l)

  pub any_entry : (n : ℕ) → length r.indices ≡ n → list_any by (range_with_len 0 n) ≡ any test (entries_in r)
  any_entry n e = ap (λ (m : ℕ). list_any by (range_with_len 0 m)) (sym e) ∙ entries_any 0 r.indices

pub none_each : {A : Type 0} (test : A → Bool) (l : List A) → All (λ x. test x ≡ false) l → any test l ≡ false
unfolding any
none_each test [] ps = refl
none_each test (x ∷ l) ps = or_both (test x) (any test l) ps.0 (none_each test l ps.1)

-- what holds of each element's image, at a place
pub map_here : {A B : Type 0} (P : B → Type 0) (f : A → B) (l : List A) → All P (map f l) → (x : A) (k : ℕ) → k < length l → x ≡ get_or l k x → P (f x)
map_here P f [] ps x k h e = absurd (omega arith)
map_here P f (y ∷ l) ps x zero h e = subst (λ z. P (f z)) (sym e) ps.0
map_here P f (y ∷ l) ps x (suc k) h e = map_here P f l ps.1 x k (omega arith) e

-- a test of the m elements from number a + k on
pub any_places : (test : ℕ → Bool) (l : List ℕ) (a k m : ℕ) → a + k + m ≤ length l
    → list_any (λ i. test (get_or l (a + i) 0)) (range_with_len k m) ≡ any test (part (a + k) m l)
unfolding any part
any_places test l a k zero h = refl
any_places test l a k (suc m) h =
    let n : a + (k + 1) ≡ suc (a + k) = omega arith in
    let x = test (get_or l (a + k) 0) in
    ap (λ (b : Bool). x || b) (any_places test l a (k + 1) m (omega arith))
    ∙ ap (λ (j : ℕ). x || any test (take m (drop j l))) n
    ∙ ap (λ (r : List ℕ). any test (take (suc m) r)) (sym (drop-cons l (a + k) 0 (omega arith)))
