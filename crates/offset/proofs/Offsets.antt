-- What Look up answers, in the words of document 01 and of document 02's E2, over the definition `look_up`.
-- Assumes nothing.
use mathlib.Core.Path.{◌≡◌, refl, sym, ap, ◌∙◌}
use mathlib.Core.Bool.{Bool, true, false}
use mathlib.Core.List.{List, [], ◌∷◌}
use mathlib.Core.Logic.{◌⊎◌, inl, inr, ◌↔◌}
use Prim.Native.Nat.{ℕ, ◌+◌, ◌-◌, ◌≤◌, ◌<◌}
use native.Mathlib.Nat.{not-suc-le-zero}
use native.Mathlib.Omega.{arith}
use borrow.Author.Tests.{lt-ltb, le-ltb, eqb-true, eq-eqb}
use lib.Dec.{eqb}
use lib.ListN.{length, get_or, drop}
use Rattle.value.specs.Level.{place_in}
use Rattle.value.proofs.Tests.{by_le}
use Rattle.fst.specs.Refusal.{refused, given, tried}
use Rattle.fst.specs.Record.{maximum}
use Rattle.std.specs.Prelude.{Option, Some, None}
use Rattle.offset.specs.declared.DataOffset.{DataOffset}
use Rattle.offset.specs.Offset.{falls, greatest, run_of, head_of, place_of, place, look_up}
use Rattle.offset.specs.Search.{Reached}
use Rattle.offset.proofs.Search.{rising, greatest_bounds, greatest_stands, place_first, head_at, head_past, Carrying, run_is, count_of, carrying_counts}

-- ---- the definition by cases

pub look_up_long : (l : List ℕ) (s : ℕ) → maximum < length l → look_up l s ≡ refused 2
unfolding look_up tried
look_up_long l s h = rw (lt-ltb maximum (length l) h)

pub look_up_falling : (l : List ℕ) (s : ℕ) → length l ≤ maximum → falls l ≡ true → look_up l s ≡ refused 11
unfolding look_up tried
look_up_falling l s h f = rw (le-ltb maximum (length l) h, f)

pub look_up_rising : (l : List ℕ) (s : ℕ) → length l ≤ maximum → falls l ≡ false → look_up l s ≡ given (place s l)
unfolding look_up tried
look_up_rising l s h f = rw (le-ltb maximum (length l) h, f)

pub place_empty : (s : ℕ) (l : List ℕ) → length l ≡ 0 → place s l ≡ None
unfolding place
place_empty s [] h = refl
place_empty s (i ∷ l) h = absurd (omega arith)

pub place_above : (s : ℕ) (l : List ℕ) → 0 < length l → s < get_or l 0 0 → place s l ≡ None
unfolding place
place_above s [] h a = absurd (not-suc-le-zero h)
place_above s (i ∷ l) h a = rw (lt-ltb s i a)

pub place_reached : (s : ℕ) (l : List ℕ) → 0 < length l → get_or l 0 0 ≤ s → place s l ≡ Some (place_of s l)
unfolding place
place_reached s [] h a = absurd (not-suc-le-zero h)
place_reached s (i ∷ l) h a = rw (le-ltb s i a)

-- what the searches find is the place
pub place_found : (needle : ℕ) (l : List ℕ) {index start n : ℕ} {next : Option ℕ}
    → index ≡ greatest needle l → start ≡ place_in l index → n ≡ run_of index (drop start l) → next ≡ head_of (drop (start + n) l)
    → ◌≡◌ {A = DataOffset} (record { start = start; elements = n; time_match = eqb index needle; next_index = next }) (place_of needle l)
unfolding place_of
place_found needle l e first run behind = rw (← e, ← first, ← run, ← behind)

-- ---- the answer

-- the least index of a list that is above an index
pub record Least (l : List ℕ) (i j : ℕ) : Type 0 where
  pub above : i < j
  pub place : ℕ
  pub within : place < length l
  pub stands : get_or l place 0 ≡ j
  pub least : (k : ℕ) → k < length l → i < get_or l k 0 → j ≤ get_or l k 0

-- "the next greater index, or absent"
abbrev pub NextAbove : List ℕ → ℕ → Option ℕ → Type 0
NextAbove l i None = (k : ℕ) → k < length l → get_or l k 0 ≤ i
NextAbove l i (Some j) = Least l i j

-- what an answer says of its index and of the entries that carry it
pub record Answers (l : List ℕ) (sought : ℕ) (o : DataOffset) : Type 0 where
  pub index : ℕ
  pub stands : get_or l o.start 0 ≡ index
  pub reached : index ≤ sought
  pub greatest : (k : ℕ) → k < length l → get_or l k 0 ≤ sought → get_or l k 0 ≤ index
  pub run : Carrying l index o.start o.elements
  pub equal : (o.time_match ≡ true) ↔ (index ≡ sought)
  pub next : NextAbove l index o.next_index

-- behind a run
next_above : (l : List ℕ) → falls l ≡ false → (i start n : ℕ) → Carrying l i start n → NextAbove l i (head_of (drop (start + n) l))
next_above l f i start n r = by_le (length l) (start + n) ends goes_on
  where
    upto : (k : ℕ) → k < start + n → get_or l k 0 ≤ i
    upto k h =
        let last = start + n - 1 in
        omega (
          arith,
          r.carried last (omega (arith, r.some)) (omega (arith, r.some)),
          rising l f k last (omega arith) (omega (arith, r.some, r.within)),
        )

    above : start + n < length l → i < get_or l (start + n) 0
    above o =
        by_le (get_or l (start + n) 0) i
        (λ h.
        let first = r.carried start (omega arith) (omega (arith, r.some)) in
        let later = rising l f start (start + n) (omega arith) o in
        absurd (omega (arith, (r.alone (start + n) o (omega arith)).1)))
        (λ h. h)

    ends : length l ≤ start + n → NextAbove l i (head_of (drop (start + n) l))
    ends o = rw (head_past l (start + n) o) (λ k h. upto k (omega arith))

    goes_on : start + n < length l → NextAbove l i (head_of (drop (start + n) l))
    goes_on o =
        rw (head_at l (start + n) o)
        (record {
          above = above o;
          place = start + n;
          within = o;
          stands = refl;
          least = λ k h a. by_le (start + n) k (λ p. rising l f (start + n) k p h) (λ p. absurd (omega (arith, upto k p)));
        })

place_answers : (s : ℕ) (l : List ℕ) → Reached s l → Answers l s (place_of s l)
unfolding place_of
place_answers s l r =
    let stands = greatest_stands s l 0 r.some r.first in
    let i = greatest s l in
    let start = place_in l i in
    let n = run_of i (drop start l) in
    let run : Carrying l i start n = run_is l r.rises i stands.place stands.within stands.is in
    record {
      index = i;
      stands = (place_first l i stands.place stands.within stands.is).1;
      reached = stands.reached;
      greatest = greatest_bounds s l;
      run = run;
      equal = (eqb-true i s, eq-eqb i s);
      next = next_above l r.rises i start n run;
    }

-- ---- the theorems

-- the answers of Look up to a list that isn't above the maximum and doesn't fall
module _ (l : List ℕ) (s : ℕ) (small : length l ≤ maximum) (rises : falls l ≡ false) where
  none_given : (length l ≡ 0) ⊎ ((0 < length l) × (s < get_or l 0 0)) → look_up l s ≡ given None
  none_given (inl h) = look_up_rising l s small rises ∙ ap given (place_empty s l h)
  none_given (inr h) = look_up_rising l s small rises ∙ ap given (place_above s l h.0 h.1)

  pub else_given : 0 < length l → get_or l 0 0 ≤ s → look_up l s ≡ given (Some (place_of s l))
  else_given some first = look_up_rising l s small rises ∙ ap given (place_reached s l some first)

  -- "The answer is none exactly when the list is empty or its first index exceeds the sought one"
  pub none_exactly : (look_up l s ≡ given None) ↔ ((length l ≡ 0) ⊎ ((0 < length l) × (s < get_or l 0 0)))
  none_exactly = (λ e. by_le (length l) 0 (λ h. inl (omega arith)) (λ h. by_le (get_or l 0 0) s (λ a. only e h a) (λ a. inr (h, a))), none_given)
    where
      only : look_up l s ≡ given None → 0 < length l → get_or l 0 0 ≤ s → (length l ≡ 0) ⊎ ((0 < length l) × (s < get_or l 0 0))
      only e h a = let found = else_given h a in cc

  standing_answers : (o : DataOffset) → look_up l s ≡ given (Some o) → Answers l s o
  standing_answers o e = by_le (length l) 0 (λ h. no (inl (omega arith))) (λ h. by_le (get_or l 0 0) s (yes h) (λ a. no (inr (h, a))))
    where
      no : (length l ≡ 0) ⊎ ((0 < length l) × (s < get_or l 0 0)) → Answers l s o
      no h = let none = none_given h in cc

      yes : 0 < length l → get_or l 0 0 ≤ s → Answers l s o
      yes h a =
          let found = else_given h a in
          let same : o ≡ place_of s l = cc in
          rw same (place_answers s l (record { rises = rises; some = h; first = a }))

-- a list whose look-up isn't refused
not_refused : (l : List ℕ) (s : ℕ) (p : Option DataOffset) → look_up l s ≡ given p → (length l ≤ maximum) × (falls l ≡ false)
not_refused l s p e =
    by_le (length l) maximum (λ h. (h, rises h (falls l) refl))
    (λ h. let long = look_up_long l s h in cc)
  where
    rises : length l ≤ maximum → (b : Bool) → falls l ≡ b → falls l ≡ false
    rises h true f = let falling = look_up_falling l s h f in cc
    rises h false f = f

-- "Else, for the greatest index not above it: start, its first entry; the number of entries from there on that carry the same time index;
-- whether it equals the sought one; the next greater index, or absent"
pub at_answers : (l : List ℕ) (s : ℕ) (o : DataOffset) → look_up l s ≡ given (Some o) → Answers l s o
at_answers l s o e = let stands = not_refused l s (Some o) e in standing_answers l s stands.0 stands.1 o e

-- E2: the number of entries "is the true count"
pub elements_counted : (l : List ℕ) (s : ℕ) (o : DataOffset) → look_up l s ≡ given (Some o) → o.elements ≡ count_of (get_or l o.start 0) l
elements_counted l s o e = let a = at_answers l s o e in rw a.stands (sym (carrying_counts a.run))
