-- The next entry of an input, and how a cursor moves on.
-- Assumes nothing.
use Rattle.std.specs.Prelude.{Option, None, Some}
use Prim.Native.Nat.{◌+◌, ◌<◌, ◌≤◌, min, suc, zero, ℕ}
use borrow.Author.Tests.{eq-eqb, ne_eqb}
use lib.ListN.{drop, drop_of_length-le, get_or, length}
use lib.Seq.{drop-cons}
use mathlib.Core.List.{List, [], ◌∷◌}
use mathlib.Core.Path.{◌∙◌, ◌≡◌, ap, refl, sym}
use native.Mathlib.Omega.{arith}
use Rattle.value.specs.Slice.{part}
use Rattle.value.proofs.Slices.{part_at, part_length}
use Rattle.offset.specs.Offset.{head_of}
use Rattle.steps.specs.Steps.{smaller}
use Rattle.std.specs.List.{cons_option, filter_map, fold, reduce}
use Rattle.steps.specs.Cursor.{Cursor}
use Rattle.steps.specs.Stepping.{Reaches, begun_at, cursor, next_in, soonest}
use Rattle.steps.specs.declared.Input.{Input}

module _ (indices : List ℕ) (input : Input) (k : ℕ) (room : Reaches indices input) where
  abbrev own : List ℕ
  own = part input.index_start input.description.count indices

  own_length : length own ≡ input.description.count
  own_length = part_length indices input.index_start input.description.count room

  pub next_some : k < input.description.count → Some (get_or indices (input.index_start + k) 0) ≡ next_in indices (cursor input k)
  unfolding next_in
  next_some h =
      ap Some (sym (part_at indices input.index_start input.description.count k 0 h))
      ∙ ap head_of (sym (drop-cons own k 0 (rw own_length h)))

  pub next_none : input.description.count ≤ k → None ≡ next_in indices (cursor input k)
  unfolding next_in
  next_none h = ap head_of (sym (drop_of_length-le own {i = k} (rw own_length h)))

  pub begun_none : next_in indices (cursor input k) ≡ None → (i : ℕ) → k ≡ begun_at i k (next_in indices (cursor input k))
  begun_none e i = rw e

  module _ (j : ℕ) (e : next_in indices (cursor input k) ≡ Some j) (i : ℕ) where
    pub begun_on : j ≡ i → k + 1 ≡ begun_at i k (next_in indices (cursor input k))
    begun_on h = rw (e, eq-eqb j i h)

    pub begun_stays : (j ≡ i → ⊥) → k ≡ begun_at i k (next_in indices (cursor input k))
    begun_stays h = rw (e, ne_eqb j i h)

    -- an entry that comes next is one of the input's
    pub next_within : k < input.description.count
    unfolding next_in
    next_within = rw (← own_length) (headed k own e)
      where
        headed : (k : ℕ) (l : List ℕ) → head_of (drop k l) ≡ Some j → k < length l
        headed zero [] e = let z : ◌≡◌ {A = ℕ} 0 1 = cc in absurd (omega arith)
        headed (suc k) [] e = let z : ◌≡◌ {A = ℕ} 0 1 = cc in absurd (omega arith)
        headed zero (x ∷ l) e = omega arith
        headed (suc k) (x ∷ l) e = omega (arith, headed k l e)

-- ---- the next step

min_over : (a x : ℕ) (l : List ℕ) → fold min (min a x) l ≡ min a (fold min x l)
min_over a x [] = refl
min_over a x (y ∷ l) = let e : min (min a x) y ≡ min a (min x y) = omega arith in ap (λ (m : ℕ). fold min m l) e ∙ min_over a (min x y) l

smaller_least : (a : ℕ) (l : List ℕ) → Some (fold min a l) ≡ smaller (Some a) (reduce min l)
smaller_least a [] = refl
smaller_least a (x ∷ l) = ap Some (min_over a x l)

next_least : (n : Option ℕ) (l : List ℕ) → reduce min (cons_option n l) ≡ smaller n (reduce min l)
next_least None l = refl
next_least (Some i) l = smaller_least i l

pub soonest_is : (indices : List ℕ) (cs : List Cursor) → reduce min (filter_map (next_in indices) cs) ≡ soonest indices cs
unfolding soonest
soonest_is indices [] = refl
soonest_is indices (c ∷ cs) = next_least (next_in indices c) (filter_map (next_in indices) cs) ∙ ap (smaller (next_in indices c)) (soonest_is indices cs)
