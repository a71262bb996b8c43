-- Laws of what quartering finds, whatever the list.
-- Assumes nothing.
use mathlib.Core.Path.{◌≡◌, refl, sym, ap, ◌∙◌}
use mathlib.Core.Bool.{Bool, true, false, cond}
use mathlib.Core.List.{List, [], ◌∷◌}
use Prim.Native.Nat.{ℕ, zero, suc, ◌+◌, ◌-◌, ◌*◌, ◌/◌, ◌≤◌, ◌<◌, min}
use native.Mathlib.Nat.{not-suc-le-zero, mul-le-mul_right, add-zero}
use native.Mathlib.Omega.{arith}
use borrow.Author.Tests.{leb-false, le-leb, lt-leb, le-ltb, lt-ltb, eq-eqb, ne_eqb}
use lib.Dec.{eqb, leb}
use lib.ListN.{length, get_or, take, drop, length-drop}
use lib.Seq.{take_all}
use Rattle.value.specs.Slice.{part}
use Rattle.value.proofs.Slices.{part_length, part_at}
use Rattle.value.proofs.Tests.{by_le}
use Rattle.fst.specs.Refusal.{refused, given, tried}
use Rattle.fst.specs.Record.{maximum}
use Rattle.std.specs.Prelude.{Option, Some, None, count_by}
use Rattle.std.proofs.lemmas.List.Recursion.{is_sum_by}
use Rattle.offset.specs.Offset.{head_of}
use Rattle.search.specs.Quartering.{not_above, ends, quartered, rank, reach_of, start_of, run_up_to, search}

-- ---- a count

pub not_above_within : (s : ℕ) (l : List ℕ) → not_above s l ≤ length l
unfolding not_above
not_above_within s [] = omega arith
not_above_within s (i ∷ l) = go (leb i s) (not_above_within s l)
  where
    go : (b : Bool) → not_above s l ≤ length l → cond b (suc (not_above s l)) (not_above s l) ≤ suc (length l)
    go true h = omega arith
    go false h = omega arith

-- one more
not_above_cons : (s i : ℕ) (l : List ℕ) → not_above s (i ∷ l) ≡ cond (leb i s) 1 0 + not_above s l
unfolding not_above
not_above_cons s i l = go (leb i s)
  where
    go : (b : Bool) → cond b (suc (not_above s l)) (not_above s l) ≡ cond b 1 0 + not_above s l
    go true = omega arith
    go false = omega arith

pub not_above_count : (s : ℕ) (l : List ℕ) → count_by (λ i. leb i s) l ≡ not_above s l
unfolding not_above
not_above_count s l = sym (is_sum_by (not_above s) (λ i. cond (leb i s) 1 0) refl (not_above_cons s) l)

-- one index that is above
not_above_alone : (s : ℕ) (l : List ℕ) → length l ≡ 1 → s < get_or l 0 0 → not_above s l ≡ 0
unfolding not_above
not_above_alone s [] h above = refl
not_above_alone s (i ∷ []) h above = rw (lt-leb i s above)
not_above_alone s (i ∷ j ∷ l) h above = absurd (omega arith)

-- as many quarters as have an end that is not above
pub passed_by : (s a b c : ℕ) → not_above s (a ∷ b ∷ c ∷ []) ≡ cond (leb a s) 1 0 + cond (leb b s) 1 0 + cond (leb c s) 1 0
unfolding not_above
passed_by s a b c =
    let none_left : not_above s [] ≡ 0 = refl in
    omega (arith, not_above_cons s a (b ∷ c ∷ []), not_above_cons s b (c ∷ []), not_above_cons s c [], none_left)

pub three_at_most : (s : ℕ) (l : List ℕ) → not_above s (ends l) * (length l / 4) ≤ 3 * (length l / 4)
three_at_most s l = mul-le-mul_right (length l / 4) (not_above_within s (ends l))

-- ---- quartering

abbrev pub passed : ℕ → List ℕ → ℕ
passed s l = not_above s (ends l) * (length l / 4)

abbrev pub left : ℕ → List ℕ → List ℕ
left s l = part (passed s l) (length l - 3 * (length l / 4)) l

left_length : (s : ℕ) (l : List ℕ) → length (left s l) ≡ length l - 3 * (length l / 4)
left_length s l = part_length l (passed s l) (length l - 3 * (length l / 4)) (omega (arith, three_at_most s l))

-- by as many quarterings as there are indices, or more
pub enough : (n m s : ℕ) (l : List ℕ) → length l ≤ n → length l ≤ m → quartered n s l ≡ quartered m s l
unfolding quartered
enough zero zero s l h k = refl
enough zero (suc m) s l h k = rw (le-leb (length l) 16 (omega arith))
enough (suc n) zero s l h k = rw (le-leb (length l) 16 (omega arith))
enough (suc n) (suc m) s l h k =
    go (leb (length l) 16) refl
    (λ long. enough n m s (left s l) (omega (arith, left_length s l)) (omega (arith, left_length s l)))
  where
    go : (b : Bool) → leb (length l) 16 ≡ b → (16 < length l → quartered n s (left s l) ≡ quartered m s (left s l))
        → cond b (not_above s l) (passed s l + quartered n s (left s l)) ≡ cond b (not_above s l) (passed s l + quartered m s (left s l))
    go true e f = refl
    go false e f = ap (λ (r : ℕ). passed s l + r) (f (leb-false (length l) 16 e))

pub rank_short : (s : ℕ) (l : List ℕ) → length l ≤ 16 → rank s l ≡ not_above s l
unfolding rank quartered
rank_short s l h = go (length l)
  where
    go : (n : ℕ) → quartered n s l ≡ not_above s l
    go zero = refl
    go (suc n) = rw (le-leb (length l) 16 h)

rank_long : (s : ℕ) (l : List ℕ) → 16 < length l → rank s l ≡ passed s l + rank s (left s l)
unfolding rank quartered
rank_long s l h = go (length l) (omega arith)
  where
    go : (n : ℕ) → length l ≤ n → quartered n s l ≡ passed s l + quartered (length (left s l)) s (left s l)
    go zero k = absurd (omega arith)
    go (suc n) k =
        let same = enough n (length (left s l)) s (left s l) (omega (arith, left_length s l)) (omega arith) in
        rw (lt-leb (length l) 16 h, same)

-- a turn of the loop
pub rank_turn : (s : ℕ) (l : List ℕ) → 16 < length l → (r : ℕ) → r ≡ not_above s (ends l)
    → let start = r * (length l / 4) in
    let size = length l - 3 * (length l / 4) in
    (start + size ≤ length l) × (rank s l ≡ start + rank s (part start size l))
rank_turn s l h r e = rw e (omega (arith, three_at_most s l), rank_long s l h)

quartered_within : (n s : ℕ) (l : List ℕ) → quartered n s l ≤ length l
unfolding quartered
quartered_within zero s l = not_above_within s l
quartered_within (suc n) s l = go (leb (length l) 16) (quartered_within n s (left s l))
  where
    go : (b : Bool) → quartered n s (left s l) ≤ length (left s l) → cond b (not_above s l) (passed s l + quartered n s (left s l)) ≤ length l
    go true h = not_above_within s l
    go false h = omega (arith, left_length s l, three_at_most s l)

pub rank_within : (s : ℕ) (l : List ℕ) → rank s l ≤ length l
unfolding rank
rank_within s l = quartered_within (length l) s l

-- ---- in how many indices a run is looked for

reach_stops : (k n i : ℕ) (l : List ℕ) (end : ℕ) → end ≤ n → reach_of k n i l end ≡ n
unfolding reach_of
reach_stops zero n i l end h = refl
reach_stops (suc k) n i l end h = rw (le-ltb n end h)

module _ (k n i : ℕ) (l : List ℕ) (end : ℕ) (h : n < end) where
  in_front : end - (n + 1) ≡ end - n - 1
  in_front = omega arith

  reach_same : get_or l (end - n - 1) 0 ≡ i → reach_of (suc k) n i l end ≡ reach_of k (n * 8) i l end
  unfolding reach_of
  reach_same e = rw (in_front, lt-ltb n end h, eq-eqb (get_or l (end - n - 1) 0) i e)

  reach_here : (get_or l (end - n - 1) 0 ≡ i → ⊥) → reach_of (suc k) n i l end ≡ n
  unfolding reach_of
  reach_here e = rw (in_front, lt-ltb n end h, ne_eqb (get_or l (end - n - 1) 0) i e)

-- what is left to look for when n are not enough
pub record Sought (n i : ℕ) (l : List ℕ) (end : ℕ) : Type 0 where
  pub some : 1 ≤ n
  pub left : ℕ
  pub enough : end ≤ n + left
  pub same : reach_of left n i l end ≡ reach_of end 1 i l end

pub sought_first : (i : ℕ) (l : List ℕ) (end : ℕ) → Sought 1 i l end
sought_first i l end = record { some = omega arith; left = end; enough = omega arith; same = refl }

module _ {n i : ℕ} {l : List ℕ} {end : ℕ} (b : Sought n i l end) where
  pub sought_all : end ≤ n → n ≡ reach_of end 1 i l end
  sought_all h = sym (reach_stops b.left n i l end h) ∙ b.same

  one_left : n < end → suc (b.left - 1) ≡ b.left
  one_left h = omega (arith, b.enough)

  pub sought_more : n < end → get_or l (end - n - 1) 0 ≡ i → Sought (n * 8) i l end
  sought_more h e =
      record {
        some = omega (arith, b.some);
        left = b.left - 1;
        enough = omega (arith, b.some, b.enough);
        same = sym (reach_same (b.left - 1) n i l end h e) ∙ ap (λ (k : ℕ). reach_of k n i l end) (one_left h) ∙ b.same;
      }

  pub sought_here : n < end → (get_or l (end - n - 1) 0 ≡ i → ⊥) → n ≡ reach_of end 1 i l end
  sought_here h e = sym (reach_here (b.left - 1) n i l end h e) ∙ ap (λ (k : ℕ). reach_of k n i l end) (one_left h) ∙ b.same

-- ---- the definitions by cases

pub start_zero : (i : ℕ) (l : List ℕ) (end : ℕ) → i ≡ 0 → 0 ≡ start_of i l end
unfolding start_of
start_zero zero l end e = refl
start_zero (suc i) l end e = absurd (omega arith)

pub start_some : (i : ℕ) (l : List ℕ) (end : ℕ) → 0 < i
    → let n = reach_of end 1 i l end in
    start_of i l end ≡ end - n + rank (i - 1) (part (end - n) n l)
unfolding start_of
start_some zero l end h = absurd (not-suc-le-zero h)
start_some (suc i) l end h =
    let less : suc i - 1 ≡ i = omega arith in
    rw less

-- as many as there are, if there are fewer
pub window : (p n : ℕ) (l : List ℕ) → take (min (length l) (p + n) - p) (drop p l) ≡ part p n l
unfolding part
window p n l =
    by_le (p + n) (length l)
    (λ h.
    let all : min (length l) (p + n) - p ≡ n = omega arith in
    ap (λ (m : ℕ). take m (drop p l)) all)
    (λ h.
    take_all (min (length l) (p + n) - p) (drop p l) (omega (arith, length-drop p l)) ∙ sym (take_all n (drop p l) (omega (arith, length-drop p l))))

-- where it is the last index alone
pub start_alone : (i : ℕ) (l : List ℕ) (end : ℕ) → 0 < i → 1 ≤ end → end ≤ length l → 1 ≡ reach_of end 1 i l end → get_or l (end - 1) 0 ≡ i
    → end - 1 ≡ start_of i l end
start_alone i l end some one h e own =
    let is : start_of i l end ≡ end - 1 + rank (i - 1) (part (end - 1) 1 l) =
    start_some i l end some ∙ ap (λ (n : ℕ). end - n + rank (i - 1) (part (end - n) n l)) (sym e) in
    let long : length (part (end - 1) 1 l) ≡ 1 = part_length l (end - 1) 1 (omega arith) in
    let first : get_or (part (end - 1) 1 l) 0 0 ≡ i = part_at l (end - 1) 1 0 0 (omega arith) ∙ ap (λ (k : ℕ). get_or l k 0) (add-zero (end - 1)) ∙ own in
    let none = not_above_alone (i - 1) (part (end - 1) 1 l) long (omega (arith, first)) in
    omega (arith, is, none, rank_short (i - 1) (part (end - 1) 1 l) (omega (arith, long)))

pub search_long : (l : List ℕ) (s : ℕ) → maximum < length l → search l s ≡ refused 2
unfolding search tried
search_long l s h = rw (lt-ltb maximum (length l) h)

pub search_given : (l : List ℕ) (s : ℕ) → length l ≤ maximum → search l s ≡ given (run_up_to s l (rank s l))
unfolding search tried
search_given l s h = rw (le-ltb maximum (length l) h)

pub run_none : (s : ℕ) (l : List ℕ) (end : ℕ) → end ≡ 0 → run_up_to s l end ≡ None
unfolding run_up_to
run_none s l zero e = refl
run_none s l (suc end) e = absurd (omega arith)

pub run_at : (s : ℕ) (l : List ℕ) (end : ℕ) {index start n : ℕ} {next : Option ℕ} → 0 < end
    → index ≡ get_or l (end - 1) 0 → start ≡ start_of index l end → n ≡ end - start → next ≡ head_of (drop end l)
    → Some (record { start = start; elements = n; time_match = eqb index s; next_index = next }) ≡ run_up_to s l end
unfolding run_up_to
run_at s l zero h e f g k = absurd (not-suc-le-zero h)
run_at s l (suc last) h e f g k =
    let less : suc last - 1 ≡ last = omega arith in
    rw (← (e ∙ ap (λ (j : ℕ). get_or l j 0) less), ← f, ← g, ← k)
