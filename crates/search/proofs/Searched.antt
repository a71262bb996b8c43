-- Where no index falls, what quartering finds is Look up's answer.
-- Assumes nothing.
use mathlib.Core.Path.{◌≡◌, refl, sym, ap, ◌∙◌}
use mathlib.Core.Bool.{Bool, true, false, cond, ◌&&◌}
use mathlib.Core.List.{List, [], ◌∷◌}
use Prim.Native.Nat.{ℕ, zero, suc, ◌+◌, ◌-◌, ◌*◌, ◌/◌, ◌≤◌, ◌<◌, min}
use native.Mathlib.Nat.{not-suc-le-zero, le_of_suc-le-suc, suc-mul, mul-le-mul_right}
use native.Mathlib.Omega.{arith}
use borrow.Author.Tests.{leb-true, leb-false, ltb-false, eqb-false}
use lib.Dec.{eqb, leb, ltb}
use lib.ListN.{length, get_or, drop, length-take, length-drop}
use Rattle.value.specs.Level.{place_in}
use Rattle.value.specs.Slice.{part}
use Rattle.value.proofs.Slices.{part_length, part_at}
use Rattle.value.proofs.Tests.{by_le}
use Rattle.std.specs.Prelude.{Some}
use Rattle.fst.specs.Refusal.{given}
use Rattle.fst.specs.Record.{maximum}
use Rattle.offset.specs.Offset.{falls, run_of, head_of, place, look_up}
use Rattle.offset.specs.Search.{Last}
use Rattle.offset.proofs.Search.{rising, place_is, last_greatest, Carrying, run_is}
use Rattle.offset.proofs.Offsets.{look_up_long, look_up_rising, place_empty, place_above, place_reached, place_found}
use Rattle.search.specs.Quartering.{not_above, ends, quartered, rank, reach_of, start_of, run_up_to, search}
use Rattle.search.proofs.Quartering.{passed, left, start_some, start_zero, search_long, search_given, run_none, run_at}

-- ---- a list in order, and where an index parts it

abbrev Ordered : List ℕ → Type 0
Ordered l = (i j : ℕ) → i ≤ j → j < length l → get_or l i 0 ≤ get_or l j 0

-- the first r indices are not above s, and the others are
record Parted (s : ℕ) (l : List ℕ) (r : ℕ) : Type 0 where
  within : r ≤ length l
  low : (k : ℕ) → k < r → get_or l k 0 ≤ s
  high : (k : ℕ) → r ≤ k → k < length l → s < get_or l k 0

count_parts : (s : ℕ) (l : List ℕ) → Ordered l → Parted s l (not_above s l)
unfolding not_above
count_parts s [] o = record { within = omega arith; low = λ k h. absurd (not-suc-le-zero h); high = λ k h i. absurd (not-suc-le-zero i) }
count_parts s (x ∷ l) o = go (leb x s) refl (count_parts s l (λ i j h k. o (suc i) (suc j) (omega arith) (omega arith)))
  where
    go : (b : Bool) → leb x s ≡ b → Parted s l (not_above s l) → Parted s (x ∷ l) (cond b (suc (not_above s l)) (not_above s l))
    go true e p = record { within = omega (arith, p.within); low = low; high = high }
      where
        low : (k : ℕ) → k < suc (not_above s l) → get_or (x ∷ l) k 0 ≤ s
        low zero h = leb-true x s e
        low (suc k) h = p.low k (le_of_suc-le-suc h)

        high : (k : ℕ) → suc (not_above s l) ≤ k → k < suc (length l) → s < get_or (x ∷ l) k 0
        high zero h i = absurd (not-suc-le-zero h)
        high (suc k) h i = p.high k (le_of_suc-le-suc h) (le_of_suc-le-suc i)
    go false e p =
        let above : (k : ℕ) → k < suc (length l) → s < get_or (x ∷ l) k 0 = λ k h. omega (arith, leb-false x s e, o 0 k (omega arith) h) in
        record {
          within = omega (arith, p.within);
          low = λ k h. absurd (omega (arith, p.low 0 (omega arith), above 1 (omega (arith, p.within))));
          high = λ k h i. above k i;
        }

-- a part of a list is in order too, and as long as there are indices for
part_long : (l : List ℕ) (p n : ℕ) → length (part p n l) ≡ min n (length l - p)
unfolding part
part_long l p n = length-take n (drop p l) ∙ ap (min n) (length-drop p l)

at_part : (l : List ℕ) (p n k : ℕ) → p ≤ k → k - p < n → get_or (part p n l) (k - p) 0 ≡ get_or l k 0
at_part l p n k h i =
    let same : p + (k - p) ≡ k = omega arith in
    part_at l p n (k - p) 0 i ∙ ap (λ (m : ℕ). get_or l m 0) same

ordered_part : (l : List ℕ) → Ordered l → (p n : ℕ) → Ordered (part p n l)
ordered_part l o p n i j h k =
    let long = part_long l p n in
    rw (part_at l p n i 0 (omega arith), part_at l p n j 0 (omega arith)) (o (p + i) (p + j) (omega arith) (omega arith))

-- a part that the index parts, in front of which no index is above, and behind which all are
module _ (s : ℕ) (l : List ℕ) (o : Ordered l) (p m : ℕ) (within : p + m ≤ length l) where
  parts_part : (r : ℕ) → (0 < p → get_or l (p - 1) 0 ≤ s) → (p + m < length l → s < get_or l (p + m) 0) → Parted s (part p m l) r → Parted s l (p + r)
  parts_part r below above q =
      record {
        within = omega (arith, q.within, long);
        low = λ k h. by_le p k (λ i. omega (arith, q.low (k - p) (omega arith), at_part l p m k i (omega (arith, q.within, long)))) (λ i. omega (arith, below (omega arith), o k (p - 1) (omega arith) (omega arith)));
        high = λ k h i. by_le (p + m) k (λ j. omega (arith, above (omega arith), o (p + m) k j i)) (λ j. omega (arith, q.high (k - p) (omega arith) (omega (arith, long)), at_part l p m k (omega arith) (omega arith)));
      }
    where
      long : length (part p m l) ≡ m
      long = part_length l p m within

-- as many quarters as have an end that is not above
module _ (s : ℕ) (l : List ℕ) (o : Ordered l) (long : 16 < length l) where
  abbrev q : ℕ
  q = length l / 4

  end_is : (j : ℕ) → j < 3 → get_or (ends l) j 0 ≡ get_or l (suc j * q - 1) 0
  end_is zero h = let one : q ≡ 1 * q = omega arith in ap (λ (k : ℕ). get_or l (k - 1) 0) one
  end_is (suc zero) h = refl
  end_is (suc (suc zero)) h = refl
  end_is (suc (suc (suc j))) h = absurd (omega arith)

  ordered_ends : Ordered (ends l)
  ordered_ends i j h k =
      let more : suc i ≤ suc j = omega arith in
      let up : suc i * q ≤ suc j * q = mul-le-mul_right q more in
      let few : suc j * q ≤ 3 * q = mul-le-mul_right q k in
      rw (end_is i (omega arith), end_is j k) (o (suc i * q - 1) (suc j * q - 1) (omega (arith, up)) (omega (arith, few)))

  quarter_parts : (k r : ℕ) → Parted s (ends l) k → Parted s (part (k * q) (length l - 3 * q) l) r → Parted s l (k * q + r)
  quarter_parts k r e t =
      parts_part s l o (k * q) (length l - 3 * q) (omega (arith, few)) r
      (λ h.
      by_le k 0
      (λ none.
      let no : k * q ≤ 0 * q = mul-le-mul_right q none in
      absurd (omega (arith, no)))
      (λ some.
      let same : suc (k - 1) ≡ k = omega arith in
      let last : get_or (ends l) (k - 1) 0 ≡ get_or l (k * q - 1) 0 =
      end_is (k - 1) (omega (arith, e.within)) ∙ ap (λ (n : ℕ). get_or l (n * q - 1) 0) same in
      omega (arith, last, e.low (k - 1) (omega arith))))
      (λ h.
      by_le 3 k
      (λ all.
      let most : 3 * q ≤ k * q = mul-le-mul_right q all in
      absurd (omega (arith, most)))
      (λ less.
      let next : suc k * q ≡ k * q + q = suc-mul k q in
      omega (arith, end_is k less, e.high k (omega arith) less, o (suc k * q - 1) (k * q + (length l - 3 * q)) (omega (arith, next)) h)))
      t
    where
      few : k * q ≤ 3 * q
      few = mul-le-mul_right q e.within

quartered_parts : (n s : ℕ) (l : List ℕ) → Ordered l → Parted s l (quartered n s l)
unfolding quartered
quartered_parts zero s l o = count_parts s l o
quartered_parts (suc n) s l o =
    go (leb (length l) 16) refl (quartered_parts n s (left s l) (ordered_part l o (passed s l) (length l - 3 * (length l / 4))))
  where
    go : (b : Bool) → leb (length l) 16 ≡ b → Parted s (left s l) (quartered n s (left s l))
        → Parted s l (cond b (not_above s l) (passed s l + quartered n s (left s l)))
    go true e t = count_parts s l o
    go false e t =
        let far = leb-false (length l) 16 e in
        quarter_parts s l o far (not_above s (ends l)) _ (count_parts s (ends l) (ordered_ends s l o far)) t

rank_parts : (s : ℕ) (l : List ℕ) → Ordered l → Parted s l (rank s l)
unfolding rank
rank_parts s l o = quartered_parts (length l) s l o

-- ---- where a run begins

-- the run of an index that ends at a place begins behind smaller indices
record Begins (i : ℕ) (l : List ℕ) (end start : ℕ) : Type 0 where
  before : (k : ℕ) → k < start → get_or l k 0 < i
  from : (k : ℕ) → start ≤ k → k < end → i ≤ get_or l k 0

module _ (i : ℕ) (l : List ℕ) (o : Ordered l) (end : ℕ) (some : 1 ≤ end) (within : end ≤ length l) (last : get_or l (end - 1) 0 ≡ i) where
  top : (k : ℕ) → k < end → get_or l k 0 ≤ i
  top k h = omega (arith, last, o k (end - 1) (omega arith) (omega arith))

  -- what stands in front of where it is looked for
  reach_below : (turns n k : ℕ) → 1 ≤ n → end ≤ n + turns → k < end - reach_of turns n i l end → get_or l k 0 < i
  unfolding reach_of
  reach_below zero n k one enough h = absurd (omega arith)
  reach_below (suc turns) n k one enough h =
      go (ltb n end) refl (eqb (get_or l (end - (n + 1)) 0) i) refl h (reach_below turns (n * 8) k (omega arith) (omega arith))
    where
      go : (b : Bool) → ltb n end ≡ b → (c : Bool) → eqb (get_or l (end - (n + 1)) 0) i ≡ c → k < end - cond (b && c) (reach_of turns (n * 8) i l end) n
          → (k < end - reach_of turns (n * 8) i l end → get_or l k 0 < i) → get_or l k 0 < i
      go true e true d h f = f h
      go true e false d h f =
          let at = end - (n + 1) in
          by_le i (get_or l at 0)
          (λ j. absurd (eqb-false _ i d (omega (arith, top at (omega arith)))))
          (λ j. omega (arith, o k at (omega arith) (omega arith)))
      go false e c d h f = absurd (omega (arith, ltb-false n end e))

  start_begins : Begins i l end (start_of i l end)
  start_begins = by_le i 0 zero_begins some_begins
    where
      zero_begins : i ≤ 0 → Begins i l end (start_of i l end)
      zero_begins h =
          let none_less : 0 ≡ start_of i l end = start_zero i l end (omega arith) in
          record { before = λ k j. absurd (omega arith); from = λ k j q. omega arith }

      some_begins : 0 < i → Begins i l end (start_of i l end)
      some_begins h =
          let n = reach_of end 1 i l end in
          let p = end - n in
          let q = rank_parts (i - 1) (part p n l) (ordered_part l o p n) in
          let is = start_some i l end h in
          let long = part_long l p n in
          record {
            before = λ k j. by_le p k (λ m. omega (arith, q.low (k - p) (omega arith), at_part l p n k m (omega (arith, q.within, long)))) (λ m. reach_below end 1 k (omega arith) (omega arith) m);
            from = λ k j m. omega (arith, q.high (k - p) (omega arith) (omega (arith, long)), at_part l p n k (omega arith) (omega arith));
          }

-- ---- Look up's answer

module _ (l : List ℕ) (s : ℕ) (f : falls l ≡ false) where
  ordered : Ordered l
  ordered = rising l f

  parted : Parted s l (rank s l)
  parted = rank_parts s l ordered

  nothing : rank s l ≤ 0 → run_up_to s l (rank s l) ≡ place s l
  nothing h =
      run_none s l (rank s l) (omega arith)
      ∙ sym (by_le (length l) 0 (λ k. place_empty s l (omega arith)) (λ k. place_above s l k (parted.high 0 h k)))

  module _ (some : 0 < rank s l) where
    abbrev end : ℕ
    end = rank s l

    abbrev i : ℕ
    i = get_or l (end - 1) 0

    last : Last s l (end - 1)
    last =
        record {
          within = omega (arith, parted.within);
          reached = parted.low (end - 1) (omega arith);
          above = λ k h. parted.high k (omega arith);
        }

    abbrev start : ℕ
    start = start_of i l end

    begins : Begins i l end start
    begins = start_begins i l ordered end some parted.within refl

    early : start < end
    early = by_le end start (λ h. absurd (omega (arith, begins.before (end - 1) (omega arith)))) (λ h. h)

    first : start ≡ place_in l i
    first =
        sym
        (place_is l i start (omega (arith, early, last.within))
        (omega (arith, begins.from start (omega arith) early, ordered start (end - 1) (omega (arith, early)) last.within))
        (λ k h e. omega (arith, begins.before k h)))

    run : Carrying l i (place_in l i) (run_of i (drop (place_in l i) l))
    run = run_is l f i (end - 1) last.within refl

    -- it ends where every index is above the sought one
    run_ends : place_in l i + run_of i (drop (place_in l i) l) ≡ end
    run_ends =
        let n = run_of i (drop (place_in l i) l) in
        by_le (place_in l i + n) end
        (λ h. omega (arith, (run.alone (end - 1) last.within refl).1))
        (λ h.
        let carried = run.carried end (omega (arith, first, early)) h in
        absurd (omega (arith, carried, parted.high end (omega arith) (omega (arith, run.within)), last.reached)))

    elements : end - start ≡ run_of i (drop start l)
    elements = rw first (omega (arith, run_ends))

    next : head_of (drop end l) ≡ head_of (drop (start + (end - start)) l)
    next =
        let same : end ≡ start + (end - start) = omega (arith, early) in
        ap (λ (k : ℕ). head_of (drop k l)) same

    found : run_up_to s l (rank s l) ≡ place s l
    found =
        sym (run_at s l end some refl refl refl refl)
        ∙ ap Some (place_found s l (last_greatest f last) first elements next)
        ∙ sym (place_reached s l (omega (arith, parted.within)) (parted.low 0 some))

  answer : run_up_to s l (rank s l) ≡ place s l
  answer = by_le (rank s l) 0 nothing found

  -- Search is Look up where no index falls
  pub search_is_look_up : search l s ≡ look_up l s
  search_is_look_up =
      by_le (length l) maximum
      (λ h. search_given l s h ∙ ap given answer ∙ sym (look_up_rising l s h f))
      (λ h. search_long l s h ∙ sym (look_up_long l s h))
