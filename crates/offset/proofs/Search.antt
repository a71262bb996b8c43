-- Laws of a list that doesn't fall, of the searches in it and of a run of one index.
-- Assumes nothing.
use mathlib.Core.Path.{◌≡◌, refl, sym, ap, ◌∙◌}
use mathlib.Core.Bool.{Bool, true, false, cond, ◌||◌, or_assoc, or-false}
use mathlib.Core.List.{List, [], ◌∷◌}
use mathlib.Core.Logic.{◌↔◌}
use Prim.Native.Nat.{ℕ, zero, suc, ◌+◌, ◌-◌, ◌*◌, ◌/◌, ◌≤◌, ◌<◌, max}
use native.Mathlib.Nat.{not-suc-le-zero, le_of_suc-le-suc, le_refl, le_antisymm, le_trans}
use native.Mathlib.Omega.{arith}
use borrow.Author.Tests.{ltb-false, leb-true, leb-false, le-leb, eqb-true, eqb-false, eq-eqb, ne_eqb}
use lib.Dec.{eqb, leb, ltb}
use lib.ListN.{length, get_or, drop, length-drop, drop_of_length-le}
use lib.Seq.{get_or-drop, drop-cons, drop-drop}
use Rattle.value.specs.Level.{place_in}
use Rattle.value.proofs.Tests.{or_left, or_right, by_le}
use Rattle.std.specs.Prelude.{Some, None}
use Rattle.offset.specs.Offset.{falls, greatest, run_of, head_of}
use Rattle.offset.specs.Search.{Last}

-- ---- a list that doesn't fall

-- its indices are in order
pub rising : (l : List ℕ) → falls l ≡ false → (i j : ℕ) → i ≤ j → j < length l → get_or l i 0 ≤ get_or l j 0
unfolding falls
rising [] f i j h k = absurd (not-suc-le-zero k)
rising (x ∷ l) f zero zero h k = le_refl x
rising (x ∷ l) f (suc i) zero h k = absurd (not-suc-le-zero h)
rising (x ∷ []) f i (suc j) h k = absurd (not-suc-le-zero (le_of_suc-le-suc k))
rising (x ∷ y ∷ l) f zero (suc j) h k =
    le_trans (ltb-false y x (or_left (ltb y x) (falls (y ∷ l)) f)) (rising (y ∷ l) (or_right (ltb y x) (falls (y ∷ l)) f) 0 j (omega arith) (le_of_suc-le-suc k))
rising (x ∷ y ∷ l) f (suc i) (suc j) h k =
    rising (y ∷ l) (or_right (ltb y x) (falls (y ∷ l)) f) i j (le_of_suc-le-suc h) (le_of_suc-le-suc k)

-- a scan of the pairs, from a place on
falls_suc : (l : List ℕ) (i : ℕ) → suc i < length l → falls (drop i l) ≡ (ltb (get_or l (suc i) 0) (get_or l i 0) || falls (drop (suc i) l))
unfolding falls
falls_suc [] i h = absurd (not-suc-le-zero h)
falls_suc (x ∷ []) i h = absurd (omega arith)
falls_suc (x ∷ y ∷ l) zero h = refl
falls_suc (x ∷ y ∷ l) (suc i) h = falls_suc (y ∷ l) i (le_of_suc-le-suc h)

pub falls_more : (fell : Bool) (l : List ℕ) (i : ℕ) → 0 < i → i < length l → falls l ≡ (fell || falls (drop (i - 1) l))
    → falls l ≡ (fell || ltb (get_or l i 0) (get_or l (i - 1) 0) || falls (drop (i + 1 - 1) l))
falls_more fell l zero h k e = absurd (omega arith)
falls_more fell l (suc i) h k e =
    let one : suc i - 1 ≡ i = omega arith in
    let next : suc i + 1 - 1 ≡ suc i = omega arith in
    let so_far : falls l ≡ (fell || falls (drop i l)) = rw one at e in
    rw (one, next)
    (so_far
    ∙ ap (λ (b : Bool). fell || b) (falls_suc l i k)
    ∙ sym (or_assoc fell (ltb (get_or l (suc i) 0) (get_or l i 0)) (falls (drop (suc i) l))))

falls_end : (l : List ℕ) (i : ℕ) → length l ≤ i + 1 → falls (drop i l) ≡ false
unfolding falls
falls_end [] zero h = refl
falls_end [] (suc i) h = refl
falls_end (x ∷ []) zero h = refl
falls_end (x ∷ y ∷ l) zero h = absurd (omega arith)
falls_end (x ∷ l) (suc i) h = falls_end l i (omega arith)

pub falls_all : (fell : Bool) (l : List ℕ) (i : ℕ) → 0 < i → length l ≤ i → falls l ≡ (fell || falls (drop (i - 1) l)) → fell ≡ falls l
falls_all fell l i h k e = sym (e ∙ ap (λ (b : Bool). fell || b) (falls_end l (i - 1) (omega arith)) ∙ or-false fell)

-- the last place is one of the `size` from `place` on
pub record Bracket (needle : ℕ) (l : List ℕ) (place size : ℕ) : Type 0 where
  pub some : 0 < size
  pub within : place + size ≤ length l
  pub reached : get_or l place 0 ≤ needle
  pub above : (k : ℕ) → place + size ≤ k → k < length l → needle < get_or l k 0

module _ {needle : ℕ} {l : List ℕ} {place size : ℕ} (b : Bracket needle l place size) where
  pub bracket_half : falls l ≡ false → (half : ℕ) → 0 < half → half + half ≤ size → (r : ℕ) → r ≡ cond (leb (get_or l (place + half) 0) needle) 1 0
      → Bracket needle l (place + half * r) (size - half)
  bracket_half f half some small r e = go (leb (get_or l (place + half) 0) needle) refl e
    where
      inside : place + half < length l
      inside = omega (arith, b.within)

      go : (t : Bool) → leb (get_or l (place + half) 0) needle ≡ t → r ≡ cond t 1 0 → Bracket needle l (place + half * r) (size - half)
      go true q one =
          let same : place + half * r ≡ place + half = rw one (omega arith) in
          rw same
          (record {
            some = omega arith;
            within = omega (arith, b.within);
            reached = leb-true _ needle q;
            above = λ k h. b.above k (omega arith);
          })
      go false q none =
          let same : place + half * r ≡ place = rw none (omega arith) in
          rw same
          (record {
            some = omega arith;
            within = omega (arith, b.within);
            reached = b.reached;
            above = λ k h i. omega (arith, leb-false _ needle q, rising l f (place + half) k (omega arith) i);
          })

-- the bit above the 32 of a difference
pub borrowed : (i x : ℕ) → i < 4294967296 → x < 4294967296 → (x + 4294967296 - i) / 4294967296 ≡ cond (leb i x) 1 0
borrowed i x h j = go (leb i x) refl
  where
    go : (t : Bool) → leb i x ≡ t → (x + 4294967296 - i) / 4294967296 ≡ cond t 1 0
    go true e = omega (arith, leb-true i x e)
    go false e = omega (arith, leb-false i x e)

-- ---- the greatest index not above a sought one

pub greatest_bounds : (s : ℕ) (l : List ℕ) (k : ℕ) → k < length l → get_or l k 0 ≤ s → get_or l k 0 ≤ greatest s l
unfolding greatest
greatest_bounds s [] k h r = absurd (not-suc-le-zero h)
greatest_bounds s (x ∷ l) zero h r = rw (le-leb x s r) (omega arith)
greatest_bounds s (x ∷ l) (suc k) h r = go (leb x s) (greatest_bounds s l k (le_of_suc-le-suc h) r)
  where
    go : (b : Bool) → get_or l k 0 ≤ greatest s l → get_or l k 0 ≤ cond b (max x (greatest s l)) (greatest s l)
    go true i = omega arith
    go false i = i

pub greatest_least : (s : ℕ) (l : List ℕ) (g : ℕ) → ((k : ℕ) → k < length l → get_or l k 0 ≤ s → get_or l k 0 ≤ g) → greatest s l ≤ g
unfolding greatest
greatest_least s [] g f = omega arith
greatest_least s (x ∷ l) g f = go (leb x s) (λ e. f 0 (omega arith) (leb-true x s e)) (greatest_least s l g (λ k h. f (suc k) (omega arith)))
  where
    go : (b : Bool) → (b ≡ true → x ≤ g) → greatest s l ≤ g → cond b (max x (greatest s l)) (greatest s l) ≤ g
    go true e i = omega (arith, e refl)
    go false e i = i

-- an index of the list, not above the sought one, that none such exceeds
pub greatest_is : (s : ℕ) (l : List ℕ) (k : ℕ) → k < length l → get_or l k 0 ≤ s → ((j : ℕ) → j < length l → get_or l j 0 ≤ s → get_or l j 0 ≤ get_or l k 0) → get_or l k 0 ≡ greatest s l
greatest_is s l k h r f = le_antisymm (greatest_bounds s l k h r) (greatest_least s l (get_or l k 0) f)

-- where it stands
pub record Stands (s : ℕ) (l : List ℕ) : Type 0 where
  pub place : ℕ
  pub within : place < length l
  pub is : get_or l place 0 ≡ greatest s l
  pub reached : greatest s l ≤ s

behind : (s x : ℕ) (l : List ℕ) → greatest s (x ∷ l) ≡ greatest s l → Stands s l → Stands s (x ∷ l)
behind s x l e i = record { place = suc i.place; within = omega (arith, i.within); is = i.is ∙ sym e; reached = omega (arith, i.reached) }

positive_stands : (s : ℕ) (l : List ℕ) → 0 < greatest s l → Stands s l
unfolding greatest
positive_stands s [] h = absurd (not-suc-le-zero h)
positive_stands s (x ∷ l) h = go (leb x s) refl (λ k. positive_stands s l k)
  where
    go : (b : Bool) → leb x s ≡ b → (0 < greatest s l → Stands s l) → Stands s (x ∷ l)
    go false e i =
        let same : greatest s (x ∷ l) ≡ greatest s l = rw e in
        behind s x l same (i (omega arith))
    go true e i =
        by_le (greatest s l) x
        (λ o.
        let same : greatest s (x ∷ l) ≡ x = rw e (omega arith) in
        record { place = 0; within = omega arith; is = sym same; reached = omega (arith, leb-true x s e) })
        (λ o.
        let same : greatest s (x ∷ l) ≡ greatest s l = rw e (omega arith) in
        behind s x l same (i (omega arith)))

pub greatest_stands : (s : ℕ) (l : List ℕ) (k : ℕ) → k < length l → get_or l k 0 ≤ s → Stands s l
greatest_stands s l k h r =
    by_le (greatest s l) 0
    (λ o. record { place = k; within = h; is = omega (arith, greatest_bounds s l k h r); reached = omega arith })
    (positive_stands s l)

-- it stands at the last place not above the needle
pub last_greatest : {needle : ℕ} {l : List ℕ} {p : ℕ} → falls l ≡ false → Last needle l p → get_or l p 0 ≡ greatest needle l
last_greatest {needle} {l} {p} f s =
    greatest_is needle l p s.within s.reached
    (λ j h r. by_le j p (λ i. rising l f j p i s.within) (λ i. absurd (omega (arith, s.above j i h))))

-- ---- the first place of an index

pub place_is : (l : List ℕ) (c p : ℕ) → p < length l → get_or l p 0 ≡ c → ((k : ℕ) → k < p → get_or l k 0 ≡ c → ⊥) → place_in l c ≡ p
unfolding place_in
place_is [] c p h e f = absurd (not-suc-le-zero h)
place_is (x ∷ l) c zero h e f = rw (eq-eqb x c e)
place_is (x ∷ l) c (suc p) h e f =
    rw (ne_eqb x c (f 0 (omega arith))) (ap suc (place_is l c p (le_of_suc-le-suc h) e (λ k i. f (suc k) (omega arith))))

-- in a list that doesn't fall it is where another index stands in front
pub start_is : (l : List ℕ) (p : ℕ) → falls l ≡ false → p < length l → (0 < p → get_or l (p - 1) 0 ≡ get_or l p 0 → ⊥) → p ≡ place_in l (get_or l p 0)
start_is l p f h other =
    sym
    (place_is l (get_or l p 0) p h refl
    (λ k i e. other (omega arith) (omega (arith, rising l f k (p - 1) (omega arith) (omega arith), rising l f (p - 1) p (omega arith) h))))

-- the first of all places that have it
pub place_first : (l : List ℕ) (c k : ℕ) → k < length l → get_or l k 0 ≡ c → (place_in l c ≤ k) × (get_or l (place_in l c) 0 ≡ c)
unfolding place_in
place_first [] c k h e = absurd (not-suc-le-zero h)
place_first (x ∷ l) c zero h e = rw (eq-eqb x c e) (omega arith, e)
place_first (x ∷ l) c (suc k) h e = go (eqb x c) refl (place_first l c k (le_of_suc-le-suc h) e)
  where
    go : (b : Bool) → eqb x c ≡ b → (place_in l c ≤ k) × (get_or l (place_in l c) 0 ≡ c) → (cond b 0 (suc (place_in l c)) ≤ suc k) × (get_or (x ∷ l) (cond b 0 (suc (place_in l c))) 0 ≡ c)
    go true q i = (omega arith, eqb-true x c q)
    go false q i = (omega arith, i.1)

-- it is the list's first place, or behind the last place of a smaller index
pub start_first : (l : List ℕ) (i : ℕ) → 0 < length l → get_or l 0 0 ≡ i → 0 ≡ place_in l i
start_first l i h e = sym (place_is l i 0 h e (λ k j. absurd (not-suc-le-zero j)))

pub start_behind : {l : List ℕ} {i q : ℕ} → falls l ≡ false → Last (i - 1) l q → 0 < i → (k : ℕ) → k < length l → get_or l k 0 ≡ i → q + 1 ≡ place_in l i
start_behind {l} {i} {q} f s some k h e =
    by_le k q (λ j. absurd (omega (arith, rising l f k q j s.within, s.reached)))
    (λ j.
    let low = s.above (q + 1) (omega arith) (omega arith) in
    let high = rising l f (q + 1) k (omega arith) h in
    sym (place_is l i (q + 1) (omega arith) (omega arith) (λ m n d. omega (arith, rising l f m q (omega arith) s.within, s.reached))))

-- ---- the index at a place

pub head_at : (l : List ℕ) (k : ℕ) → k < length l → head_of (drop k l) ≡ Some (get_or l k 0)
head_at l k h = rw (drop-cons l k 0)

pub head_past : (l : List ℕ) (k : ℕ) → length l ≤ k → head_of (drop k l) ≡ None
head_past l k h = ap head_of (drop_of_length-le l h)

pub head_is : (l : List ℕ) (k j : ℕ) → head_of (drop k l) ≡ Some j → (k < length l) × (get_or l k 0 ≡ j)
head_is [] zero j e = cc
head_is [] (suc k) j e = cc
head_is (x ∷ l) zero j e = (omega arith, (cc))
head_is (x ∷ l) (suc k) j e = let i = head_is l k j e in (omega arith, i.1)

pub head_none : (l : List ℕ) (k : ℕ) → head_of (drop k l) ≡ None → length l ≤ k
head_none [] k e = omega arith
head_none (x ∷ l) zero e = cc
head_none (x ∷ l) (suc k) e = omega (arith, head_none l k e)

-- ---- a run of one index

pub run_none : (i : ℕ) (l : List ℕ) → (head_of l ≡ Some i → ⊥) → run_of i l ≡ 0
unfolding run_of
run_none i [] other = refl
run_none i (x ∷ l) other = rw (ne_eqb i x (λ e. other (ap Some (sym e))))

pub run_goes : (i : ℕ) (l : List ℕ) → head_of l ≡ Some i → run_of i l ≡ suc (run_of i (drop 1 l))
unfolding run_of
run_goes i [] e = cc
run_goes i (x ∷ l) e = let same : i ≡ x = cc in rw (eq-eqb i x same)

pub run_more : (i start n : ℕ) (l : List ℕ) → run_of i (drop start l) ≡ n + run_of i (drop (start + n) l) → head_of (drop (start + n) l) ≡ Some i
    → run_of i (drop start l) ≡ (n + 1) + run_of i (drop (start + (n + 1)) l)
run_more i start n l e h =
    let one : drop 1 (drop (start + n) l) ≡ drop (start + n + 1) l = drop-drop 1 (start + n) l in
    let more : start + n + 1 ≡ start + (n + 1) = omega arith in
    let goes : run_of i (drop (start + n) l) ≡ suc (run_of i (drop 1 (drop (start + n) l))) = run_goes i (drop (start + n) l) h in
    let rest : run_of i (drop 1 (drop (start + n) l)) ≡ run_of i (drop (start + (n + 1)) l) = rw (one, more) in
    omega arith

pub run_within : (i : ℕ) (l : List ℕ) → run_of i l ≤ length l
unfolding run_of
run_within i [] = omega arith
run_within i (x ∷ l) = go (eqb i x) (run_within i l)
  where
    go : (b : Bool) → run_of i l ≤ length l → cond b (suc (run_of i l)) 0 ≤ suc (length l)
    go true h = omega arith
    go false h = omega arith

pub run_carries : (i : ℕ) (l : List ℕ) (k : ℕ) → k < run_of i l → get_or l k 0 ≡ i
unfolding run_of
run_carries i [] k h = absurd (not-suc-le-zero h)
run_carries i (x ∷ l) k h = go (eqb i x) refl k h (λ k. run_carries i l k)
  where
    go : (b : Bool) → eqb i x ≡ b → (k : ℕ) → k < cond b (suc (run_of i l)) 0 → ((k : ℕ) → k < run_of i l → get_or l k 0 ≡ i) → get_or (x ∷ l) k 0 ≡ i
    go true q zero h f = sym (eqb-true i x q)
    go true q (suc k) h f = f k (le_of_suc-le-suc h)
    go false q k h f = absurd (not-suc-le-zero h)

pub run_stops : (i : ℕ) (l : List ℕ) → head_of (drop (run_of i l) l) ≡ Some i → ⊥
unfolding run_of
run_stops i [] e = cc
run_stops i (x ∷ l) e = go (eqb i x) refl e (run_stops i l)
  where
    go : (b : Bool) → eqb i x ≡ b → head_of (drop (cond b (suc (run_of i l)) 0) (x ∷ l)) ≡ Some i → (head_of (drop (run_of i l) l) ≡ Some i → ⊥) → ⊥
    go true q e f = f e
    go false q e f = let same : i ≡ x = cc in eqb-false i x q same

-- n entries from a start on carry an index, and no others do
pub record Carrying (l : List ℕ) (i start n : ℕ) : Type 0 where
  pub some : 0 < n
  pub within : start + n ≤ length l
  pub carried : (k : ℕ) → start ≤ k → k < start + n → get_or l k 0 ≡ i
  pub alone : (k : ℕ) → k < length l → get_or l k 0 ≡ i → (start ≤ k) × (k < start + n)

-- how many entries of a list carry an index
unfoldable pub count_of : ℕ → List ℕ → ℕ
count_of i [] = 0
count_of i (j ∷ l) = cond (eqb i j) (suc (count_of i l)) (count_of i l)

-- those of a part, if exactly its entries carry it
count_is : (l : List ℕ) (i start end : ℕ) → end ≤ length l → ((k : ℕ) → k < length l → (get_or l k 0 ≡ i) ↔ ((start ≤ k) × (k < end)))
    → count_of i l ≡ end - start
unfolding count_of
count_is [] i start end h f = omega arith
count_is (x ∷ l) i start end h f = go (eqb i x) refl (count_is l i (start - 1) (end - 1) (omega arith) behind_x)
  where
    behind_x : (k : ℕ) → k < length l → (get_or l k 0 ≡ i) ↔ ((start - 1 ≤ k) × (k < end - 1))
    behind_x k o = (
      λ e. let b = (f (suc k) (omega arith)).0 e in (omega (arith, b.0), omega (arith, b.1)),
      λ b. (f (suc k) (omega arith)).1 (omega (arith, b.0), omega (arith, b.1)),
    )

    go : (b : Bool) → eqb i x ≡ b → count_of i l ≡ end - 1 - (start - 1) → cond b (suc (count_of i l)) (count_of i l) ≡ end - start
    go true q e = let b = (f 0 (omega arith)).0 (sym (eqb-true i x q)) in omega (arith, e, b.0, b.1)
    go false q e =
        by_le end start (λ o. omega (arith, e))
        (λ o. by_le start 0 (λ z. absurd (eqb-false i x q (sym ((f 0 (omega arith)).1 (z, omega arith))))) (λ z. omega (arith, e)))

pub carrying_counts : {l : List ℕ} {i start n : ℕ} → Carrying l i start n → count_of i l ≡ n
carrying_counts {l} {i} {start} {n} c =
    let parted : start + n - start ≡ n = omega arith in
    count_is l i start (start + n) c.within (λ k h. (c.alone k h, λ b. c.carried k b.0 b.1)) ∙ parted

abbrev end_of : List ℕ → ℕ → ℕ
end_of l i = place_in l i + run_of i (drop (place_in l i) l)

module _ (l : List ℕ) (f : falls l ≡ false) (i k : ℕ) (h : k < length l) (e : get_or l k 0 ≡ i) where
  first : (place_in l i ≤ k) × (get_or l (place_in l i) 0 ≡ i)
  first = place_first l i k h e

  has : (j : ℕ) → place_in l i ≤ j → j < end_of l i → get_or l j 0 ≡ i
  has j a b =
      let m = j - place_in l i in
      let same : place_in l i + m ≡ j = omega arith in
      ap (λ (n : ℕ). get_or l n 0) (sym same)
      ∙ sym (get_or-drop (place_in l i) l m 0)
      ∙ run_carries i (drop (place_in l i) l) m (omega arith)

  only : (j : ℕ) → j < length l → get_or l j 0 ≡ i → (place_in l i ≤ j) × (j < end_of l i)
  only j a b = (
    (place_first l i j a b).0,
    by_le (end_of l i) j
        (λ o.
        let end = end_of l i in
        let low = rising l f (place_in l i) end (omega arith) (omega arith) in
        let same : get_or l end 0 ≡ i = omega (arith, low, rising l f end j o a, first.1) in
        let stops = run_stops i (drop (place_in l i) l) in
        absurd (stops (ap head_of (drop-drop (run_of i (drop (place_in l i) l)) (place_in l i) l) ∙ head_at l end (omega arith) ∙ ap Some same)))
        (λ o. o),
  )

  -- the run of an index of a list that doesn't fall
  pub run_is : Carrying l i (place_in l i) (run_of i (drop (place_in l i) l))
  run_is =
      record {
        some = omega (arith, (only (place_in l i) (omega (arith, first.0)) first.1).1);
        within = omega (arith, first.0, run_within i (drop (place_in l i) l), length-drop (place_in l i) l);
        carried = has;
        alone = only;
      }
