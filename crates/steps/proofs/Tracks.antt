-- Cursors are the definition's tracks: what comes next, how they move, what they show, how much is to come.
-- Assumes nothing.
use Rattle.std.specs.Prelude.{Option, None, Some}
use Prim.Native.Nat.{◌+◌, ◌-◌, ◌<◌, ◌≤◌, min, suc, zero, ℕ}
use borrow.Author.Tests.{eq-eqb, ne_eqb}
use lib.Dec.{eqb}
use lib.ListN.{drop, get_or, length, length-map}
use mathlib.Core.Bool.{cond}
use mathlib.Core.List.{List, [], ◌∷◌, map}
use mathlib.Core.Logic.{◌⊎◌, inl, inr, ⊎_elim}
use mathlib.Core.Path.{◌∙◌, ◌≡◌, ap, ap₂, refl, sym}
use native.Mathlib.Numerals.{add-one}
use native.Mathlib.Omega.{arith}
use Rattle.value.specs.Slice.{part, sum}
use Rattle.value.proofs.Tests.{by_eq, by_le}
use Rattle.fst.specs.Record.{Kept, kept_in}
use Rattle.fst.proofs.Records.{indices_used}
use Rattle.signal.specs.Decode.{Indexed, entries_from, entries_in, entry_at}
use Rattle.offset.specs.Offset.{head_of}
use Rattle.signal.proofs.Entries.{entries_count, entry_is, indexed}
use Rattle.signal.proofs.Reading.{entry_within}
use Rattle.steps.specs.Inputs.{input_kept}
use Rattle.steps.specs.Cursor.{Cursor}
use Rattle.steps.specs.Stepping.{advanced, at_start, begun_at, next_in, shown_bytes, soonest}
use Rattle.steps.specs.Steps.{Shown, Track, count_of, moved, shown_by, shown_in, shown_index, smaller, smallest, unbegun}
use Rattle.steps.specs.declared.Input.{Input}
use Rattle.steps.proofs.InputTests.{Stands}

-- ---- lists

map_drop : {A B : Type 0} (f : A → B) (n : ℕ) (l : List A) → map f (drop n l) ≡ drop n (map f l)
map_drop f zero l = refl
map_drop f (suc n) [] = refl
map_drop f (suc n) (x ∷ l) = map_drop f n l

-- the first k elements' last, if there is one
abbrev pub last_of : {A : Type 0} → List A → ℕ → Option A
last_of l zero = None
last_of l (suc k) = get_or (map Some l) k None

-- one more element
last_next : {A : Type 0} (l : List A) (k : ℕ) (x : A) (r : List A) → drop k l ≡ x ∷ r → (last_of l (k + 1) ≡ Some x) × (drop (k + 1) l ≡ r)
last_next {A} l k x r e = rw (add-one k) (go l k e)
  where
    go : (l : List A) (k : ℕ) → drop k l ≡ x ∷ r → (last_of l (suc k) ≡ Some x) × (drop (suc k) l ≡ r)
    go [] zero e = let z : ◌≡◌ {A = ℕ} 0 1 = cc in absurd (omega arith)
    go [] (suc k) e = let z : ◌≡◌ {A = ℕ} 0 1 = cc in absurd (omega arith)
    go (y ∷ l) zero e = (cc, cc)
    go (y ∷ l) (suc k) e = go l k e

last_at_lem : {A B : Type 0} (f : A → B) (l : List A) (k : ℕ) (d : A) → k < length l → last_of (map f l) (suc k) ≡ Some (f (get_or l k d))
last_at_lem f [] k d h = absurd (omega arith)
last_at_lem f (x ∷ l) zero d h = refl
last_at_lem f (x ∷ l) (suc k) d h = last_at_lem f l k d (omega arith)

-- ---- a track that moves

moved_nil : (i : ℕ) (t : Track) → t.next ≡ [] → moved i t ≡ t
unfolding moved
moved_nil i t e = rw e

moved_cons : (i : ℕ) (t : Track) (s : Shown) (l : List Shown) → t.next ≡ s ∷ l → moved i t ≡ cond (eqb s.index i) (record { now = Some s; next = l }) t
unfolding moved
moved_cons i t s l e = rw e

-- an input by its entries, of which k have begun
abbrev at : List Shown → ℕ → Track
at L k = record { now = last_of L k; next = drop k L }

moved_at : (i k : ℕ) (L : List Shown) → moved i (at L k) ≡ at L (begun_at i k (head_of (map shown_index (drop k L))))
moved_at i k L = go (drop k L) refl
  where
    go : (l : List Shown) → drop k L ≡ l → moved i (at L k) ≡ at L (begun_at i k (head_of (map shown_index (drop k L))))
    go [] e = moved_nil i (at L k) e ∙ ap (λ (l : List Shown). at L (begun_at i k (head_of (map shown_index l)))) (sym e)
    go (s ∷ l) e =
        let n = last_next L k s l e in
        moved_cons i (at L k) s l e
        ∙ by_eq s.index i
        (λ q. rw (eq-eqb s.index i q) (sym (λ j. record { now = n.0 j; next = n.1 j }) ∙ ap (at L) (sym (begun (k + 1) (rw (eq-eqb s.index i q))))))
        (λ q. rw (ne_eqb s.index i q) (ap (at L) (sym (begun k (rw (ne_eqb s.index i q))))))
      where
        begun : (b : ℕ) → cond (eqb s.index i) (k + 1) k ≡ b → begun_at i k (head_of (map shown_index (drop k L))) ≡ b
        begun b h = ap (λ (l : List Shown). begun_at i k (head_of (map shown_index l))) e ∙ h

entries_indices : (k : ℕ) (r : Kept) (l : List ℕ) → map shown_index (map shown_by (entries_from k r l)) ≡ l
unfolding entries_from
entries_indices k r [] = refl
entries_indices k r (x ∷ l) = ap (λ (m : List ℕ). x ∷ m) (entries_indices (suc k) r l)

-- ---- the track of a cursor

-- an input that has begun, and one that shows none but its own entries
abbrev pub Begun : Cursor → Type 0
Begun c = 1 ≤ c.begun

abbrev pub Within : Cursor → Type 0
Within c = c.begun ≤ c.input.description.count

module _ (bytes indices : List ℕ) where
  abbrev pub shown_of : Input → List Shown
  shown_of i = shown_in (input_kept bytes indices i)

  abbrev pub track_of : Cursor → Track
  track_of c = record { now = last_of (shown_of c.input) c.begun; next = drop c.begun (shown_of c.input) }

  abbrev pub tracks : List Cursor → List Track
  tracks cs = map track_of cs

  pub tracks_start : (is : List Input) → tracks (map at_start is) ≡ map unbegun (map shown_in (map (input_kept bytes indices) is))
  tracks_start [] = refl
  tracks_start (i ∷ is) = ap (λ (r : List Track). unbegun (shown_of i) ∷ r) (tracks_start is)

  shown_indices : (i : Input) → map shown_index (shown_of i) ≡ part i.index_start i.description.count indices
  unfolding kept_in
  shown_indices i = entries_indices 0 (input_kept bytes indices i) _

  -- ---- what comes next

  next_shown : (c : Cursor) → head_of (map shown_index (drop c.begun (shown_of c.input))) ≡ next_in indices c
  unfolding next_in
  next_shown c = ap head_of (map_drop shown_index c.begun (shown_of c.input) ∙ ap (drop c.begun) (shown_indices c.input))

  pub soonest_smallest : (cs : List Cursor) → smallest (tracks cs) ≡ soonest indices cs
  unfolding smallest soonest
  soonest_smallest [] = refl
  soonest_smallest (c ∷ cs) = ap₂ smaller (next_shown c) (soonest_smallest cs)

  -- ---- how they move

  move_track : (i : ℕ) (c : Cursor) → moved i (track_of c) ≡ track_of (advanced indices i c)
  move_track i c =
      moved_at i c.begun (shown_of c.input)
      ∙ ap (λ (n : Option ℕ). at (shown_of c.input) (begun_at i c.begun n)) (next_shown c)

  pub moves_tracks : (i : ℕ) (cs : List Cursor) → map (moved i) (tracks cs) ≡ tracks (map (advanced indices i) cs)
  moves_tracks i [] = refl
  moves_tracks i (c ∷ cs) = ap₂ (λ (t : Track) (ts : List Track). t ∷ ts) (move_track i c) (moves_tracks i cs)

  -- ---- what they show

  -- its entries in number
  pub shown_count : (i : Input) → Stands bytes indices i → length (shown_of i) ≡ i.description.count
  unfolding kept_in
  shown_count i f =
      length-map (entries_in (input_kept bytes indices i)) shown_by ∙ entries_count (input_kept bytes indices i) ∙ indices_used f

  -- an input that has begun, and whose entries lie within the slices
  pub record Shows (c : Cursor) : Type 0 where
    pub stands : Stands bytes indices c.input
    pub begun : Begun c
    pub within : Within c

  module _ (c : Cursor) (h : Shows c) where
    abbrev r : Kept
    r = input_kept bytes indices c.input

    pub r_indices : length r.indices ≡ c.input.description.count
    unfolding kept_in
    r_indices = indices_used h.stands

    -- its bytes among all
    pub bytes_shown : entry_at c.input.description.encoding 0 r.bytes (c.begun - 1) ≡ shown_bytes bytes c
    unfolding kept_in
    bytes_shown = entry_within c.input.description bytes c.input.byte_start (c.begun - 1) (omega (arith, h.begun, h.within))

    pub now_shown : last_of (shown_of c.input) c.begun ≡ Some (shown_by (indexed r (c.begun - 1)))
    unfolding kept_in
    now_shown =
        let k : suc (c.begun - 1) ≡ c.begun = omega (arith, h.begun) in
        let n : c.begun - 1 < length r.indices = rw r_indices (omega (arith, h.begun, h.within)) in
        ap (last_of (shown_of c.input)) (sym k)
        ∙ last_at_lem shown_by (entries_in r) (c.begun - 1) (indexed r 0) (rw (entries_count r) n)
        ∙ ap (λ (x : Indexed). Some (shown_by x)) (entry_is r (c.begun - 1) (indexed r 0) n)

-- ---- how much is to come

abbrev pub to_come : List Track → ℕ
to_come ts = sum (map count_of ts)

count_le : (i : ℕ) (t : Track) → count_of (moved i t) ≤ count_of t
count_le i t = go t.next refl
  where
    go : (l : List Shown) → t.next ≡ l → count_of (moved i t) ≤ count_of t
    go [] e = rw (moved_nil i t e) (omega arith)
    go (s ∷ l) e =
        by_eq s.index i
        (λ q. rw (moved_cons i t s l e, eq-eqb s.index i q) (omega (arith, ap length e)))
        (λ q. rw (moved_cons i t s l e, ne_eqb s.index i q) (omega arith))

count_less : (i : ℕ) (t : Track) → head_of (map shown_index t.next) ≡ Some i → count_of (moved i t) < count_of t
count_less i t h = go t.next refl
  where
    go : (l : List Shown) → t.next ≡ l → count_of (moved i t) < count_of t
    go [] e =
        let q : head_of (map shown_index t.next) ≡ None = ap (λ (l : List Shown). head_of (map shown_index l)) e in
        let z : ◌≡◌ {A = ℕ} 0 1 = cc in absurd (omega arith)
    go (s ∷ l) e =
        let q : head_of (map shown_index t.next) ≡ Some s.index = ap (λ (l : List Shown). head_of (map shown_index l)) e in
        let z : s.index ≡ i = cc in
        rw (moved_cons i t s l e, eq-eqb s.index i z) (omega (arith, ap length e))

come_le : (i : ℕ) (ts : List Track) → to_come (map (moved i) ts) ≤ to_come ts
unfolding sum
come_le i [] = omega arith
come_le i (t ∷ ts) = omega (arith, count_le i t, come_le i ts)

-- the smaller of two is one of them
smaller_one : (a b : Option ℕ) (i : ℕ) → smaller a b ≡ Some i → (a ≡ Some i) ⊎ (b ≡ Some i)
smaller_one None b i e = inr e
smaller_one (Some a) None i e = inl e
smaller_one (Some a) (Some b) i e =
    by_le a b
    (λ h. inl (let z : min a b ≡ a = omega arith in ap Some (sym z) ∙ e))
    (λ h. inr (let z : min a b ≡ b = omega arith in ap Some (sym z) ∙ e))

-- a step uses up an entry
pub come_less : (i : ℕ) (ts : List Track) → smallest ts ≡ Some i → to_come (map (moved i) ts) < to_come ts
unfolding sum smallest
come_less i [] e = let z : ◌≡◌ {A = ℕ} 0 1 = cc in absurd (omega arith)
come_less i (t ∷ ts) e =
    ⊎_elim
    (λ h. omega (arith, count_less i t h, come_le i ts))
    (λ h. omega (arith, count_le i t, come_less i ts h))
    (smaller_one (head_of (map shown_index t.next)) (smallest ts) i e)
