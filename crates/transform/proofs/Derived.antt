-- Demand 3 of derived records: a derived list is sound, begins at index 0 and doesn't fall, and an accepted Derive leaves it laid out.
-- Assumes nothing.
use Rattle.std.specs.Prelude.{Option, None, Some}
use Prim.Native.Nat.{◌+◌, ◌-◌, ◌<◌, ◌^◌, ◌≤◌, min, suc, zero, ℕ}
use borrow.Author.Tests.{ltb-false}
use lib.ListN.{get_or-eq_default, get_or-map, get_or, length, length-append, length-map}
use mathlib.Core.Bool.{false, true≢false}
use mathlib.Core.List.{List, [], ◌∷◌, foldl, map}
use mathlib.Core.Logic.{◌↔◌}
use mathlib.Core.Path.{◌∙◌, ◌≡◌, ap, ap₂, refl, subst, sym}
use native.Mathlib.Nat.{pow-le-pow_right}
use native.Mathlib.Omega.{arith}
use Rattle.value.specs.Digits.{Below}
use Rattle.value.specs.Level.{bits_of, has_no_code, join_all, mark_of}
use Rattle.value.specs.Slice.{any, part, sum}
use Rattle.value.specs.declared.States.{States}
use Rattle.value.proofs.Digits.{below_append, below_drop, below_mono, below_take}
use Rattle.value.proofs.Levels.{all_below_lem, bits_up, codes_text, mark_join}
use Rattle.value.proofs.Slices.{any_none, part_length}
use Rattle.value.proofs.Tests.{by_le, or_left, or_right}
use Rattle.layout.proofs.Entries.{laws}
use Rattle.fst.specs.Change.{stored}
use Rattle.fst.specs.Record.{Kept, Lent, described, held_in, kept_of, largest_in, width_of}
use Rattle.fst.specs.Refusal.{Reply, Test, given, refused, tried}
use Rattle.fst.specs.declared.Description.{Description}
use Rattle.fst.specs.declared.Encoding.{Encoding}
use Rattle.fst.specs.declared.Encoding.TheVariants.{Event}
use Rattle.fst.proofs.Refusals.{Result, through, stopped, result}
use Rattle.runs.specs.All.{All}
use Rattle.runs.specs.Runs as runs
use Rattle.runs.specs.Runs.{Same, Step, by_value, ends_like, joined, laid_out, seen}
use Rattle.runs.proofs.All.{all_by, all_map}
use Rattle.runs.proofs.Laid.{Sound, laid_found, laid_same}
use Rattle.signal.specs.Decode.{entries_from, entries_in, entry_at, levels_in, set_in}
use Rattle.offset.specs.Offset.{falls}
use Rattle.offset.specs.Offset.{head_of}
use Rattle.signal.proofs.Entries.{entries_count, entries_each}
use Rattle.signal.proofs.ReadBack as back
use Rattle.signal.proofs.ReadBack.{Tells}
use Rattle.derivation.specs.Piece.{Sized, end_of, extract_of, is_bad_piece, piece_width, pieces_of}
use Rattle.derivation.specs.declared.DerivedBitVecSignal.{DerivedBitVecSignal}
use Rattle.derivation.specs.declared.Extract.{Extract}
use Rattle.derivation.proofs.Joins.{count_is}
use Rattle.derivation.proofs.Pieces.{good_piece, sound}
use Rattle.steps.specs.Inputs.{encoding_of, entry_is_bad, indices_fall, is_late, kept_all, mark_is_bad, starts_late}
use Rattle.steps.specs.Steps.{Moment, Shown, Track, count_of, kept_steps, moments_from, moments_of, moved, now_of, shown_by, shown_in, shown_index, smaller, smallest, unbegun}
use Rattle.steps.specs.declared.Inputs.{Inputs}
use Rattle.steps.proofs.Levels.{levels_below, levels_length, mark_within}
use Rattle.steps.proofs.Moments.{Each2, From, LeastOf, NextUp, NowFrom, Runs, ShowsEntries, Up, grown, least_under, moments_show, moments_up, rising_up, shown_from, shown_up, shows_all, up_falls, up_map, ups}
use Rattle.transform.specs.Accepted.{Accepted, ks_of, list_of, record_of}
use Rattle.transform.specs.Derive.{code_is_bad, codes_shown, derive, derive_refusals, derived_by, derived_list, is_beyond, is_unfit, largest_among, largest_shown, lent_out, pick_is_bad, picked, picked_of, same_step, set_shown, yielded}
use Rattle.transform.specs.Refusals.{Derivable}
use Rattle.transform.proofs.PieceTests.{fit, fit_wide}

-- ---- step one

abbrev tracks : List Kept → List Track
tracks ks = map unbegun (map shown_in ks)

head_zero : (k : Kept) (l : List ℕ) → is_late l ≡ false → head_of (map shown_index (map shown_by (entries_from 0 k l))) ≡ Some 0
unfolding entries_from
head_zero k [] h = absurd (true≢false h)
head_zero k (zero ∷ l) h = refl
head_zero k (suc i ∷ l) h = absurd (true≢false h)

moved_first : (k : Kept) (l : List ℕ) → is_late l ≡ false → All (From k) (map shown_by (entries_from 0 k l)) → Runs ⊥ k (moved 0 (unbegun (map shown_by (entries_from 0 k l))))
unfolding entries_from moved
moved_first k [] h p = absurd (true≢false h)
moved_first k (zero ∷ l) h p = (p.0, p.1)
moved_first k (suc i ∷ l) h p = absurd (true≢false h)

start_runs : (ks : List Kept) → any starts_late ks ≡ false → Each2 (Runs ⊥) ks (map (moved 0) (tracks ks))
unfolding any
start_runs [] h = tt
start_runs (k ∷ ks) h =
    (moved_first k k.indices (or_left (starts_late k) (any starts_late ks) h) (shown_from k), start_runs ks (or_right (starts_late k) (any starts_late ks) h))

start_up : (ks : List Kept) → any indices_fall ks ≡ false → All (NextUp 0) (tracks ks)
unfolding any
start_up [] h = tt
start_up (k ∷ ks) h =
    (shown_up 0 0 k k.indices (rising_up k.indices (or_left (indices_fall k) (any indices_fall ks) h)), start_up ks (or_right (indices_fall k) (any indices_fall ks) h))

start_zero : (k : Kept) (ks : List Kept) → any starts_late (k ∷ ks) ≡ false → smallest (tracks (k ∷ ks)) ≡ Some 0
unfolding any smallest
start_zero k ks h =
    ap (λ (m : Option ℕ). smaller m (smallest (tracks ks))) (head_zero k k.indices (or_left (starts_late k) (any starts_late ks) h)) ∙ go (smallest (tracks ks))
  where
    go : (m : Option ℕ) → smaller (Some 0) m ≡ Some 0
    go None = refl
    go (Some j) = let z : min 0 j ≡ 0 = omega arith in ap Some z

start_some : (k : Kept) (ks : List Kept) → any starts_late (k ∷ ks) ≡ false → 0 < sum (map count_of (tracks (k ∷ ks)))
unfolding any sum
start_some k ks h =
    let z = some_indices k.indices (or_left (starts_late k) (any starts_late ks) h) in
    let l : length (shown_in k) ≡ length k.indices = length-map (entries_in k) shown_by ∙ entries_count k in
    omega arith
  where
    some_indices : (l : List ℕ) → is_late l ≡ false → 0 < length l
    some_indices [] h = absurd (true≢false h)
    some_indices (i ∷ l) h = omega arith

-- what each input shows at step one
abbrev first_tracks : List Kept → List Track
first_tracks ks = map (moved 0) (tracks ks)

abbrev first_moment : List Kept → Moment
first_moment ks = record { index = 0; showing = map now_of (first_tracks ks) }

moments_begin : (k : Kept) (ks : List Kept) → any starts_late (k ∷ ks) ≡ false
    → (n : ℕ) × (moments_of (map shown_in (k ∷ ks)) ≡ first_moment (k ∷ ks) ∷ moments_from n (smallest (first_tracks (k ∷ ks))) (first_tracks (k ∷ ks)))
unfolding moments_of moments_from
moments_begin k ks h =
    let g = go (sum (map count_of (tracks (k ∷ ks)))) (start_some k ks h) in
    (g.0, ap (λ (m : Option ℕ). moments_from (sum (map count_of (tracks (k ∷ ks)))) m (tracks (k ∷ ks))) (start_zero k ks h) ∙ g.1)
  where
    go : (c : ℕ) → 0 < c
        → (n : ℕ) × (moments_from c (Some 0) (tracks (k ∷ ks)) ≡ first_moment (k ∷ ks) ∷ moments_from n (smallest (first_tracks (k ∷ ks))) (first_tracks (k ∷ ks)))
    go zero p = absurd (omega arith)
    go (suc n) p = (n, refl)

-- ---- what a step yields

-- the levels that a piece picks of a shown entry
abbrev Picks : Extract → Shown → Type 0
Picks e s =
    (length (picked_of e s.codes) ≡ e.width) × Below 9 (picked_of e s.codes) × Below (2 ^ bits_of s.set) (picked_of e s.codes)

picks_entry : (e : Extract) (x : Encoding) (v : List ℕ) (i : ℕ) → end_of e ≤ width_of x → has_no_code (picked_of e (levels_in x v)) ≡ false
    → Picks e (record { index = i; set = set_in x v; codes = levels_in x v })
unfolding part
picks_entry e x v i h c = (
  part_length (levels_in x v) (length (levels_in x v) - end_of e) e.width (omega (arith, levels_length x v)),
  all_below_lem (picked_of e (levels_in x v)) c,
  below_take _ _ (below_drop _ (levels_in x v) (levels_below x v) (length (levels_in x v) - end_of e)) e.width,
)

-- what stands for no record
abbrev no_kept : Kept
no_kept = record { encoding = Event; bytes = []; indices = [] }

-- a piece of an input, within its width, with no bad code in it
record Fine (ks : List Kept) (e : Extract) : Type 0 where
  low : e.signal < length ks
  inside : end_of e ≤ width_of (encoding_of (get_or ks e.signal no_kept))
  coded : any (pick_is_bad e) (entries_in (get_or ks e.signal no_kept)) ≡ false

fine : (n : ℕ) (ks : List Kept) (e : Extract) → is_bad_piece n e ≡ false → is_beyond ks e ≡ false → code_is_bad ks e ≡ false → Fine ks e
unfolding entries_from
fine n ks e b w c =
    let g = good_piece n e b in
    let l = ltb-false (width_of (get_or (map encoding_of ks) e.signal Event)) (end_of e) w in
    record {
      low =
          by_le (length ks) e.signal
          (λ h.
          let z : get_or (map encoding_of ks) e.signal Event ≡ Event = get_or-eq_default (map encoding_of ks) Event (rw length-map h) in
          let y : width_of (get_or (map encoding_of ks) e.signal Event) ≡ 0 = ap width_of z in
          absurd (omega arith))
          (λ h. h);
      inside = rw (get_or-map encoding_of ks e.signal no_kept) at l;
      coded = ap (any (pick_is_bad e)) (sym (get_or-map entries_in ks e.signal no_kept)) ∙ c;
    }

each_at : (ks : List Kept) (sh : List (Option Shown)) → Each2 (NowFrom ⊥) ks sh → (j : ℕ) → j < length ks → NowFrom ⊥ (get_or ks j no_kept) (get_or sh j None)
each_at [] sh e j h = absurd (omega arith)
each_at (k ∷ ks) [] e j h = absurd e
each_at (k ∷ ks) (o ∷ sh) e zero h = e.0
each_at (k ∷ ks) (o ∷ sh) e (suc j) h = each_at ks sh e.1 j (omega arith)

abbrev PicksNow : Extract → Option Shown → Type 0
PicksNow e o =
    (length (picked_of e (codes_shown o)) ≡ e.width) × Below 9 (picked_of e (codes_shown o)) × Below (2 ^ bits_of (set_shown o)) (picked_of e (codes_shown o))

piece_picks : (e : Extract) (k : Kept) (o : Option Shown) → end_of e ≤ width_of (encoding_of k) → any (pick_is_bad e) (entries_in k) ≡ false → NowFrom ⊥ k o → PicksNow e o
piece_picks e k None h c f = absurd f
piece_picks e k (Some s) h c f =
    subst (Picks e) (sym f.is)
    (picks_entry e (encoding_of k) (entry_at k.encoding 0 k.bytes f.at) (get_or k.indices f.at 0) h (entries_each k (pick_is_bad e) c f.at f.inside))

set_under : (sh : List (Option Shown)) (j : ℕ) → mark_of (set_shown (get_or sh j None)) ≤ mark_of (largest_shown sh)
unfolding join_all
set_under [] zero = omega arith
set_under [] (suc j) = omega arith
set_under (o ∷ sh) zero = omega (arith, mark_join (set_shown o) (largest_shown sh))
set_under (o ∷ sh) (suc j) = omega (arith, mark_join (set_shown o) (largest_shown sh), set_under sh j)

record WholePick (es : List Extract) (sh : List (Option Shown)) : Type 0 where
  long : length (picked es sh) ≡ sum (map piece_width es)
  letters : Below 9 (picked es sh)
  below : Below (2 ^ bits_of (largest_shown sh)) (picked es sh)

all_picked : (ks : List Kept) (sh : List (Option Shown)) → Each2 (NowFrom ⊥) ks sh → (es : List Extract) → All (Fine ks) es → WholePick es sh
unfolding picked sum
all_picked ks sh r [] f = record { long = refl; letters = tt; below = tt }
all_picked ks sh r (e ∷ es) f =
    let rest = all_picked ks sh r es f.1 in
    let k = get_or ks e.signal no_kept in
    let o = get_or sh e.signal None in
    let p = piece_picks e k o f.0.inside f.0.coded (each_at ks sh r e.signal f.0.low) in
    let b : 2 ^ bits_of (set_shown o) ≤ 2 ^ bits_of (largest_shown sh) = pow-le-pow_right (omega arith) (bits_up (set_shown o) (largest_shown sh) (set_under sh e.signal)) in
    record {
      long = length-append (picked_of e (codes_shown o)) (picked es sh) ∙ ap₂ (λ (m n : ℕ). m + n) p.0 rest.long;
      letters = below_append 9 (picked_of e (codes_shown o)) (picked es sh) p.1 rest.letters;
      below = below_append _ (picked_of e (codes_shown o)) (picked es sh) (below_mono _ _ (picked_of e (codes_shown o)) b p.2) rest.below;
    }

mark_one : (k : Kept) (s : Shown) → mark_is_bad k ≡ false → From k s → mark_of s.set ≤ mark_of (largest_in (encoding_of k))
mark_one k s m f =
    subst (λ (t : Shown). mark_of t.set ≤ mark_of (largest_in (encoding_of k))) (sym f.is)
    (mark_within (encoding_of k) (entry_at k.encoding 0 k.bytes f.at) (entries_each k entry_is_bad m f.at f.inside))

largest_under : (ks : List Kept) (sh : List (Option Shown)) → any mark_is_bad ks ≡ false → Each2 (NowFrom ⊥) ks sh → mark_of (largest_shown sh) ≤ mark_of (largest_among ks)
unfolding any join_all
largest_under [] [] m e = omega arith
largest_under [] (o ∷ sh) m e = absurd e
largest_under (k ∷ ks) [] m e = absurd e
largest_under (k ∷ ks) (None ∷ sh) m e = absurd e.0
largest_under (k ∷ ks) (Some s ∷ sh) m e =
    omega (
      arith,
      mark_join s.set (largest_shown sh),
      mark_join (largest_in (encoding_of k)) (largest_among ks),
      mark_one k s (or_left (mark_is_bad k) (any mark_is_bad ks) m) e.0,
      largest_under ks sh (or_right (mark_is_bad k) (any mark_is_bad ks) m) e.1,
    )

-- ---- inputs that no number before 7 refuses

pub record Passes (d : DerivedBitVecSignal) (count : ℕ) (ks : List Kept) : Type 0 where
  pub fit : is_unfit d count ks ≡ false
  pub begun : any starts_late ks ≡ false
  pub rising : any indices_fall ks ≡ false
  pub marked : any mark_is_bad ks ≡ false
  pub coded : any (code_is_bad ks) (pieces_of d) ≡ false

pub passes : (d : DerivedBitVecSignal) (inputs : Inputs) (bytes indices : List ℕ) → Derivable d inputs bytes indices → Passes d inputs.count (kept_all bytes indices inputs)
passes d inputs bytes indices p =
    record { fit = p.fit; begun = p.begun; rising = p.rising; marked = p.marked; coded = p.coded }

module _ {d : DerivedBitVecSignal} {count : ℕ} {ks : List Kept} (p : Passes d count ks) where
  abbrev es : List Extract
  es = pieces_of d

  all_fine : All (Fine ks) es
  all_fine =
      let f = fit d count ks p.fit in
      let n = d.input_count in
      all_by (Fine ks) es (extract_of 0)
      (λ i h.
      fine n ks (get_or es i (extract_of 0)) (any_none (is_bad_piece n) es (sound d f.sound).pieces i (extract_of 0) h)
      (any_none (is_beyond ks) es f.within i (extract_of 0) h) (any_none (code_is_bad ks) es p.coded i (extract_of 0) h))

  step_sound : (m : Moment) → ShowsEntries ⊥ ks m → Sound d.width (largest_among ks) (yielded es m)
  step_sound m r =
      let q = all_picked ks m.showing r es all_fine in
      let t = codes_text (picked es m.showing) q.letters in
      let w = (sound d (fit d count ks p.fit).sound).whole in
      record {
        codes = rw t (record { long = q.long ∙ sym w; below = q.below });
        letters = rw t q.letters;
        within = largest_under ks m.showing p.marked r;
      }

  module _ (z : Sized d) where
    pub first_piece : 0 < length es
    first_piece =
        let f = fit d count ks p.fit in
        rw (count_is d.bits d.piece_count (omega (arith, (sound d f.sound).few, z.bits))) f.pieces

    -- there is an input
    some_input : 0 < length ks
    some_input = go es first_piece all_fine
      where
        go : (l : List Extract) → 0 < length l → All (Fine ks) l → 0 < length ks
        go [] h f = absurd (omega arith)
        go (e ∷ l) h f = omega (arith, f.0.low)

-- a derived list: not empty, from index 0 on, in order, of sound steps
record Listed (d : DerivedBitVecSignal) (ks : List Kept) : Type 0 where
  first : Step
  rest : List Step
  is : derived_list (pieces_of d) ks ≡ first ∷ rest
  begins : first.index ≡ 0
  up : Up runs.index_of 0 (first ∷ rest)
  every : All (Sound d.width (largest_among ks)) (first ∷ rest)

listed : {d : DerivedBitVecSignal} {count : ℕ} {ks : List Kept} → Passes d count ks → Sized d → Listed d ks
unfolding kept_steps joined ends_like
listed {ks = []} p z = absurd (omega (arith, some_input p z))
listed {d} {ks = k ∷ ks} p z =
    let all = k ∷ ks in
    let P = Sound d.width (largest_among all) in
    let y = yielded (pieces_of d) in
    let us = first_tracks all in
    let b = moments_begin k ks p.begun in
    let ms = moments_from b.0 (smallest us) us in
    let none_below : 0 ≤ 0 = omega arith in
    let r = start_runs all p.begun in
    let v = ups (tracks all) 0 0 (start_up all p.rising) (least_under (tracks all) 0 (subst (LeastOf 0) (sym (start_zero k ks p.begun)) none_below)) in
    let u = up_map runs.index_of y 0 ms (moments_up b.0 (smallest us) us 0 refl v) in
    let q = all_map (ShowsEntries ⊥ all) P y ms (step_sound p) (moments_show ⊥ all b.0 (smallest us) us r) in
    let x = y (first_moment all) in
    let g = grown same_step P (x ∷ []) (map y ms) 0 u q in
    record {
      first = x;
      rest = g.by;
      is = ap (λ (l : List Moment). foldl (joined same_step) [] (map y l)) b.1 ∙ g.is;
      begins = refl;
      up = (none_below, g.up);
      every = (step_sound p (first_moment all) (shows_all ⊥ all us r), g.every);
    }

module _ {d : DerivedBitVecSignal} {count : ℕ} {ks : List Kept} (p : Passes d count ks) (z : Sized d) where
  -- each step has as many letters as the derivation is wide, all of its own set, which is not above the largest
  pub derived_sound : All (Sound d.width (largest_among ks)) (derived_list (pieces_of d) ks)
  derived_sound = let l = listed p z in rw l.is l.every

  -- its indices don't fall
  pub derived_rises : falls (map runs.index_of (derived_list (pieces_of d) ks)) ≡ false
  derived_rises = let l = listed p z in rw l.is (up_falls runs.index_of 0 (l.first ∷ l.rest) l.up)

  -- it is not empty, and starts at index 0
  pub derived_begins : is_late (map runs.index_of (derived_list (pieces_of d) ks)) ≡ false
  derived_begins = let l = listed p z in rw (l.is, l.begins) refl

-- ---- an accepted Derive

module _ (a : Accepted) where
  abbrev ks : List Kept
  ks = ks_of a

  abbrev M : States
  M = largest_among ks

  abbrev out : Lent
  out = lent_out a.out_bytes a.out_indices

  abbrev tests : List Test
  tests = derive_refusals a.derivation a.inputs a.bytes a.indices out

  abbrev laid : Kept
  laid = laid_out a.derivation.width M (list_of a)

  -- a number is no description
  never : {A : Type 0} (n : ℕ) → tried tests (given laid) ≡ refused (suc n) → (derived_by out (tried tests (given laid))).answer ≡ given a.made → A
  never n q h =
      let e : ◌≡◌ {A = Reply Description} (refused (suc n)) (given a.made) = ap (λ (r : Reply Kept). (derived_by out r).answer) (sym q) ∙ h in
      let z : ◌≡◌ {A = ℕ} 0 1 = cc in
      absurd (omega arith)

  pub accepted_passes : Passes a.derivation a.inputs.count ks
  unfolding derive derive_refusals
  accepted_passes = go (result (given laid) tests tt) a.is
    where
      go : Result (given laid) tests → (derived_by out (tried tests (given laid))).answer ≡ given a.made → Passes a.derivation a.inputs.count ks
      go (through ps q) h =
          record { fit = ps.1.0; begun = ps.1.1.0; rising = ps.1.1.1.0; marked = ps.1.1.1.1.0; coded = ps.1.1.1.1.1.0 }
      go (stopped n q) h = never n q h

  pub accepted_width : 1 ≤ a.derivation.width
  accepted_width = fit_wide (fit a.derivation a.inputs.count ks accepted_passes.fit) (first_piece accepted_passes a.sized)

  pub accepted_sound : All (Sound a.derivation.width M) (list_of a)
  accepted_sound = derived_sound accepted_passes a.sized

  -- the description that was answered
  made_is : described laid.encoding (length laid.indices) ≡ a.made
  unfolding derive derive_refusals
  made_is = go (result (given laid) tests tt) a.is
    where
      go : Result (given laid) tests → (derived_by out (tried tests (given laid))).answer ≡ given a.made → described laid.encoding (length laid.indices) ≡ a.made
      go (through ps q) h =
          let e : (derived_by out (given laid)).answer ≡ given a.made = ap (λ (r : Reply Kept). (derived_by out r).answer) (sym q) ∙ h in
          cc
      go (stopped n q) h = never n q h

  -- "count and time indices are the list's"
  pub derived_counts : a.made.count ≡ length (list_of a)
  unfolding laid_out
  derived_counts = ap (λ (m : Description). m.count) (sym made_is) ∙ length-map (list_of a) runs.index_of

  -- "After every accepted Derive the record is this list laid out"
  pub derived_is_laid_out : kept_of (record_of a) ≡ laid_out a.derivation.width (largest_among (ks_of a)) (list_of a)
  unfolding derive derive_refusals stored
  derived_is_laid_out = go (result (given laid) tests tt) a.is
    where
      Left : Reply Kept → Type 0
      Left r = (derived_by out r).answer ≡ given a.made → kept_of (held_in a.made (lent_out (derived_by out r).bytes (derived_by out r).indices)) ≡ laid

      found : Left (given laid)
      found h =
          let w = a.derivation.width in
          let x = (derived_by out (given laid)).bytes in
          let y = (derived_by out (given laid)).indices in
          ap (λ (m : Description). kept_of (held_in m (lent_out x y))) (sym made_is)
          ∙ laid_found w (laws w accepted_width) M (list_of a) out (omega arith) (omega arith)

      go : Result (given laid) tests → Left (tried tests (given laid))
      go (through ps q) = subst Left (sym q) found
      go (stopped n q) = λ h. never n q h

  -- no index of the record falls
  pub derived_record_rises : falls (record_of a).indices ≡ false
  unfolding laid_out
  derived_record_rises = ap (λ (k : Kept). falls k.indices) derived_is_laid_out ∙ derived_rises accepted_passes a.sized

  -- entry k of the record tells the own set and the string of step k
  pub read_back_derived : (k : ℕ) (s : Step) → k < length (list_of a)
      → Tells a.derivation.width (largest_among (ks_of a)) (entry_at (record_of a).description.encoding 0 (record_of a).bytes k) (get_or (list_of a) k s)
  unfolding laid_out
  read_back_derived k s h =
      subst (λ (r : Kept). Tells a.derivation.width M (entry_at r.encoding 0 r.bytes k) (get_or (list_of a) k s)) (sym derived_is_laid_out)
      (back.read_back a.derivation.width accepted_width M (list_of a) accepted_sound k s h)

-- two accepted Derives of one width leave equal records just where their largest sets and their derived lists are equal
pub demand_3_derived : (a b : Accepted) → a.derivation.width ≡ b.derivation.width
    → Same by_value (record_of a) (record_of b) ↔ ((largest_among (ks_of a) ≡ largest_among (ks_of b)) × (list_of a ≡ list_of b))
demand_3_derived a b e =
    let w = a.derivation.width in
    let K = largest_among (ks_of a) in
    let N = largest_among (ks_of b) in
    let at_b : kept_of (record_of b) ≡ laid_out w N (list_of b) = derived_is_laid_out b ∙ ap (λ (n : ℕ). laid_out n N (list_of b)) (sym e) in (
      λ s.
          laid_same w (laws w (accepted_width a)) K N (list_of a) (list_of b) (accepted_sound a)
          (subst (λ (n : ℕ). All (Sound n N) (list_of b)) (sym e) (accepted_sound b))
          (sym (ap seen (derived_is_laid_out a)) ∙ s ∙ ap seen at_b),
      λ h. ap seen (derived_is_laid_out a ∙ ap₂ (laid_out w) h.0 h.1 ∙ sym at_b),
    )
