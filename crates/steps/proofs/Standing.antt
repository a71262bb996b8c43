-- What the tests of each input by itself leave known of the inputs and of what they show.
-- Assumes nothing.
use Prim.Native.Nat.{◌-◌, ◌<◌, ◌≤◌, ℕ}
use lib.ListN.{length}
use mathlib.Core.Bool.{Bool, false}
use mathlib.Core.List.{List, [], ◌∷◌, map}
use mathlib.Core.Path.{◌∙◌, ◌≡◌, ap, sym}
use native.Mathlib.Omega.{arith}
use Rattle.value.specs.Level.{mark_of}
use Rattle.value.specs.Slice.{any}
use Rattle.value.proofs.Lists.{any_map}
use Rattle.value.proofs.Tests.{or_left, or_right}
use Rattle.fst.specs.Record.{has_no_text, kept_in, largest_in}
use Rattle.fst.proofs.Records.{standing}
use Rattle.runs.specs.All.{All}
use Rattle.runs.proofs.All.{all_of}
use Rattle.signal.specs.Decode.{has_bad_mark}
use Rattle.signal.proofs.Entries.{HasIndexed, entries_each, has_entry}
use Rattle.signal.proofs.Reading.{inside, whole}
use Rattle.steps.specs.Inputs.{entry_is_bad, input_kept, is_bad_input, lent_to, mark_is_bad}
use Rattle.steps.specs.Cursor.{Cursor}
use Rattle.steps.specs.Stepping.{Reaches, Showing, input_of, set_now, shown_bytes}
use Rattle.steps.specs.declared.Input.{Input}
use Rattle.steps.proofs.InputTests.{Stands}
use Rattle.steps.proofs.Levels.{mark_within}
use Rattle.steps.proofs.Tracks.{Begun, Shows, Within, bytes_shown, r_indices}

-- ---- tests that hold of no element

pub all_none : {A : Type 0} (test : A → Bool) (l : List A) → any test l ≡ false → All (λ x. test x ≡ false) l
unfolding any
all_none test [] h = tt
all_none test (x ∷ l) h = (or_left (test x) (any test l) h, all_none test l (or_right (test x) (any test l) h))

pub all_none_map : {A B : Type 0} (test : B → Bool) (f : A → B) (l : List A) → any test (map f l) ≡ false → All (λ x. test (f x) ≡ false) l
all_none_map test f l h = all_none (λ x. test (f x)) l (sym (any_map test f l) ∙ h)

-- what holds of the inputs behind cursors
pub all_behind : (P : Input → Type 0) (cs : List Cursor) → All P (map input_of cs) → All (λ c. P c.input) cs
all_behind P [] ps = tt
all_behind P (c ∷ cs) ps = (ps.0, all_behind P cs ps.1)

-- ---- one input

-- a bit vector that is not refused with 2, and none of whose marks is bad
pub record Source (bytes indices : List ℕ) (i : Input) : Type 0 where
  pub stands : is_bad_input bytes indices i ≡ false
  pub vector : has_no_text i.description.encoding ≡ false
  pub marked : mark_is_bad (input_kept bytes indices i) ≡ false

-- it shows one of its entries
module _ {bytes indices : List ℕ} (c : Cursor) (s : Source bytes indices c.input) (b : Begun c) (w : Within c) where
  pub shows : Shows bytes indices c
  shows = record { stands = standing s.stands; begun = b; within = w }

  good_mark : has_bad_mark c.input.description.encoding (shown_bytes bytes c) ≡ false
  unfolding kept_in
  good_mark =
      let h : c.begun - 1 < length (input_kept bytes indices c.input).indices = rw (r_indices bytes indices c shows) (omega arith) in
      ap (has_bad_mark c.input.description.encoding) (sym (bytes_shown bytes indices c shows))
      ∙ entries_each (input_kept bytes indices c.input) entry_is_bad s.marked (c.begun - 1) h

  pub showing : Showing bytes c
  showing =
      let h : HasIndexed c.input.description (lent_to bytes indices c.input) (c.begun - 1) = record { stands = standing s.stands; below = omega arith } in
      let e = has_entry h in
      record { begun = b; vector = s.vector; inside = inside e; whole = whole e; marked = good_mark }

  -- a good mark is not above the largest set's
  pub set_within : mark_of (set_now bytes c) ≤ mark_of (largest_in c.input.description.encoding)
  set_within = mark_within c.input.description.encoding (shown_bytes bytes c) good_mark

-- ---- all of them

-- they lie within the lent slices
pub all_stand : (is : List Input) (bytes indices : List ℕ) → any (is_bad_input bytes indices) is ≡ false → All (Stands bytes indices) is
all_stand is bytes indices h = all_of _ (Stands bytes indices) (λ i s. standing s) is (all_none (is_bad_input bytes indices) is h)

pub all_reach : (is : List Input) (bytes indices : List ℕ) → All (Stands bytes indices) is → All (Reaches indices) is
all_reach is bytes indices G = all_of (Stands bytes indices) (Reaches indices) (λ i s. s.room.indices) is G
