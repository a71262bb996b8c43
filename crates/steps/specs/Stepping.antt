-- Inner: where a walk stands in its inputs, what comes next, and what the inputs then show.
-- Assumes nothing.
use Rattle.std.specs.Prelude.{Option, None, Some, ◌+◌, ◌-◌, ◌≤◌, ℕ, eqb, drop, length, cond, false, List, [], ◌∷◌, ◌≡◌}
use Rattle.value.specs.Slice.{part}
use Rattle.value.specs.declared.States.{States}
use Rattle.fst.specs.Record.{has_no_text, largest_in, width_of}
use Rattle.signal.specs.Decode.{entry_at, has_bad_mark, levels_in, set_in}
use Rattle.offset.specs.Offset.{head_of}
use Rattle.signal.specs.Parts.{Inside, Unpacked, Whole, unpacked}
use Rattle.steps.specs.Cursor.{Cursor}
use Rattle.steps.specs.Steps.{smaller}
use Rattle.steps.specs.declared.Input.{Input}

abbrev pub cursor : Input → ℕ → Cursor
cursor i k = record { input = i; begun = k }

abbrev pub at_start : Input → Cursor
at_start i = cursor i 0

abbrev pub input_of : Cursor → Input
input_of c = c.input

-- ---- by the indices

-- an input's time indices lie within the lent ones
abbrev pub Reaches : List ℕ → Input → Type 0
Reaches indices i = i.index_start + i.description.count ≤ length indices

abbrev pub ReachesNow : List ℕ → Cursor → Type 0
ReachesNow indices c = Reaches indices c.input

-- the index of an input's next entry
unfoldable pub next_in : List ℕ → Cursor → Option ℕ
next_in indices c = head_of (drop c.begun (part c.input.index_start c.input.description.count indices))

unfoldable pub soonest : List ℕ → List Cursor → Option ℕ
soonest indices [] = None
soonest indices (c ∷ cs) = smaller (next_in indices c) (soonest indices cs)

-- one entry on, where the next one carries an index
abbrev pub begun_at : ℕ → ℕ → Option ℕ → ℕ
begun_at i k None = k
begun_at i k (Some j) = cond (eqb j i) (k + 1) k

abbrev pub advanced : List ℕ → ℕ → Cursor → Cursor
advanced indices i c = cursor c.input (begun_at i c.begun (next_in indices c))

-- ---- by the bytes

-- the entry that an input shows: its bytes, its set and its levels
abbrev pub shown_bytes : List ℕ → Cursor → List ℕ
shown_bytes bytes c = entry_at c.input.description.encoding c.input.byte_start bytes (c.begun - 1)

abbrev pub width_now : Cursor → ℕ
width_now c = width_of c.input.description.encoding

abbrev pub set_now : List ℕ → Cursor → States
set_now bytes c = set_in c.input.description.encoding (shown_bytes bytes c)

abbrev pub levels_now : List ℕ → Cursor → List ℕ
levels_now bytes c = levels_in c.input.description.encoding (shown_bytes bytes c)

abbrev pub shown_levels : List ℕ → Cursor → Unpacked
shown_levels bytes c = unpacked (width_now c) (largest_in c.input.description.encoding) (shown_bytes bytes c)

-- an input of a bit vector shows an entry, which lies within the bytes and whose mark is a set's
pub record Showing (bytes : List ℕ) (c : Cursor) : Type 0 where
  pub begun : 1 ≤ c.begun
  pub vector : has_no_text c.input.description.encoding ≡ false
  pub inside : Inside c.input.description.encoding c.input.byte_start bytes (c.begun - 1)
  pub whole : Whole c.input.description.encoding (shown_bytes bytes c)
  pub marked : has_bad_mark c.input.description.encoding (shown_bytes bytes c) ≡ false
