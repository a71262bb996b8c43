-- The recorder lent by `&mut`, and document 01's "Runs and histories, for demand 3" for the calls that take it.
-- Assumes nothing.
use Rattle.std.specs.Prelude.{ℕ, []}
use Rattle.fst.specs.declared.Description.{Description}
use Rattle.fst.specs.declared.Added.{Added}
use Rattle.fst.specs.Refusal.{Reply, refused, given, Outcome, outcome}
use Rattle.fst.specs.Record.{Lent, Kept, Held, kept_in, fresh}
use Rattle.runs.specs.Runs.{Records}
use Rattle.yoksimert.specs.declared.FlatDescription.{FlatDescription}
use Rattle.yoksimert.specs.Flat.{decoded, described_by, encoded}
use Rattle.yoksimert.specs.Exports.{flat_add}

-- what a change leaves of a recorder: its set and its count are those of the answer, and no more of it alters
abbrev pub recorded_by : FlatDescription → Added → FlatDescription
recorded_by f a = record { kind = f.kind; width = f.width; set = (encoded a.next).set; count = (encoded a.next).count }

abbrev pub numbers_of : Reply Description → Reply FlatDescription
numbers_of (refused n) = refused n
numbers_of (given d) = given (encoded d)

-- the recorder that Fresh makes of one
abbrev pub made_over : FlatDescription → Reply Description → Outcome FlatDescription
made_over f r = outcome f (numbers_of r)

abbrev pub flat_fresh : FlatDescription → ℕ → Outcome FlatDescription
flat_fresh f w = made_over f (fresh w)

-- ---- a run

-- what a recorder finds in two slices: what its description does; numbers that are no description find nothing
unfoldable pub flat_kept_in : FlatDescription → Lent → Held FlatDescription
flat_kept_in f l =
    let k = kept_in (described_by (decoded f)) l in
    record { description = f; bytes = k.bytes; indices = k.indices }

-- all of the numbers but the encoding left out
abbrev pub flat_kept_of : Held FlatDescription → Kept
flat_kept_of h = record { encoding = (described_by (decoded h.description)).encoding; bytes = h.bytes; indices = h.indices }

-- those of Add a change with the recorder lent
abbrev pub by_numbers : Records FlatDescription
by_numbers = record { found = flat_kept_in; added = flat_add; Set = ℕ; largest = λ f. f.set }

-- a run starts with the recorder that Fresh leaves, whatever it was before
abbrev pub flat_start : FlatDescription → ℕ → Held FlatDescription
flat_start f w = record { description = (flat_fresh f w).left; bytes = []; indices = [] }
