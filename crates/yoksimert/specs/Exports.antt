-- What each exported operation does with any numbers: the operation's definition where they are a description, and else 2.
-- Assumes nothing.
use Rattle.std.specs.Prelude.{Bool, Result, Ok, Err, ℕ, ◌+◌, ◌*◌, List}
use Rattle.fst.specs.declared.Description.{Description}
use Rattle.fst.specs.declared.Refusal.{Refusal}
use Rattle.fst.specs.Refusal.{Reply, Outcome, refused, refusal_number}
use Rattle.fst.specs.Record.{Lent, Recorder, size_of}
use Rattle.fst.specs.Change.{Change, add_change}
use Rattle.signal.specs.Read.{read_entry, read_text}
use Rattle.equality.specs.Compare.{compare_records}
use Rattle.numbers.specs.Number.{Form, Value, read_number}
use Rattle.yoksimert.specs.declared.FlatDescription.{FlatDescription}
use Rattle.yoksimert.specs.declared.FlatEntry.{FlatEntry}
use Rattle.yoksimert.specs.Flat.{decoded, encoded, no_entry, flat_entry}

-- ---- Add a change

-- the numbers and the two slices, whole
abbrev pub FlatRecorder : Type 0
FlatRecorder = Recorder FlatDescription

abbrev pub flat_left : Outcome (Recorder Description) → Outcome FlatRecorder
flat_left o =
    record {
      refused = o.refused;
      left = record { description = encoded o.left.description; bytes = o.left.bytes; indices = o.left.indices };
    }

-- what a call leaves, by its number and by the recorder and the slices as they are then
abbrev pub left_by_flat : ℕ → FlatDescription → List ℕ → List ℕ → Outcome FlatRecorder
left_by_flat n f bytes indices = record { refused = n; left = record { description = f; bytes = bytes; indices = indices } }

abbrev pub add_to : Result Description Refusal → FlatDescription → Lent → ℕ → Change → Outcome FlatRecorder
add_to (Ok d) f l i c = flat_left (add_change d l i c)
add_to (Err r) f l i c = left_by_flat (refusal_number r) f l.bytes l.indices

unfoldable pub flat_add : FlatDescription → Lent → ℕ → Change → Outcome FlatRecorder
flat_add f l i c = add_to (decoded f) f l i c

-- ---- Read an entry, Text of an entry, Numbers, Compare

abbrev pub read_in : Result Description Refusal → List ℕ → ℕ → ℕ → FlatEntry
read_in (Ok d) bytes start k = flat_entry (start + (k * size_of d.encoding + size_of d.encoding)) (read_entry d bytes start k)
read_in (Err r) bytes start k = no_entry (refusal_number r)

unfoldable pub flat_read : FlatDescription → List ℕ → ℕ → ℕ → FlatEntry
flat_read f bytes start k = read_in (decoded f) bytes start k

abbrev pub read_text_in : Result Description Refusal → List ℕ → ℕ → ℕ → List ℕ → Outcome (List ℕ)
read_text_in (Ok d) bytes start k out = read_text d bytes start k out
read_text_in (Err r) bytes start k out = record { refused = refusal_number r; left = out }

unfoldable pub flat_text : FlatDescription → List ℕ → ℕ → ℕ → List ℕ → Outcome (List ℕ)
flat_text f bytes start k out = read_text_in (decoded f) bytes start k out

abbrev pub read_number_in : (f : Form) → Result Description Refusal → List ℕ → ℕ → ℕ → Reply (Value f)
read_number_in f (Ok d) bytes start k = read_number f d bytes start k
read_number_in f (Err r) bytes start k = refused (refusal_number r)

unfoldable pub flat_read_number : (f : Form) → FlatDescription → List ℕ → ℕ → ℕ → Reply (Value f)
flat_read_number f d bytes start k = read_number_in f (decoded d) bytes start k

abbrev pub compared_in : Result Description Refusal → Lent → Result Description Refusal → Lent → Reply Bool
compared_in (Ok d) l (Ok e) m = compare_records d l e m
compared_in (Ok d) l (Err r) m = refused (refusal_number r)
compared_in (Err r) l e m = refused (refusal_number r)

unfoldable pub flat_compare : FlatDescription → Lent → FlatDescription → Lent → Reply Bool
flat_compare f l g m = compared_in (decoded f) l (decoded g) m
