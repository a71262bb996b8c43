-- Inner: the tests of an input by itself, and of all inputs.
-- Assumes nothing.
use Rattle.std.specs.Prelude.{ℕ, List, Bool, false, ◌≡◌}
use Rattle.value.specs.Slice.{any}
use Rattle.fst.specs.Record.{Kept}
use Rattle.fst.specs.declared.Description.{Description}
use Rattle.steps.specs.Inputs.{input_kept, inputs_of, is_bad_input, kept_all}
use Rattle.steps.specs.declared.Input.{Input}
use Rattle.steps.specs.declared.Sources.{Sources}

-- a record by its description, used bytes and time indices
abbrev pub kept_with : Description → List ℕ → List ℕ → Kept
kept_with d used indices = record { encoding = d.encoding; bytes = used; indices = indices }

abbrev pub its_inputs : Sources → List Input
its_inputs s = inputs_of s.inputs.now

-- the used part of a record that lies in the two slices, and those of all
abbrev pub its_record : Sources → Input → Kept
its_record s i = input_kept s.bytes.now s.indices.now i

abbrev pub its_records : Sources → List Kept
its_records s = kept_all s.bytes.now s.indices.now s.inputs.now

-- 2, of one input and of all
abbrev pub is_bad_in : Sources → Input → Bool
is_bad_in s i = is_bad_input s.bytes.now s.indices.now i

abbrev pub bad_in : Sources → Bool
bad_in s = any (is_bad_in s) (its_inputs s)

-- none of them is 2
abbrev pub Stand : Sources → Type 0
Stand s = bad_in s ≡ false
