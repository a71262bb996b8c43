-- Document 01, "Derive": the input records, and what each is refused for by itself.
-- Assumes nothing.
use Rattle.std.specs.Prelude.{suc, zero, ℕ, take, Bool, false, true, List, [], ◌∷◌, map}
use Rattle.value.specs.Slice.{any}
use Rattle.fst.specs.Record.{Kept, Lent, has_no_text, is_bad, kept_in, lent}
use Rattle.fst.specs.declared.Encoding.{Encoding}
use Rattle.signal.specs.Decode.{Indexed, entries_in, has_bad_mark}
use Rattle.offset.specs.Offset.{falls}
use Rattle.steps.specs.declared.Input.{Input}
use Rattle.steps.specs.declared.Inputs.{Inputs}

-- "Input records share one lent byte slice and one index list, each with its starts"
abbrev pub lent_to : List ℕ → List ℕ → Input → Lent
lent_to bytes indices i = lent bytes i.byte_start indices i.index_start

abbrev pub inputs_of : Inputs → List Input
inputs_of inputs = take inputs.count inputs.slots

abbrev pub is_bad_input : List ℕ → List ℕ → Input → Bool
is_bad_input bytes indices i = is_bad i.description (lent_to bytes indices i)

abbrev pub input_kept : List ℕ → List ℕ → Input → Kept
input_kept bytes indices i = kept_in i.description (lent_to bytes indices i)

-- the input records' used parts
abbrev pub kept_all : List ℕ → List ℕ → Inputs → List Kept
kept_all bytes indices inputs = map (input_kept bytes indices) (inputs_of inputs)

abbrev pub encoding_of : Kept → Encoding
encoding_of k = k.encoding

-- "an input not a bit vector"
abbrev pub is_no_bit_vector : Kept → Bool
is_no_bit_vector k = has_no_text (encoding_of k)

-- "15: an input empty or not starting at index 0"
abbrev pub is_late : List ℕ → Bool
is_late [] = true
is_late (zero ∷ l) = false
is_late (suc i ∷ l) = true

abbrev pub starts_late : Kept → Bool
starts_late k = is_late k.indices

abbrev pub indices_fall : Kept → Bool
indices_fall k = falls k.indices

abbrev pub entry_is_bad : Indexed → Bool
entry_is_bad e = has_bad_mark e.encoding e.bytes

abbrev pub mark_is_bad : Kept → Bool
mark_is_bad k = any entry_is_bad (entries_in k)
