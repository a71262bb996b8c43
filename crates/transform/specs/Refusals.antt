-- Inner: the tests of Derive before its room: what they ask, and what they leave known.
-- Assumes nothing.
use Rattle.std.specs.Prelude.{◌<◌, ◌≤◌, ℕ, Bool, false, List, [], ◌∷◌, length, map, ◌≡◌}
use Rattle.value.specs.Slice.{any}
use Rattle.value.specs.declared.States.{States}
use Rattle.fst.specs.Record.{Kept, is_bad_bytes, width_of}
use Rattle.fst.specs.Refusal.{Test, ◌⇐◌}
use Rattle.fst.specs.declared.Description.{Description}
use Rattle.fst.specs.declared.Encoding.TheVariants.{BitVector}
use Rattle.runs.specs.All.{All}
use Rattle.signal.specs.Decode.{Indexed, entries_in, entry_at, has_bad_code, has_bad_mark}
use Rattle.signal.specs.Parts.{Whole}
use Rattle.derivation.specs.Piece.{end_of, extract_of, pieces_of}
use Rattle.derivation.specs.declared.DerivedBitVecSignal.{DerivedBitVecSignal}
use Rattle.derivation.specs.declared.Extract.{Extract}
use Rattle.steps.specs.Inputs.{indices_fall, inputs_of, is_bad_input, kept_all, mark_is_bad, starts_late}
use Rattle.steps.specs.Refusals.{is_bad_in, its_inputs, its_record, its_records}
use Rattle.steps.specs.declared.Input.{Input}
use Rattle.steps.specs.declared.Inputs.{Inputs}
use Rattle.steps.specs.declared.Sources.{Sources}
use Rattle.transform.specs.Derive.{code_is_bad, is_beyond, is_unfit}
use Rattle.transform.specs.declared.Task.{Task}

-- ---- one piece

-- an entry whose mark is a set's, and a piece within its width
pub record EntryPick (e : Extract) (w : ℕ) (M : States) (v : List ℕ) : Type 0 where
  pub whole : Whole (BitVector w M) v
  pub marked : has_bad_mark (BitVector w M) v ≡ false
  pub inside : end_of e ≤ w

-- a piece of a record each of whose marks is a set's
pub record RecordPick (e : Extract) (d : Description) (used : List ℕ) : Type 0 where
  pub stands : is_bad_bytes d 0 used ≡ false
  pub marked : (k : ℕ) → k < d.count → has_bad_mark d.encoding (entry_at d.encoding 0 used k) ≡ false
  pub inside : end_of e ≤ width_of d.encoding

-- ---- an input, and a piece of it

-- an input that is not 2, each of whose marks is a set's
pub record ReadableInput (s : Sources) (i : Input) : Type 0 where
  pub stands : is_bad_in s i ≡ false
  pub marked : mark_is_bad (its_record s i) ≡ false

-- a level that is no code
abbrev pub entry_is_uncoded : Indexed → Bool
entry_is_uncoded e = has_bad_code e.encoding e.bytes

abbrev pub is_uncoded : Kept → Bool
is_uncoded k = any entry_is_uncoded (entries_in k)

-- a piece of one of the inputs, within its width
pub record SourcePick (e : Extract) (s : Sources) : Type 0 where
  pub named : e.signal < length (its_inputs s)
  pub stand : any (is_bad_in s) (its_inputs s) ≡ false
  pub marked : any mark_is_bad (its_records s) ≡ false
  pub within : is_beyond (its_records s) e ≡ false

-- ---- all inputs and pieces

-- each piece is one of so many inputs'
abbrev pub Named : ℕ → List ℕ → Type 0
Named n packed = All (λ e. e.signal < n) (map extract_of packed)

-- what 10 is tried upon
pub record Readable (d : DerivedBitVecSignal) (inputs : Inputs) (bytes indices : List ℕ) : Type 0 where
  pub stand : any (is_bad_input bytes indices) (inputs_of inputs) ≡ false
  pub fit : is_unfit d inputs.count (kept_all bytes indices inputs) ≡ false
  pub marked : any mark_is_bad (kept_all bytes indices inputs) ≡ false

-- what stepping and writing rest on: no number before 7 is refused
pub record Derivable (d : DerivedBitVecSignal) (inputs : Inputs) (bytes indices : List ℕ) : Type 0 where
  pub stand : any (is_bad_input bytes indices) (inputs_of inputs) ≡ false
  pub fit : is_unfit d inputs.count (kept_all bytes indices inputs) ≡ false
  pub begun : any starts_late (kept_all bytes indices inputs) ≡ false
  pub rising : any indices_fall (kept_all bytes indices inputs) ≡ false
  pub marked : any mark_is_bad (kept_all bytes indices inputs) ≡ false
  pub coded : any (code_is_bad (kept_all bytes indices inputs)) (pieces_of d) ≡ false

abbrev pub ReadableOf : Task → Type 0
ReadableOf t = let s = t.sources.now in Readable t.derivation.now s.inputs.now s.bytes.now s.indices.now

abbrev pub DerivableOf : Task → Type 0
DerivableOf t = let s = t.sources.now in Derivable t.derivation.now s.inputs.now s.bytes.now s.indices.now

-- the numbers of Derive before 7
unfoldable pub first_tests : DerivedBitVecSignal → Inputs → List ℕ → List ℕ → List Test
first_tests d inputs bytes indices =
    let ks = kept_all bytes indices inputs in
    2 ⇐ any (is_bad_input bytes indices) (inputs_of inputs)
    ∷ 14 ⇐ is_unfit d inputs.count ks
    ∷ 15 ⇐ any starts_late ks
    ∷ 11 ⇐ any indices_fall ks
    ∷ 9 ⇐ any mark_is_bad ks
    ∷ 10 ⇐ any (code_is_bad ks) (pieces_of d)
    ∷ []
