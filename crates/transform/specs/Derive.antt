-- Document 01, "A derived record", "Derive" and "Derived list".
-- Assumes nothing.
use Rattle.std.specs.Prelude.{Option, None, Some, Result, ◌-◌, ℕ, eqb, ltb, get_or, length, Bool, ◌&&◌, ◌||◌, not, List, [], ◌++◌, ◌∷◌, map}
use Rattle.value.specs.Level.{has_no_code, join_all, mark_of, text_of}
use Rattle.value.specs.Slice.{any, overlay, part, same}
use Rattle.value.specs.declared.States.{States}
use Rattle.value.specs.declared.States.TheVariants.{Two}
use Rattle.fst.specs.Change.{lacks_room}
use Rattle.fst.specs.Record.{Kept, Lent, largest_in, width_of, lent, described}
use Rattle.fst.specs.Refusal.{Reply, Test, ◌⇐◌, given, refused, told, tried}
use Rattle.fst.specs.declared.Description.{Description}
use Rattle.fst.specs.declared.Encoding.TheVariants.{Event}
use Rattle.fst.specs.declared.Refusal.{Refusal}
use Rattle.runs.specs.Runs.{Step, laid_out}
use Rattle.signal.specs.Decode.{Indexed, entries_in, levels_in}
use Rattle.derivation.specs.Piece.{end_of, is_bad_derivation, pieces_of}
use Rattle.derivation.specs.declared.DerivedBitVecSignal.{DerivedBitVecSignal}
use Rattle.derivation.specs.declared.Extract.{Extract}
use Rattle.steps.specs.Inputs.{encoding_of, indices_fall, inputs_of, is_bad_input, is_no_bit_vector, kept_all, mark_is_bad, starts_late}
use Rattle.steps.specs.Steps.{Moment, Shown, kept_steps}
use Rattle.steps.specs.declared.Inputs.{Inputs}
use Rattle.transform.specs.declared.Task.{Task}

-- ---- what a step yields

-- the levels of bits msb to lsb of an input's levels, of which the last is bit 0
abbrev pub picked_of : Extract → List ℕ → List ℕ
picked_of e codes = part (length codes - end_of e) e.width codes

-- an input that has not begun has none
abbrev pub codes_shown : Option Shown → List ℕ
codes_shown None = []
codes_shown (Some s) = s.codes

abbrev pub set_shown : Option Shown → States
set_shown None = Two
set_shown (Some s) = s.set

-- "the picked levels, highest piece first"
unfoldable pub picked : List Extract → List (Option Shown) → List ℕ
picked [] showing = []
picked (e ∷ es) showing = picked_of e (codes_shown (get_or showing e.signal None)) ++ picked es showing

-- "under the largest of the inputs' current own sets"
abbrev pub largest_shown : List (Option Shown) → States
largest_shown l = join_all (map set_shown l)

abbrev pub yielded : List Extract → Moment → Step
yielded es m = record { index = m.index; string = text_of (picked es m.showing); set = largest_shown m.showing }

-- ---- the derived list

-- "dropped when string and set equal the entry before"
abbrev pub same_step : Step → Step → Bool
same_step a b = same a.string b.string && eqb (mark_of a.set) (mark_of b.set)

-- "The index, string in small letters and set of each step .., in order, less the dropped steps"
abbrev pub derived_list : List Extract → List Kept → List Step
derived_list es ks = kept_steps (yielded es) same_step ks

-- "The largest set is the largest of the inputs' largest sets"
abbrev pub largest_among : List Kept → States
largest_among ks = join_all (map (λ (k : Kept). largest_in k.encoding) ks)

-- "After every accepted Derive the record is this list laid out"
abbrev pub derived_kept : DerivedBitVecSignal → List Kept → Kept
derived_kept d ks = laid_out d.width (largest_among ks) (derived_list (pieces_of d) ks)

-- ---- Derive

-- "a piece beyond its width"
abbrev pub is_beyond : List Kept → Extract → Bool
is_beyond ks e = ltb (width_of (get_or (map encoding_of ks) e.signal Event)) (end_of e)

-- "14 (as above, or no piece, not one record for each input, an input not a bit vector, a piece beyond its width)"
unfoldable pub is_unfit : DerivedBitVecSignal → ℕ → List Kept → Bool
is_unfit d count ks =
    is_bad_derivation d
    || eqb d.piece_count 0
    || not (eqb count d.input_count)
    || any is_no_bit_vector ks
    || any (is_beyond ks) (pieces_of d)

-- "10 at a picked level, others untried as in the Rust": in every entry of the piece's input
abbrev pub pick_is_bad : Extract → Indexed → Bool
pick_is_bad e x = has_no_code (picked_of e (levels_in x.encoding x.bytes))

abbrev pub code_is_bad : List Kept → Extract → Bool
code_is_bad ks e = any (pick_is_bad e) (get_or (map entries_in ks) e.signal [])

-- "output slices are separate", and written from their front
abbrev pub lent_out : List ℕ → List ℕ → Lent
lent_out bytes indices = lent bytes 0 indices 0

-- "Each number is tried over all inputs before the next"
unfoldable pub derive_refusals : DerivedBitVecSignal → Inputs → List ℕ → List ℕ → Lent → List Test
derive_refusals d inputs bytes indices out =
    let ks = kept_all bytes indices inputs in
    2 ⇐ any (is_bad_input bytes indices) (inputs_of inputs)
    ∷ 14 ⇐ is_unfit d inputs.count ks
    ∷ 15 ⇐ any starts_late ks
    ∷ 11 ⇐ any indices_fall ks
    ∷ 9 ⇐ any mark_is_bad ks
    ∷ 10 ⇐ any (code_is_bad ks) (pieces_of d)
    ∷ 7 ⇐ lacks_room (derived_kept d ks) out
    ∷ []

-- what Derive leaves: the number or the description, and the output slices
pub record Derived : Type 0 where
  pub answer : Reply Description
  pub bytes : List ℕ
  pub indices : List ℕ

abbrev pub derived_by : Lent → Reply Kept → Derived
derived_by out (refused n) = record { answer = refused n; bytes = out.bytes; indices = out.indices }
derived_by out (given k) =
    record {
      answer = given (described k.encoding (length k.indices));
      bytes = overlay out.bytes 0 k.bytes;
      indices = overlay out.indices 0 k.indices;
    }

-- the derived list of what Derive is given
abbrev pub derived_from : DerivedBitVecSignal → Inputs → List ℕ → List ℕ → List Step
derived_from d inputs bytes indices = derived_list (pieces_of d) (kept_all bytes indices inputs)

abbrev pub derived_of : Task → List Step
derived_of t = let s = t.sources.now in derived_from t.derivation.now s.inputs.now s.bytes.now s.indices.now

-- an answer and the output slices as they are then
abbrev pub left_by_derive : Result Description Refusal → List ℕ → List ℕ → Derived
left_by_derive made bytes indices = record { answer = told made; bytes = bytes; indices = indices }

unfoldable pub derive : DerivedBitVecSignal → Inputs → List ℕ → List ℕ → List ℕ → List ℕ → Derived
derive d inputs bytes indices out_bytes out_indices =
    let out = lent_out out_bytes out_indices in
    let ks = kept_all bytes indices inputs in
    derived_by out (tried (derive_refusals d inputs bytes indices out) (given (derived_kept d ks)))
