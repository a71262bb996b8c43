-- The twelve rows of document 01: one list, one proof, over the definitions themselves.
-- Assumes nothing.
use Prim.Native.Nat.{◌-◌, ℕ}
use lib.ListN.{length, replicate}
use mathlib.Core.List.{List, [], ◌++◌, ◌∷◌, map}
use mathlib.Core.Path.{◌≡◌, ap, refl}
use Rattle.value.specs.Digits.{digits, number}
use Rattle.value.specs.Level.{code_of, fold, join_all, letter_of, place_in, set_of}
use Rattle.value.specs.Slice.{any, overlay, part, same, sum}
use Rattle.value.specs.declared.States.TheVariants.{Four}
use Rattle.layout.specs.Entry.{entry_of, entry_size, widen_all, widen_entry}
use Rattle.fst.specs.Change.{add_change, appended, changed, is_below_last, is_foreign, is_other_kind, is_other_length, refusals, stored}
use Rattle.entries.specs.Repeats.{repeats}
use Rattle.fst.specs.Record.{Kept, Recorder, fits, fits_bytes, fresh, has_no_text, is_bad, kept_in, width_stands, described}
use Rattle.fst.specs.Refusal.{given, tried}
use Rattle.fst.specs.declared.Description.{Description}
use Rattle.fst.specs.declared.Encoding.TheVariants.{BitVector}
use Rattle.fst.proofs.Rows as written
use Rattle.fst.proofs.Rows.{accepted, around, kept, lent_by, row}
use Rattle.runs.specs.Runs.{ends_like, entries_of, joined, laid_out}
use Rattle.signal.specs.Decode.{entries_from, entry_at, has_bad_mark, level_part, levels_in, mark_in, set_in}
use Rattle.offset.specs.Offset.{falls}
use Rattle.offset.proofs.Rows as sought
use Rattle.derivation.specs.Piece.{Sized, add_piece, adjoin, derivation_with, empty_derivation, extract_of, is_bad_derivation, is_bad_piece, is_bad_range, is_overfull, merging, name_added, packed_of, piece_added, slice_of}
use Rattle.steps.specs.Steps.{kept_steps, moments_from, moments_of, moved, smallest}
use Rattle.steps.specs.declared.Input.{Input}
use Rattle.steps.specs.declared.Inputs.{Inputs}
use Rattle.transform.specs.Accepted.{Accepted}
use Rattle.transform.specs.Derive.{Derived, derive, derive_refusals, is_unfit, picked}

-- ---- row 12

-- a slice of bits msb to lsb of a record that calls made, and the record that is then at the front of the output slices
record Sliced : Type 0 where
  of : written.Row
  msb : ℕ
  lsb : ℕ
  makes : Kept

input : Recorder Description → Input
input r = record { description = r.description; byte_start = (lent_by r).byte_start; index_start = (lent_by r).index_start }

alone : Input → Inputs
alone i = record { count = 1; slots = replicate 8 i }

source : written.Row → Recorder Description
source r = written.played (around r.byte_room r.index_room r.from) r.calls

-- the record at the front of five bytes and five indices
front : Kept → Derived
front k =
    record {
      answer = given (described k.encoding (length k.indices));
      bytes = k.bytes ++ replicate (5 - length k.bytes) 0xDD;
      indices = k.indices ++ replicate (5 - length k.indices) 90;
    }

Slices : Sliced → Type 0
Slices s =
    let r = source s.of in
    let d = slice_of 7 s.msb s.lsb in
    written.Holds s.of
    × (d.refused ≡ 0)
    × (derive d.left (alone (input r)) r.bytes r.indices (replicate 5 0xDD) (replicate 5 90) ≡ front s.makes)

-- w2 `x1` at 0, `01` at 4, slice of bit 0: 41, 01
abbrev twelfth : Sliced
twelfth =
    record {
      of =
          row 2
          (accepted "x1" 0 (kept (BitVector 2 Four) (0 ∷ []) (0x49 ∷ []))
          ∷ accepted "01" 4 (kept (BitVector 2 Four) (0 ∷ 4 ∷ []) (0x49 ∷ 0x01 ∷ []))
          ∷ []);
      msb = 0;
      lsb = 0;
      makes = kept (BitVector 1 Four) (0 ∷ 4 ∷ []) (0x41 ∷ 0x01 ∷ []);
    }

twelfth_holds : Slices twelfth
unfolding input alone source front Slices written.around written.lent_by written.Follows written.Holds written.played number digits part overlay same any sum place_in code_of letter_of fold set_of join_all tried entry_size entry_of widen_entry widen_all kept_in width_stands fits_bytes fits is_bad fresh is_other_kind is_other_length is_foreign is_below_last repeats appended changed refusals stored add_change ends_like joined entries_of laid_out entry_at entries_from mark_in set_in level_part levels_in has_bad_mark has_no_text falls packed_of extract_of is_bad_piece is_bad_derivation adjoin merging piece_added name_added derivation_with is_bad_range is_overfull add_piece empty_derivation smallest moved moments_from moments_of picked kept_steps is_unfit derive_refusals derive
twelfth_holds = ((refl, (refl, tt)), refl, refl)

twelfth_sized : Sized (slice_of 7 twelfth.msb twelfth.lsb).left
unfolding overlay any sum place_in tried packed_of extract_of is_bad_piece is_bad_derivation adjoin merging piece_added name_added derivation_with is_bad_range is_overfull add_piece empty_derivation
twelfth_sized = record { names = refl; bits = refl }

-- a Derive that is accepted
pub twelfth_accepted : Accepted
unfolding front Slices
twelfth_accepted =
    let r = source twelfth.of in
    record {
      derivation = (slice_of 7 twelfth.msb twelfth.lsb).left;
      inputs = alone (input r);
      bytes = r.bytes;
      indices = r.indices;
      out_bytes = replicate 5 0xDD;
      out_indices = replicate 5 90;
      made = described (BitVector 1 Four) 2;
      sized = twelfth_sized;
      is = ap (λ (d : Derived). d.answer) twelfth_holds.2;
    }

-- ---- the list

data Row : Type 0 where
  wrote : written.Row → Row
  found : sought.Sought → Row
  sliced : Sliced → Row

Holds : Row → Type 0
Holds (wrote r) = written.Holds r
Holds (found s) = sought.Finds s
Holds (sliced s) = Slices s

AllHold : List Row → Type 0
AllHold [] = Unit
AllHold (r ∷ rs) = Holds r × AllHold rs

twelve : List Row
twelve = map wrote written.rows ++ (map found sought.rows ++ (sliced twelfth ∷ []))

all_written : (l : List written.Row) (rest : List Row) → written.AllHold l → AllHold rest → AllHold (map wrote l ++ rest)
unfolding Holds AllHold written.AllHold
all_written [] rest h k = k
all_written (r ∷ l) rest h k = (h.0, all_written l rest h.1 k)

all_sought : (l : List sought.Sought) (rest : List Row) → sought.AllFind l → AllHold rest → AllHold (map found l ++ rest)
unfolding Holds AllHold sought.AllFind
all_sought [] rest h k = k
all_sought (s ∷ l) rest h k = (h.0, all_sought l rest h.1 k)

twelve_rows : (length twelve ≡ 12) × AllHold twelve
unfolding twelve Holds AllHold
twelve_rows = (
  refl,
  all_written written.rows (map found sought.rows ++ (sliced twelfth ∷ [])) (written.hold).0
      (all_sought sought.rows (sliced twelfth ∷ []) sought.rows_hold (twelfth_holds, tt)),
)
