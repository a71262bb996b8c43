-- Runs are there: four calls over slices of different lengths, starts and other contents, one refused and one a repeat with no room; and row 2.
-- Assumes nothing.
use mathlib.Core.Path.{◌≡◌, refl}
use mathlib.Core.Bool.{Bool, true, false}
use Prim.Native.Nat.{ℕ}
use Prim.Native.String.{String}
use mathlib.Core.List.{List, [], ◌∷◌, map}
use Rattle.value.specs.Text.{chars}
use Rattle.value.specs.declared.States.TheVariants.{Nine}
use Rattle.value.specs.Digits.{number, digits}
use Rattle.value.specs.Slice.{part, overlay, same, any}
use Rattle.value.specs.Level.{place_in, code_of, fold, set_of, join_all}
use Rattle.fst.specs.declared.Encoding.TheVariants.{BitVector}
use Rattle.fst.specs.Refusal.{tried}
use Rattle.layout.specs.Entry.{entry_size, entry_of, mark_byte, unmarked, level_bytes, widen_entry, widen_all}
use Rattle.fst.specs.Record.{lent, described, kept_in, width_stands, fits_bytes, fits, is_bad}
use Rattle.fst.specs.Change.{text, is_other_kind, is_other_length, is_foreign, is_below_last, appended, changed, refusals, stored, add_change}
use Rattle.entries.specs.Repeats.{repeats}
use Rattle.runs.specs.Runs.{by_value, Call, leaves, Run, fresh_held, after, Fed, fed, ends_like, joined, history_of}

abbrev call : List ℕ → ℕ → List ℕ → ℕ → ℕ → String → Call
call bytes byte_start indices index_start i s =
    record {
      lent = lent bytes byte_start indices index_start;
      index = i;
      change = text (chars s);
    }

abbrev calls' : List Call
calls' =
    call (9 ∷ 9 ∷ 9 ∷ []) 1 (5 ∷ 5 ∷ 5 ∷ 5 ∷ []) 2 4 "x"
    ∷ call (0x42 ∷ []) 0 (1 ∷ 4 ∷ []) 1 3 "0"
    ∷ call (7 ∷ 7 ∷ 0x42 ∷ []) 2 (4 ∷ []) 0 9 "X"
    ∷ call (0x42 ∷ 0 ∷ []) 0 (4 ∷ 0 ∷ []) 0 9 "h"
    ∷ []

abbrev row_two : List Call
row_two = call (9 ∷ []) 0 (5 ∷ []) 0 0 "x" ∷ call (0x42 ∷ []) 0 (0 ∷ []) 0 1 "X" ∷ []

abbrev accepted : Fed → Bool
accepted f = f.accepted

pub there : Run by_value (fresh_held 1) calls' × Run by_value (fresh_held 1) row_two
unfolding Run leaves number digits part overlay same any place_in code_of fold set_of join_all tried entry_size entry_of mark_byte unmarked level_bytes widen_entry widen_all kept_in width_stands fits_bytes fits is_bad is_other_kind is_other_length is_foreign is_below_last repeats appended changed refusals stored add_change
there = ((refl, (refl, (refl, (refl, tt)))), (refl, (refl, tt)))

pub ends : (map accepted (fed by_value (fresh_held 1) calls') ≡ true ∷ false ∷ true ∷ true ∷ [])
    × (history_of (fed by_value (fresh_held 1) calls') ≡ record { index = 4; string = chars "x" } ∷ record { index = 9; string = chars "h" } ∷ [])
    × (after by_value (fresh_held 1) calls'
    ≡ record { description = described (BitVector 1 Nine) 2; bytes = 0x42 ∷ 0x84 ∷ []; indices = 4 ∷ 9 ∷ [] })
    -- "Row 2 gives one pair"
    × (history_of (fed by_value (fresh_held 1) row_two) ≡ record { index = 0; string = chars "x" } ∷ [])
unfolding after fed ends_like joined leaves number digits part overlay same any place_in code_of fold set_of join_all tried entry_size entry_of mark_byte unmarked level_bytes widen_entry widen_all kept_in width_stands fits_bytes fits is_bad is_other_kind is_other_length is_foreign is_below_last repeats appended changed refusals stored add_change
ends = (refl, refl, refl, refl)
