-- Document 01's examples of comparing, by computation over the definitions.
-- Assumes nothing.
use mathlib.Core.Path.{◌≡◌, refl}
use Prim.Native.Nat.{ℕ, ◌+◌, ◌*◌, ◌^◌}
use mathlib.Core.Bool.{Bool, true, false}
use mathlib.Core.List.{[], ◌∷◌, reverse}
use lib.Ieee.{eq, of_bits, of_fields, odd}
use Rattle.value.specs.declared.States.TheVariants.{Nine}
use Rattle.value.specs.Digits.{number, digits}
use Rattle.value.specs.Slice.{part, same, any}
use Rattle.value.specs.Level.{letter_of}
use Rattle.layout.specs.Entry.{entry_size}
use Rattle.fst.specs.declared.Encoding.TheVariants.{Event, Real, BitVector}
use Rattle.fst.specs.Refusal.{Reply, refused, given, tried}
use Rattle.fst.specs.Record.{Kept, kept_in, width_stands, fits_bytes, fits, is_bad}
use Rattle.fst.proofs.Rows.{around, held_by, lent_by, kept}
use Rattle.signal.specs.Decode.{entry_at, entries_from, mark_in, set_in, level_part, levels_in, has_bad_mark}
use Rattle.signal.proofs.Rows.{four, nine}
use Rattle.equality.specs.Compare.{same_real, same_value, walked, compare_records}

compared : Kept → Kept → Reply Bool
compared a b =
    let r = around 9 9 (held_by a) in
    let q = around 9 9 (held_by b) in
    compare_records r.description (lent_by r) q.description (lent_by q)

-- a real record of one entry, by its bits
real : ℕ → Kept
real x = kept Real (0 ∷ []) (reverse (digits 256 8 x))

compares :
    -- "`x01` is 61 in a Four record and 40 21 in a Nine record"
    (compared four (kept (BitVector 3 Nine) (0 ∷ []) (0x40 ∷ 0x21 ∷ [])) ≡ given true)
    × (compared four nine ≡ given false)
    -- "reals by float == (NaN differs from itself)", and 0.0 is -0.0
    × (compared (real (0x7FF * 2 ^ 52 + 1)) (real (0x7FF * 2 ^ 52 + 1)) ≡ given false)
    × (compared (real 0) (real (2 ^ 63)) ≡ given true)
    -- "Two empty records agree"
    × (compared (kept Event [] []) (kept Real [] []) ≡ given true)
    -- the first record's 10 comes before the second's 9
    × (compared (kept (BitVector 1 Nine) (0 ∷ []) (0x89 ∷ [])) (kept (BitVector 1 Nine) (0 ∷ []) (0xC0 ∷ [])) ≡ refused 10)
unfolding compared real around lent_by number digits part same any letter_of tried entry_size kept_in width_stands fits_bytes fits is_bad entry_at entries_from mark_in set_in level_part levels_in has_bad_mark same_real same_value walked compare_records eq of_bits of_fields odd
compares = (refl, refl, refl, refl, refl, refl)
