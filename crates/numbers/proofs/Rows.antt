-- Document 02's examples of numbers, and the corners of each form, by computation over the definitions.
-- Assumes nothing.
use mathlib.Core.Path.{◌≡◌, refl}
use Prim.Native.Nat.{ℕ, ◌^◌, ◌-◌}
use mathlib.Core.List.{List, [], ◌∷◌, ◌++◌}
use lib.IntN.{ℤ, pos, negsuc}
use lib.ListN.{replicate}
use Rattle.value.specs.declared.States.TheVariants.{Two, Four, Nine}
use Rattle.value.specs.Digits.{number, digits}
use Rattle.value.specs.Slice.{part, any}
use Rattle.fst.specs.declared.Encoding.TheVariants.{Real, BitVector}
use Rattle.fst.specs.Refusal.{Reply, refused, given, tried}
use Rattle.layout.specs.Entry.{entry_size}
use Rattle.fst.specs.Record.{Kept, has_no_text, width_stands, fits_bytes, is_bad_bytes}
use Rattle.fst.proofs.Rows.{around, held_by, kept}
use Rattle.signal.specs.Decode.{entry_at, mark_in, set_in, level_part, levels_in, has_bad_mark}
use Rattle.numbers.specs.Number.{unsigned, signed, decimal, signed_of, read_number}

-- entry 0 of a record in slices with filler around it, in the three forms
pub record Counts : Type 0 where
  pub of : Kept
  pub unsigned : Reply ℕ
  pub signed : Reply ℤ
  pub decimal : Reply ℕ

Read : Counts → Type 0
Read c =
    let r = around 9 9 (held_by c.of) in
    (read_number unsigned r.description r.bytes 2 0 ≡ c.unsigned)
    × (read_number signed r.description r.bytes 2 0 ≡ c.signed)
    × (read_number decimal r.description r.bytes 2 0 ≡ c.decimal)

AllRead : List Counts → Type 0
AllRead [] = Unit
AllRead (c ∷ l) = Read c × AllRead l

abbrev counts : List Counts
counts =
    -- "width 1: `1` is -1"
    record { of = kept (BitVector 1 Two) (0 ∷ []) (0x01 ∷ []); unsigned = given 1; signed = given (negsuc 0); decimal = refused 16 }
    -- "width 64 reaches both ends"
    ∷ record { of = kept (BitVector 64 Two) (0 ∷ []) (0x80 ∷ 0x00 ∷ 0x00 ∷ 0x00 ∷ 0x00 ∷ 0x00 ∷ 0x00 ∷ 0x00 ∷ []); unsigned = given (2 ^ 63); signed = given (negsuc (2 ^ 63 - 1)); decimal = given 8000000000000000 }
    ∷ record { of = kept (BitVector 64 Two) (0 ∷ []) (0x7F ∷ 0xFF ∷ 0xFF ∷ 0xFF ∷ 0xFF ∷ 0xFF ∷ 0xFF ∷ 0xFF ∷ []); unsigned = given (2 ^ 63 - 1); signed = given (pos (2 ^ 63 - 1)); decimal = refused 18 }
    ∷ record { of = kept (BitVector 64 Two) (0 ∷ []) (0xFF ∷ 0xFF ∷ 0xFF ∷ 0xFF ∷ 0xFF ∷ 0xFF ∷ 0xFF ∷ 0xFF ∷ []); unsigned = given (2 ^ 64 - 1); signed = given (negsuc 0); decimal = refused 18 }
    -- sixteen digits
    ∷ record { of = kept (BitVector 64 Two) (0 ∷ []) (0x99 ∷ 0x99 ∷ 0x99 ∷ 0x99 ∷ 0x99 ∷ 0x99 ∷ 0x99 ∷ 0x99 ∷ []); unsigned = given 11068046444225730969; signed = given (negsuc 7378697629483820646); decimal = given 9999999999999999 }
    -- four bits a digit, highest first; bits above the levels are none of theirs
    ∷ record { of = kept (BitVector 12 Two) (0 ∷ []) (0xF3 ∷ 0x45 ∷ []); unsigned = given 837; signed = given (pos 837); decimal = given 345 }
    -- "a derived entry marked Four but holding only 0 and 1 is a number", and one marked Nine
    ∷ record { of = kept (BitVector 4 Four) (0 ∷ []) (0x40 ∷ 0x05 ∷ []); unsigned = given 3; signed = given (pos 3); decimal = given 3 }
    ∷ record { of = kept (BitVector 4 Nine) (0 ∷ []) (0x80 ∷ 0x01 ∷ 0x01 ∷ []); unsigned = given 5; signed = given (pos 5); decimal = given 5 }
    ∷ record { of = kept (BitVector 4 Nine) (0 ∷ []) (0x00 ∷ 0x00 ∷ 0x09 ∷ []); unsigned = given 9; signed = given (negsuc 6); decimal = given 9 }
    -- a width that is no multiple of 4, and one above 64
    ∷ record { of = kept (BitVector 5 Two) (0 ∷ []) (0x15 ∷ []); unsigned = given 21; signed = given (negsuc 10); decimal = refused 16 }
    ∷ record { of = kept (BitVector 65 Two) (0 ∷ []) (0x01 ∷ 0x00 ∷ 0x00 ∷ 0x00 ∷ 0x00 ∷ 0x00 ∷ 0x00 ∷ 0x00 ∷ 0x00 ∷ []); unsigned = refused 16; signed = refused 16; decimal = refused 16 }
    -- another level comes before a digit above 9
    ∷ record { of = kept (BitVector 8 Four) (0 ∷ []) (0x40 ∷ 0x55 ∷ 0x02 ∷ []); unsigned = refused 17; signed = refused 17; decimal = refused 17 }
    -- a bad mark and a bad code come before a width
    ∷ record { of = kept (BitVector 65 Nine) (0 ∷ []) (0xC0 ∷ replicate 32 0); unsigned = refused 9; signed = refused 9; decimal = refused 9 }
    ∷ record { of = kept (BitVector 65 Nine) (0 ∷ []) (0x80 ∷ replicate 31 0 ++ (9 ∷ [])); unsigned = refused 10; signed = refused 10; decimal = refused 10 }
    -- no entry, and a record of reals
    ∷ record { of = kept (BitVector 4 Two) [] []; unsigned = refused 8; signed = refused 8; decimal = refused 8 }
    ∷ record { of = kept Real (0 ∷ []) (replicate 8 0); unsigned = refused 3; signed = refused 3; decimal = refused 3 }
    -- no record's width
    ∷ record { of = kept (BitVector 4097 Two) (0 ∷ []) []; unsigned = refused 2; signed = refused 2; decimal = refused 2 }
    ∷ []

counts_hold : AllRead counts
unfolding Read AllRead around number digits part any tried entry_size width_stands fits_bytes is_bad_bytes entry_at mark_in set_in level_part levels_in has_bad_mark has_no_text signed_of read_number
counts_hold = ((refl, refl, refl), ((refl, refl, refl), ((refl, refl, refl), ((refl, refl, refl), ((refl, refl, refl), ((refl, refl, refl), ((refl, refl, refl), ((refl, refl, refl), ((refl, refl, refl), ((refl, refl, refl), ((refl, refl, refl), ((refl, refl, refl), ((refl, refl, refl), ((refl, refl, refl), ((refl, refl, refl), ((refl, refl, refl), ((refl, refl, refl), tt)))))))))))))))))
