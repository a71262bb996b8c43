-- Document 01's examples of reading, by computation over the definitions.
-- Assumes nothing.
use mathlib.Core.Path.{◌≡◌, refl}
use Prim.Native.Nat.{ℕ}
use Prim.Native.String.{String}
use mathlib.Core.List.{List, [], ◌∷◌}
use Rattle.value.specs.declared.States.{States}
use Rattle.value.specs.declared.States.TheVariants.{Two, Four, Nine}
use Rattle.value.specs.Text.{chars}
use Rattle.value.specs.Digits.{number, digits}
use Rattle.value.specs.Slice.{part, overlay, any}
use Rattle.value.specs.Level.{letter_of}
use Rattle.fst.specs.declared.Encoding.TheVariants.{BitVector}
use Rattle.fst.specs.Refusal.{Reply, refused, given, tried}
use Rattle.layout.specs.Entry.{entry_size}
use Rattle.fst.specs.Record.{Kept, has_no_text, width_stands, fits_bytes, is_bad_bytes}
use Rattle.fst.proofs.Rows.{around, held_by, kept}
use Rattle.signal.specs.declared.Kind.TheVariants as kind
use Rattle.signal.specs.Decode.{entry_at, mark_in, set_in, level_part, levels_in, has_bad_mark}
use Rattle.signal.specs.Read.{Entry, read_entry, text_left, read_text}

-- the entry of a record in slices with filler around it: its own set, the part that holds its levels and its text; or the number of its refusal
pub record Shows : Type 0 where
  pub of : Kept
  pub entry : ℕ
  pub read : Reply Entry
  pub refused : ℕ
  pub text : String

Reads : Shows → Type 0
Reads s =
    let r = around 5 5 (held_by s.of) in
    (read_entry r.description r.bytes 2 s.entry ≡ s.read)
    × (read_text r.description r.bytes 2 s.entry (chars "....") ≡ text_left s.refused (chars s.text))

AllRead : List Shows → Type 0
AllRead [] = Unit
AllRead (s ∷ l) = Reads s × AllRead l

abbrev levels : States → List ℕ → Reply Entry
levels s v = given (record { kind = kind.BitVector; set = s; part = v })

abbrev pub four : Kept
four = kept (BitVector 3 Four) (0 ∷ []) (0x61 ∷ [])

abbrev pub nine : Kept
nine = kept (BitVector 3 Nine) (0 ∷ 0 ∷ []) (0x40 ∷ 0x21 ∷ 0x84 ∷ 0x31 ∷ [])

abbrev shows : List Shows
shows =
    -- rows 3 and 4 read back: a mark that shares the levels' first byte is part of it and of no level
    record { of = four; entry = 0; read = levels Four (0x61 ∷ []); refused = 0; text = "x01." }
    ∷ record { of = nine; entry = 0; read = levels Four (0x21 ∷ []); refused = 0; text = "x01." }
    ∷ record { of = nine; entry = 1; read = levels Nine (0x84 ∷ 0x31 ∷ []); refused = 0; text = "hz1." }
    ∷ record { of = nine; entry = 2; read = refused 8; refused = 8; text = "...." }
    -- a mark above the largest set, and mark 3; under Two nothing is a mark
    ∷ record { of = kept (BitVector 1 Four) (0 ∷ []) (0x84 ∷ []); entry = 0; read = refused 9; refused = 9; text = "...." }
    ∷ record { of = kept (BitVector 1 Nine) (0 ∷ []) (0xC4 ∷ []); entry = 0; read = refused 9; refused = 9; text = "...." }
    ∷ record { of = kept (BitVector 1 Two) (0 ∷ []) (0xC1 ∷ []); entry = 0; read = levels Two (0xC1 ∷ []); refused = 0; text = "1..." }
    -- code 9; and a width that the text slice lacks
    ∷ record { of = kept (BitVector 1 Nine) (0 ∷ []) (0x89 ∷ []); entry = 0; read = levels Nine (0x89 ∷ []); refused = 10; text = "...." }
    ∷ record { of = kept (BitVector 5 Two) (0 ∷ []) (0x03 ∷ []); entry = 0; read = levels Two (0x03 ∷ []); refused = 7; text = "...." }
    ∷ []

shows_hold : AllRead shows
unfolding Reads AllRead around number digits part overlay any letter_of tried entry_size width_stands fits_bytes is_bad_bytes entry_at mark_in set_in level_part levels_in has_bad_mark read_entry has_no_text read_text
shows_hold = (
  (refl, refl),
  ((refl, refl), ((refl, refl), ((refl, refl), ((refl, refl), ((refl, refl), ((refl, refl), ((refl, refl), ((refl, refl), tt)))))))),
)
