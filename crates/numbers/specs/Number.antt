-- Document 02, E1: an entry of a bit vector read as a number.
-- Assumes nothing.
use Rattle.std.specs.Prelude.{ℕ, ◌*◌, ◌^◌, ◌/◌, ◌%◌, Bool, true, false, ◌&&◌, ◌||◌, not, List, [], ◌∷◌, ◌++◌, eqb, leb, ltb, ℤ, pos, length}
use Rattle.std.proofs.Math.IntN.{sub_ℕ}
use Rattle.value.specs.Digits.{number, digits}
use Rattle.value.specs.Slice.{any}
use Rattle.fst.specs.declared.Description.{Description}
use Rattle.fst.specs.Refusal.{Reply, given, ◌⇐◌, tried}
use Rattle.fst.specs.Record.{width_of}
use Rattle.signal.specs.Decode.{entry_at, levels_in}
use Rattle.signal.specs.Read.{unreadable}

-- ---- the number of levels 0 and 1

-- how levels are read
pub data Form : Type 0 where
  unsigned : Form
  signed : Form
  decimal : Form

-- "two's complement signed": the first level weighs below zero what it weighs above in the unsigned number; `sub_ℕ a b` is a - b
unfoldable pub signed_of : List ℕ → ℤ
signed_of [] = pos 0
signed_of (b ∷ levels) = sub_ℕ (number 2 levels) (b * 2 ^ length levels)

-- "packed decimal, four bits a digit, highest first"
abbrev pub digits_of : List ℕ → List ℕ
digits_of levels = digits 16 (length levels / 4) (number 2 levels)

-- by the form
abbrev pub Value : Form → Type 0
Value unsigned = ℕ
Value signed = ℤ
Value decimal = ℕ

abbrev pub value_of : (f : Form) → List ℕ → Value f
value_of unsigned levels = number 2 levels
value_of signed levels = signed_of levels
value_of decimal levels = number 10 (digits_of levels)

-- ---- what is no number

abbrev pub is_decimal : Form → Bool
is_decimal unsigned = false
is_decimal signed = false
is_decimal decimal = true

-- "not a multiple of 4"
abbrev pub has_part_digit : ℕ → Bool
has_part_digit w = not (eqb (w % 4) 0)

-- "a width above 64, or not a multiple of 4 for packed decimal, is 16"
abbrev pub is_wrong_width : Form → ℕ → Bool
is_wrong_width f w = ltb 64 w || is_decimal f && has_part_digit w

-- "a level other than 0 or 1 is 17"
abbrev pub has_other : List ℕ → Bool
has_other levels = any (leb 2) levels

-- "a digit above 9 is 18"
abbrev pub has_high_digit : Form → List ℕ → Bool
has_high_digit f levels = is_decimal f && any (leb 10) (digits_of levels)

-- ---- the operation

-- "After the refusals of reading text, 7 aside: .. 16, .. 17, .. 18, in that order"
unfoldable pub read_number : (f : Form) → Description → List ℕ → ℕ → ℕ → Reply (Value f)
read_number f d bytes start k =
    let levels = levels_in d.encoding (entry_at d.encoding start bytes k) in
    tried
    (unreadable d bytes start k
    ++ (16 ⇐ is_wrong_width f (width_of d.encoding) ∷ 17 ⇐ has_other levels ∷ 18 ⇐ has_high_digit f levels ∷ []))
    (given (value_of f levels))
