-- Inner: the steps by which an entry is read as a number.
-- Assumes nothing.
use Rattle.std.specs.Prelude.{ℕ, suc, ◌-◌, ◌^◌, ◌/◌, ◌≤◌, ◌≡◌, cond, List, [], ◌∷◌, eqb, leb, ltb, ℤ, pos, negsuc, length, Option, None, Some}
use Rattle.value.specs.declared.States.{States}
use Rattle.value.specs.Digits.{number, digits}
use Rattle.value.specs.Slice.{any}
use Rattle.value.specs.Level.{len_of, has_no_code}
use Rattle.fst.specs.declared.Encoding.{Encoding}
use Rattle.fst.specs.declared.Refusal.{Refusal}
use Rattle.fst.specs.Refusal.{Reply, refused, given, ◌⇐◌, tried, refusal_number}
use Rattle.fst.specs.Record.{width_of}
use Rattle.signal.specs.Decode.{levels_in, has_bad_mark}
use Rattle.numbers.specs.Number.{has_part_digit, has_other}

-- ---- levels as bits

-- none where one is other than 0 and 1
unfoldable pub bits_of_levels : List ℕ → Option ℕ
bits_of_levels levels = cond (has_other levels) None (Some (number 2 levels))

-- bytes that hold w levels of a set, as few as 64 bits hold
pub record Few (w : ℕ) (S : States) (levels : List ℕ) : Type 0 where
  pub some : 1 ≤ w
  pub few : w ≤ 64
  pub long : length levels ≡ len_of w S

-- ---- the unsigned number of levels, and of an entry

-- a refusal that 10 comes before
abbrev pub refused_levels : List ℕ → Refusal → Reply ℕ
refused_levels levels r = tried (10 ⇐ has_no_code levels ∷ []) (refused (refusal_number r))

unfoldable pub binary_of : ℕ → List ℕ → Reply ℕ
binary_of w levels = tried (10 ⇐ has_no_code levels ∷ 16 ⇐ ltb 64 w ∷ 17 ⇐ has_other levels ∷ []) (given (number 2 levels))

abbrev pub binary_in : Encoding → List ℕ → Reply ℕ
binary_in e v = tried (9 ⇐ has_bad_mark e v ∷ []) (binary_of (width_of e) (levels_in e v))

-- ---- the other forms, by the unsigned number of w levels

abbrev pub signed_by : ℕ → ℕ → ℤ
signed_by w n = cond (ltb n (2 ^ (w - 1))) (pos n) (negsuc (2 ^ w - suc n))

abbrev pub signed_from : ℕ → Reply ℕ → Reply ℤ
signed_from w (refused n) = refused n
signed_from w (given n) = given (signed_by w n)

-- so many digits of four bits each
abbrev pub decimal_by : ℕ → ℕ → Reply ℕ
decimal_by count n =
    let ds = digits 16 count n in
    tried (18 ⇐ any (leb 10) ds ∷ []) (given (number 10 ds))

-- 16 comes before 17, and behind all that is tried before
abbrev pub decimal_from : ℕ → Reply ℕ → Reply ℕ
decimal_from w (refused n) = cond (eqb n 17) (tried (16 ⇐ has_part_digit w ∷ []) (refused n)) (refused n)
decimal_from w (given n) = tried (16 ⇐ has_part_digit w ∷ []) (decimal_by (w / 4) n)
