-- Inner: levels packed into bytes, as in document 01, "An entry".
-- Assumes nothing.
use Rattle.std.specs.Prelude.{ℕ, ◌+◌, ◌-◌, ◌*◌, ◌^◌, ◌/◌, ◌%◌, ◌≤◌, ◌<◌, ◌≡◌, List, length, get_or}
use Rattle.std.specs.Int.Bits.{bit_and}
use Rattle.value.specs.declared.States.{States}
use Rattle.value.specs.Digits.{number, digits, Below}
use Rattle.value.specs.Level.{fold, fold_all, code_of, codes_of, bits_of, len_of}

-- "Levels are packed first character highest, last character in the lowest bits of the last byte, unused high bits zero", b bits each, with
-- meta data in the top of the first byte
unfoldable pub packed_with : ℕ → ℕ → List ℕ → List ℕ
packed_with b meta codes =
    let n = (length codes * b + 7) / 8 in
    digits 256 n (meta * 256 ^ (n - 1) + number (2 ^ b) codes)

-- the bytes of a string's levels under a set
abbrev pub packed_from : States → ℕ → List ℕ → List ℕ
packed_from s meta value = packed_with (bits_of s) meta (codes_of (fold_all value))

-- how many of w levels the first byte has
abbrev pub first_count : States → ℕ → ℕ
first_count s w = w + 8 / bits_of s - len_of w s * (8 / bits_of s)

-- what packing asks of the characters: none is foreign, and each is of the set
pub record Codes (s : States) (codes : List ℕ) : Type 0 where
  pub known : Below 9 codes
  pub below : Below (2 ^ bits_of s) codes

-- characters whose levels 64 bits hold
pub record OneWord (s : States) (value : List ℕ) : Type 0 where
  pub codes : Codes s (codes_of (fold_all value))
  pub short : length value * bits_of s ≤ 64

-- characters of one byte
pub record OneByte (s : States) (value : List ℕ) : Type 0 where
  pub codes : Codes s (codes_of (fold_all value))
  pub short : length value * bits_of s ≤ 8

-- a table of codes by the low five bits, less 8, of a character that is not foreign
pub record ByLowBits (codes : List ℕ) : Type 0 where
  pub here : (c : ℕ) → c < 256 → code_of (fold c) < 9 → get_or codes (bit_and c 31 - 8) 0 ≡ code_of (fold c)

-- n characters fill m bytes
pub record Fills (s : States) (n m : ℕ) : Type 0 where
  pub some : 0 < n
  pub few : n ≤ 4096
  pub full : m * (8 / bits_of s) ≡ n

-- characters that fill whole bytes, to be packed without meta data
pub record WholeBytes (s : States) (value : List ℕ) (room at : ℕ) : Type 0 where
  pub codes : Codes s (codes_of (fold_all value))
  pub short : length value ≤ 4096
  pub fits : at + len_of (length value) s ≤ room
  pub full : len_of (length value) s * (8 / bits_of s) ≡ length value

-- what packing asks: at most 4,096 characters of the set; room from a place on; a mark for meta data, where two bits are free
pub record Packable (s : States) (value : List ℕ) (room at meta : ℕ) : Type 0 where
  pub codes : Codes s (codes_of (fold_all value))
  pub short : length value ≤ 4096
  pub fits : at + len_of (length value) s ≤ room
  pub marked : meta % 64 ≡ 0
  pub free : 0 < meta → length value * bits_of s + 2 ≤ 8 * len_of (length value) s
