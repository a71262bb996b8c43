-- Inner: the answers of the functions on characters and levels, by document 01's codes and sets.
-- Assumes nothing.
use Rattle.std.specs.Prelude.{ℕ, ◌+◌, ◌*◌, ◌^◌, ◌/◌, ◌%◌, ◌≤◌, Bool, cond, not, List, leb, Option, Some, None, Result, Ok, Err}
use Rattle.value.specs.declared.NoMark.{NoMark}
use Rattle.value.specs.Digits.{number}
use Rattle.value.specs.declared.States.{States}
use Rattle.value.specs.Slice.{any}
use Rattle.value.specs.Level.{fold, fold_all, code_of, codes_of, is_no_code, has_no_code, codes_in, least_of, set_at}

-- the code of a byte, small or capital; a foreign byte has none
unfoldable pub char_code : ℕ → Option ℕ
char_code c = let n = code_of (fold c) in cond (is_no_code n) None (Some n)

-- the least set of a string; one with a foreign byte has none
unfoldable pub least_states : List ℕ → Option States
least_states s = let codes = codes_of (fold_all s) in cond (has_no_code codes) None (Some (least_of codes))

-- the set of a mark
abbrev pub set_of_mark : ℕ → Result States NoMark
set_of_mark m = cond (leb m 2) (Ok (set_at m)) (Err (record {}))

-- is the code of a byte, and are those of all bytes of a string, among so many
unfoldable pub holds_one : ℕ → ℕ → Bool
holds_one n c = not (leb n (code_of (fold c)))

unfoldable pub holds_all : States → List ℕ → Bool
holds_all s v = not (any (leb (codes_in s)) (codes_of (fold_all v)))

-- the level of b bits that i levels follow in big-endian bytes
abbrev pub level_at : ℕ → ℕ → List ℕ → ℕ
level_at b i bytes = number 256 bytes / (2 ^ b) ^ i % 2 ^ b

-- the level that i levels follow lies within n bytes
pub record LevelIn (b i n : ℕ) : Type 0 where
  pub few : i ≤ 4096
  pub room : i * b + b ≤ 8 * n
