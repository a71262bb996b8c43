-- Inner: what is told of a string before it is stored.
-- Assumes nothing.
use Rattle.std.specs.Prelude.{ℕ, ◌*◌, ◌^◌, ◌≤◌, ◌≡◌, List, length, Option, Some, None, MatchOption}
use Rattle.value.specs.Digits.{number}
use Rattle.value.specs.Level.{fold_all, codes_of, bits_of}
use Rattle.value.specs.Answer.{least_states}
use Rattle.wavemem.specs.declared.short.Scanned.{Scanned}

-- a string's least set, and the number of its levels for an entry of at most eight bytes, where 64 bits hold them
pub record ToldFor (value : List ℕ) (size : ℕ) (t : Scanned) : Type 0 where
  pub least : least_states value ≡ Some t.states
  pub levels : size ≤ 8 → length value * bits_of t.states ≤ 64 → t.levels ≡ number (2 ^ bits_of t.states) (codes_of (fold_all value))

-- both, or that a character is foreign
abbrev pub ScanFor : List ℕ → ℕ → Option Scanned → Type 0
ScanFor value size r = MatchOption r (least_states value ≡ None) (ToldFor value size)
