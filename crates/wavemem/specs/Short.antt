-- Inner: strings of at most eight characters as one word.
-- Assumes nothing.
use Rattle.std.specs.Prelude.{ℕ, ◌-◌, ◌/◌, ◌^◌, ◌<◌, ◌≡◌, Bool, cond, List, map, ◌++◌, eqb, length, replicate, Option, Some, None, MatchOption}
use Rattle.std.specs.Int.Bits.{bit_and, bit_or}
use Rattle.value.specs.Digits.{number, digits}
use Rattle.value.specs.Level.{fold_all, codes_of, bits_of}
use Rattle.value.specs.Answer.{least_states}
use Rattle.wavemem.specs.declared.short.Scanned.{Scanned}

-- eight characters, those in front 0
abbrev pub padded : List ℕ → List ℕ
padded value = replicate (8 - length value) 48 ++ value

-- is each byte of a word 0
unfoldable pub zeros : ℕ → List Bool
zeros w = map (λ (b : ℕ). eqb b 0) (digits 256 8 w)

-- the word of bytes 0 where a test holds, and the top bit where it fails
unfoldable pub marks : List Bool → ℕ
marks tests = number 256 (map (λ (t : Bool). cond t 0 128) tests)

-- a string's least set, and the number of its levels under it
pub record Told (value : List ℕ) (t : Scanned) : Type 0 where
  pub least : least_states value ≡ Some t.states
  pub levels : t.levels ≡ number (2 ^ bits_of t.states) (codes_of (fold_all value))

-- both, or that a character is foreign
abbrev pub Scan : List ℕ → Option Scanned → Type 0
Scan value r = MatchOption r (least_states value ≡ None) (Told value)

-- a step of a squeeze, as a shift and a mask: the shift is within a word, and what the step makes of a number
abbrev pub InWord : ℕ × ℕ → Type 0
InWord step = step.0 < 64

abbrev pub pushed_by : ℕ → ℕ × ℕ → ℕ
pushed_by x step = bit_and (bit_or x (x / 2 ^ step.0)) step.1
