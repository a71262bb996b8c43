-- Inner: an entry tried, and a pair of entries tried and compared.
-- Assumes nothing.
use Rattle.std.specs.Prelude.{ℕ, Bool, false, true, ◌&&◌, List, [], ◌∷◌, reverse, eqb}
use Rattle.std.specs.Float.Ieee.{eq, of_bits}
use Rattle.std.specs.Float.{binary64}
use Rattle.value.specs.Digits.{number}
use Rattle.value.specs.Slice.{same}
use Rattle.fst.specs.declared.Encoding.{Encoding}
use Rattle.fst.specs.declared.Encoding.TheVariants.{Event, Real, BitVector}
use Rattle.fst.specs.Refusal.{Reply, given, ◌⇐◌, tried}
use Rattle.signal.specs.Decode.{levels_in, has_bad_mark, has_bad_code, codes_at}
use Rattle.equality.specs.Compare.{same_value, pair_tests}
use Rattle.equality.specs.declared.Value.{Value}
use Rattle.equality.specs.declared.Value.TheVariants as value

-- what an entry is compared by: nothing, a real's bits or the codes of levels
pub data Held : Type 0 where
  event : Held
  real : ℕ → Held
  codes : List ℕ → Held

abbrev pub held : Encoding → List ℕ → Held
held Event v = event
held Real v = real (number 256 (reverse v))
held (BitVector w M) v = codes (levels_in (BitVector w M) v)

abbrev pub held_in : Value → Held
held_in value.Event = event
held_in (value.Real n) = real n
held_in (value.Levels p) = codes (codes_at p.width p.states p.bytes.now)

-- that of an entry, or 9, or 10
unfoldable pub coded : Encoding → List ℕ → Reply Held
coded e v = tried (9 ⇐ has_bad_mark e v ∷ 10 ⇐ has_bad_code e v ∷ []) (given (held e v))

unfoldable pub same_held : Held → Held → Bool
same_held event event = true
same_held event (real n) = false
same_held event (codes ds) = false
same_held (real m) event = false
same_held (real m) (real n) = eq (of_bits binary64 m) (of_bits binary64 n)
same_held (real m) (codes ds) = false
same_held (codes cs) event = false
same_held (codes cs) (real n) = false
same_held (codes cs) (codes ds) = same cs ds

-- a pair of entries with their time indices
unfoldable pub pair_of : Encoding → List ℕ → ℕ → Encoding → List ℕ → ℕ → Reply Bool
pair_of a x i b y j = tried (pair_tests a x b y) (given (eqb i j && same_value a x b y))
