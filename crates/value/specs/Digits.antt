-- Positional notation. Bytes are digits to the base 256, levels of b bits are digits to the base 2 ^ b, and the first digit is the highest.
-- Assumes nothing.
use Rattle.std.specs.Prelude.{ℕ, zero, suc, ◌+◌, ◌*◌, ◌^◌, ◌/◌, ◌%◌, ◌<◌, List, [], ◌∷◌, length}

-- the number that digits to the base B write
unfoldable pub number : ℕ → List ℕ → ℕ
number B [] = 0
number B (d ∷ ds) = d * B ^ length ds + number B ds

-- the k lowest digits of n to the base B
unfoldable pub digits : ℕ → ℕ → ℕ → List ℕ
digits B zero n = []
digits B (suc k) n = n / B ^ k % B ∷ digits B k n

-- each digit is below B
abbrev pub Below : ℕ → List ℕ → Type 0
Below B [] = Unit
Below B (d ∷ ds) = (d < B) × Below B ds
