-- Inner: a length by literal ones.
-- Assumes nothing.
use Rattle.std.specs.Prelude.{ℕ, ◌+◌, ◌≤◌}

-- n elements are covered by their first and their last `half`
pub record Halves (half n : ℕ) : Type 0 where
  pub fits : half ≤ n
  pub covers : n ≤ half + half
