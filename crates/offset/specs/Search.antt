-- Inner: what the searches of Look up find and need.
-- Assumes nothing.
use Rattle.std.specs.Prelude.{◌≡◌, ℕ, ◌≤◌, ◌<◌, false, List, length, get_or}
use Rattle.offset.specs.Offset.{falls}

-- a list that doesn't fall, and whose first index isn't above a needle
pub record Reached (needle : ℕ) (l : List ℕ) : Type 0 where
  pub rises : falls l ≡ false
  pub some : 0 < length l
  pub first : get_or l 0 0 ≤ needle

-- the last place of a list that doesn't fall whose index isn't above a needle
pub record Last (needle : ℕ) (l : List ℕ) (place : ℕ) : Type 0 where
  pub within : place < length l
  pub reached : get_or l place 0 ≤ needle
  pub above : (k : ℕ) → place < k → k < length l → needle < get_or l k 0
