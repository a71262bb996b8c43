-- Inner: where a walk stands in an input.
-- Assumes nothing.
use Rattle.std.specs.Prelude.{ℕ}
use Rattle.steps.specs.declared.Input.{Input}

-- an input of which so many entries have begun: it shows the last of them, and the others are to come
pub record Cursor : Type 0 where
  pub input : Input
  pub begun : ℕ
