-- Inner: what holds of each element of a list.
-- Assumes nothing.
use Rattle.std.specs.Prelude.{List, [], ◌∷◌}

-- each element of a list has a property
abbrev pub All : {A : Type 0} → (A → Type 0) → List A → Type 0
All P [] = Unit
All P (x ∷ l) = P x × All P l
