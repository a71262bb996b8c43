-- Inner: the room that steps take.
-- Assumes nothing.
use Rattle.std.specs.Prelude.{◌*◌, ◌≤◌, ℕ, leb, Bool, ◌&&◌, List, sum_by}
use Rattle.fst.specs.Record.{maximum}
use Rattle.steps.specs.declared.Input.{Input}

abbrev pub count_in : Input → ℕ
count_in i = i.description.count

-- an input's entries are not above the maximum
abbrev pub Few : Input → Type 0
Few i = count_in i ≤ maximum

-- the entries of all inputs
abbrev pub total_over : List Input → ℕ
total_over is = sum_by count_in is

-- whether so many entries of a size stand within the maximum and within slices of these lengths
abbrev pub room_for : ℕ → ℕ → ℕ → ℕ → Bool
room_for count size bytes indices = (leb count maximum && leb (count * size) bytes) && leb count indices
