-- `offset::run_length` meets its contract. The loop's invariant: the run from `start` on is `elements` longer than the run from where the loop stands.
-- Assumes nothing.
use mathlib.Core.Path.{◌≡◌}
use Prim.Native.Nat.{◌≤◌, ◌+◌, ◌-◌}
use lib.ListN.{length, drop}
use Rattle.offset.specs.Offset.{run_of}
use Rattle.offset.proofs.run_length.Given as goal

abbrev pub invariant-loop-elements : goal.invariant-loop-elements
invariant-loop-elements l = (l.start + l.elements ≤ length l.indices)
    × (run_of l.index (drop l.start l.indices) ≡ l.elements + run_of l.index (drop (l.start + l.elements) l.indices))

abbrev pub decreases-loop-elements : goal.decreases-loop-elements
decreases-loop-elements l = length l.indices - (l.start + l.elements)
