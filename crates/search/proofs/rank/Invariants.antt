-- `search::rank` meets its contract. The loop's invariant: `rank` and the rank of what is left are the rank of all.
-- Assumes nothing.
use mathlib.Core.Path.{◌≡◌}
use Prim.Native.Nat.{◌+◌, ◌≤◌}
use lib.ListN.{length}
use Rattle.search.specs.Quartering.{rank}
use Rattle.search.proofs.rank.Given as goal

abbrev pub invariant-loop-rest : goal.invariant-loop-rest
invariant-loop-rest l = (length l.rest ≤ length l.indices) × (l.rank + rank l.needle l.rest ≡ rank l.needle l.indices)

abbrev pub decreases-loop-rest : goal.decreases-loop-rest
decreases-loop-rest l = length l.rest
