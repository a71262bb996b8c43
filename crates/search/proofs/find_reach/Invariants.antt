-- `search::find_reach` meets its contract. The loop's invariant: what the definition has left to look for.
-- Assumes nothing.
use Prim.Native.Nat.{◌-◌}
use Rattle.search.proofs.Quartering.{Sought}
use Rattle.search.proofs.find_reach.Given as goal

abbrev pub invariant-loop-reach : goal.invariant-loop-reach
invariant-loop-reach l = Sought l.reach l.index l.indices l.end

abbrev pub decreases-loop-reach : goal.decreases-loop-reach
decreases-loop-reach l = l.end - l.reach
