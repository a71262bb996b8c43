-- `search::find_reach` meets its contract. The loop's invariant: what the definition has left to look for.
-- Assumes nothing.
use Rattle.search.proofs.Quartering.{sought_all, sought_here}
use Rattle.search.proofs.find_reach.Goals as goal

pub returns-else-indices-end : goal.returns-else-indices-end
returns-else-indices-end c = sought_here c.loop-reach.invariant c.loop-reach-test.true c.if-indices-end.false

pub returns-after-loop-reach : goal.returns-after-loop-reach
returns-after-loop-reach c = sought_all c.loop-reach.invariant c.loop-reach-test.false
