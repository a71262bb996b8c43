-- `offset::binary_search` meets its contract. The loop's invariant: the last place is one of the `size` from `place` on.
-- Assumes nothing.
use Rattle.offset.proofs.Search.{Bracket}
use Rattle.offset.proofs.binary_search.Given as goal

abbrev pub invariant-loop-size : goal.invariant-loop-size
invariant-loop-size l = Bracket l.needle l.indices l.place l.size

abbrev pub decreases-loop-size : goal.decreases-loop-size
decreases-loop-size l = l.size
