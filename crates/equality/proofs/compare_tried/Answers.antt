-- `equality::compare_tried` meets its contract.
-- Assumes nothing.
use Rattle.equality.proofs.Comparing.{pair_told}
use Rattle.equality.proofs.compare_tried.Goals as goal

pub returns-then-a-b : goal.returns-then-a-b
returns-then-a-b c = pair_told _ _ _ _ _ _ c.in_ok-x.ensures c.in_ok-y.ensures c.if-a-b.true c.same_value.ensures
