-- `equality::compare_entries` meets its contract: the records agree exactly where their entries from `k` on do.
-- Assumes nothing.
use Rattle.fst.specs.Record.{lent_in}
use Rattle.equality.proofs.Comparing.{Walked}
use Rattle.equality.proofs.compare_entries.Given as goal

abbrev pub invariant-loop-k : goal.invariant-loop-k
invariant-loop-k l = Walked l.a.description (lent_in l.a.slices) l.b.description (lent_in l.b.slices) l.k
