-- `derivation::add::insert_first` meets its contract: the numbers passed are one place up, and the last of them is carried.
-- Assumes nothing.
use Rattle.derivation.proofs.Walks.{Carried}
use Rattle.derivation.proofs.add.insert_first.Given as goal

abbrev pub invariant-loop-i : goal.invariant-loop-i
invariant-loop-i l = Carried l.initial.bits l.value l.bits l.moved l.i
