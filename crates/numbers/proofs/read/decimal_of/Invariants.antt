-- `numbers::read::decimal_of` meets its contract: the number is that of the digits so far.
-- Assumes nothing.
use Rattle.numbers.proofs.Forms.{Read}
use Rattle.numbers.proofs.read.decimal_of.Given as goal

abbrev pub invariant-loop-i : goal.invariant-loop-i
invariant-loop-i l = Read l.count l.number l.i l.working
