-- `numbers::read::decimal_of` meets its contract: the number is that of the digits so far.
-- Assumes nothing.
use Rattle.numbers.proofs.Forms.{digit_at, read_none, read_more}
use Rattle.numbers.proofs.read.decimal_of.Goals as goal

pub loop-i-init : goal.loop-i-init
loop-i-init c = read_none

pub loop-i-preserved : goal.loop-i-preserved
loop-i-preserved c =
    let a = c.args in
    read_more c.loop-i.invariant c.loop-i-test.true (digit_at a.count a.number c.loop-i.i c.loop-i-test.true) c.if-digit-gt9.false
