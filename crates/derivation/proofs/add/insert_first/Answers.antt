-- `derivation::add::insert_first` meets its contract.
-- Assumes nothing.
use native.Mathlib.Omega.{arith}
use Rattle.derivation.proofs.Walks.{carried_none, carried_more}
use Rattle.derivation.proofs.add.insert_first.Goals as goal

pub loop-i-init : goal.loop-i-init
loop-i-init c = carried_none c.args.bits.now c.args.value

pub loop-i-preserved : goal.loop-i-preserved
loop-i-preserved c =
    let a = c.args in
    carried_more a.bits.now a.value c.loop-i.bits c.loop-i.moved c.loop-i.i (omega arith) c.loop-i.invariant
