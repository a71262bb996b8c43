-- `steps::step::at_start` meets its contract.
-- Assumes nothing.
use native.Mathlib.Omega.{arith}
use Rattle.value.proofs.Lists.{mapped}
use Rattle.steps.specs.Stepping.{at_start}
use Rattle.steps.proofs.step.at_start.Goals as goal

pub returns : goal.returns
returns c = mapped at_start c.args.inputs.now.slots c.map.result c.map.ensures.items (omega arith) (λ x y q s k. k.met)
