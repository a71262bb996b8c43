-- `numbers::bits::squeeze_four` meets its contract.
-- Assumes nothing.
use mathlib.Core.Path.{◌∙◌}
use native.Mathlib.Omega.{arith}
use Rattle.value.specs.Digits.{number}
use Rattle.wavemem.proofs.Squeeze.{squeezed}
use Rattle.numbers.proofs.bits.squeeze_four.Goals as goal

pub returns : goal.returns
unfolding number
returns c = c.squeeze.ensures ∙ squeezed 5 2 1 c.args.x (omega arith) (omega arith) c.requires
