-- `wavemem::short::squeeze_4` meets its contract.
-- Assumes nothing.
use mathlib.Core.Path.{◌∙◌}
use native.Mathlib.Omega.{arith}
use Rattle.value.specs.Digits.{number}
use Rattle.wavemem.proofs.Squeeze.{squeezed}
use Rattle.wavemem.proofs.short.squeeze_4.Goals as goal

pub returns : goal.returns
unfolding number
returns c = c.squeeze.ensures ∙ squeezed 3 8 4 c.args.x (omega arith) (omega arith) c.requires
