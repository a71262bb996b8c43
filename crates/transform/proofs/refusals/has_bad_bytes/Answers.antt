-- `transform::refusals::has_bad_bytes` meets its contract.
-- Assumes nothing.
use mathlib.Core.Path.{◌∙◌, sym}
use native.Mathlib.Omega.{arith}
use Rattle.value.specs.Slice.{part}
use Rattle.value.proofs.Digits.{below_all}
use Rattle.transform.proofs.InputCodes.{none_picked}
use Rattle.transform.proofs.refusals.has_bad_bytes.Goals as goal

pub returns : goal.returns
unfolding part
returns c h w S b l inside = none_picked S b c.args.extract l inside (below_all 256 c.args.levels.now (λ i. omega (arith, c.type_inv.levels i))) (rw c.from.ensures at (sym c.has_bad_byte.ensures ∙ h))
