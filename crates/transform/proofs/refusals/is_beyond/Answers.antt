-- `transform::refusals::is_beyond` meets its contract.
-- Assumes nothing.
use mathlib.Core.Path.{sym}
use Rattle.steps.proofs.InputTests.{no_input}
use Rattle.transform.proofs.PieceTests.{beyond_by_width}
use Rattle.transform.proofs.refusals.is_beyond.Goals as goal

pub returns : goal.returns
returns c bytes indices = rw (c.from.ensures, c.width.ensures, c.end.ensures) (sym (beyond_by_width bytes indices c.args.inputs.now c.args.extract c.requires no_input))
