-- `fst::record::Slices::is_below_last` meets its contract.
-- Assumes nothing.
use mathlib.Core.Path.{sym}
use Rattle.fst.proofs.Adding.{below_some}
use Rattle.fst.proofs.record.Slices.is_below_last.Goals as goal

pub returns : goal.returns
returns c = below_some _ _ _ _ (sym c.in-Some.ensures)
