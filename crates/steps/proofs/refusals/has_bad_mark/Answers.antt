-- `steps::refusals::has_bad_mark` meets its contract.
-- Assumes nothing.
use Rattle.signal.specs.Decode.{has_bad_mark}
use Rattle.signal.proofs.Decoding.{mark_by}
use Rattle.steps.proofs.refusals.has_bad_mark.Goals as goal

pub returns : goal.returns
unfolding has_bad_mark
returns c = rw (← c.entry_at.ensures, c.in-BitVector.is, c.mark-most.ensures, mark_by _ _ _ _ c.mark-most.ensures c.own_mark.ensures)
