-- `fst::Description::admit_event` meets its contract.
-- Assumes nothing.
use mathlib.Core.Path.{sym, ◌∙◌}
use Rattle.fst.proofs.Records.{standing}
use Rattle.fst.proofs.Adding.{admits}
use Rattle.fst.proofs.AddingPlain.{event_suited, event_adds}
use Rattle.fst.proofs.Description.admit_event.Goals as goal

pub returns : goal.returns
returns c =
    let s = standing (sym c.is_bad.ensures ∙ c.if-is_bad.false) in
    event_adds s c.requires _ _ (admits (event_suited s c.requires c.args.index _ c.if-value-gt1.false) _ c.if-is_below_last.ensures)
