-- `transform::Task::first_refusal` meets its contract.
-- Assumes nothing.
use mathlib.Core.Path.{◌∙◌, sym}
use Rattle.transform.proofs.RefusalsInOrder.{first_late}
use Rattle.transform.proofs.Task.first_refusal.Goals as goal

pub returns-then-any_late : goal.returns-then-any_late
returns-then-any_late c =
    let s = c.args.self.now.sources.now in
    first_late c.args.self.now.derivation.now s.inputs.now s.bytes.now s.indices.now (sym c.any_bad.ensures ∙ c.if-any_bad.false) (sym c.is_unfit.ensures ∙ c.if-is_unfit.false) (sym c.any_late.ensures ∙ c.if-any_late.true)
