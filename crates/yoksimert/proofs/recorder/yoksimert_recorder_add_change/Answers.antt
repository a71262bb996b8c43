-- `yoksimert::recorder::yoksimert_recorder_add_change` meets its contract.
-- Assumes nothing.
use mathlib.Core.Path.{sym, ◌∙◌}
use Rattle.fst.specs.Record.{lent}
use Rattle.fst.specs.Change.{text}
use Rattle.yoksimert.proofs.ThinCalls.{record_known}
use Rattle.yoksimert.proofs.recorder.yoksimert_recorder_add_change.Goals as goal

pub returns-in-Ok : goal.returns-in-Ok
returns-in-Ok c =
    let a = c.args in
    record_known a.recorder.now (lent a.bytes.now a.byte_start a.indices.now a.index_start) a.index (text a.value.now) (sym c.try_from.ensures ∙ c.in-Ok.is) _ c.add_change.ensures c.store.ensures.number c.store.ensures.left
