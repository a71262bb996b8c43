-- `yoksimert::recorder::yoksimert_recorder_add_real` meets its contract.
-- Assumes nothing.
use mathlib.Core.Path.{sym, ◌∙◌}
use Rattle.fst.specs.Record.{lent}
use Rattle.fst.specs.Change.{real}
use Rattle.yoksimert.proofs.ThinCalls.{record_known}
use Rattle.yoksimert.proofs.recorder.yoksimert_recorder_add_real.Goals as goal

pub returns-in-Ok : goal.returns-in-Ok
returns-in-Ok c =
    let a = c.args in
    record_known a.recorder.now (lent a.bytes.now a.byte_start a.indices.now a.index_start) a.index (real a.bits) (sym c.try_from.ensures ∙ c.in-Ok.is) _ c.add_real.ensures c.store.ensures.number c.store.ensures.left
