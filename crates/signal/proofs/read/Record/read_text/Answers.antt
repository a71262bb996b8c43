-- `signal::read::Record::read_text` meets its contract.
-- Assumes nothing.
use mathlib.Core.Path.{◌∙◌}
use Rattle.signal.proofs.Reading.{vector_given, text_on}
use Rattle.signal.proofs.read.Record.read_text.Goals as goal

pub returns : goal.returns
returns c =
    let f = vector_given _ _ _ _ c.in_ok-vector.ensures in
    c.store_text.ensures ∙ text_on f.has f.encoding f.part _
