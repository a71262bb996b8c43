-- `numbers::read::read_unsigned` meets its contract.
-- Assumes nothing.
use mathlib.Core.Path.{◌∙◌}
use Rattle.signal.proofs.Reading.{vector_given}
use Rattle.numbers.proofs.Replies.{vector_told, read_on_lem}
use Rattle.numbers.proofs.read.read_unsigned.Goals as goal

pub returns : goal.returns
returns c =
    let f = vector_given _ _ _ _ c.in_ok-vector.ensures in
    c.binary_of.ensures ∙ vector_told _ _ _ c.in_ok-levels.ensures ∙ read_on_lem f.has f.encoding f.part
