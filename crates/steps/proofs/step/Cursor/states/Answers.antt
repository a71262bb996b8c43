-- `steps::step::Cursor::states` meets its contract.
-- Assumes nothing.
use mathlib.Core.Path.{ap, sym}
use Rattle.value.proofs.Levels.{set_mark}
use Rattle.fst.specs.declared.Encoding.{Encoding}
use Rattle.signal.specs.Decode.{set_in}
use Rattle.signal.proofs.Reading.{some, vector}
use Rattle.steps.specs.Stepping.{shown_bytes}
use Rattle.steps.proofs.Levels.{vector_is}
use Rattle.steps.proofs.step.Cursor.states.Goals as goal

pub states_in-requires : goal.states_in-requires
states_in-requires c = rw c.shown.ensures (some (vector (vector_is _ c.requires.vector) c.requires.whole))

pub returns : goal.returns
unfolding set_in
returns c =
    rw (c.states_in.ensures, c.from.ensures, c.mark.ensures, c.largest.ensures, c.shown.ensures, set_mark)
    (ap (λ (e : Encoding). set_in e (shown_bytes c.args.bytes.now c.args.self.now)) (sym (vector_is _ c.requires.vector)))
