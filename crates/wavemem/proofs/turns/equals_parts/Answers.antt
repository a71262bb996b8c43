-- `wavemem::turns::equals_parts` meets its contract: the first characters are compared, and then the others.
-- Assumes nothing.
use mathlib.Core.Path.{refl}
use Rattle.wavemem.proofs.Walk.{front_lent, behind_lent, both_agree, front_differs}
use Rattle.wavemem.proofs.turns.equals_parts.Goals as goal

pub equals_turns-requires : goal.equals_turns-requires
equals_turns-requires g c = front_lent c.requires.1 g.met.P.Packs.fills g.met.F.Packs.fills c.requires.0

pub equals_turns-requires-then-equals_turns : goal.equals_turns-requires-then-equals_turns
equals_turns-requires-then-equals_turns g c = behind_lent c.requires.1 g.met.P.Packs.fills g.met.F.Packs.fills c.requires.0

pub returns-then-equals_turns : goal.returns-then-equals_turns
returns-then-equals_turns g c =
    both_agree c.requires.1 g.met.P.Packs.fills g.met.F.Packs.fills c.requires.0 c.args.bytes.now refl c.equals_turns.ensures c.if-equals_turns.true c.equals_turns-then-equals_turns.ensures

pub returns-else-equals_turns : goal.returns-else-equals_turns
returns-else-equals_turns g c = front_differs c.requires.1 g.met.P.Packs.fills g.met.F.Packs.fills c.requires.0 c.args.bytes.now refl c.equals_turns.ensures c.if-equals_turns.false
