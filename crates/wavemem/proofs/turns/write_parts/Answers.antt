-- `wavemem::turns::write_parts` meets its contract: the first characters are packed, and the others behind them.
-- Assumes nothing.
use mathlib.Core.Path.{refl}
use Rattle.wavemem.proofs.Walk.{front_lent, behind_room, both_stored}
use Rattle.wavemem.proofs.turns.write_parts.Goals as goal

pub write_turns-next-requires : goal.write_turns-next-requires
write_turns-next-requires g c = front_lent c.requires.1 g.met.P.Packs.fills g.met.F.Packs.fills c.requires.0

pub write_turns-requires : goal.write_turns-requires
write_turns-requires g c =
    let first = c.write_turns-next.ensures in
    behind_room c.requires.1 g.met.P.Packs.fills g.met.F.Packs.fills c.requires.0 c.args.out.now refl first.value first.out_after

pub returns : goal.returns
returns g c =
    let first = c.write_turns-next.ensures in
    let second = c.write_turns.ensures in
    let told = both_stored c.requires.1 g.met.P.Packs.fills g.met.F.Packs.fills c.requires.0 c.args.out.now refl first.value first.out_after second.value second.out_after in
    record { value = told.0; out_after = told.1 }
