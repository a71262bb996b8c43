-- `wavemem::turns::write_turns` meets its contract: each turn stores the bytes of the next characters.
-- Assumes nothing.
use mathlib.Core.Path.{◌∙◌}
use native.Mathlib.Omega.{arith}
use lib.ListN.{length}
use Rattle.wavemem.proofs.Parts.{stored_start, stored_long, fills_few}
use Rattle.wavemem.proofs.Walk.{Turn, turn_here, turn_room, turn_known, stored_next}
use Rattle.wavemem.proofs.turns.write_turns.Given.{Over}
use Rattle.wavemem.proofs.turns.write_turns.Goals.{After-chars-item}
use Rattle.wavemem.proofs.turns.write_turns.Goals as goal

pub loop-chars-init : goal.loop-chars-init
loop-chars-init g c = stored_start g.P.Packs.set c.requires.1

turn : (g : Over) (c : After-chars-item g)
    → Turn g.P.Packs.set c.args.value.now (length c.args.out.now) c.args.at g.row.CHARS g.row.BYTES c.loop-chars.chars-index c.loop-chars.to c.chars-item.result
turn g c =
    let chunks = c.as_chunks.ensures in
    turn_here g.met.P.Packs.fills c.requires.0 c.loop-chars.invariant.passed chunks.front chunks.front_len c.loop-chars-test.true c.chars-item.is

pub slice_bounds-copy_from_slice-end : goal.slice_bounds-copy_from_slice-end
slice_bounds-copy_from_slice-end g c = omega (arith, turn_room (turn g c), stored_long c.requires.0 c.loop-chars.invariant)

pub pack-requires : goal.pack-requires
pack-requires g c =
    let f = g.met.P.Packs.fills in
    (omega (arith, f.few), (omega (arith, fills_few f), turn_known (turn g (goal.at.pack-requires g c).After-chars-item)))

pub loop-chars-preserved : goal.loop-chars-preserved
loop-chars-preserved g c = stored_next (turn g (goal.at.loop-chars-preserved g c).After-chars-item) c.loop-chars.invariant (c.copy_from_slice.ensures.after ∙ c.pack.ensures)
