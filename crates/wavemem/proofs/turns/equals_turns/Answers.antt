-- `wavemem::turns::equals_turns` meets its contract: each turn compares the bytes of the next characters, and what is left decides.
-- Assumes nothing.
use native.Mathlib.Omega.{arith}
use lib.ListN.{length}
use Rattle.wavemem.proofs.Parts.{agrees_end, turn_last, fills_few}
use Rattle.wavemem.proofs.Walk.{Turn, turn_here, turn_room, turn_known, agrees_next, agrees_stop}
use Rattle.wavemem.proofs.turns.equals_turns.Given.{Over}
use Rattle.wavemem.proofs.turns.equals_turns.Goals.{After-chars-item}
use Rattle.wavemem.proofs.turns.equals_turns.Goals as goal

turn : (g : Over) (c : After-chars-item g)
    → Turn g.P.Packs.set c.args.value.now (length c.args.bytes.now) c.args.at g.row.CHARS g.row.BYTES c.loop-chars.chars-index c.loop-chars.to c.chars-item.result
turn g c =
    let chunks = c.as_chunks.ensures in
    turn_here g.met.P.Packs.fills c.requires.0 c.loop-chars.invariant.passed chunks.front chunks.front_len c.loop-chars-test.true c.chars-item.is

pub pack-packed-requires : goal.pack-packed-requires
pack-packed-requires g c =
    let f = g.met.P.Packs.fills in
    (omega (arith, f.few), (omega (arith, fills_few f), turn_known (turn g (goal.at.pack-packed-requires g c).After-chars-item)))

pub slice_bounds-ne-end : goal.slice_bounds-ne-end
slice_bounds-ne-end g c = turn_room (turn g (goal.at.slice_bounds-ne-end g c).After-chars-item)

pub returns-then-ne : goal.returns-then-ne
returns-then-ne g c = agrees_stop (turn g (goal.at.returns-then-ne g c).After-chars-item) c.loop-chars.invariant c.ne.ensures c.pack-packed.ensures c.if-ne.true

pub loop-chars-preserved : goal.loop-chars-preserved
loop-chars-preserved g c = agrees_next (turn g (goal.at.loop-chars-preserved g c).After-chars-item) c.loop-chars.invariant c.ne.ensures c.pack-packed.ensures c.if-ne.false

pub returns : goal.returns
returns g c = agrees_end c.loop-chars.invariant (turn_last g.met.P.Packs.fills c.requires.1 (rw c.as_chunks.ensures.front_len at c.loop-chars-test.false))
