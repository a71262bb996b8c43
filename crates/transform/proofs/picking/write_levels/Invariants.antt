-- `transform::picking::write_levels` meets its contract: as many characters stand there as turns were taken.
-- Assumes nothing.
use lib.ListN.{take}
use mathlib.Core.Path.{◌≡◌}
use Rattle.value.specs.Level.{text_of}
use Rattle.value.specs.Slice.{overlay, part}
use Rattle.signal.specs.Decode.{codes_at}
use Rattle.transform.proofs.picking.write_levels.Given as goal

abbrev pub invariant-loop-j : goal.invariant-loop-j
invariant-loop-j l =
    l.text ≡ overlay l.initial.text l.at (take l.j (text_of (part l.first l.count (codes_at l.levels.width l.levels.states l.levels.bytes.now))))
