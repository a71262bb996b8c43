-- `steps::step::advance` meets its contract: the inputs passed have moved, and the others not yet.
-- Assumes nothing.
use native.Mathlib.Omega.{arith}
use Rattle.std.proofs.lemmas.List.Edits.{map_over_more}
use Rattle.steps.specs.Stepping.{advanced}
use Rattle.steps.proofs.step.advance.Goals as goal

pub loop-cursor-preserved : goal.loop-cursor-preserved
loop-cursor-preserved c = rw (c.advance.ensures, ← c.cursor-item.is) (map_over_more (advanced c.args.indices.now c.args.index) c.args.cursors.now c.loop-cursor.cursors c.loop-cursor.cursor-index c.cursor-item.result (omega arith) c.loop-cursor.invariant c.cursor-item.is)
