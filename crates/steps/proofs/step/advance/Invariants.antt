-- `steps::step::advance` meets its contract: the inputs passed have moved, and the others not yet.
-- Assumes nothing.
use lib.ListN.{drop, take}
use mathlib.Core.List.{◌++◌, map}
use mathlib.Core.Path.{◌≡◌}
use Rattle.steps.specs.Stepping.{advanced}
use Rattle.steps.proofs.step.advance.Given as goal

abbrev pub invariant-loop-cursor : goal.invariant-loop-cursor
invariant-loop-cursor l =
    l.cursors ≡ map (advanced l.indices l.index) (take l.cursor-index l.initial.cursors) ++ drop l.cursor-index l.initial.cursors
