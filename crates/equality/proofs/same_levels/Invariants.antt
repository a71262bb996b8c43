-- `equality::same_levels` meets its contract: the codes passed agree.
-- Assumes nothing.
use lib.ListN.{take}
use mathlib.Core.Path.{◌≡◌}
use Rattle.signal.specs.Decode.{codes_at}
use Rattle.equality.proofs.same_levels.Given as goal

abbrev pub invariant-loop-i : goal.invariant-loop-i
invariant-loop-i l = take l.i (codes_at l.a.width l.a.states l.a.bytes.now) ≡ take l.i (codes_at l.b.width l.b.states l.b.bytes.now)
