-- `offset::falls` meets its contract. The loop's invariant: the list falls where it fell before `i` or falls from the place before it on.
-- Assumes nothing.
use mathlib.Core.Path.{◌≡◌}
use mathlib.Core.Bool.{◌||◌}
use Prim.Native.Nat.{◌-◌}
use lib.ListN.{drop}
use Rattle.offset.specs.Offset.{falls}
use Rattle.offset.proofs.falls.Given as goal

abbrev pub invariant-loop-i : goal.invariant-loop-i
invariant-loop-i l = falls l.indices ≡ (l.fell || falls (drop (l.i - 1) l.indices))
