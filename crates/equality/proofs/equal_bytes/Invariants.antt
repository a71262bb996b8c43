-- `equality::equal_bytes` meets its contract: the union of the differences so far is 0 where the bytes so far agree.
-- Assumes nothing.
use mathlib.Core.Path.{◌≡◌}
use lib.Dec.{eqb}
use lib.ListN.{take}
use Rattle.value.specs.Slice.{same}
use Rattle.equality.proofs.equal_bytes.Given as goal

abbrev pub invariant-loop-i : goal.invariant-loop-i
invariant-loop-i l = eqb l.union 0 ≡ same (take l.i l.a) (take l.i l.b)
