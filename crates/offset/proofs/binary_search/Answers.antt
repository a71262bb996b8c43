-- `offset::binary_search` meets its contract. The loop's invariant: the last place is one of the `size` from `place` on.
-- Assumes nothing.
use Prim.Native.Nat.{◌+◌, ◌-◌, ◌*◌, ◌/◌}
use native.Mathlib.Omega.{arith}
use Rattle.offset.proofs.Search.{Bracket, bracket_half}
use Rattle.offset.proofs.binary_search.Goals.{After-not_above}
use Rattle.offset.proofs.binary_search.Goals as goal

-- the half that the last place is in
half : (c : After-not_above) →
    let a = c.args in
    Bracket a.needle a.indices.now (c.loop-size.place + c.loop-size.size / 2 * c.not_above.result) (c.loop-size.size - c.loop-size.size / 2)
half c = bracket_half c.loop-size.invariant c.requires.rises _ (omega arith) (omega arith) _ c.not_above.ensures

pub loop-size-preserved : goal.loop-size-preserved
loop-size-preserved c = half (goal.at.loop-size-preserved c).After-not_above
