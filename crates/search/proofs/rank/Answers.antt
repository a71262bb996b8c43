-- `search::rank` meets its contract. The loop's invariant: `rank` and the rank of what is left are the rank of all.
-- Assumes nothing.
use Prim.Native.Nat.{◌-◌, ◌*◌, ◌/◌}
use native.Mathlib.Nat.{add-sub_cancel_left}
use native.Mathlib.Omega.{arith}
use lib.ListN.{length, drop, length-take}
use Rattle.value.specs.Slice.{part}
use Rattle.search.proofs.Quartering.{rank_turn}
use Rattle.search.proofs.rank.Goals.{After-passed, After-count}
use Rattle.search.proofs.rank.Goals as goal

pub loop-rest-preserved : goal.loop-rest-preserved
unfolding part
loop-rest-preserved c =
    let l = c.loop-rest.rest.now in
    let start = c.passed.result * (length l / 4) in
    let size = length l - 3 * (length l / 4) in
    let t = rank_turn c.args.needle l c.loop-rest-test.true c.passed.result c.passed.ensures in
    rw (add-sub_cancel_left start size)
    (omega (arith, length-take size (drop start l), c.loop-rest.invariant), omega (arith, t.1, c.loop-rest.invariant))
