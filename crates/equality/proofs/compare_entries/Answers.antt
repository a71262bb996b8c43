-- `equality::compare_entries` meets its contract: the records agree exactly where their entries from `k` on do.
-- Assumes nothing.
use mathlib.Core.Path.{◌≡◌, sym}
use Prim.Native.Nat.{◌+◌}
use native.Mathlib.Omega.{arith}
use Rattle.std.proofs.lemmas.Result.{err_from_is_err_and}
use Rattle.fst.proofs.Records.{standing}
use Rattle.signal.proofs.Entries.{rest}
use Rattle.fst.specs.Refusal.{told}
use Rattle.fst.specs.Record.{lent_in}
use Rattle.equality.specs.Compare.{walked, compare_records}
use Rattle.equality.proofs.Comparing.{follow, walk_starts, step}
use Rattle.equality.proofs.compare_entries.Goals.{After-compare_pair}
use Rattle.equality.proofs.compare_entries.Goals as goal

-- what the pair k leaves to the rest of the walk
paired : (c : After-compare_pair)
    → let a = c.args.a.now in
    let b = c.args.b.now in
    compare_records a.description (lent_in a.slices) b.description (lent_in b.slices)
    ≡ follow (told c.compare_pair.result) (walked (rest a.description (lent_in a.slices) (c.loop-k.k + 1)) (rest b.description (lent_in b.slices) (c.loop-k.k + 1)))
paired c =
    let x = c.entry.ensures in
    let y = c.entry-in-loop-k.ensures in
    step c.loop-k.invariant (omega arith) (omega arith) x.encoding x.bytes x.index y.encoding y.bytes y.index c.compare_pair.ensures

pub loop-k-init : goal.loop-k-init
loop-k-init c = walk_starts _ _ _ _ c.requires.a_sound c.requires.b_sound

pub returns-in_err-agree : goal.returns-in_err-agree
unfolding follow
returns-in_err-agree c =
    let p = err_from_is_err_and c.from_residual.result c.from_residual.ensures.1 in
    let w = paired (goal.at.returns-in_err-agree c).After-compare_pair in
    rw (p.1, p.2) (sym (rw c.in_err-agree.was at w))

pub returns-then-not-agree : goal.returns-then-not-agree
unfolding follow
returns-then-not-agree c =
    let w = paired (goal.at.returns-then-not-agree c).After-compare_pair in
    sym (rw (c.in_ok-agree.was, c.if-not-agree.true) at w)

pub loop-k-preserved : goal.loop-k-preserved
unfolding follow
loop-k-preserved c =
    let w = paired (goal.at.loop-k-preserved c).After-compare_pair in
    record { first = standing c.requires.a_sound; second = standing c.requires.b_sound; left = rw (c.in_ok-agree.was, c.if-not-agree.false) at w }
