-- `wavemem::short::squeeze` meets its contract: the steps that are left end as all do.
-- Assumes nothing.
use mathlib.Core.Path.{◌≡◌}
use lib.ListN.{drop}
use Rattle.std.specs.Prelude.{fold}
use Rattle.wavemem.specs.Short.{pushed_by}
use Rattle.wavemem.proofs.short.squeeze.Given as goal

abbrev pub invariant-loop-shift : goal.invariant-loop-shift
invariant-loop-shift g l = fold pushed_by l.y (drop l.shift-index l.steps) ≡ fold pushed_by l.x l.steps
