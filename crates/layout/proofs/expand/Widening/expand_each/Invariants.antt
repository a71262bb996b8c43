-- `layout::expand::Widening::expand_each` meets its contract. Assumes nothing.
use mathlib.Core.Path.{◌≡◌}
use Rattle.layout.proofs.Expanding.{expanded}
use Rattle.layout.proofs.expand.Widening.expand_each.Given as goal

abbrev pub invariant-loop-k : goal.invariant-loop-k
invariant-loop-k l = l.data ≡ expanded l.fn.self l.initial.data l.start l.entries l.k
