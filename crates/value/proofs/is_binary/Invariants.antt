-- `value::is_binary` meets its contract: the union so far is 0 where set Two holds the characters so far.
-- Assumes nothing.
use mathlib.Core.Path.{◌≡◌}
use lib.Dec.{eqb}
use lib.ListN.{take}
use Rattle.value.specs.declared.States.TheVariants.{Two}
use Rattle.value.specs.Answer.{holds_all}
use Rattle.value.proofs.is_binary.Given as goal

abbrev pub invariant-loop-c : goal.invariant-loop-c
invariant-loop-c l = eqb l.union 0 ≡ holds_all Two (take l.c-index l.value)
