-- `value::States::beyond_two` meets its contract: each union so far is 0 where its set holds the characters so far.
-- Assumes nothing.
use mathlib.Core.Path.{◌≡◌}
use lib.Dec.{eqb}
use lib.ListN.{take}
use Rattle.value.specs.declared.States.TheVariants.{Four, Nine}
use Rattle.value.specs.Answer.{holds_all}
use Rattle.value.proofs.States.beyond_two.Given as goal

abbrev pub invariant-loop-c : goal.invariant-loop-c
invariant-loop-c l = (eqb l.four 0 ≡ holds_all Four (take l.c-index l.value)) × (eqb l.nine 0 ≡ holds_all Nine (take l.c-index l.value))
