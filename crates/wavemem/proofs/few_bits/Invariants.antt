-- `wavemem::few_bits` meets its contract: the working number is that of the characters so far.
-- Assumes nothing.
use mathlib.Core.Path.{◌≡◌}
use lib.ListN.{take}
use Rattle.value.specs.Digits.{number}
use Rattle.value.specs.Level.{fold_all, codes_of}
use Rattle.wavemem.proofs.few_bits.Given as goal

abbrev pub invariant-loop-c : goal.invariant-loop-c
invariant-loop-c l = l.working ≡ number 2 (take l.c-index (codes_of (fold_all l.value)))
