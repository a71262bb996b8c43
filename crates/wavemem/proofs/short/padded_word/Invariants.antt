-- `wavemem::short::padded_word` meets its contract: behind characters 0 stand the characters so far.
-- Assumes nothing.
use mathlib.Core.Path.{◌≡◌}
use mathlib.Core.List.{◌++◌}
use Prim.Native.Nat.{◌-◌}
use lib.ListN.{take, replicate}
use Rattle.value.specs.Digits.{number}
use Rattle.wavemem.proofs.short.padded_word.Given as goal

abbrev pub invariant-loop-c : goal.invariant-loop-c
invariant-loop-c l = l.w ≡ number 256 (replicate (8 - l.c-index) 48 ++ take l.c-index l.value)
