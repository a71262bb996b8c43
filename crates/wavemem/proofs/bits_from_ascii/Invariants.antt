-- `wavemem::bits_from_ascii` meets its contract: the working number is that of the characters so far.
-- Assumes nothing.
use mathlib.Core.Path.{◌≡◌}
use Prim.Native.Nat.{◌+◌, ◌*◌, ◌%◌}
use lib.ListN.{length, take}
use Rattle.value.specs.Digits.{number}
use Rattle.value.specs.Level.{fold_all, codes_of}
use Rattle.wavemem.proofs.bits_from_ascii.Given as goal

abbrev pub invariant-loop-chars : goal.invariant-loop-chars
invariant-loop-chars l = l.working ≡ number 2 (take (length l.value % 8 + l.chars-index * 8) (codes_of (fold_all l.value)))
