-- `wavemem::table::Table::number` meets its contract: the working number is that of the characters so far.
-- Assumes nothing.
use mathlib.Core.Path.{◌≡◌}
use Prim.Native.Nat.{◌^◌}
use lib.ListN.{take}
use Rattle.value.specs.Digits.{number}
use Rattle.value.specs.Level.{fold_all, codes_of}
use Rattle.wavemem.proofs.table.Table.number.Given as goal

abbrev pub invariant-loop-c : goal.invariant-loop-c
invariant-loop-c l = l.working ≡ number (2 ^ l.bits) (take l.c-index (codes_of (fold_all l.value)))
