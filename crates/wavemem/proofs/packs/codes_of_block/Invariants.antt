-- `wavemem::packs::codes_of_block` meets its contract: each turn stores the code of the next character.
-- Assumes nothing.
use mathlib.Core.Path.{◌≡◌}
use lib.ListN.{take, replicate}
use Rattle.value.specs.Slice.{overlay}
use Rattle.value.specs.Level.{fold_all, codes_of}
use Rattle.wavemem.proofs.packs.codes_of_block.Given as goal

abbrev pub invariant-loop-i : goal.invariant-loop-i
invariant-loop-i l = l.codes ≡ overlay (replicate 32 0) 0 (take l.i (codes_of (fold_all l.chars)))
