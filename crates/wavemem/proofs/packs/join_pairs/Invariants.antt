-- `wavemem::packs::join_pairs` meets its contract: each turn stores the byte of the next two levels.
-- Assumes nothing.
use mathlib.Core.Path.{◌≡◌}
use Prim.Native.Nat.{◌*◌}
use lib.ListN.{take, replicate}
use Rattle.value.specs.Slice.{overlay}
use Rattle.wavemem.specs.Packed.{packed_with}
use Rattle.wavemem.proofs.packs.join_pairs.Given as goal

abbrev pub invariant-loop-k : goal.invariant-loop-k
invariant-loop-k l = l.joined ≡ overlay (replicate 16 0) 0 (packed_with 4 0 (take (2 * l.k) l.codes))
