-- `signal::packed::has_bad_byte` meets its contract: the union so far is more than 0 where a code so far is bad.
-- Assumes nothing.
use mathlib.Core.Path.{◌≡◌}
use lib.Dec.{ltb}
use lib.ListN.{take}
use Rattle.value.specs.Slice.{any}
use Rattle.signal.specs.Parts.{is_bad_byte}
use Rattle.signal.proofs.packed.has_bad_byte.Given as goal

abbrev pub invariant-loop-byte : goal.invariant-loop-byte
invariant-loop-byte l = ltb 0 l.union ≡ any is_bad_byte (take l.byte-index l.levels)
