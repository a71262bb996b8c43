-- `signal::packed::write_levels` meets its contract: as many characters stand there as turns were taken.
-- Assumes nothing.
use mathlib.Core.Path.{◌≡◌}
use Prim.Native.Nat.{◌^◌}
use lib.ListN.{length, take}
use Rattle.value.specs.Digits.{digits}
use Rattle.value.specs.Level.{bits_of, text_of}
use Rattle.value.specs.Slice.{overlay}
use Rattle.signal.proofs.packed.write_levels.Given as goal

abbrev pub invariant-loop-i : goal.invariant-loop-i
invariant-loop-i l = (l.out ≡ overlay l.initial.out l.at (text_of (take l.i (digits (2 ^ bits_of l.states) l.count l.byte)))) × (length l.out ≡ length l.initial.out)
