-- `layout::number::write_number` meets its contract: as many of the lowest digits stand there as turns were taken.
-- Assumes nothing.
use mathlib.Core.Path.{◌≡◌}
use Prim.Native.Nat.{◌-◌, ◌+◌, ◌^◌, ◌/◌}
use Rattle.value.specs.Digits.{digits}
use Rattle.value.specs.Slice.{overlay}
use Rattle.layout.proofs.number.write_number.Given as goal

abbrev pub invariant-loop-k : goal.invariant-loop-k
invariant-loop-k l = (l.out ≡ overlay l.initial.out (l.at + l.k) (digits 256 (l.size - l.k) l.number)) × (l.rest ≡ l.number / 256 ^ (l.size - l.k))
