-- `layout::bytes::write_block` meets its contract. Assumes nothing.
use mathlib.Core.Path.{◌≡◌}
use lib.ListN.{take}
use Rattle.value.specs.Slice.{overlay}
use Rattle.layout.proofs.bytes.write_block.Given as goal

abbrev pub invariant-loop-i : goal.invariant-loop-i
invariant-loop-i g l = l.data ≡ overlay l.initial.data l.q (take l.i l.block)
