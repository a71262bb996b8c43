-- `layout::bytes::move_long` meets its contract. Assumes nothing.
use mathlib.Core.Path.{◌≡◌}
use Prim.Native.Nat.{◌-◌, ◌+◌, ◌*◌}
use Rattle.value.specs.Slice.{part, overlay}
use Rattle.layout.proofs.bytes.move_long.Given as goal

abbrev pub invariant-loop-k : goal.invariant-loop-k
invariant-loop-k l =
    let i = l.rest + 32 * l.k in
    l.data ≡ overlay l.initial.data (l.q + i) (part (l.p + i) (l.n - i) l.initial.data)
