-- `layout::bytes::write_block` meets its contract. Assumes nothing.
use mathlib.Core.Path.{◌≡◌, sym, ap, ◌∙◌}
use mathlib.Core.List.{List}
use Prim.Native.Nat.{ℕ, ◌+◌, ◌<◌}
use native.Mathlib.Omega.{arith}
use lib.ListN.{length, take, set, get_or}
use lib.Seq.{length-take-le}
use Rattle.std.proofs.lemmas.List.{take_more}
use Rattle.value.specs.Slice.{overlay}
use Rattle.value.proofs.Slices.{overlay_store}
use Rattle.layout.proofs.bytes.write_block.Goals as goal

pub loop-i-preserved : goal.loop-i-preserved
loop-i-preserved g c =
    let x = c.args in
    let i = c.loop-i.i in
    let h : i < length x.block.now = omega arith in
    let e : x.q + length (take i x.block.now) ≡ x.q + i = ap (λ (k : ℕ). x.q + k) (length-take-le i x.block.now (omega arith)) in
    ap (λ (l : List ℕ). set l (x.q + i) (get_or x.block.now i 0)) c.loop-i.invariant
    ∙ overlay_store x.«data».now x.q (take i x.block.now) (x.q + i) _ e (omega arith)
    ∙ ap (overlay x.«data».now x.q) (sym (take_more x.block.now i 0 h))
