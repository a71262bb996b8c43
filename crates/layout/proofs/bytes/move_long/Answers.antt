-- `layout::bytes::move_long` meets its contract. Assumes nothing.
use mathlib.Core.Path.{◌≡◌, sym, ap, ap₂, ◌∙◌}
use mathlib.Core.List.{List}
use Prim.Native.Nat.{ℕ, ◌+◌, ◌-◌, ◌*◌, ◌/◌}
use native.Mathlib.Nat.{sub_self}
use native.Mathlib.Omega.{arith}
use Rattle.value.specs.Slice.{part, overlay}
use Rattle.value.proofs.Slices.{part_nil, overlay_nil}
use Rattle.value.proofs.Backward.{moved_more}
use Rattle.layout.proofs.Blocks.{ends_moved}
use Rattle.layout.proofs.bytes.move_long.Goals.{At-loop-k}
use Rattle.layout.proofs.bytes.move_long.Goals as goal

-- all but the first i bytes moved
abbrev moved : List ℕ → ℕ → ℕ → ℕ → ℕ → List ℕ
moved d p q n i = overlay d (q + i) (part (p + i) (n - i) d)

pub loop-k-init : goal.loop-k-init
loop-k-init c =
    let x = c.args in
    let d = x.«data».now in
    let e : x.n - 32 * ((x.n - 1) / 32) + 32 * ((x.n - 1) / 32) ≡ x.n = omega arith in
    sym (ap (moved d x.p x.q x.n) e ∙ rw (sub_self, part_nil, overlay_nil))

pub loop-k-preserved : goal.loop-k-preserved
loop-k-preserved c =
    let x = c.args in
    let d = x.«data».now in
    let r = x.n - 32 * ((x.n - 1) / 32) in
    let i = r + 32 * (c.loop-k.k - 1) in
    let e : r + 32 * c.loop-k.k ≡ i + 32 = omega arith in
    c.write_block.ensures
    ∙ ap (overlay c.loop-k.«data» (x.q + i)) c.read_block-block.ensures
    ∙ ap (λ (l : List ℕ). overlay l (x.q + i) (part (x.p + i) 32 l)) (c.loop-k.invariant ∙ ap (moved d x.p x.q x.n) e)
    ∙ moved_more d x.p x.q x.n i 32 (omega arith) (omega arith) (omega arith)

pub returns : goal.returns
returns c =
    let x = c.args in
    let d = x.«data».now in
    let r = x.n - 32 * ((x.n - 1) / 32) in
    let e : r + 32 * c.loop-k.k ≡ r = omega arith in
    c.write_block-2.ensures
    ∙ ap₂ (λ (l v : List ℕ). overlay l x.q v) (c.loop-k.invariant ∙ ap (moved d x.p x.q x.n) e) c.read_block-first.ensures
    ∙ ends_moved d x.p x.q x.n r 32 c.requires.0 c.requires.1 (omega arith) c.requires.2
