-- `layout::bytes::move_halves` meets its contract. Assumes nothing.
use mathlib.Core.Path.{◌≡◌, sym, ap, ◌∙◌}
use Prim.Native.Nat.{ℕ, ◌-◌, ◌+◌}
use native.Mathlib.Omega.{arith}
use Rattle.value.specs.Slice.{part}
use Rattle.value.proofs.Slices.{part_length}
use Rattle.layout.proofs.Blocks.{part_end, part_front, halves_laid}
use Rattle.layout.proofs.bytes.move_halves.Goals as goal

pub returns : goal.returns
returns g c =
    let x = c.args in
    let d = x.«data».now in
    let h = g.row.HALF in
    let r = x.n - h in
    let e : h ≡ x.n - r = omega (arith, c.requires.2.fits) in
    halves_laid c.requires.2 d (part x.p x.n d) x.q (part_length d x.p x.n (omega (arith, c.requires.0))) c.requires.1
    (c.read_block-last.ensures ∙ ap (λ (k : ℕ). part (x.p + r) k d) e ∙ sym (part_end d x.p x.n r (omega (arith, c.requires.0)) (omega arith)))
    (c.read_block-first.ensures ∙ sym (part_front d x.p x.n h (omega (arith, c.requires.0)) c.requires.2.fits))
    c.write_block.ensures c.write_block-2.ensures
