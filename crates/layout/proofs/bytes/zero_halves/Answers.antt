-- `layout::bytes::zero_halves` meets its contract. Assumes nothing.
use mathlib.Core.Path.{◌≡◌, sym, ap, ◌∙◌}
use Prim.Native.Nat.{ℕ, ◌-◌}
use native.Mathlib.Omega.{arith}
use lib.ListN.{replicate, length-replicate}
use Rattle.std.proofs.lemmas.List.{take-replicate, drop-replicate}
use Rattle.layout.proofs.Blocks.{halves_laid}
use Rattle.layout.proofs.bytes.zero_halves.Goals as goal

pub returns : goal.returns
returns g c =
    let x = c.args in
    let h = g.row.HALF in
    let e : h ≡ x.n - (x.n - h) = omega (arith, c.requires.1.fits) in
    halves_laid c.requires.1 x.«data».now (replicate x.n 0) x.from (length-replicate x.n 0) c.requires.0
    (ap (λ (k : ℕ). replicate k 0) e ∙ sym (drop-replicate (x.n - h) x.n 0))
    (sym (take-replicate h x.n 0 c.requires.1.fits))
    c.write_block.ensures c.write_block-2.ensures
