-- `layout::number::mark_in` meets its contract: nothing of the mark is shifted out.
-- Assumes nothing.
use mathlib.Core.Path.{ap, ◌∙◌}
use Prim.Native.Nat.{ℕ, ◌-◌, ◌*◌, ◌^◌}
use native.Mathlib.Omega.{arith}
use lib.Pow.{shl_exact}
use Rattle.value.proofs.Levels.{mark_small}
use Rattle.layout.proofs.number.mark_in.Goals as goal

pub returns : goal.returns
returns c =
    let k = 8 * c.args.size - 2 in
    let e = c.from.ensures ∙ c.mark.ensures in
    shl_exact {a = c.from.result} 2 k 64 (omega (arith, e, mark_small c.args.states)) (omega (arith, c.requires)) ∙ ap (λ (m : ℕ). m * 2 ^ k) e
