-- `layout::number::number_at` meets its contract. Assumes nothing.
use mathlib.Core.Path.{◌∙◌}
use native.Mathlib.Omega.{arith}
use Rattle.std.proofs.Common.{rules}
use Rattle.std.proofs.lemmas.Iterator.{YieldsList-from_slice}
use Rattle.std.proofs.lemmas.Iterator.Consumers.{fold_from_yields_List}
use Rattle.value.specs.Slice.{part}
use Rattle.value.proofs.Digits.{below_all}
use Rattle.value.proofs.Slices.{part_length}
use Rattle.value.proofs.Backward.{below_part}
use Rattle.layout.proofs.Blocks.{part_borrowed}
use Rattle.layout.proofs.Numbers.{pushed, pushed_all}
use Rattle.layout.proofs.number.number_at.Goals as goal

pub returns : goal.returns
returns c =
    let x = c.args in
    let b = x.bytes.now in
    let p = part x.at x.size b in
    let long = part_length b x.at x.size c.requires.1 in
    fold_from_yields_List _ pushed 0 _ c.fold.ensures.ran (YieldsList-from_slice p (c.iter.ensures.rest ∙ part_borrowed b x.at x.size)) (λ a y r q h. search rules)
    ∙ pushed_all p (below_part 256 b (below_all 256 b (λ i. omega (arith, c.type_inv.bytes i))) x.at x.size) 0 0 (omega arith) (omega arith)
    ∙ (omega arith)
