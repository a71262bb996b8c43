-- `layout::entry::push_zeros` meets its contract. Assumes nothing.
use mathlib.Core.Path.{◌≡◌, refl, ap, ◌∙◌}
use mathlib.Core.List.{List}
use Prim.Native.Nat.{ℕ}
use lib.ListN.{length, replicate, length-replicate}
use Rattle.value.specs.Slice.{overlay}
use Rattle.value.proofs.Slices.{part_length}
use Rattle.layout.proofs.Blocks.{part_stored, part_borrowed}
use Rattle.layout.proofs.entry.push_zeros.Goals as goal

pub returns : goal.returns
returns c =
    let x = c.args in
    let d = x.out.now in
    let a : c.fill.new.self ≡ replicate x.count 0
    = c.fill.ensures.after (λ y e. e) ∙ ap (λ (l : List ℕ). replicate (length l) 0) (part_borrowed d x.from x.count) ∙ ap (λ (n : ℕ). replicate n 0) (part_length d x.from x.count c.requires) in
    (refl, part_stored d _ x.from x.count (ap length a ∙ length-replicate x.count 0) ∙ ap (overlay d x.from) a)
