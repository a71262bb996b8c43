-- `layout::entry::EntryLayout::write_front` meets its contract. Assumes nothing.
use mathlib.Core.Path.{refl, sym, ap, ◌∙◌}
use mathlib.Core.List.{List, [], ◌∷◌}
use Prim.Native.Nat.{ℕ, ◌+◌, ◌-◌}
use native.Mathlib.Omega.{arith}
use borrow.Author.Tests.{ne_eqb}
use lib.ListN.{replicate}
use Rattle.value.specs.Slice.{overlay}
use Rattle.value.proofs.Slices.{overlay_one, overlay_overlay}
use Rattle.layout.specs.Writable.{mark_in_front}
use Rattle.layout.proofs.entry.EntryLayout.write_front.Goals as goal

pub returns : goal.returns
unfolding mark_in_front
returns c =
    let a = c.args in
    let l = a.self.now in
    let d = a.out.now in
    let zeros : List ℕ = replicate (l.front - 1) 0 in (
      c.push_zeros.ensures.0 ∙ omega arith,
      c.push_zeros.ensures.1
          ∙ ap (λ (o : List ℕ). overlay o (a.at + 1) zeros) (sym (overlay_one d a.at l.mark (omega arith)))
          ∙ overlay_overlay d a.at (l.mark ∷ []) zeros (a.at + 1) refl (omega arith)
          ∙ rw (ne_eqb l.front 0 c.if-self-eq0.false),
    )
