-- `layout::expand::expand_entries` meets its contract.
-- Assumes nothing.
use mathlib.Core.Path.{◌≡◌, sym, ap, ◌∙◌}
use Prim.Native.Nat.{◌+◌, ◌*◌, ◌≤◌}
use native.Mathlib.Nat.{mul-le-mul_left}
use native.Mathlib.Omega.{arith}
use lib.ListN.{length}
use Rattle.std.proofs.Common.{rules}
use Rattle.value.specs.Digits.{Below}
use Rattle.value.specs.Slice.{part, overlay}
use Rattle.value.proofs.Digits.{below_all}
use Rattle.value.proofs.Slices.{part_length, overlay_part}
use Rattle.value.proofs.Backward.{below_part}
use Rattle.layout.specs.Entry.{entry_size}
use Rattle.layout.specs.Expand.{Move, widening_of, moved_entries}
use Rattle.layout.proofs.Sizes.{size_up, widen_all_same}
use Rattle.layout.proofs.Expanding.{all_widen}
use Rattle.layout.proofs.expand.expand_entries.Goals.{Else-entry_size}
use Rattle.layout.proofs.expand.expand_entries.Goals as goal

pub returns-then-entry_size : goal.returns-then-entry_size
returns-then-entry_size c =
    let x = c.args in
    let d = x.«data».now in
    let e : entry_size x.bits x.from ≡ entry_size x.bits x.to = sym c.entry_size.ensures ∙ c.if-entry_size.true ∙ c.entry_size-2.ensures in
    let r : x.start + x.entries * entry_size x.bits x.from ≤ length d = rw e c.requires.room in
    sym (ap (overlay d x.start) (widen_all_same x.bits x.from x.to e x.entries _ (part_length d x.start _ r)) ∙ overlay_part d x.start _ r)

grown : (c : Else-entry_size) → entry_size c.args.bits c.args.from ≡ entry_size c.args.bits c.args.to → ⊥
grown c e = c.if-entry_size.false (c.entry_size.ensures ∙ e ∙ sym c.entry_size-2.ensures)

pub returns : goal.returns
unfolding widening_of
returns c =
    let x = c.args in
    let d = x.«data».now in
    let s = entry_size x.bits x.from in
    let r : x.start + x.entries * s ≤ length d = omega (arith, c.requires.room, mul-le-mul_left x.entries (size_up x.bits x.from x.to c.requires.up)) in
    let b : Below 256 d = below_all 256 d (λ i. search rules) in
    let t = part_length d x.start (x.entries * s) r in
    c.expand_all.ensures
    ∙ ap (λ (m : Move). overlay d x.start (moved_entries m x.entries (part x.start (x.entries * m.from_size) d))) c.new.ensures
    ∙ ap (overlay d x.start)
    (all_widen x.bits c.requires.wide x.from x.to c.requires.up (grown (goal.at.returns c).Else-entry_size) x.entries (part x.start (x.entries * s) d) (omega arith)
    (below_part 256 d b x.start (x.entries * s)))
