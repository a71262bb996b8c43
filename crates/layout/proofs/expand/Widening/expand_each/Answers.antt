-- `layout::expand::Widening::expand_each` meets its contract. Assumes nothing.
use mathlib.Core.Path.{◌≡◌, sym, ap, ap₂, ◌∙◌}
use mathlib.Core.List.{List}
use Prim.Native.Nat.{ℕ, ◌+◌, ◌-◌, ◌*◌, ◌≤◌}
use native.Mathlib.Omega.{arith}
use lib.ListN.{length}
use Rattle.value.specs.Slice.{part, overlay}
use Rattle.layout.specs.Expand.{Move, to_size, moved_entry}
use Rattle.layout.proofs.Expanding.{seen, expanded, none_expanded, old_place_lem, new_place, more_expanded}
use Rattle.layout.proofs.expand.Widening.expand_each.Goals.{At-loop-k}
use Rattle.layout.proofs.expand.Widening.expand_each.Goals as goal

room : (a : At-loop-k) → a.args.start + a.args.entries * to_size (seen a.self.inside) ≤ length a.args.«data».now
room a = rw (ap to_size a.self.view_is) a.requires

pub loop-k-init : goal.loop-k-init
loop-k-init c =
    let x = c.args in
    let d = x.«data».now in
    sym (none_expanded _ c.self.invariant d x.start x.entries (rw (ap to_size c.self.view_is) c.requires)) ∙ ap (λ (m : Move). expanded m d x.start x.entries x.entries) c.self.view_is

pub expand_entry-requires : goal.expand_entry-requires
expand_entry-requires c =
    let x = c.args in
    let d = x.«data».now in
    let m = seen c.self.inside in
    let r = room (goal.at.expand_entry-requires c).At-loop-k in
    let k = c.loop-k.k - 1 in (
      old_place_lem m c.self.invariant d x.start x.entries r k (omega arith),
      omega (arith, new_place m c.self.invariant d x.start x.entries r k (omega arith), ap to_size c.self.view_is, c.loop-k.auto.«data»),
    )

pub loop-k-preserved : goal.loop-k-preserved
loop-k-preserved c =
    let x = c.args in
    let d = x.«data».now in
    let i = c.self.inside in
    let v = c.self.view_is in
    let k = c.loop-k.k - 1 in
    let e : c.loop-k.k ≡ k + 1 = omega arith in
    let stored = λ (m : Move) (l : List ℕ). overlay l (x.start + k * to_size (seen i)) (moved_entry m (part (x.start + k * i.from_size) m.from_size l)) in
    c.expand_entry.ensures
    ∙ ap₂ stored (sym v) (c.loop-k.invariant ∙ ap₂ (λ (m : Move) (j : ℕ). expanded m d x.start x.entries j) (sym v) e)
    ∙ more_expanded (seen i) c.self.invariant d x.start x.entries (room (goal.at.loop-k-preserved c).At-loop-k) k (omega arith)
    ∙ ap (λ (m : Move). expanded m d x.start x.entries k) v
