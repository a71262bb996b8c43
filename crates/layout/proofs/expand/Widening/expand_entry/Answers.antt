-- `layout::expand::Widening::expand_entry` meets its contract. Assumes nothing.
use mathlib.Core.Path.{ap, ◌∙◌}
use native.Mathlib.Omega.{arith}
use Rattle.value.specs.Slice.{part, overlay}
use Rattle.layout.specs.Expand.{Move, to_size, moved_entry}
use Rattle.layout.proofs.Expanding.{seen, entry_moved}
use Rattle.layout.proofs.expand.Widening.expand_entry.Goals as goal

pub returns : goal.returns
returns c =
    let x = c.args in
    let d = x.«data».now in
    entry_moved (seen c.self.inside) c.self.invariant d _ _ x.p x.q c.requires.0 (omega (arith, ap to_size c.self.view_is)) c.move_up.ensures c.zero.ensures
    ∙ ap (λ (m : Move). overlay d x.q (moved_entry m (part x.p m.from_size d))) c.self.view_is
