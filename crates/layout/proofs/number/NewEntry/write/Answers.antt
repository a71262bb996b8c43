-- `layout::number::NewEntry::write` meets its contract. Assumes nothing.
use mathlib.Core.Path.{ap, ◌∙◌}
use Rattle.value.specs.Slice.{overlay}
use Rattle.layout.proofs.Numbers.{entry_digits}
use Rattle.layout.proofs.number.NewEntry.write.Goals as goal

pub returns-in-Some : goal.returns-in-Some
returns-in-Some c =
    c.write_number.ensures ∙ ap (overlay c.args.out.now c.args.at) (entry_digits c.self.invariant c.self.view_is c.in-Some.is)
