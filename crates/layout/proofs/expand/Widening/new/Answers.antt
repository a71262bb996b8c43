-- `layout::expand::Widening::new` meets its contract. Assumes nothing.
use Rattle.layout.specs.Expand.{widening_of}
use Rattle.layout.proofs.Expanding.{widening_grows}
use Rattle.layout.proofs.expand.Widening.new.Goals.{After-entry_size-2}
use Rattle.layout.proofs.expand.Widening.new.Goals as goal

pub invariant_of-result : goal.invariant_of-result
unfolding widening_of
invariant_of-result c =
    let x = c.args in
    rw (c.entry_size.ensures, c.entry_size-2.ensures, c.get_len_and_meta-old.ensures.0) (widening_grows x.bits c.requires.0 x.from x.to c.requires.1 c.requires.2)
