-- `layout::number::NewEntry::new` meets its contract. Assumes nothing.
use native.Mathlib.Omega.{arith}
use Rattle.layout.proofs.Numbers.{one_word}
use Rattle.layout.proofs.number.NewEntry.new.Goals as goal

pub number_from_ascii-requires : goal.number_from_ascii-requires
number_from_ascii-requires c = one_word c.requires.0 (omega (arith, c.requires.1, c.if-size-le8.true))
