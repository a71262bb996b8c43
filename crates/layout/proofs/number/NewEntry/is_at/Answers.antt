-- `layout::number::NewEntry::is_at` meets its contract. Assumes nothing.
use native.Mathlib.Omega.{arith}
use Rattle.value.proofs.Digits.{below_all}
use Rattle.layout.proofs.Numbers.{numbers_same}
use Rattle.layout.proofs.number.NewEntry.is_at.Goals as goal

pub returns-in-Some : goal.returns-in-Some
returns-in-Some c =
    numbers_same c.self.invariant c.self.view_is c.in-Some.is c.args.bytes.now (below_all 256 _ (λ j. omega (arith, c.type_inv.bytes j))) c.args.at _ c.requires c.number_at.ensures
