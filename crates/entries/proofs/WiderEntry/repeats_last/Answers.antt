-- `entries::WiderEntry::repeats_last` meets its contract.
-- Assumes nothing.
use mathlib.Core.Path.{ap, ◌∙◌}
use Prim.Native.Nat.{ℕ}
use lib.ListN.{length}
use Rattle.value.specs.Slice.{part, same}
use Rattle.entries.specs.Repeatable.{equals_widened}
use Rattle.entries.proofs.LastEntry.{none_repeated, last_widened, last_as_is}
use Rattle.entries.proofs.WiderEntry.repeats_last.Goals as goal

pub returns-in_default : goal.returns-in_default
returns-in_default c = none_repeated _ _ _ _ c.in_default.ensures

pub returns-then-size-len : goal.returns-then-size-len
returns-then-size-len c =
    let e = c.self.inside.entry in
    let b = c.args.bytes.now in
    c.is_at.ensures
    ∙ ap (λ (k : ℕ). same (part k (length e) b) e) c.in-Some.ensures.1
    ∙ last_as_is c.self.view_is c.self.invariant _ c.entry_size-size.ensures b c.requires c.in-Some.ensures.0 (c.if-size-len.true ∙ c.len.ensures)

pub returns-else-size-len : goal.returns-else-size-len
returns-else-size-len c =
    let b = c.args.bytes.now in
    c.is_widened.ensures
    ∙ ap (λ (k : ℕ). equals_widened c.args.self.now k b) c.in-Some.ensures.1
    ∙ last_widened c.self.view_is c.self.invariant _ c.entry_size-size.ensures b c.requires c.in-Some.ensures.0
