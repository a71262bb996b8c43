-- `entries::repeats_entry` meets its contract.
-- Assumes nothing.
use mathlib.Core.Path.{ap, ◌∙◌}
use Prim.Native.Nat.{ℕ, ◌+◌, ◌-◌, ◌*◌}
use lib.ListN.{length}
use Rattle.value.specs.Slice.{part, same}
use Rattle.entries.proofs.LastEntry.{none_repeated, repeats_plain_lem}
use Rattle.entries.proofs.repeats_entry.Goals as goal

pub returns-in_default : goal.returns-in_default
returns-in_default c = none_repeated _ _ _ _ c.in_default.ensures

pub returns : goal.returns
returns c =
    let a = c.args in
    let e = a.entry.now in
    let at = c.in-Some.ensures in
    c.is_at.ensures
    ∙ ap (λ (k : ℕ). same (part k (length e) a.bytes.now) e) (at.1 ∙ ap (λ (s : ℕ). a.byte_start + (a.count - 1) * s) c.len.ensures)
    ∙ repeats_plain_lem (length e) a.count a.byte_start a.bytes.now e at.0
