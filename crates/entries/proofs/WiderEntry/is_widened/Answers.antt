-- `entries::WiderEntry::is_widened` meets its contract.
-- Assumes nothing.
use mathlib.Core.Path.{ap, ◌∙◌}
use mathlib.Core.List.{List}
use Prim.Native.Nat.{ℕ}
use lib.ListN.{length, replicate}
use Rattle.value.specs.Slice.{part, overlay, same}
use Rattle.value.proofs.Slices.{part_length}
use Rattle.entries.specs.Repeatable.{Wider, size_before}
use Rattle.entries.proofs.LastEntry.{widens, copy_widened}
use Rattle.entries.proofs.WiderEntry.is_widened.Goals as goal

pub returns : goal.returns
returns c =
    let a = c.args in
    let x = a.self.now in
    let b = a.bytes.now in
    let v = c.self.view_is in
    let k = widens v c.self.invariant in
    let moved = c.expand.new.data in
    c.is_at.ensures
    ∙ ap (λ (y : Wider). same (part 0 (length y.entry) moved) y.entry) v
    ∙ ap (λ (n : ℕ). same (part 0 n moved) x.entry) k.sized
    ∙ ap (λ (l : List ℕ). same l x.entry)
    (copy_widened x.bits k.wide x.from x.to k.up _ _ _ (part a.at (size_before x) b) (part_length b a.at (size_before x) c.requires)
    (c.copy_from.ensures ∙ ap (λ (n : ℕ). overlay (replicate 2049 0) 0 (part a.at n b)) (c.entry_size.ensures ∙ ap size_before v)) c.expand.ensures)
