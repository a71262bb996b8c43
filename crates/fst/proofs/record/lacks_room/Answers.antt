-- `fst::record::lacks_room` meets its contract.
-- Assumes nothing.
use mathlib.Core.Path.{sym, subst, ◌∙◌}
use Prim.Native.Nat.{ℕ, ◌+◌, ◌-◌, ◌*◌, ◌≤◌, ◌<◌}
use borrow.Author.Tests.{eqb-false, ltb-true, ltb-false}
use lib.ListN.{length}
use Rattle.fst.proofs.Records.{standing}
use Rattle.fst.proofs.AddingPlain.{most, no_bytes, by_indices}
use Rattle.fst.proofs.record.lacks_room.Goals.{Start, then-description-eq-MAXIMUM, else-description-eq-MAXIMUM}
use Rattle.fst.proofs.record.lacks_room.Goals as goal

-- the bytes that are left, by a size
abbrev left : Start → ℕ → ℕ
left x k = length x.args.slices.bytes.now - (x.args.slices.byte_start + x.args.description.count * k)

pub returns-then-slices-entries : goal.returns-then-slices-entries
returns-then-slices-entries c =
    let past = goal.at.returns-then-slices-entries c in
    elim c.if-description-eq-MAXIMUM.branch [
      | then-description-eq-MAXIMUM w ↦ c.if-slices-entries.true ∙ most (standing c.requires.0) w.if-description-eq-MAXIMUM.true
      | else-description-eq-MAXIMUM w ↦
          c.if-slices-entries.true
          ∙ no_bytes (standing c.requires.0) w.if-description-eq-MAXIMUM.false
          (subst (λ (k : ℕ). left past.Start k < k) c.requires.1 (ltb-true (left past.Start c.args.size) c.args.size (sym w.value-is ∙ c.if-slices-entries.true)))
    ]

pub returns-else-slices-entries : goal.returns-else-slices-entries
returns-else-slices-entries c =
    let past = goal.at.returns-else-slices-entries c in
    elim c.if-description-eq-MAXIMUM.branch [
      | then-description-eq-MAXIMUM w ↦
          absurd (eqb-false _ _ (sym w.value-is ∙ c.if-slices-entries.false) w.if-description-eq-MAXIMUM.true)
      | else-description-eq-MAXIMUM w ↦
          by_indices (standing c.requires.0) w.if-description-eq-MAXIMUM.false
          (subst (λ (k : ℕ). k ≤ left past.Start k) c.requires.1 (ltb-false (left past.Start c.args.size) c.args.size (sym w.value-is ∙ c.if-slices-entries.false)))
    ]
