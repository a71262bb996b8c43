-- `fst::Description::add_change` meets its contract.
-- Assumes nothing.
use mathlib.Core.Path.{◌≡◌, ap, ◌∙◌}
use Rattle.std.proofs.Math.Path.{subst₂}
use Rattle.std.specs.Prelude.{Result, Ok}
use Rattle.fst.specs.declared.Refusal.{Refusal}
use Rattle.fst.specs.declared.change.Addition.{Addition}
use Rattle.fst.specs.Record.{Lent}
use Rattle.fst.specs.Adding.{Admits}
use Rattle.fst.proofs.Adding.{left_added}
use Rattle.fst.proofs.Description.add_change.Goals.{in-Ok-Event, in-Ok-Entry, in-Ok-Raised, in-Err}
use Rattle.fst.proofs.Description.add_change.Goals as goal

pub returns : goal.returns
returns c =
    let x = c.args in
    let admits = λ (r : Result Addition Refusal) (e : c.admit.result ≡ r).
    subst₂ (λ (l : Lent) (r : Result Addition Refusal). Admits x.self l x.index x.value.now r) c.shared.ensures e c.admit.ensures in
    elim c.match-admit.branch [
      | in-Ok-Event w ↦
          rw (c.answer.ensures, w.made-is, w.bytes-is, w.indices-is)
          (w.append-made.ensures ∙ left_added (admits _ (w.in-Ok-Event.is ∙ ap Ok w.in-Ok-Event.field-0-is)))
      | in-Ok-Entry w ↦
          rw (c.answer.ensures, w.made-is, w.bytes-is, w.indices-is)
          (w.append-made-in-Ok-Entry.ensures ∙ left_added (admits _ (w.in-Ok-Entry.is ∙ ap Ok w.in-Ok-Entry.field-0-is)))
      | in-Ok-Raised w ↦ rw (c.answer.ensures, w.made-is, w.bytes-is, w.indices-is) w.raise-made.ensures
      | in-Err w ↦ rw (c.answer.ensures, w.made-is, w.bytes-is, w.indices-is) (admits _ w.in-Err.is)
    ]
