-- `fst::Description::add_real` meets its contract.
-- Assumes nothing.
use mathlib.Core.Path.{◌≡◌, ◌∙◌}
use Rattle.std.proofs.Math.Path.{subst₂}
use Rattle.std.specs.Prelude.{Result}
use Rattle.fst.specs.declared.Refusal.{Refusal}
use Rattle.fst.specs.Record.{Lent}
use Rattle.fst.specs.Adding.{AdmitsReal}
use Rattle.fst.proofs.Adding.{left_added}
use Rattle.fst.proofs.Description.add_real.Goals.{in-Ok, in-Err}
use Rattle.fst.proofs.Description.add_real.Goals as goal

pub append-made-requires : goal.append-made-requires
append-made-requires c =
    let x = c.args in
    let a = subst₂ (λ (l : Lent) (r : Result Unit Refusal). AdmitsReal x.self l x.index x.bits r) c.shared.ensures c.in-Ok.is (c.admit_real.ensures x.bits) in
    (a.admitted.sound, a.sized)

pub returns : goal.returns
returns c =
    let x = c.args in
    let admits = λ (r : Result Unit Refusal) (e : c.admit_real.result ≡ r).
    subst₂ (λ (l : Lent) (r : Result Unit Refusal). AdmitsReal x.self l x.index x.bits r) c.shared.ensures e (c.admit_real.ensures x.bits) in
    elim c.match-admit_real.branch [
      | in-Ok w ↦
          rw (c.answer.ensures, w.made-is, w.bytes-is, w.indices-is)
          (w.append-made.ensures ∙ left_added (admits _ w.in-Ok.is))
      | in-Err w ↦ rw (c.answer.ensures, w.made-is, w.bytes-is, w.indices-is) (admits _ w.in-Err.is)
    ]
