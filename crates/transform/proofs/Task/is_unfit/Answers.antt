-- `transform::Task::is_unfit` meets its contract.
-- Assumes nothing.
use lib.ListN.{length}
use native.Mathlib.Omega.{arith}
use mathlib.Core.Path.{◌∙◌, ◌≡◌, sym}
use Rattle.steps.specs.Refusals.{its_records}
use Rattle.derivation.proofs.Pieces.{sound}
use Rattle.transform.proofs.PieceTests.{pieces_named, unfit_by_beyond}
use Rattle.transform.proofs.Task.is_unfit.Goals as goal

pub any_beyond-requires : goal.any_beyond-requires
any_beyond-requires c =
    let d = c.args.self.now.derivation.now in
    let good = sym c.is_bad.ensures ∙ c.if-is_bad.false in
    let n : length c.used.result.now ≡ d.input_count = omega (arith, c.used.ensures.long, (sound d good).named, c.if-self.false) in
    rw (n, c.pieces.ensures.value) (pieces_named d good)

pub returns : goal.returns
returns c =
    let d = c.args.self.now.derivation.now in
    let s = c.args.self.now.sources.now in
    unfit_by_beyond d s.inputs.now.count (its_records s) _ (sym c.is_bad.ensures ∙ c.if-is_bad.false) c.if-self-eq0.false c.if-self.false (sym c.any_without_text.ensures ∙ c.if-any_without_text.false)
    (c.any_beyond.ensures s.bytes.now s.indices.now ∙ rw (c.used.ensures.value, c.pieces.ensures.value))
