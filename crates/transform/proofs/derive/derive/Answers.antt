-- `transform::derive::derive` meets its contract.
-- Assumes nothing.
use mathlib.Core.Path.{◌∙◌, ap, sym}
use Rattle.fst.specs.Refusal.{told}
use Rattle.transform.proofs.RefusalsInOrder.{derivable}
use Rattle.transform.proofs.derive.derive.Goals as goal

pub derive_all-requires : goal.derive_all-requires
derive_all-requires c =
    let s = c.args.sources.now in
    derivable c.args.derivation.now s.inputs.now s.bytes.now s.indices.now (sym c.first_refusal.ensures ∙ ap told c.in_ok-first_refusal.was)
