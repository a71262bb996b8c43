-- `steps::Sources::any_without_text` meets its contract.
-- Assumes nothing.
use borrow.Author.Tests.{tests}
use Rattle.std.proofs.Common.{rules}
use Rattle.fst.specs.Record.{kept_in}
use Rattle.steps.specs.Inputs.{is_no_bit_vector}
use Rattle.steps.specs.Refusals.{its_inputs, its_record}
use Rattle.steps.proofs.Anys.{any_image}
use Rattle.steps.proofs.Sources.any_without_text.Goals as goal

pub returns : goal.returns
unfolding kept_in
returns c =
    let s = c.args.self.now in any_image is_no_bit_vector (its_record s) (its_inputs s) _ _ _ _ c.any.ensures.ran (cc) (λ x b q k. search (rules, tests))
