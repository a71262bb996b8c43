-- `steps::Sources::any_marked_badly` meets its contract.
-- Assumes nothing.
use borrow.Author.Tests.{tests}
use Rattle.std.proofs.Common.{rules}
use Rattle.steps.specs.Inputs.{mark_is_bad}
use Rattle.steps.specs.Refusals.{is_bad_in, its_inputs, its_record}
use Rattle.steps.proofs.Anys.{any_image, asked_of_none}
use Rattle.steps.proofs.Sources.any_marked_badly.Goals as goal

pub any-requires-clause-callable : goal.any-requires-clause-callable
any-requires-clause-callable c =
    let s = c.args.self.now in
    asked_of_none (is_bad_in s) (its_inputs s) _ _ c.requires (cc) (λ x q r. search rules) (λ x n. search rules)

pub returns : goal.returns
returns c = let s = c.args.self.now in any_image mark_is_bad (its_record s) (its_inputs s) _ _ _ _ c.any.ensures.ran (cc) (λ x b q k. search (rules, tests))
