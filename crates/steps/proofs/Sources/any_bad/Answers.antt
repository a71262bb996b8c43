-- `steps::Sources::any_bad` meets its contract.
-- Assumes nothing.
use borrow.Author.Tests.{tests}
use mathlib.Core.Path.{◌∙◌}
use Rattle.std.proofs.Common.{rules}
use Rattle.std.proofs.lemmas.Iterator.{YieldsList-from_slice}
use Rattle.std.proofs.lemmas.Iterator.Search.{any_from_yields_List}
use Rattle.value.proofs.Lists.{any_listed}
use Rattle.steps.specs.Refusals.{is_bad_in, its_inputs}
use Rattle.steps.proofs.Sources.any_bad.Goals as goal

pub returns : goal.returns
returns c =
    let s = c.args.self.now in
    any_from_yields_List (is_bad_in s) _ _ _ c.any.ensures.ran (YieldsList-from_slice (its_inputs s) cc) (λ x b q k. search (rules, tests)) ∙ any_listed (is_bad_in s) (its_inputs s)
