-- `transform::derive::largest_states` meets its contract.
-- Assumes nothing.
use borrow.Author.Tests.{tests}
use mathlib.Core.List.{map}
use mathlib.Core.Path.{◌∙◌}
use Rattle.std.proofs.Common.{rules}
use Rattle.std.proofs.lemmas.Iterator.{YieldsList-from_map, YieldsList-from_slice}
use Rattle.std.proofs.lemmas.Iterator.Consumers.{fold_from_yields_List}
use Rattle.value.specs.Level.{join}
use Rattle.value.specs.declared.States.{States}
use Rattle.value.specs.declared.States.TheVariants.{Two}
use Rattle.fst.specs.Record.{largest_in}
use Rattle.steps.specs.declared.Input.{Input}
use Rattle.transform.proofs.Sets.{fold_sets}
use Rattle.transform.proofs.derive.largest_states.Goals as goal

pub returns : goal.returns
returns c =
    let is = c.args.inputs.now in
    let largest : Input → States = λ i. largest_in i.description.encoding in
    fold_from_yields_List _ join Two c.fold.result c.fold.ensures.ran
    (YieldsList-from_map _ largest (YieldsList-from_slice is cc) c.map.ensures.closure (λ x r q k. search (rules, tests))) (λ a x b q k. search (rules, tests))
    ∙ fold_sets (map largest is)
