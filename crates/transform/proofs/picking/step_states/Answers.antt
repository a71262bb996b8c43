-- `transform::picking::step_states` meets its contract.
-- Assumes nothing.
use borrow.Author.Tests.{tests}
use mathlib.Core.List.{map}
use mathlib.Core.Path.{◌∙◌}
use Rattle.runs.proofs.All.{all_at}
use Rattle.std.proofs.Common.{rules}
use Rattle.std.proofs.lemmas.Iterator.{YieldsList-from_map, YieldsList-from_slice}
use Rattle.std.proofs.lemmas.Iterator.Adapters.{serves_from_places}
use Rattle.std.proofs.lemmas.Iterator.Consumers.{fold_from_yields_List}
use Rattle.value.specs.Level.{join}
use Rattle.value.specs.declared.States.TheVariants.{Two}
use Rattle.steps.specs.Stepping.{Showing, set_now}
use Rattle.transform.proofs.Sets.{fold_sets}
use Rattle.transform.proofs.picking.step_states.Goals as goal

pub fold-requires-clause-can : goal.fold-requires-clause-can
fold-requires-clause-can c =
    let cs = c.args.cursors.now in
    let bytes = c.args.bytes.now in (
      tt,
      serves_from_places (YieldsList-from_slice cs cc) (λ x q r. search rules)
          (λ x k h e. let a : Showing bytes x.now = rw (← e) at (all_at (Showing bytes) cs c.requires k x.now h) in search rules),
    )

pub returns : goal.returns
returns c =
    let cs = c.args.cursors.now in
    let bytes = c.args.bytes.now in
    fold_from_yields_List _ join Two c.fold.result c.fold.ensures.ran
    (YieldsList-from_map _ (set_now bytes) (YieldsList-from_slice cs cc) c.map.ensures.closure (λ x r q k. search (rules, tests))) (λ a x b q k. search (rules, tests))
    ∙ fold_sets (map (set_now bytes) cs)
