-- `steps::step::next_index` meets its contract.
-- Assumes nothing.
use borrow.Author.Tests.{tests}
use mathlib.Core.Path.{◌∙◌, sym}
use Rattle.runs.proofs.All.{all_at}
use Rattle.std.proofs.Common.{rules}
use Rattle.std.proofs.lemmas.Iterator.{YieldsList-from_slice}
use Rattle.std.proofs.lemmas.Iterator.Adapters.{option_map_id, serves_from_places}
use Rattle.std.proofs.lemmas.Iterator.Consumers.{YieldsList-from_filter_map, min_from_yields_List}
use Rattle.steps.specs.Stepping.{ReachesNow, next_in}
use Rattle.steps.proofs.Nexts.{soonest_is}
use Rattle.steps.proofs.step.next_index.Goals as goal

pub min-requires-clause-can : goal.min-requires-clause-can
min-requires-clause-can c =
    let cs = c.args.cursors.now in
    let n = c.args.indices.now in (
      tt,
      tt,
      serves_from_places (YieldsList-from_slice cs cc) (λ x q r. search rules)
          (λ x k h e. let a : ReachesNow n x.now = rw (← e) at (all_at (ReachesNow n) cs c.requires k x.now h) in search rules),
    )

pub returns : goal.returns
returns c =
    let cs = c.args.cursors.now in
    let n = c.args.indices.now in
    sym (option_map_id c.min.result)
    ∙ min_from_yields_List _ _ c.min.ensures.ran (YieldsList-from_filter_map _ (next_in n) (YieldsList-from_slice cs cc) c.filter_map.ensures.closure (λ x r q k. search (rules, tests)))
    ∙ soonest_is n cs
