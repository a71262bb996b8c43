-- `transform::Task::derive_all` meets its contract.
-- Assumes nothing.
use mathlib.Core.Path.{◌∙◌, ap}
use Rattle.steps.specs.Refusals.{its_inputs}
use Rattle.transform.specs.Picking.{WalkableOf, largest_over}
use Rattle.transform.proofs.ByRoom.{all_stored}
use Rattle.transform.proofs.Given.{largest_is}
use Rattle.transform.proofs.Task.derive_all.Goals as goal

pub returns : goal.returns
returns c =
    let a = c.args in
    let t = a.self.now in
    let s = t.sources.now in
    let W : WalkableOf t c.largest_states-max_states.result = record {
      derivable = c.requires;
      largest = c.largest_states-max_states.ensures ∙ ap largest_over c.used.ensures.value ∙ largest_is s.bytes.now s.indices.now (its_inputs s);
    } in
    rw c.new.ensures
    (all_stored W a.out_bytes.now a.out_indices.now c.steps_fit.ensures c.if-not-steps_fit.false (rw c.entry_size-size.ensures at c.write_steps-count.ensures))
