-- `transform::Task::steps_fit` meets its contract.
-- Assumes nothing.
use mathlib.Core.Path.{◌∙◌, ap}
use Rattle.derivation.specs.Piece.{pieces_of}
use Rattle.steps.specs.Room.{total_over}
use Rattle.steps.proofs.Totals.{fits_counted, fits_together, steps_bound}
use Rattle.transform.specs.Derive.{same_step, yielded}
use Rattle.transform.proofs.Given.{stand}
use Rattle.transform.proofs.Task.steps_fit.Goals as goal

pub returns-then-has_room : goal.returns-then-has_room
returns-then-has_room c =
    let s = c.args.self.now.sources.now in
    fits_together _ _ c.args.out_bytes c.args.out_indices _ _ c.entry_size-size.ensures c.has_room.ensures _ (c.total_count.ensures ∙ ap total_over c.used.ensures.value)
    (steps_bound s.inputs.now s.bytes.now s.indices.now (stand c.requires) (yielded (pieces_of c.args.self.now.derivation.now)) same_step) c.if-has_room.true

pub returns : goal.returns
returns c = fits_counted _ _ c.args.out_bytes c.args.out_indices _ _ c.entry_size-size.ensures c.has_room-2.ensures c.write_steps-count.ensures.counted
