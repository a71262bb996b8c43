-- `transform::Task::write_steps` meets its contract: the steps passed are stored, and with those to come they make the derived list.
-- Assumes nothing.
use lib.ListN.{length}
use mathlib.Core.Path.{◌≡◌}
use Rattle.steps.proofs.Tracks.{to_come, tracks}
use Rattle.transform.proofs.Deriving.{Writing}
use Rattle.transform.proofs.Task.write_steps.Given as goal

abbrev pub invariant-loop-index : goal.invariant-loop-index
invariant-loop-index l = Writing l.self.derivation.now l.self.sources.now.inputs.now l.bytes l.indices l.max_states l.stride l.initial.out_bytes l.initial.out_indices l.cursors l.count l.out_bytes l.out_indices
    × (length l.text ≡ 4096)

abbrev pub decreases-loop-index : goal.decreases-loop-index
decreases-loop-index l = to_come (tracks l.bytes l.indices l.cursors)
