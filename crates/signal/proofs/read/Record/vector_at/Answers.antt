-- `signal::read::Record::vector_at` meets its contract.
-- Assumes nothing.
use mathlib.Core.Path.{sym, ◌∙◌}
use Rattle.signal.proofs.Reading.{HasEntry, vector, inside, whole}
use Rattle.signal.proofs.read.Record.vector_at.Goals.{Else-self-entry}
use Rattle.signal.proofs.read.Record.vector_at.Goals as goal

-- the entry is there
has : (c : Else-self-entry) → let r = c.args.self.now in HasEntry r.description r.bytes.now r.byte_start c.args.entry
has c = record { sound = sym c.is_bad_bytes.ensures ∙ c.if-is_bad_bytes.false; below = c.if-self-entry.false }

pub entry_at-requires : goal.entry_at-requires
entry_at-requires c = inside (has (goal.at.entry_at-requires c).Else-self-entry)

pub invariant_of-result : goal.invariant_of-result
invariant_of-result c = record { whole = rw c.entry_at.ensures (vector c.in-BitVector.is (whole (has (goal.at.invariant_of-result c).Else-self-entry))) }
