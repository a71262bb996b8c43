-- `signal::read::Record::read_entry` meets its contract.
-- Assumes nothing.
use mathlib.Core.Path.{sym, ◌∙◌}
use Rattle.signal.proofs.Reading.{HasEntry, inside}
use Rattle.signal.proofs.read.Record.read_entry.Goals.{Else-self-entry}
use Rattle.signal.proofs.read.Record.read_entry.Goals as goal

-- the entry is there
has : (c : Else-self-entry) → let r = c.args.self.now in HasEntry r.description r.bytes.now r.byte_start c.args.entry
has c = record { sound = sym c.is_bad_bytes.ensures ∙ c.if-is_bad_bytes.false; below = c.if-self-entry.false }

pub entry_at-requires : goal.entry_at-requires
entry_at-requires c = inside (has (goal.at.entry_at-requires c).Else-self-entry)
