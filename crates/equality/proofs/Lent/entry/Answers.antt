-- `equality::Lent::entry` meets its contract.
-- Assumes nothing.
use Rattle.fst.proofs.Records.{standing}
use Rattle.signal.proofs.Reading.{inside, whole}
use Rattle.signal.proofs.Entries.{HasIndexed, has_entry, has_index}
use Rattle.fst.specs.Record.{lent_in}
use Rattle.equality.proofs.Lent.entry.Goals.{Start}
use Rattle.equality.proofs.Lent.entry.Goals as goal

has : (c : Start) → let l = c.args.self.now in HasIndexed l.description (lent_in l.slices) c.args.k
has c = record { stands = standing c.requires.0; below = c.requires.1 }

pub index_at-requires : goal.index_at-requires
index_at-requires c = has_index (has (goal.at.index_at-requires c).Start)

pub entry_at-requires : goal.entry_at-requires
entry_at-requires c = inside (has_entry (has (goal.at.entry_at-requires c).Start))

pub invariant_of-result : goal.invariant_of-result
invariant_of-result c = record { whole = rw c.entry_at.ensures (whole (has_entry (has (goal.at.invariant_of-result c).Start))) }
