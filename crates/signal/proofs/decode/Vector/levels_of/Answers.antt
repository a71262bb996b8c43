-- `signal::decode::Vector::levels_of` meets its contract.
-- Assumes nothing.
use Rattle.signal.proofs.Reading.{owned}
use Rattle.signal.proofs.decode.Vector.levels_of.Goals as goal

pub level_part-requires : goal.level_part-requires
level_part-requires c = (owned c.args.self.now.whole c.requires).within

pub invariant_of-result : goal.invariant_of-result
invariant_of-result c = let o = owned c.args.self.now.whole c.requires in record { held = rw (c.level_part.ensures, o.part) o.levels }

pub returns : goal.returns
returns c = let o = owned c.args.self.now.whole c.requires in rw (c.level_part.ensures, o.part, o.set)
