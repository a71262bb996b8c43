-- `derivation::DerivedBitVecSignal::with_piece` meets its contract.
-- Assumes nothing.
use mathlib.Core.Bool.{false}
use mathlib.Core.Path.{◌≡◌, sym, ◌∙◌}
use Rattle.derivation.specs.Answer.{has_no_room}
use Rattle.derivation.proofs.Walks.{sized}
use Rattle.derivation.proofs.Joins.{Tried, no_room, naming, joining, joined}
use Rattle.derivation.proofs.DerivedBitVecSignal.with_piece.Goals.{After-has_no_room, Else-has_no_room}
use Rattle.derivation.proofs.DerivedBitVecSignal.with_piece.Goals as goal

-- what the tests before 13 leave
piece : (c : After-has_no_room) →
    let a = c.args in
    Tried a.self a.side a.signal a.msb a.lsb c.make_extract-extract.result
piece c =
    record {
      sized = sized c.args.self _ c.well_formed.0;
      good = sym c.is_bad.ensures ∙ c.if-is_bad.false;
      range = sym c.is_bad_range.ensures ∙ c.if-is_bad_range.false;
      made = c.make_extract-extract.ensures;
    }

room : (c : Else-has_no_room) → has_no_room c.args.self c.args.side c.make_extract-extract.result ≡ false
room c = sym c.has_no_room.ensures ∙ c.if-has_no_room.false

pub returns-then-has_no_room : goal.returns-then-has_no_room
returns-then-has_no_room c = no_room (piece (goal.at.returns-then-has_no_room c).After-has_no_room) (sym c.has_no_room.ensures ∙ c.if-has_no_room.true)

pub put_name-requires : goal.put_name-requires
put_name-requires c =
    let past = goal.at.put_name-requires c in
    naming (piece past.After-has_no_room) (room past.Else-has_no_room)

pub put-requires : goal.put-requires
put-requires c =
    let past = goal.at.put-requires c in
    joining (piece past.After-has_no_room) (room past.Else-has_no_room) c.put_name.new.self c.put_name.ensures

pub returns : goal.returns
returns c =
    let past = goal.at.returns c in
    joined (piece past.After-has_no_room) (room past.Else-has_no_room) c.put_name.new.self c.put_name.ensures c.put.new.self c.put.ensures
