-- Inner: the answers of the functions of which Add a piece is made.
-- Assumes nothing.
use Rattle.std.specs.Prelude.{◌≡◌, ℕ, ◌+◌, ◌≤◌, ◌<◌, Bool, false, not, ◌&&◌, ◌||◌, List, [], ◌∷◌, map, leb, ltb, length, Result, Ok, Err}
use Rattle.value.specs.Slice.{overlay, sum}
use Rattle.value.specs.Level.{place_in}
use Rattle.fst.specs.declared.Refusal.{Refusal}
use Rattle.fst.specs.Refusal.{Reply, refused, given, refusal_number}
use Rattle.fst.specs.Record.{max_width}
use Rattle.derivation.specs.declared.Extract.{Extract}
use Rattle.derivation.specs.declared.DerivedBitVecSignal.{DerivedBitVecSignal}
use Rattle.derivation.specs.declared.Side.{Side}
use Rattle.derivation.specs.declared.Side.TheVariants.{Left, Right}
use Rattle.derivation.specs.Piece.{Sized, max_inputs, max_pieces, packed_of, pieces_of, names_of, piece_width, adjoin}

-- does a piece merge with its neighbour
unfoldable pub merges : Side → Extract → List Extract → Bool
merges side e [] = false
merges Left e (p ∷ ps) = adjoin e p
merges Right e (p ∷ []) = adjoin p e
merges Right e (p ∷ q ∷ ps) = merges Right e (q ∷ ps)

-- 13, for a derivation that isn't bad
unfoldable pub has_no_room : DerivedBitVecSignal → Side → Extract → Bool
has_no_room d side e =
    leb max_inputs e.signal || ltb max_width (d.width + e.width) || (not (merges side e (pieces_of d)) && leb max_pieces d.piece_count)

-- the next derivation or the number of a refusal
abbrev pub added_of : Result DerivedBitVecSignal Refusal → Reply DerivedBitVecSignal
added_of (Ok d) = given d
added_of (Err r) = refused (refusal_number r)

-- a piece that joins a derivation, which then has no more than its share of pieces and width
pub record Joining (side : Side) (d : DerivedBitVecSignal) (e : Extract) : Type 0 where
  pub sized : Sized d
  pub few : d.piece_count ≤ max_pieces
  pub whole : d.width ≡ sum (map piece_width (pieces_of d))
  pub unmerged : merges side e (pieces_of d) ≡ false → d.piece_count < max_pieces
  pub narrow : d.width + e.width ≤ max_width

-- an input's number is that of its name, and one of eight
pub record Named (d : DerivedBitVecSignal) (number name : ℕ) : Type 0 where
  pub sized : Sized d
  pub few : d.input_count ≤ max_inputs
  pub place : number ≡ place_in (names_of d) name
  pub low : number < max_inputs

-- a derivation with other pieces, and with other names
abbrev pub with_pieces : DerivedBitVecSignal → List Extract → DerivedBitVecSignal
with_pieces d pieces =
    record {
      width = sum (map piece_width pieces);
      input_count = d.input_count;
      inputs = d.inputs;
      piece_count = length pieces;
      bits = overlay d.bits 0 (map packed_of pieces);
    }

abbrev pub with_names : DerivedBitVecSignal → List ℕ → DerivedBitVecSignal
with_names d names =
    record {
      width = d.width;
      input_count = length names;
      inputs = overlay d.inputs 0 names;
      piece_count = d.piece_count;
      bits = d.bits;
    }
