-- Document 01, "A derivation" and "Add a piece".
-- Assumes nothing.
use Rattle.std.specs.Prelude.{◌≡◌, ℕ, zero, suc, ◌+◌, ◌-◌, ◌*◌, ◌^◌, ◌/◌, ◌%◌, Bool, cond, not, ◌&&◌, ◌||◌, List, [], ◌∷◌, ◌++◌, map, eqb, leb, ltb, length, take, replicate}
use Rattle.value.specs.Slice.{overlay, any, sum}
use Rattle.value.specs.Level.{place_in}
use Rattle.fst.specs.Refusal.{number_of, ◌⇐◌, refused, given, tried, Outcome, outcome}
use Rattle.fst.specs.Record.{max_width}
use Rattle.derivation.specs.declared.Extract.{Extract}
use Rattle.derivation.specs.declared.DerivedBitVecSignal.{DerivedBitVecSignal}
use Rattle.derivation.specs.declared.Joined.{Joined}
use Rattle.derivation.specs.declared.Side.{Side}
use Rattle.derivation.specs.declared.Side.TheVariants.{Left, Right}

-- "At most 8 inputs .. and 64 pieces"
abbrev pub max_inputs : ℕ
max_inputs = 8

abbrev pub max_pieces : ℕ
max_pieces = 64

-- "held as 64-bit numbers: input × 2^48 + width × 2^32 + lsb. From<u64> for Extract undoes this packing"
unfoldable pub packed_of : Extract → ℕ
packed_of e = e.signal * 2 ^ 48 + e.width * 2 ^ 32 + e.lsb

unfoldable pub extract_of : ℕ → Extract
extract_of n = record { signal = n / 2 ^ 48; width = n / 2 ^ 32 % 2 ^ 16; lsb = n % 2 ^ 32 }

-- a derivation has place for 8 names and 64 pieces
pub record Sized (d : DerivedBitVecSignal) : Type 0 where
  pub names : length d.inputs ≡ 8
  pub bits : length d.bits ≡ 64

-- one above a piece's msb
abbrev pub end_of : Extract → ℕ
end_of e = e.lsb + e.width

-- a derivation's pieces, highest first, and its input names
abbrev pub pieces_of : DerivedBitVecSignal → List Extract
pieces_of d = map extract_of (take d.piece_count d.bits)

abbrev pub names_of : DerivedBitVecSignal → List ℕ
names_of d = take d.input_count d.inputs

-- "a piece of width 0, naming a missing input or reaching above bit 4,095"
unfoldable pub is_bad_piece : ℕ → Extract → Bool
is_bad_piece inputs e = eqb e.width 0 || leb inputs e.signal || ltb max_width (end_of e)

abbrev pub piece_width : Extract → ℕ
piece_width e = e.width

-- "14: a derivation with over 64 pieces or 8 inputs, a piece .., or a width that is not its pieces' sum or exceeds 4,096"
unfoldable pub is_bad_derivation : DerivedBitVecSignal → Bool
is_bad_derivation d =
    ltb max_pieces d.piece_count
    || ltb max_inputs d.input_count
    || any (is_bad_piece d.input_count) (pieces_of d)
    || not (eqb d.width (sum (map piece_width (pieces_of d))))
    || ltb max_width d.width

-- "merges with the neighbour when the input is the same and the bits adjoin": the higher piece ends where the lower one begins
unfoldable pub adjoin : Extract → Extract → Bool
adjoin high low = eqb high.signal low.signal && eqb high.lsb (end_of low)

abbrev pub merged : Extract → Extract → Extract
merged high low = record { signal = low.signal; width = high.width + low.width; lsb = low.lsb }

unfoldable pub merging : Extract → Extract → List Extract
merging high low = cond (adjoin high low) (merged high low ∷ []) (high ∷ low ∷ [])

-- "Adding left or right"
unfoldable pub piece_added : Side → Extract → List Extract → List Extract
piece_added side e [] = e ∷ []
piece_added Left e (p ∷ ps) = merging e p ++ ps
piece_added Right e (p ∷ []) = merging p e
piece_added Right e (p ∷ q ∷ ps) = p ∷ piece_added Right e (q ∷ ps)

-- "each named by any 32-bit number .. and numbered from 0 by first naming"
unfoldable pub name_added : ℕ → List ℕ → List ℕ
name_added name names = cond (ltb (place_in names name) (length names)) names (names ++ (name ∷ []))

-- the piece of a name's bits msb to lsb
abbrev pub piece_of : DerivedBitVecSignal → ℕ → ℕ → ℕ → Extract
piece_of d name msb lsb = record { signal = place_in (names_of d) name; width = msb + 1 - lsb; lsb = lsb }

-- the derivation with other names and pieces in the place of its own
unfoldable pub derivation_with : DerivedBitVecSignal → List ℕ → List Extract → DerivedBitVecSignal
derivation_with d names pieces =
    record {
      width = sum (map piece_width pieces);
      input_count = length names;
      inputs = overlay d.inputs 0 names;
      piece_count = length pieces;
      bits = overlay d.bits 0 (map packed_of pieces);
    }

-- "12: msb below lsb or above 4,095"
unfoldable pub is_bad_range : ℕ → ℕ → Bool
is_bad_range msb lsb = ltb msb lsb || leb max_width msb

-- "13: a ninth input, an unmerged 65th piece, or a sum above 4,096"
unfoldable pub is_overfull : List ℕ → List Extract → Bool
is_overfull names pieces =
    ltb max_inputs (length names) || ltb max_pieces (length pieces) || ltb max_width (sum (map piece_width pieces))

unfoldable pub add_piece : DerivedBitVecSignal → Side → ℕ → ℕ → ℕ → Outcome DerivedBitVecSignal
add_piece d side name msb lsb =
    let names = name_added name (names_of d) in
    let pieces = piece_added side (piece_of d name msb lsb) (pieces_of d) in
    outcome d
    (tried
    (14 ⇐ is_bad_derivation d
    ∷ 12 ⇐ is_bad_range msb lsb
    ∷ 13 ⇐ is_overfull names pieces
    ∷ [])
    (given (derivation_with d names pieces)))

-- what an answer of Add a piece leaves
abbrev pub joined_of : Joined → Outcome DerivedBitVecSignal
joined_of j = record { refused = number_of j.verdict; left = j.next }

-- the derivation of no piece
unfoldable pub empty_derivation : DerivedBitVecSignal
empty_derivation =
    record { width = 0; input_count = 0; inputs = replicate max_inputs 0; piece_count = 0; bits = replicate max_pieces 0 }

-- Add a piece of all wires of an input; no wires add nothing, and 14 is tried all the same
unfoldable pub add_full : DerivedBitVecSignal → Side → ℕ → ℕ → Outcome DerivedBitVecSignal
add_full d side name zero = outcome d (tried (14 ⇐ is_bad_derivation d ∷ []) (given d))
add_full d side name (suc w) = add_piece d side name w 0

-- a slice of an input by itself, and all wires of an input; an input of no wires has no bits msb to lsb, and is 12
abbrev pub slice_of : ℕ → ℕ → ℕ → Outcome DerivedBitVecSignal
slice_of name msb lsb = add_piece empty_derivation Left name msb lsb

unfoldable pub identity_of : ℕ → ℕ → Outcome DerivedBitVecSignal
identity_of name zero = outcome empty_derivation (refused 12)
identity_of name (suc w) = slice_of name w 0
