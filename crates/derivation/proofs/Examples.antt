-- Pieces joined and refused, by computation over the definitions.
-- Assumes nothing.
use mathlib.Core.Path.{◌≡◌, refl}
use mathlib.Core.List.{List, [], ◌∷◌}
use Prim.Native.Nat.{ℕ}
use lib.ListN.{replicate}
use Rattle.value.specs.Slice.{overlay, any, sum}
use Rattle.value.specs.Level.{place_in}
use Rattle.fst.specs.Refusal.{tried, Outcome}
use Rattle.derivation.specs.declared.Extract.{Extract}
use Rattle.derivation.specs.declared.DerivedBitVecSignal.{DerivedBitVecSignal}
use Rattle.derivation.specs.declared.Side.{Side}
use Rattle.derivation.specs.declared.Side.TheVariants.{Left, Right}
use Rattle.derivation.specs.Piece.{packed_of, extract_of, pieces_of, names_of, is_bad_piece, is_bad_derivation, adjoin, merging, piece_added, name_added, derivation_with, is_bad_range, is_overfull, add_piece, add_full, empty_derivation, slice_of, identity_of}

piece : ℕ → ℕ → ℕ → Extract
piece signal width lsb = record { signal = signal; width = width; lsb = lsb }

-- the derivation of bits 7 to 4 of 9, and a piece more
with_piece : Side → ℕ → ℕ → ℕ → Outcome DerivedBitVecSignal
with_piece side name msb lsb = add_piece (slice_of 9 7 4).left side name msb lsb

-- a derivation by hand that holds a name twice, and what lies past its counts
twice : DerivedBitVecSignal
twice = record { width = 1; input_count = 2; inputs = overlay (replicate 8 3) 0 (9 ∷ 9 ∷ []); piece_count = 1; bits = overlay (replicate 64 5) 0 (packed_of (piece 1 1 0) ∷ []) }

Is : Outcome DerivedBitVecSignal → List Extract → List ℕ → Type 0
Is r pieces names = (r.refused ≡ 0) × (pieces_of r.left ≡ pieces) × (names_of r.left ≡ names)

-- on each side the bits adjoin one way only, and a name gets its number once
joined :
    Is (with_piece Left 9 9 8) (piece 0 6 4 ∷ []) (9 ∷ [])
    × Is (with_piece Left 9 3 0) (piece 0 4 0 ∷ piece 0 4 4 ∷ []) (9 ∷ [])
    × Is (with_piece Right 9 3 0) (piece 0 8 0 ∷ []) (9 ∷ [])
    × Is (with_piece Right 9 9 8) (piece 0 4 4 ∷ piece 0 2 8 ∷ []) (9 ∷ [])
    × Is (with_piece Right 0 3 0) (piece 0 4 4 ∷ piece 1 4 0 ∷ []) (9 ∷ 0 ∷ [])
    × Is (add_piece twice Left 9 1 1) (piece 0 1 1 ∷ piece 1 1 0 ∷ []) (9 ∷ 9 ∷ [])
    × Is (identity_of 4 4096) (piece 0 4096 0 ∷ []) (4 ∷ [])
    × Is (add_full twice Right 8 0) (piece 1 1 0 ∷ []) (9 ∷ 9 ∷ [])
unfolding piece with_piece twice Is overlay any sum place_in tried packed_of extract_of is_bad_piece is_bad_derivation adjoin merging piece_added name_added derivation_with is_bad_range is_overfull add_piece add_full empty_derivation identity_of
joined = ((refl, refl, refl), (refl, refl, refl), (refl, refl, refl), (refl, refl, refl), (refl, refl, refl), (refl, refl, refl), (refl, refl, refl), (refl, refl, refl))

refusals :
    (identity_of 4 0 ≡ record { refused = 12; left = empty_derivation })
    × (identity_of 4 4097 ≡ record { refused = 12; left = empty_derivation })
    × (add_piece twice Left 9 0 1 ≡ record { refused = 12; left = twice })
    × (add_piece twice Left 9 4095 0 ≡ record { refused = 13; left = twice })
    × ((add_piece (record { width = 2; input_count = 2; inputs = twice.inputs; piece_count = 1; bits = twice.bits }) Left 9 0 1).refused ≡ 14)
unfolding piece twice overlay any sum place_in tried packed_of extract_of is_bad_piece is_bad_derivation adjoin merging piece_added name_added derivation_with is_bad_range is_overfull add_piece empty_derivation identity_of
refusals = (refl, refl, refl, refl, refl)
