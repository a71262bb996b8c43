-- What std's walks over names and pieces find, in the words of the definitions.
-- Assumes nothing.
use mathlib.Core.Path.{◌≡◌, refl, sym, ap, ap₂, ◌∙◌}
use mathlib.Core.Bool.{Bool, true, false, cond, not}
use mathlib.Core.List.{List, [], ◌∷◌, ◌++◌, map}
use Prim.Native.Nat.{ℕ, suc, ◌+◌, ◌<◌}
use native.Mathlib.Nat.{zero-add}
use native.Mathlib.Numerals.{add-one}
use native.Mathlib.Omega.{arith}
use borrow.Author.Tests.{ltb-false}
use lib.Dec.{eqb, ltb}
use lib.ListN.{length, take, drop, get_or, set}
use lib.Seq.{length-take-le, take-suc, drop-cons, get_or_at}
use denote.Laws.{Is}
use denote.Struct.Declared.{row}
use mir.Val.{Val}
use Rattle.std.specs.Prelude.{Some, None, position}
use Rattle.std.specs.List.{sum_by, position_or_len}
use Rattle.std.proofs.lemmas.List.Recursion.{is_sum_by}
use Rattle.value.specs.Slice.{sum, overlay}
use Rattle.value.specs.Level.{place_in}
use Rattle.value.proofs.Slices.{overlay_nil, overlay_store}
use Rattle.derivation.specs.declared.DerivedBitVecSignal.{DerivedBitVecSignal}
use Rattle.derivation.specs.Piece.{Sized, extract_of, piece_width}
use Rattle.derivation.proofs.Pieces.{place_le}
use Rattle.derivation.specs.contracts.DerivedBitVecSignal.{the_type}

-- a derivation in the code has its places
pub sized : (d : DerivedBitVecSignal) (vs : List Val) → Is (row the_type) d vs → Sized d
sized d vs p =
    record {
      names = p.1.1.1.1.0.1.0.1;
      bits = p.1.1.1.1.1.1.0.1.0.1;
    }

-- the width of all
pub width_extracts : (l : List ℕ) → sum_by (λ n. (extract_of n).width) l ≡ sum (map piece_width (map extract_of l))
unfolding sum
width_extracts l = sym (is_sum_by (λ (k : List ℕ). sum (map piece_width (map extract_of k))) (λ n. (extract_of n).width) refl (λ n k. refl) l)

-- the number of a name
module _ (name : ℕ) where
  abbrev named : ℕ → Bool
  named n = eqb n name

  place_passed : (names : List ℕ) → place_in names name ≡ position_or_len named names
  unfolding place_in
  place_passed [] = refl
  place_passed (n ∷ names) = go (eqb n name) (place_passed names)
    where
      go : (b : Bool) → place_in names name ≡ position_or_len named names
          → cond b 0 (suc (place_in names name)) ≡ cond (not b) (1 + position_or_len named names) 0
      go true e = refl
      go false e = omega arith

  pub number_known : (names : List ℕ) (n : ℕ) → position named names ≡ Some n → place_in names name ≡ n
  number_known names n = go (ltb (position_or_len named names) (length names))
    where
      go : (b : Bool) → cond b (Some (position_or_len named names)) None ≡ Some n → place_in names name ≡ n
      go true h = let e = place_passed names in cc
      go false h = cc

  pub number_missing : (names : List ℕ) → position named names ≡ None → place_in names name ≡ length names
  number_missing names = go (ltb (position_or_len named names) (length names)) refl
    where
      go : (b : Bool) → ltb (position_or_len named names) (length names) ≡ b → cond b (Some (position_or_len named names)) None ≡ None → place_in names name ≡ length names
      go true t h = cc
      go false t h = omega (arith, ltb-false (position_or_len named names) (length names) t, place_le names name, place_passed names)

-- ---- a number put in front of others: those passed are one place up, and the last of them is carried

module _ (l : List ℕ) (v : ℕ) where
  pub record Carried (bits : List ℕ) (moved i : ℕ) : Type 0 where
    pub up : bits ≡ overlay l 0 (take i (v ∷ l))
    pub held : moved ≡ get_or (v ∷ l) i 0

  pub carried_none : Carried l v 0
  carried_none = record { up = sym (overlay_nil l 0); held = refl }

  pub carried_more : (bits : List ℕ) (moved i : ℕ) → i < length l → Carried bits moved i → Carried (set bits i moved) (get_or bits i 0) (i + 1)
  unfolding overlay
  carried_more bits moved i h c =
      let t : length (take i (v ∷ l)) ≡ i = length-take-le i (v ∷ l) (omega arith) in
      record {
        up =
            ap₂ (λ (b : List ℕ) (m : ℕ). set b i m) c.up c.held
            ∙ overlay_store l 0 (take i (v ∷ l)) i (get_or (v ∷ l) i 0) (rw t (omega arith)) h
            ∙ ap (overlay l 0) (sym (take-suc (v ∷ l) i 0 (omega arith)) ∙ ap (λ (n : ℕ). take n (v ∷ l)) (sym (add-one i)));
        held =
            ap (λ (b : List ℕ). get_or b i 0) c.up
            ∙ ap (λ (r : List ℕ). get_or (take i (v ∷ l) ++ r) i 0) (rw (t, zero-add, drop-cons l i 0 h))
            ∙ get_or_at (take i (v ∷ l)) (get_or l i 0) (drop (suc i) l) 0 i t
            ∙ rw (add-one i);
      }
