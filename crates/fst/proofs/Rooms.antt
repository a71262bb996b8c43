-- The room that entries need, from facts on numbers.
-- Assumes nothing.
use mathlib.Core.Path.{◌≡◌, refl, sym, ap, ◌∙◌}
use mathlib.Core.Bool.{Bool, true, false, not, ◌&&◌, ◌||◌}
use mathlib.Core.List.{List}
use Prim.Native.Nat.{ℕ, ◌+◌, ◌*◌, ◌≤◌}
use lib.Dec.{T, leb, leb→le}
use lib.ListN.{length}
use borrow.Author.Tests.{not-false}
use Rattle.value.specs.declared.States.{States}
use Rattle.value.proofs.Tests.{to_t, from_t, and_left, and_right}
use Rattle.fst.specs.declared.Encoding.TheVariants.{BitVector}
use Rattle.fst.specs.declared.Description.{Description}
use Rattle.layout.specs.Entry.{entry_size}
use Rattle.fst.specs.Record.{Lent, maximum, max_width, size_of, used_size, width_stands, fits_bytes, fits, is_bad_bytes, is_bad}

-- ---- room

-- do so many entries stand within the maximum and so many bytes
abbrev room : ℕ → ℕ → ℕ → ℕ → Bool
room count size bytes at = leb count maximum && leb (at + count * size) bytes

-- ---- number 2, of the bytes

-- what holds where it isn't 2
pub record Stands (d : Description) (start : ℕ) (bytes : List ℕ) : Type 0 where
  pub width : width_stands d.encoding ≡ true
  pub count : d.count ≤ maximum
  pub room : start + used_size d ≤ length bytes

module _ (d : Description) (start : ℕ) (bytes : List ℕ) where
  -- a bit vector, by its width and the size of its entries
  pub bad_vector : (w size : ℕ) (M : States) (r : Bool) → d.encoding ≡ BitVector w M → size ≡ entry_size w M
      → r ≡ not ((leb 1 w && leb w max_width) && room d.count size (length bytes) start) → r ≡ is_bad_bytes d start bytes
  unfolding is_bad_bytes width_stands fits_bytes
  bad_vector w size M r e s h = rw (e, ← s) h

  -- a width that stands, or none, and no room
  pub bad_room : (size : ℕ) (r : Bool) → size_of d.encoding ≡ size → width_stands d.encoding ≡ true
      → r ≡ room d.count size (length bytes) start → not r ≡ is_bad_bytes d start bytes
  unfolding is_bad_bytes fits_bytes
  bad_room size r e w h = rw (w, e, h)

  pub stands : is_bad_bytes d start bytes ≡ false → Stands d start bytes
  unfolding is_bad_bytes fits_bytes
  stands h =
      let w = width_stands d.encoding in
      let x = leb d.count maximum in
      let y = leb (start + used_size d) (length bytes) in
      let t : T (w && (x && y)) = to_t (w && (x && y)) (not-false (w && (x && y)) h) in
      let u : T (x && y) = and_right w (x && y) t in
      record {
        width = from_t w (and_left w (x && y) t);
        count = leb→le d.count maximum (and_left x y u);
        room = leb→le (start + used_size d) (length bytes) (and_right x y u);
      }

-- ---- number 2, of both slices

module _ (d : Description) (l : Lent) where
  -- the width, the bytes and the indices
  bad_by : is_bad d l ≡ (is_bad_bytes d l.byte_start l.bytes || not (leb (l.index_start + d.count) (length l.indices)))
  unfolding is_bad fits is_bad_bytes
  bad_by =
      go (width_stands d.encoding) (fits_bytes d.encoding d.count l.byte_start l.bytes) (leb (l.index_start + d.count) (length l.indices))
    where
      go : (a b c : Bool) → not (a && (b && c)) ≡ not (a && b) || not c
      go true true c = refl
      go true false c = refl
      go false b c = refl

  pub bad_bytes : is_bad_bytes d l.byte_start l.bytes ≡ true → true ≡ is_bad d l
  bad_bytes h = sym (bad_by ∙ ap (λ (b : Bool). b || not (leb (l.index_start + d.count) (length l.indices))) h)

  module _ (h : is_bad_bytes d l.byte_start l.bytes ≡ false) where
    pub by_indices : is_bad d l ≡ not (leb (l.index_start + d.count) (length l.indices))
    by_indices = bad_by ∙ ap (λ (b : Bool). b || not (leb (l.index_start + d.count) (length l.indices))) h

-- ---- room in both slices

-- a record whose width stands is bad just where it has no room
pub bad_exceeds : (d : Description) (l : Lent) → width_stands d.encoding ≡ true → is_bad d l ≡ not (fits d.encoding d.count l)
unfolding is_bad
bad_exceeds d l h = rw h
