-- What a record that is not refused 2 has: a width, a count and room in both slices.
-- Assumes nothing.
use mathlib.Core.Path.{◌≡◌}
use Prim.Native.Nat.{ℕ, ◌+◌, ◌*◌, ◌≤◌}
use mathlib.Core.Bool.{true, false, ◌&&◌}
use lib.Dec.{T, leb, leb→le}
use lib.ListN.{length}
use borrow.Author.Tests.{not-false}
use Rattle.value.specs.Slice.{part}
use Rattle.value.proofs.Tests.{to_t, from_t, and_left, and_right}
use Rattle.value.proofs.Slices.{part_length}
use Rattle.fst.specs.declared.Encoding.{Encoding}
use Rattle.fst.specs.declared.Description.{Description}
use Rattle.fst.specs.Record.{Lent, maximum, size_of, used_size, width_stands, fits_bytes, fits, is_bad}

-- n entries within the maximum and two slices
pub record Fits (e : Encoding) (n : ℕ) (l : Lent) : Type 0 where
  pub count : n ≤ maximum
  pub bytes : l.byte_start + n * size_of e ≤ length l.bytes
  pub indices : l.index_start + n ≤ length l.indices

pub fits_room : {e : Encoding} {n : ℕ} {l : Lent} → fits e n l ≡ true → Fits e n l
unfolding fits fits_bytes
fits_room {e} {n} {l} h =
    let x = leb n maximum in
    let y = leb (l.byte_start + n * size_of e) (length l.bytes) in
    let z = leb (l.index_start + n) (length l.indices) in
    let t : T (x && y && z) = to_t (x && y && z) h in
    let u : T (x && y) = and_left (x && y) z t in
    record {
      count = leb→le n maximum (and_left x y u);
      bytes = leb→le (l.byte_start + n * size_of e) (length l.bytes) (and_right x y u);
      indices = leb→le (l.index_start + n) (length l.indices) (and_right (x && y) z t);
    }

pub record Standing (d : Description) (l : Lent) : Type 0 where
  pub sound : is_bad d l ≡ false
  pub width : width_stands d.encoding ≡ true
  pub fit : fits d.encoding d.count l ≡ true
  pub room : Fits d.encoding d.count l

pub standing : {d : Description} {l : Lent} → is_bad d l ≡ false → Standing d l
unfolding is_bad
standing {d} {l} h =
    let a = width_stands d.encoding in
    let b = fits d.encoding d.count l in
    let t : T (a && b) = to_t (a && b) (not-false (a && b) h) in
    let fit = from_t b (and_right a b t) in
    record { sound = h; width = from_t a (and_left a b t); fit = fit; room = fits_room fit }

-- the used parts have their lengths
pub bytes_used : {d : Description} {l : Lent} → Standing d l → length (part l.byte_start (used_size d) l.bytes) ≡ used_size d
bytes_used {d} {l} s = part_length l.bytes l.byte_start (used_size d) s.room.bytes

pub indices_used : {d : Description} {l : Lent} → Standing d l → length (part l.index_start d.count l.indices) ≡ d.count
indices_used {d} {l} s = part_length l.indices l.index_start d.count s.room.indices
