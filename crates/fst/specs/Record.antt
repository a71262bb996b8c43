-- Document 01, "A record", and "Fresh".
-- Assumes nothing.
use Rattle.std.specs.Prelude.{ℕ, zero, suc, ◌+◌, ◌*◌, Bool, true, false, ◌&&◌, not, List, [], ◌∷◌, leb, ltb, length}
use Rattle.value.specs.declared.States.{States}
use Rattle.value.specs.declared.States.TheVariants.{Two}
use Rattle.value.specs.Slice.{part}
use Rattle.fst.specs.declared.Encoding.{Encoding}
use Rattle.fst.specs.declared.Encoding.TheVariants.{Event, Real, BitVector}
use Rattle.fst.specs.declared.Description.{Description}
use Rattle.fst.specs.declared.record.Slices.{Slices}
use Rattle.fst.specs.declared.record.SlicesMut.{SlicesMut}
use Rattle.fst.specs.Refusal.{Reply, given, ◌⇐◌, tried}
use Rattle.layout.specs.Entry.{entry_size}

-- "At most 1,048,576 entries"; the widths are "1 to 4,096"
abbrev pub maximum : ℕ
maximum = 1048576

abbrev pub max_width : ℕ
max_width = 4096

-- two lent slices, and where a record starts in each
pub record Lent : Type 0 where
  pub bytes : List ℕ
  pub byte_start : ℕ
  pub indices : List ℕ
  pub index_start : ℕ

abbrev pub lent : List ℕ → ℕ → List ℕ → ℕ → Lent
lent bytes byte_start indices index_start = record { bytes = bytes; byte_start = byte_start; indices = indices; index_start = index_start }

abbrev pub lent_in : Slices → Lent
lent_in s = lent s.bytes.now s.byte_start s.indices.now s.index_start

abbrev pub lent_mut : SlicesMut → Lent
lent_mut s = lent s.bytes.now s.byte_start s.indices.now s.index_start

-- a record by itself: its encoding and its used part. Its count is the number of its time indices.
pub record Kept : Type 0 where
  pub encoding : Encoding
  pub bytes : List ℕ
  pub indices : List ℕ

-- a description, of one sort or another, with its used part
pub record Held (D : Type 0) : Type 0 where
  pub description : D
  pub bytes : List ℕ
  pub indices : List ℕ

-- a description with two slices, whole: what a call has in hand, and what it leaves
pub record Recorder (D : Type 0) : Type 0 where
  pub description : D
  pub bytes : List ℕ
  pub indices : List ℕ

-- an entry's bytes: "Event: width 0, no bytes"; "Real: 8 bytes"
abbrev pub size_of : Encoding → ℕ
size_of Event = 0
size_of Real = 8
size_of (BitVector w M) = entry_size w M

-- the bits of a value, of which an event and a real have none
abbrev pub width_of : Encoding → ℕ
width_of Event = 0
width_of Real = 0
width_of (BitVector w M) = w

abbrev pub largest_in : Encoding → States
largest_in Event = Two
largest_in Real = Two
largest_in (BitVector w M) = M

-- "a real or event is 3"
unfoldable pub has_no_text : Encoding → Bool
has_no_text Event = true
has_no_text Real = true
has_no_text (BitVector w M) = false

abbrev pub used_size : Description → ℕ
used_size d = d.count * size_of d.encoding

-- the record that a description finds in two slices
unfoldable pub kept_in : Description → Lent → Kept
kept_in d l =
    record {
      encoding = d.encoding;
      bytes = part l.byte_start (used_size d) l.bytes;
      indices = part l.index_start d.count l.indices;
    }

abbrev pub held_in : Description → Lent → Held Description
held_in d l = record { description = d; bytes = (kept_in d l).bytes; indices = (kept_in d l).indices }

-- all of a description but the encoding left out
abbrev pub kept_of : Held Description → Kept
kept_of h = record { encoding = h.description.encoding; bytes = h.bytes; indices = h.indices }

-- "bit-vector width outside 1 to 4,096"
unfoldable pub width_stands : Encoding → Bool
width_stands Event = true
width_stands Real = true
width_stands (BitVector w M) = leb 1 w && leb w max_width

-- "count above the maximum, or a used part that, from its start, reaches past a lent slice", of the bytes alone and of both slices
unfoldable pub fits_bytes : Encoding → ℕ → ℕ → List ℕ → Bool
fits_bytes e n start bytes = leb n maximum && leb (start + n * size_of e) (length bytes)

unfoldable pub fits : Encoding → ℕ → Lent → Bool
fits e n l = fits_bytes e n l.byte_start l.bytes && leb (l.index_start + n) (length l.indices)

-- number 2
unfoldable pub is_bad_bytes : Description → ℕ → List ℕ → Bool
is_bad_bytes d start bytes = not (width_stands d.encoding && fits_bytes d.encoding d.count start bytes)

unfoldable pub is_bad : Description → Lent → Bool
is_bad d l = not (width_stands d.encoding && fits d.encoding d.count l)

-- a description is made here, of an encoding and a count
abbrev pub described : Encoding → ℕ → Description
described e n = record { encoding = e; count = n }

-- "Fresh. 1: width above 4,096. Width 0 makes an event; a real is given no width"
abbrev pub empty : Encoding → Description
empty e = described e 0

abbrev pub encoding_for : ℕ → Encoding
encoding_for zero = Event
encoding_for (suc w) = BitVector (suc w) Two

unfoldable pub fresh : ℕ → Reply Description
fresh w = tried (1 ⇐ ltb max_width w ∷ []) (given (empty (encoding_for w)))

abbrev pub fresh_real : Description
fresh_real = empty Real
