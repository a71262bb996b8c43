-- An entry decoded: its own set and its codes, or what makes it bad. Document 01, "Read an entry" and "Text of an entry".
-- Assumes nothing.
use Rattle.std.specs.Prelude.{ℕ, suc, ◌+◌, ◌-◌, ◌*◌, ◌^◌, ◌/◌, Bool, false, List, [], ◌∷◌, ltb, drop, get_or}
use Rattle.value.specs.declared.States.{States}
use Rattle.value.specs.declared.States.TheVariants.{Two, Four, Nine}
use Rattle.value.specs.Digits.{number, digits}
use Rattle.value.specs.Slice.{part}
use Rattle.value.specs.Level.{mark_of, bits_of, len_of, set_at, has_no_code, text_of}
use Rattle.fst.specs.declared.Encoding.{Encoding}
use Rattle.fst.specs.declared.Encoding.TheVariants.{Event, Real, BitVector}
use Rattle.layout.specs.Entry.{entry_size}
use Rattle.fst.specs.Record.{Kept, size_of}

-- the bytes of entry k of a record that starts at a place
unfoldable pub entry_at : Encoding → ℕ → List ℕ → ℕ → List ℕ
entry_at e start bytes k = part (start + k * size_of e) (size_of e) bytes

-- an entry by its time index, its record's encoding and its bytes
pub record Indexed : Type 0 where
  pub index : ℕ
  pub encoding : Encoding
  pub bytes : List ℕ

-- entry k of a record, with a time index
abbrev pub indexed_by : Kept → ℕ → ℕ → Indexed
indexed_by r k i = record { index = i; encoding = r.encoding; bytes = entry_at r.encoding 0 r.bytes k }

-- a record's entries in order, from number k on
unfoldable pub entries_from : ℕ → Kept → List ℕ → List Indexed
entries_from k r [] = []
entries_from k r (i ∷ indices) = indexed_by r k i ∷ entries_from (suc k) r indices

abbrev pub entries_in : Kept → List Indexed
entries_in r = entries_from 0 r r.indices

-- the top two bits of the first byte; "when the largest set is Two no mark is stored"
unfoldable pub mark_in : States → List ℕ → ℕ
mark_in Two v = 0
mark_in Four v = get_or v 0 0 / 64
mark_in Nine v = get_or v 0 0 / 64

-- the own set, where the mark is a set's; "A real .., an event .., both with set Two"
unfoldable pub set_in : Encoding → List ℕ → States
set_in Event v = Two
set_in Real v = Two
set_in (BitVector w M) v = set_at (mark_in M v)

-- "that part .. which holds the levels, a mark sharing their first byte included": the last bytes, as many as the own set needs.
-- "A real gives its 8 bytes, an event an empty part"
unfoldable pub level_part : Encoding → List ℕ → List ℕ
level_part Event v = v
level_part Real v = v
level_part (BitVector w M) v = drop (entry_size w M - len_of w (set_in (BitVector w M) v)) v

-- the codes of w levels of a set in the bytes that hold them, first character highest
abbrev pub codes_at : ℕ → States → List ℕ → List ℕ
codes_at w S levels = digits (2 ^ bits_of S) w (number 256 levels)

-- the codes of an entry's levels
unfoldable pub levels_in : Encoding → List ℕ → List ℕ
levels_in Event v = []
levels_in Real v = []
levels_in (BitVector w M) v = codes_at w (set_in (BitVector w M) v) (level_part (BitVector w M) v)

-- "9: mark 3, or above the largest set"; 3 is above every set's
unfoldable pub has_bad_mark : Encoding → List ℕ → Bool
has_bad_mark Event v = false
has_bad_mark Real v = false
has_bad_mark (BitVector w M) v = ltb (mark_of M) (mark_in M v)

-- "10: a code 9 to 15"
abbrev pub has_bad_code : Encoding → List ℕ → Bool
has_bad_code e v = has_no_code (levels_in e v)

-- the characters, "Small letters"
abbrev pub text_in : Encoding → List ℕ → List ℕ
text_in e v = text_of (levels_in e v)
