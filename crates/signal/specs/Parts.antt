-- Inner: the steps by which an entry is decoded and tried, for the functions that share them.
-- Assumes nothing.
use Rattle.std.specs.Prelude.{ℕ, ◌+◌, ◌*◌, ◌≤◌, ◌≡◌, Bool, true, cond, List, [], ◌∷◌, leb, ltb, length, Result, Ok, Err}
use Rattle.value.specs.declared.States.{States}
use Rattle.value.specs.Digits.{digits}
use Rattle.value.specs.Slice.{overlay}
use Rattle.value.specs.Level.{mark_of, len_of, set_at, has_no_code}
use Rattle.fst.specs.declared.Encoding.{Encoding}
use Rattle.fst.specs.declared.Encoding.TheVariants.{BitVector}
use Rattle.fst.specs.declared.Description.{Description}
use Rattle.fst.specs.declared.Refusal.{Refusal}
use Rattle.fst.specs.declared.Refusal.TheVariants.{BadMark}
use Rattle.fst.specs.Refusal.{Reply, given, ◌⇐◌, tried, Outcome, outcome}
use Rattle.fst.specs.Record.{size_of, width_stands, has_no_text, is_bad_bytes}
use Rattle.signal.specs.Decode.{entry_at, mark_in, set_in, level_part, has_bad_mark, has_bad_code, text_in}
use Rattle.signal.specs.Read.{Entry, entry_in}

-- ---- one entry

-- the own set of an entry of a bit vector by its largest set, or 9
unfoldable pub own_states : States → List ℕ → Result States Refusal
own_states M v = cond (ltb (mark_of M) (mark_in M v)) (Err BadMark) (Ok (set_at (mark_in M v)))

-- a byte of two codes of which one is 9 to 15
abbrev pub is_bad_byte : ℕ → Bool
is_bad_byte b = has_no_code (digits 16 2 b)

-- bytes that hold w levels of a set
pub record Levels (w : ℕ) (S : States) (levels : List ℕ) : Type 0 where
  pub short : w ≤ 4096
  pub long : length levels ≡ len_of w S

-- the bytes of one entry
pub record Whole (e : Encoding) (v : List ℕ) : Type 0 where
  pub width : width_stands e ≡ true
  pub long : length v ≡ size_of e

-- entry k lies within the bytes
abbrev pub Inside : Encoding → ℕ → List ℕ → ℕ → Type 0
Inside e start bytes k = start + (k * size_of e + size_of e) ≤ length bytes

-- levels of one set, and the bytes that hold them
pub record Unpacked : Type 0 where
  pub width : ℕ
  pub set : States
  pub part : List ℕ

-- those of an entry of a bit vector, by its own set
abbrev pub unpacked : ℕ → States → List ℕ → Unpacked
unpacked w M v = record { width = w; set = set_in (BitVector w M) v; part = level_part (BitVector w M) v }

-- or 9, and or 10
abbrev pub marked : ℕ → States → List ℕ → Reply Unpacked
marked w M v = tried (9 ⇐ has_bad_mark (BitVector w M) v ∷ []) (given (unpacked w M v))

abbrev pub coded : ℕ → States → List ℕ → Reply Unpacked
coded w M v = tried (9 ⇐ has_bad_mark (BitVector w M) v ∷ 10 ⇐ has_bad_code (BitVector w M) v ∷ []) (given (unpacked w M v))

-- the encoding and the bytes of an entry of a bit vector, or 2, 3 or 8
unfoldable pub vector_in : Description → List ℕ → ℕ → ℕ → Reply (Encoding × List ℕ)
vector_in d bytes start k =
    tried
    (2 ⇐ is_bad_bytes d start bytes
    ∷ 3 ⇐ has_no_text d.encoding
    ∷ 8 ⇐ leb d.count k
    ∷ [])
    (given (d.encoding, entry_at d.encoding start bytes k))

-- ---- Read and Text, once 2, 3 and 8 are tried

unfoldable pub answer_in : Encoding → List ℕ → Reply Entry
answer_in e v = tried (9 ⇐ has_bad_mark e v ∷ []) (given (entry_in e v))

unfoldable pub text_stored : ℕ → States → List ℕ → List ℕ → Outcome (List ℕ)
text_stored w M v out =
    outcome out
    (tried (9 ⇐ has_bad_mark (BitVector w M) v ∷ 10 ⇐ has_bad_code (BitVector w M) v ∷ 7 ⇐ ltb (length out) w ∷ [])
    (given (overlay out 0 (text_in (BitVector w M) v))))
