-- Document 01, "Add a change".
-- Assumes nothing.
use Rattle.std.specs.Prelude.{ℕ, zero, suc, Bool, true, false, cond, not, List, [], ◌∷◌, ◌++◌, reverse, eqb, ltb, length, get_or, Result, Ok, Err}
use Rattle.value.specs.Digits.{digits}
use Rattle.value.specs.Slice.{overlay}
use Rattle.value.specs.Level.{fold_all, codes_of, has_no_code, least_of, join}
use Rattle.fst.specs.declared.Encoding.{Encoding}
use Rattle.fst.specs.declared.Encoding.TheVariants.{Event, Real, BitVector}
use Rattle.fst.specs.declared.Description.{Description}
use Rattle.fst.specs.declared.Added.{Added}
use Rattle.fst.specs.declared.Refusal.{Refusal}
use Rattle.fst.specs.Refusal.{number_of, Test, ◌⇐◌, given, tried, Outcome, outcome}
use Rattle.layout.specs.Entry.{entry_of, widen_all}
use Rattle.entries.specs.Repeats.{repeats}
use Rattle.fst.specs.Record.{Lent, Kept, Recorder, size_of, kept_in, fits, is_bad, described}

-- a change: a string's bytes, or a real's 64 bits
pub data Change : Type 0 where
  text : List ℕ → Change
  real : ℕ → Change

-- "3: string to a real record or real to another"
unfoldable pub is_other_kind : Encoding → Change → Bool
is_other_kind Event (text s) = false
is_other_kind Event (real x) = true
is_other_kind Real (text s) = true
is_other_kind Real (real x) = false
is_other_kind (BitVector w M) (text s) = false
is_other_kind (BitVector w M) (real x) = true

-- "4: length"; an event's "string has 0 or 1 bytes, unexamined"
unfoldable pub is_other_length : Encoding → Change → Bool
is_other_length Event (text s) = ltb 1 (length s)
is_other_length Event (real x) = false
is_other_length Real c = false
is_other_length (BitVector w M) (text s) = not (eqb (length s) w)
is_other_length (BitVector w M) (real x) = false

-- "5: foreign character"
unfoldable pub is_foreign : Encoding → Change → Bool
is_foreign Event c = false
is_foreign Real c = false
is_foreign (BitVector w M) (text s) = has_no_code (codes_of (fold_all s))
is_foreign (BitVector w M) (real x) = false

-- "6: index below the last index kept, not the last offered": the last of n indices
unfoldable pub is_below_last : ℕ → ℕ → List ℕ → Bool
is_below_last i zero indices = false
is_below_last i (suc n) indices = ltb i (get_or indices n 0)

-- a record with one entry more, unless that repeats the last
unfoldable pub appended : Encoding → List ℕ → List ℕ → ℕ → List ℕ → Kept
appended e bytes indices i new =
    cond (repeats (size_of e) (length indices) bytes new)
    (record { encoding = e; bytes = bytes; indices = indices })
    (record { encoding = e; bytes = bytes ++ new; indices = indices ++ (i ∷ []) })

-- a record with a change: an event's "every change kept", with no bytes to be equal; a real's 8 bytes "little-endian"; a string's entry under
-- its least set, every entry under the set that is then the largest. A change of the other kind adds nothing.
unfoldable pub changed : Encoding → List ℕ → List ℕ → ℕ → Change → Kept
changed Event bytes indices i (text s) = record { encoding = Event; bytes = bytes; indices = indices ++ (i ∷ []) }
changed Event bytes indices i (real x) = record { encoding = Event; bytes = bytes; indices = indices }
changed Real bytes indices i (text s) = record { encoding = Real; bytes = bytes; indices = indices }
changed Real bytes indices i (real x) = appended Real bytes indices i (reverse (digits 256 8 x))
changed (BitVector w M) bytes indices i (text s) =
    let codes = codes_of (fold_all s) in
    let own = least_of codes in
    let to = join M own in
    appended (BitVector w to) (widen_all w M to (length indices) bytes) indices i (entry_of w to own codes)
changed (BitVector w M) bytes indices i (real x) = record { encoding = BitVector w M; bytes = bytes; indices = indices }

abbrev pub with_change : Kept → ℕ → Change → Kept
with_change k i c = changed k.encoding k.bytes k.indices i c

-- is there no room for a record
abbrev pub lacks_room : Kept → Lent → Bool
lacks_room k l = not (fits k.encoding (length k.indices) l)

-- the numbers of Add a change; "7: the record with this change, repeats dropped, exceeds a slice or the maximum"
unfoldable pub refusals : Description → Lent → ℕ → Change → List Test
refusals d l i c =
    2 ⇐ is_bad d l
    ∷ 3 ⇐ is_other_kind d.encoding c
    ∷ 4 ⇐ is_other_length d.encoding c
    ∷ 5 ⇐ is_foreign d.encoding c
    ∷ 6 ⇐ is_below_last i d.count (kept_in d l).indices
    ∷ 7 ⇐ lacks_room (with_change (kept_in d l) i c) l
    ∷ []

-- what a call has in hand
abbrev pub in_hand : Description → Lent → Recorder Description
in_hand d l = record { description = d; bytes = l.bytes; indices = l.indices }

-- a record's used part laid over the slices, with its description: "Bytes and indices past the used part never alter"
unfoldable pub stored : Lent → Kept → Recorder Description
stored l k =
    record {
      description = described k.encoding (length k.indices);
      bytes = overlay l.bytes l.byte_start k.bytes;
      indices = overlay l.indices l.index_start k.indices;
    }

unfoldable pub add_change : Description → Lent → ℕ → Change → Outcome (Recorder Description)
add_change d l i c = outcome (in_hand d l) (tried (refusals d l i c) (given (stored l (with_change (kept_in d l) i c))))

-- the answer of a call that makes the next description, or refuses: then the description is as it was
abbrev pub answered : Description → Result Description Refusal → Added
answered d (Ok next) = record { verdict = Ok tt; next = next }
answered d (Err r) = record { verdict = Err r; next = d }

-- what a call leaves, by its answer and the slices as they are then
abbrev pub left_by : Added → List ℕ → List ℕ → Outcome (Recorder Description)
left_by r bytes indices =
    record { refused = number_of r.verdict; left = record { description = r.next; bytes = bytes; indices = indices } }
