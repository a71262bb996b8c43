-- What Add a change leaves of a string for an event, and of a real.
-- Assumes nothing.
use mathlib.Core.Path.{◌≡◌, refl, sym, ap, ◌∙◌}
use mathlib.Core.Bool.{Bool, true, false, not, ◌&&◌}
use mathlib.Core.List.{List, [], reverse, append-nil}
use Prim.Native.Nat.{ℕ, ◌+◌, ◌-◌, ◌*◌, ◌≤◌, ◌<◌}
use native.Mathlib.Nat.{suc-mul}
use native.Mathlib.Numerals.{add-one}
use native.Mathlib.Omega.{arith}
use lib.Dec.{eqb, leb}
use borrow.Author.Tests.{not-false, lt-ltb, le-ltb, lt-leb, le-leb, eq-eqb, ne_eqb}
use lib.ListN.{length, set}
use Rattle.value.specs.Digits.{digits}
use Rattle.value.specs.Slice.{part, overlay}
use Rattle.value.proofs.Tests.{by_eq}
use Rattle.value.proofs.Slices.{overlay_part}
use Rattle.fst.specs.declared.Encoding.TheVariants.{Event, Real}
use Rattle.fst.specs.declared.Description.{Description}
use Rattle.fst.specs.Record.{Lent, Recorder, maximum, size_of, used_size, kept_in, fits_bytes, fits, described}
use Rattle.fst.specs.Change.{text, real, is_other_kind, is_other_length, is_foreign, appended, changed, lacks_room, in_hand, stored, add_change}
use Rattle.fst.specs.Adding.{Admitted, Adds, added, left_with}
use Rattle.fst.specs.Refusal.{tried}
use Rattle.entries.specs.Repeatable.{repeats_plain}
use Rattle.value.proofs.Digits.{digits_length}
use Rattle.std.proofs.lemmas.List.{length-reverse}
use Rattle.fst.proofs.Records.{fits_room, Standing, indices_used}
use Rattle.fst.proofs.Adding.{refused_with, accepted_with, Suited, gives_3, gives_4, stored_same, count_more, stored_behind}

-- is there no room for one entry more
abbrev pub is_full : Description → Lent → Bool
is_full d l = not (fits d.encoding (d.count + 1) l)

-- ---- the record as it was, and room for one entry more

module _ {d : Description} {l : Lent} (s : Standing d l) where
  pub same_stored : stored l (kept_in d l) ≡ in_hand d l
  unfolding kept_in
  same_stored =
      stored_same l d.encoding d.count (part l.byte_start (used_size d) l.bytes) s.room.indices
      ∙ rw (overlay_part l.bytes l.byte_start (used_size d) s.room.bytes)

  pub same_room : lacks_room (kept_in d l) l ≡ false
  unfolding kept_in
  same_room = rw (indices_used s, s.fit)

  abbrev used : ℕ
  used = l.byte_start + used_size d

  abbrev used_then : ℕ
  used_then = l.byte_start + (d.count + 1) * size_of d.encoding

  more_used : used_then ≡ used + size_of d.encoding
  more_used = omega (arith, ap (λ (n : ℕ). n * size_of d.encoding) (add-one d.count), suc-mul d.count (size_of d.encoding))

  by_tests : (x y z : Bool) → leb (d.count + 1) maximum ≡ x → leb used_then (length l.bytes) ≡ y
      → leb (l.index_start + (d.count + 1)) (length l.indices) ≡ z → not (x && y && z) ≡ is_full d l
  unfolding fits fits_bytes
  by_tests x y z a b c = rw (a, b, c)

  pub most : d.count ≡ maximum → true ≡ is_full d l
  most h = by_tests false _ _ (lt-leb (d.count + 1) maximum (omega arith)) refl refl

  module _ (fewer : d.count ≡ maximum → ⊥) where
    one_more : leb (d.count + 1) maximum ≡ true
    one_more = le-leb (d.count + 1) maximum (omega (arith, s.room.count))

    pub no_bytes : length l.bytes - used < size_of d.encoding → true ≡ is_full d l
    no_bytes h =
        by_tests true false _ one_more (lt-leb used_then (length l.bytes) (omega (arith, more_used, s.room.bytes))) refl

    pub by_indices : size_of d.encoding ≤ length l.bytes - used → eqb (length l.indices - l.index_start) d.count ≡ is_full d l
    by_indices h =
        let b : leb used_then (length l.bytes) ≡ true = le-leb used_then (length l.bytes) (omega (arith, more_used, s.room.bytes)) in
        let i = s.room.indices in
        by_eq (length l.indices - l.index_start) d.count
        (λ e. eq-eqb _ _ e ∙ by_tests true true false one_more b (lt-leb (l.index_start + (d.count + 1)) (length l.indices) (omega arith)))
        (λ n. ne_eqb _ _ n ∙ by_tests true true true one_more b (le-leb (l.index_start + (d.count + 1)) (length l.indices) (omega arith)))

-- room for one more
pub record Roomier (d : Description) (l : Lent) (size : ℕ) : Type 0 where
  pub bytes : l.byte_start + d.count * size + size ≤ length l.bytes
  pub index : l.index_start + d.count < length l.indices

pub roomier : {d : Description} {l : Lent} (size : ℕ) → size_of d.encoding ≡ size → is_full d l ≡ false → Roomier d l size
roomier {d} {l} size e h =
    let f = fits_room {e = d.encoding} {n = d.count + 1} {l = l} (not-false _ h) in
    let b : l.byte_start + (d.count + 1) * size ≤ length l.bytes = rw e at f.bytes in
    let z : (d.count + 1) * size ≡ d.count * size + size = ap (λ (n : ℕ). n * size) (add-one d.count) ∙ suc-mul d.count size in
    record { bytes = omega arith; index = omega (arith, f.indices) }

-- ---- an entry behind the others, or none

-- what is left then, of entries of a size
abbrev pub left_more : Description → Lent → ℕ → ℕ → List ℕ → Recorder Description
left_more d l size i new =
    record {
      description = described d.encoding (d.count + 1);
      bytes = overlay l.bytes (l.byte_start + d.count * size) new;
      indices = set l.indices (l.index_start + d.count) i;
    }

module _ {d : Description} {l : Lent} (s : Standing d l) (i : ℕ) (new : List ℕ) where
  pub append_same : {again : Bool} → again ≡ true → accepted_with (in_hand d l) ≡ left_with d l (added d l i new again)
  unfolding left_with tried
  append_same e = rw (e, same_room s, same_stored s)

  room_told : lacks_room (added d l i new false) l ≡ is_full d l
  room_told = ap (λ (n : ℕ). not (fits d.encoding n l)) (count_more l d.encoding d.count i s.room.indices)

  pub append_full : {again : Bool} → again ≡ false → is_full d l ≡ true → refused_with d l 7 ≡ left_with d l (added d l i new again)
  unfolding left_with tried
  append_full e h = rw (e, room_told, h)

  pub append_more : {again : Bool} → again ≡ false → (size : ℕ) → size_of d.encoding ≡ size → is_full d l ≡ false
      → accepted_with (left_more d l size i new) ≡ left_with d l (added d l i new again)
  unfolding left_with tried
  append_more a size e h =
      ap (λ (k : ℕ). accepted_with (left_more d l k i new)) (sym e)
      ∙ rw (a, room_told, h, stored_behind l d.encoding d.count (used_size d) i new s.room.bytes (roomier size e h).index)

-- ---- an event

module _ {d : Description} {l : Lent} (s : Standing d l) (event : d.encoding ≡ Event) (i : ℕ) (v : List ℕ) where
  event_kind : is_other_kind d.encoding (text v) ≡ false
  unfolding is_other_kind
  event_kind = rw event

  pub event_gives_4 : 1 < length v → refused_with d l 4 ≡ add_change d l i (text v)
  unfolding is_other_length
  event_gives_4 h = gives_4 s i (text v) event_kind (rw (event, lt-ltb 1 (length v) h))

  pub event_suited : length v ≤ 1 → Suited d l (text v)
  unfolding is_other_length is_foreign
  event_suited short = record { standing = s; kind = event_kind; long = rw (event, le-ltb 1 (length v) short); known = rw event }

  -- every change is kept, with no bytes
  pub event_adds : Admitted d l i (text v) → Adds d l i (text v) [] false
  unfolding kept_in changed
  event_adds a = record { admitted = a; sized = sym (ap size_of event); is = rw (event, append-nil) }

-- ---- a real

-- a string to a real record
pub real_gives_3 : {d : Description} {l : Lent} (s : Standing d l) → d.encoding ≡ Real → (i : ℕ) (v : List ℕ) → refused_with d l 3 ≡ add_change d l i (text v)
unfolding is_other_kind
real_gives_3 s e i v = gives_3 s i (text v) (rw e)

abbrev pub real_bytes : ℕ → List ℕ
real_bytes x = reverse (digits 256 8 x)

pub real_length : (x : ℕ) → length (real_bytes x) ≡ 8
real_length x = length-reverse (digits 256 8 x) ∙ digits_length 256 8 x

module _ {d : Description} {l : Lent} (s : Standing d l) (isReal : d.encoding ≡ Real) (i x : ℕ) where
  pub real_suited : Suited d l (real x)
  unfolding is_other_kind is_other_length is_foreign
  real_suited = record { standing = s; kind = rw isReal; long = rw isReal; known = rw isReal }

  pub real_adds : Admitted d l i (real x) → Adds d l i (real x) (real_bytes x) (repeats_plain (real_bytes x) l.byte_start d.count l.bytes)
  unfolding kept_in changed appended
  real_adds a =
      record { admitted = a; sized = real_length x ∙ sym (ap size_of isReal); is = rw (isReal, indices_used s, real_length x) }
