-- Inner: what the functions of which Add a change is made ask.
-- Assumes nothing.
use Rattle.std.specs.Prelude.{ℕ, zero, suc, ◌≡◌, Bool, false, cond, List, [], ◌∷◌, ◌++◌, reverse, length, get_or, Option, None, Some, Result, Ok, Err}
use Rattle.value.specs.declared.States.{States}
use Rattle.value.specs.Digits.{digits}
use Rattle.value.specs.Slice.{part}
use Rattle.value.specs.Level.{fold_all, codes_of, least_of}
use Rattle.layout.specs.Entry.{entry_size}
use Rattle.entries.specs.Repeatable.{repeats_plain}
use Rattle.fst.specs.declared.Encoding.TheVariants.{BitVector}
use Rattle.fst.specs.declared.Description.{Description}
use Rattle.fst.specs.declared.Refusal.{Refusal}
use Rattle.fst.specs.declared.change.Addition.{Addition}
use Rattle.fst.specs.declared.change.Addition.TheVariants.{Event, Entry, Raised}
use Rattle.fst.specs.Refusal.{refusal_number, given, ◌⇐◌, tried, Outcome, outcome}
use Rattle.fst.specs.Record.{Lent, Kept, Recorder, size_of, used_size, kept_in, is_bad}
use Rattle.fst.specs.Change.{Change, text, real, is_other_kind, is_other_length, is_foreign, is_below_last, with_change, lacks_room, in_hand, stored, add_change}

-- numbers 2 to 6 are none
pub record Admitted (d : Description) (l : Lent) (i : ℕ) (c : Change) : Type 0 where
  pub sound : is_bad d l ≡ false
  pub kind : is_other_kind d.encoding c ≡ false
  pub long : is_other_length d.encoding c ≡ false
  pub known : is_foreign d.encoding c ≡ false
  pub rises : is_below_last i d.count (kept_in d l).indices ≡ false

-- a string and its least set, for a record under a largest set
pub record AdmittedString (d : Description) (l : Lent) (i : ℕ) (M own : States) (value : List ℕ) : Type 0 where
  pub admitted : Admitted d l i (text value)
  pub vector : d.encoding ≡ BitVector (length value) M
  pub least : own ≡ least_of (codes_of (fold_all value))

-- a record as it is, or with an entry and an index behind the others
abbrev pub added : Description → Lent → ℕ → List ℕ → Bool → Kept
added d l i new again =
    cond again (kept_in d l)
    (record {
      encoding = d.encoding;
      bytes = part l.byte_start (used_size d) l.bytes ++ new;
      indices = part l.index_start d.count l.indices ++ (i ∷ []);
    })

-- what is left where numbers 2 to 6 are none, by the record with the change
unfoldable pub left_with : Description → Lent → Kept → Outcome (Recorder Description)
left_with d l k = outcome (in_hand d l) (tried (7 ⇐ lacks_room k l ∷ []) (given (stored l k)))

-- with some bytes, unless they repeat the last entry of those from a start on
abbrev pub left_adding : Description → Lent → ℕ → List ℕ → (ℕ → ℕ → List ℕ → Bool) → Outcome (Recorder Description)
left_adding d l i new repeats = left_with d l (added d l i new (repeats l.byte_start d.count l.bytes))

-- a change that adds some bytes, or none where they repeat the last entry
pub record Adds (d : Description) (l : Lent) (i : ℕ) (c : Change) (new : List ℕ) (again : Bool) : Type 0 where
  pub admitted : Admitted d l i c
  pub sized : length new ≡ size_of d.encoding
  pub is : with_change (kept_in d l) i c ≡ added d l i new again

-- a refusal is that of the call
abbrev pub Refuses : Description → Lent → ℕ → Change → Refusal → Type 0
Refuses d l i c r = record { refused = refusal_number r; left = in_hand d l } ≡ add_change d l i c

abbrev pub AddsText : Description → Lent → ℕ → List ℕ → Addition → Type 0
AddsText d l i s Event = Adds d l i (text s) [] false
AddsText d l i s (Entry new) = Adds d l i (text s) new (repeats_plain new l.byte_start d.count l.bytes)
AddsText d l i s (Raised M own) = AdmittedString d l i M own s

abbrev pub Admits : Description → Lent → ℕ → List ℕ → Result Addition Refusal → Type 0
Admits d l i s (Err r) = Refuses d l i (text s) r
Admits d l i s (Ok a) = AddsText d l i s a

abbrev pub AdmitsReal : Description → Lent → ℕ → ℕ → Result Unit Refusal → Type 0
AdmitsReal d l i x (Err r) = Refuses d l i (real x) r
AdmitsReal d l i x (Ok _) =
    let new = reverse (digits 256 8 x) in
    Adds d l i (real x) new (repeats_plain new l.byte_start d.count l.bytes)

-- the last of n indices
unfoldable pub last_in : ℕ → List ℕ → Option ℕ
last_in zero indices = None
last_in (suc n) indices = Some (get_or indices n 0)

-- a bit vector of a width, and the size of its entries
pub record SizedVector (d : Description) (width size : ℕ) : Type 0 where
  pub largest : States
  pub vector : d.encoding ≡ BitVector width largest
  pub sized : size ≡ entry_size width largest
