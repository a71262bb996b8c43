-- Descriptions and answers as numbers.
-- Assumes nothing.
use Rattle.std.specs.Prelude.{Option, Some, None, is_some, unwrap_or, Result, Ok, Err, ℤ, pos, ℕ, ◌-◌, Bool, true, false, cond, ◌&&◌, eqb, leb, length}
use Rattle.value.specs.declared.States.TheVariants.{Two}
use Rattle.value.specs.Level.{mark_of, set_at}
use Rattle.fst.specs.declared.Encoding.{Encoding}
use Rattle.fst.specs.declared.Encoding.TheVariants.{Event, Real, BitVector}
use Rattle.fst.specs.declared.Description.{Description}
use Rattle.fst.specs.declared.Refusal.{Refusal}
use Rattle.fst.specs.declared.Refusal.TheVariants.{BadRecord}
use Rattle.fst.specs.Refusal.{Reply, refused, given, refusal_number}
use Rattle.fst.specs.Record.{width_of, largest_in, described, empty}
use Rattle.signal.specs.declared.Kind.{Kind}
use Rattle.signal.specs.declared.Kind.TheVariants as kind
use Rattle.offset.specs.declared.DataOffset.{DataOffset}
use Rattle.signal.specs.Read.{Entry, kind_of}
use Rattle.yoksimert.specs.declared.FlatDescription.{FlatDescription}
use Rattle.yoksimert.specs.declared.FlatMade.{FlatMade}
use Rattle.yoksimert.specs.declared.FlatEntry.{FlatEntry}
use Rattle.yoksimert.specs.declared.FlatEqual.{FlatEqual}
use Rattle.yoksimert.specs.declared.FlatNumber.{FlatNumber}
use Rattle.yoksimert.specs.declared.FlatSigned.{FlatSigned}
use Rattle.yoksimert.specs.declared.FlatOffset.{FlatOffset}

-- ---- descriptions

abbrev pub known : Encoding → ℕ → Result Description Refusal
known e n = Ok (described e n)

-- the description of numbers, or 2: kind 0 is an event's, 1 a real's, 2 a bit vector's; a set's number is its mark; an event and a real have neither width nor set
unfoldable pub decoded : FlatDescription → Result Description Refusal
decoded f =
    cond (eqb f.kind 2)
    (cond (leb f.set 2) (known (BitVector f.width (set_at f.set)) f.count) (Err BadRecord))
    (cond (eqb f.width 0 && eqb f.set 0)
    (cond (eqb f.kind 0) (known Event f.count) (cond (eqb f.kind 1) (known Real f.count) (Err BadRecord)))
    (Err BadRecord))

-- numbers that are no description are taken for a bit vector of width 0, which is refused with 2
abbrev pub described_by : Result Description Refusal → Description
described_by (Ok d) = d
described_by (Err r) = empty (BitVector 0 Two)

abbrev pub kind_number : Kind → ℕ
kind_number kind.Event = 0
kind_number kind.Real = 1
kind_number kind.BitVector = 2

abbrev pub flat_of : Encoding → ℕ → FlatDescription
flat_of e n = record { kind = kind_number (kind_of e); width = width_of e; set = mark_of (largest_in e); count = n }

abbrev pub encoded : Description → FlatDescription
encoded d = flat_of d.encoding d.count

-- numbers that are no description
abbrev pub no_description : FlatDescription
no_description = record { kind = 3; width = 0; set = 0; count = 0 }

-- ---- answers

abbrev pub flat_made : Reply Description → FlatMade
flat_made (refused n) = record { number = n; description = no_description }
flat_made (given d) = record { number = 0; description = encoded d }

abbrev pub no_entry : ℕ → FlatEntry
no_entry n = record { number = n; kind = 0; set = 0; start = 0; length = 0 }

-- by an answer
abbrev pub told_entry : Result FlatEntry Refusal → FlatEntry
told_entry (Ok e) = e
told_entry (Err r) = no_entry (refusal_number r)

-- the part that holds the levels ends where the entry does
abbrev pub flat_entry : ℕ → Reply Entry → FlatEntry
flat_entry end (refused n) = no_entry n
flat_entry end (given e) =
    record { number = 0; kind = kind_number e.kind; set = mark_of e.set; start = end - length e.part; length = length e.part }

abbrev pub flat_equal : Reply Bool → FlatEqual
flat_equal (refused n) = record { number = n; equal = false }
flat_equal (given b) = record { number = 0; equal = b }

abbrev pub flat_number : Reply ℕ → FlatNumber
flat_number (refused n) = record { number = n; value = 0 }
flat_number (given v) = record { number = 0; value = v }

abbrev pub flat_signed : Reply ℤ → FlatSigned
flat_signed (refused n) = record { number = n; value = pos 0 }
flat_signed (given v) = record { number = 0; value = v }

abbrev pub nowhere : ℕ → FlatOffset
nowhere n =
    record {
      number = n;
      found = false;
      start = 0;
      elements = 0;
      time_match = false;
      has_next = false;
      next_index = 0;
    }

abbrev pub placed : DataOffset → FlatOffset
placed o =
    record {
      number = 0;
      found = true;
      start = o.start;
      elements = o.elements;
      time_match = o.time_match;
      has_next = is_some o.next_index;
      next_index = unwrap_or o.next_index 0;
    }

abbrev pub flat_offset : Reply (Option DataOffset) → FlatOffset
flat_offset (refused n) = nowhere n
flat_offset (given None) = nowhere 0
flat_offset (given (Some o)) = placed o
