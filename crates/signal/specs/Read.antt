-- Document 01, "Read an entry" and "Text of an entry".
-- Assumes nothing.
use Rattle.std.specs.Prelude.{ℕ, List, [], ◌∷◌, ◌++◌, leb, ltb, length}
use Rattle.value.specs.declared.States.{States}
use Rattle.value.specs.Slice.{overlay}
use Rattle.fst.specs.declared.Encoding.{Encoding}
use Rattle.fst.specs.declared.Encoding.TheVariants.{Event, Real, BitVector}
use Rattle.fst.specs.declared.Description.{Description}
use Rattle.fst.specs.Refusal.{Reply, refused, given, Test, ◌⇐◌, tried, Outcome, outcome}
use Rattle.fst.specs.Record.{width_of, has_no_text, is_bad_bytes}
use Rattle.signal.specs.declared.Kind.{Kind}
use Rattle.signal.specs.declared.Kind.TheVariants as kind
use Rattle.signal.specs.declared.Entry as answer
use Rattle.signal.specs.Decode.{entry_at, set_in, level_part, has_bad_mark, has_bad_code, text_in}

-- "The answer is the kind, own set, and that part of the lent bytes which holds the levels"
pub record Entry : Type 0 where
  pub kind : Kind
  pub set : States
  pub part : List ℕ

abbrev pub kind_of : Encoding → Kind
kind_of Event = kind.Event
kind_of Real = kind.Real
kind_of (BitVector w M) = kind.BitVector

abbrev pub entry_in : Encoding → List ℕ → Entry
entry_in e v = record { kind = kind_of e; set = set_in e v; part = level_part e v }

unfoldable pub read_entry : Description → List ℕ → ℕ → ℕ → Reply Entry
read_entry d bytes start k =
    let v = entry_at d.encoding start bytes k in
    tried
    (2 ⇐ is_bad_bytes d start bytes
    ∷ 8 ⇐ leb d.count k
    ∷ 9 ⇐ has_bad_mark d.encoding v
    ∷ [])
    (given (entry_in d.encoding v))

-- "On every refusal .. a returned part is empty"
abbrev pub part_of : Reply Entry → List ℕ
part_of (refused n) = []
part_of (given e) = e.part

-- the answer by its values
abbrev pub is_entry : answer.Entry → Entry
is_entry e = record { kind = e.kind; set = e.states; part = e.part.now }

-- what Text leaves, by its number and the text slice as it is then
abbrev pub text_left : ℕ → List ℕ → Outcome (List ℕ)
text_left n out = record { refused = n; left = out }

-- "As reading; a real or event is 3, tried after 2. 10: a code 9 to 15": what makes an entry one of no characters
abbrev pub unreadable : Description → List ℕ → ℕ → ℕ → List Test
unreadable d bytes start k =
    let v = entry_at d.encoding start bytes k in
    2 ⇐ is_bad_bytes d start bytes
    ∷ 3 ⇐ has_no_text d.encoding
    ∷ 8 ⇐ leb d.count k
    ∷ 9 ⇐ has_bad_mark d.encoding v
    ∷ 10 ⇐ has_bad_code d.encoding v
    ∷ []

-- "7: the lent text slice is shorter than the width. .. bytes past the width unaltered"
unfoldable pub read_text : Description → List ℕ → ℕ → ℕ → List ℕ → Outcome (List ℕ)
read_text d bytes start k out =
    outcome out
    (tried (unreadable d bytes start k ++ (7 ⇐ ltb (length out) (width_of d.encoding) ∷ []))
    (given (overlay out 0 (text_in d.encoding (entry_at d.encoding start bytes k)))))
