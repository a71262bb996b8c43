-- Rows 1 to 8 of document 01 and its edges, each a run of calls over slices with filler before and behind the used part: after each call the
-- number, the description and both slices, whole. By computation over the definitions.
-- Assumes nothing.
use mathlib.Core.Path.{◌≡◌, refl}
use Prim.Native.Nat.{ℕ, ◌-◌, ◌^◌}
use Prim.Native.String.{String}
use mathlib.Core.List.{List, [], ◌∷◌, ◌++◌}
use lib.ListN.{length, replicate}
use Rattle.value.specs.declared.States.TheVariants.{Two, Four, Nine}
use Rattle.value.specs.Text.{chars}
use Rattle.value.specs.Digits.{number, digits}
use Rattle.value.specs.Slice.{part, overlay, same, any}
use Rattle.value.specs.Level.{place_in, code_of, fold, set_of, join_all}
use Rattle.fst.specs.declared.Encoding.{Encoding}
use Rattle.fst.specs.declared.Encoding.TheVariants.{Event, Real, BitVector}
use Rattle.fst.specs.declared.Description.{Description}
use Rattle.fst.specs.Refusal.{Reply, refused, given, tried, Outcome}
use Rattle.layout.specs.Entry.{entry_size, entry_of, mark_byte, unmarked, level_bytes, widen_entry, widen_all}
use Rattle.fst.specs.Record.{Lent, Kept, Held, Recorder, kept_in, width_stands, fits_bytes, fits, is_bad, lent, described, fresh, fresh_real}
use Rattle.fst.specs.Change.{Change, text, real, is_other_kind, is_other_length, is_foreign, is_below_last, appended, changed, refusals, stored, add_change}
use Rattle.entries.specs.Repeats.{repeats}

-- a change at an index, the number that it gets and the record that is then in the slices
pub record Checked : Type 0 where
  pub change : Change
  pub index : ℕ
  pub refused : ℕ
  pub then : Kept

-- calls one after the other from a description with its used part, over slices with room for so many bytes and indices from its starts on
pub record Row : Type 0 where
  pub from : Held Description
  pub byte_room : ℕ
  pub index_room : ℕ
  pub calls : List Checked

-- two bytes and three indices stand before the used part, and what is left of the room behind it
unfoldable pub around : ℕ → ℕ → Held Description → Recorder Description
around byte_room index_room h =
    record {
      description = h.description;
      bytes = replicate 2 0xAA ++ (h.bytes ++ replicate (byte_room - length h.bytes) 0xBB);
      indices = replicate 3 70 ++ (h.indices ++ replicate (index_room - length h.indices) 80);
    }

-- a record with its description
abbrev pub held_by : Kept → Held Description
held_by k = record { description = described k.encoding (length k.indices); bytes = k.bytes; indices = k.indices }

unfoldable pub lent_by : Recorder Description → Lent
lent_by r = lent r.bytes 2 r.indices 3

unfoldable pub Follows : (Kept → Recorder Description) → Recorder Description → List Checked → Type 0
Follows within r [] = Unit
Follows within r (c ∷ cs) =
    let o = add_change r.description (lent_by r) c.index c.change in
    ◌≡◌ {A = Outcome (Recorder Description)} o (record { refused = c.refused; left = within c.then }) × Follows within o.left cs

-- the recorder after the calls
unfoldable pub played : Recorder Description → List Checked → Recorder Description
played r [] = r
played r (c ∷ cs) = played (add_change r.description (lent_by r) c.index c.change).left cs

unfoldable pub Holds : Row → Type 0
Holds r = let within = around r.byte_room r.index_room in Follows (λ (k : Kept). within (held_by k)) (within r.from) r.calls

unfoldable pub AllHold : List Row → Type 0
AllHold [] = Unit
AllHold (r ∷ rs) = Holds r × AllHold rs

-- ---- rows

abbrev pub kept : Encoding → List ℕ → List ℕ → Kept
kept e indices bytes = record { encoding = e; bytes = bytes; indices = indices }

abbrev pub freshly : Reply Description → Held Description
freshly (given d) = record { description = d; bytes = []; indices = [] }
freshly (refused n) = held_by (kept Event [] [])

abbrev pub row : ℕ → List Checked → Row
row w calls = record { from = freshly (fresh w); byte_room = 9; index_room = 9; calls = calls }

abbrev pub accepted : String → ℕ → Kept → Checked
accepted s i k = record { change = text (chars s); index = i; refused = 0; then = k }

abbrev accepted_real : ℕ → ℕ → Kept → Checked
accepted_real x i k = record { change = real x; index = i; refused = 0; then = k }

abbrev refused_by : ℕ → String → ℕ → Kept → Checked
refused_by n s i k = record { change = text (chars s); index = i; refused = n; then = k }

abbrev pub rows : List Row
rows =
    -- 1. w1 `1`: 01
    row 1 (accepted "1" 0 (kept (BitVector 1 Two) (0 ∷ []) (0x01 ∷ [])) ∷ [])
    -- 2. w1 `x`, `X`: 42 alone
    ∷ row 1
    (accepted "x" 0 (kept (BitVector 1 Four) (0 ∷ []) (0x42 ∷ [])) ∷ accepted "X" 3 (kept (BitVector 1 Four) (0 ∷ []) (0x42 ∷ [])) ∷ [])
    -- 3. w3 `x01`: 61
    ∷ row 3 (accepted "x01" 0 (kept (BitVector 3 Four) (0 ∷ []) (0x61 ∷ [])) ∷ [])
    -- 4. then `hz1`: 40 21, 84 31
    ∷ row 3
    (accepted "x01" 0 (kept (BitVector 3 Four) (0 ∷ []) (0x61 ∷ []))
    ∷ accepted "hz1" 0 (kept (BitVector 3 Nine) (0 ∷ 0 ∷ []) (0x40 ∷ 0x21 ∷ 0x84 ∷ 0x31 ∷ []))
    ∷ [])
    -- 5. w4 `1010`: 0A; then `10xz`: 00 0A, 40 4B
    ∷ row 4
    (accepted "1010" 0 (kept (BitVector 4 Two) (0 ∷ []) (0x0A ∷ []))
    ∷ accepted "10xz" 2 (kept (BitVector 4 Four) (0 ∷ 2 ∷ []) (0x00 ∷ 0x0A ∷ 0x40 ∷ 0x4B ∷ []))
    ∷ [])
    -- 6. w5 `0000x`: 40 02
    ∷ row 5 (accepted "0000x" 0 (kept (BitVector 5 Four) (0 ∷ []) (0x40 ∷ 0x02 ∷ [])) ∷ [])
    -- 7. w2 `u-`: 80 58
    ∷ row 2 (accepted "u-" 0 (kept (BitVector 2 Nine) (0 ∷ []) (0x80 ∷ 0x58 ∷ [])) ∷ [])
    -- 8. w1 `0` at 5, `0` at 10, `1` at 7: indices 5, 7; then `0` at 6: refused 6
    ∷ row 1
    (accepted "0" 5 (kept (BitVector 1 Two) (5 ∷ []) (0x00 ∷ []))
    ∷ accepted "0" 10 (kept (BitVector 1 Two) (5 ∷ []) (0x00 ∷ []))
    ∷ accepted "1" 7 (kept (BitVector 1 Two) (5 ∷ 7 ∷ []) (0x00 ∷ 0x01 ∷ []))
    ∷ refused_by 6 "0" 6 (kept (BitVector 1 Two) (5 ∷ 7 ∷ []) (0x00 ∷ 0x01 ∷ []))
    ∷ [])
    ∷ []

-- "Row 5's second change fits 4 bytes; with 3 it is 7 and 0A remains"
abbrev fifth_in : ℕ → Checked → Row
fifth_in room c =
    record { from = held_by (kept (BitVector 4 Two) (0 ∷ []) (0x0A ∷ [])); byte_room = room; index_room = 2; calls = c ∷ [] }

abbrev pub edges : List Row
edges =
    fifth_in 4 (accepted "10xz" 2 (kept (BitVector 4 Four) (0 ∷ 2 ∷ []) (0x00 ∷ 0x0A ∷ 0x40 ∷ 0x4B ∷ [])))
    ∷ fifth_in 3 (refused_by 7 "10xz" 2 (kept (BitVector 4 Two) (0 ∷ []) (0x0A ∷ [])))
    -- two entries widened, whose bytes overlap where they stood
    ∷ row 4
    (accepted "1010" 0 (kept (BitVector 4 Two) (0 ∷ []) (0x0A ∷ []))
    ∷ accepted "0101" 1 (kept (BitVector 4 Two) (0 ∷ 1 ∷ []) (0x0A ∷ 0x05 ∷ []))
    ∷ accepted "10xz" 2 (kept (BitVector 4 Four) (0 ∷ 1 ∷ 2 ∷ []) (0x00 ∷ 0x0A ∷ 0x00 ∷ 0x05 ∷ 0x40 ∷ 0x4B ∷ []))
    ∷ [])
    -- "Real 0.0 then -0.0: both kept"
    ∷ record {
      from = freshly (given fresh_real);
      byte_room = 16;
      index_room = 2;
      calls =
          accepted_real 0 1 (kept Real (1 ∷ []) (replicate 8 0))
          ∷ accepted_real (2 ^ 63) 2 (kept Real (1 ∷ 2 ∷ []) (replicate 15 0 ++ (0x80 ∷ [])))
          ∷ [];
    }
    -- bytes that no writer made: the mark of `x` under Two, which `x` repeats where it raises the set, in full slices
    ∷ record {
      from = held_by (kept (BitVector 1 Two) (5 ∷ []) (0x42 ∷ []));
      byte_room = 1;
      index_room = 1;
      calls = accepted "x" 6 (kept (BitVector 1 Four) (5 ∷ []) (0x42 ∷ [])) ∷ [];
    }
    ∷ []

pub hold : AllHold rows × AllHold edges
unfolding around lent_by Follows Holds AllHold number digits part overlay same any place_in code_of fold set_of join_all tried entry_size entry_of mark_byte unmarked level_bytes widen_entry widen_all kept_in width_stands fits_bytes fits is_bad fresh is_other_kind is_other_length is_foreign is_below_last repeats appended changed refusals stored add_change
hold = (
  (
    (refl, tt),
    (
      (refl, (refl, tt)),
      (
        (refl, tt),
        (
          (refl, (refl, tt)),
          (
            (refl, (refl, tt)),
            (
              (refl, tt),
              (
                (refl, tt),
                ((refl, (refl, (refl, (refl, tt)))), tt),
              ),
            ),
          ),
        ),
      ),
    ),
  ),
  ((refl, tt), ((refl, tt), ((refl, (refl, (refl, tt))), ((refl, (refl, tt)), ((refl, tt), tt))))),
)

-- "width 4,096 stands, 4,097 is 1"
widest : (fresh 4096 ≡ given (described (BitVector 4096 Two) 0)) × (fresh 4097 ≡ refused 1)
unfolding fresh tried
widest = (refl, refl)
