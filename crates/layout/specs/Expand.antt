-- Inner: how widening moves one entry, by sizes and bits alone.
-- Assumes nothing.
use Rattle.std.specs.Prelude.{ℕ, zero, suc, ◌+◌, ◌-◌, ◌*◌, ◌≤◌, Bool, cond, List, [], ◌∷◌, ◌++◌, take, drop, get_or, replicate}
use Rattle.std.specs.Int.Bits.{bit_and}
use Rattle.value.specs.declared.States.{States}
use Rattle.value.specs.declared.States.TheVariants.{Two, Four, Nine}
use Rattle.value.specs.Slice.{part, overlay}
use Rattle.value.specs.Level.{mark_of, len_of}
use Rattle.layout.specs.Entry.{has_meta, entry_size}

-- the bits of a stored mark in an entry's first byte
abbrev pub mark_bits : States → ℕ
mark_bits Two = 0
mark_bits Four = 192
mark_bits Nine = 192

-- the bits of levels in an entry's first level byte
abbrev pub level_bits : Bool → States → ℕ
level_bits meta M = cond meta 255 (255 - mark_bits M)

-- an entry's size, its level bytes, the zeros between the mark and them in its new place, and the bits of its mark and of its levels
pub record Move : Type 0 where
  pub from_size : ℕ
  pub len : ℕ
  pub zeros : ℕ
  pub mark_bits : ℕ
  pub level_bits : ℕ

abbrev pub to_size : Move → ℕ
to_size m = m.len + m.zeros + 1

unfoldable pub widening_of : ℕ → States → States → Move
widening_of w from to =
    record {
      from_size = entry_size w from;
      len = len_of w from;
      zeros = entry_size w to - 1 - len_of w from;
      mark_bits = mark_bits from;
      level_bits = level_bits (has_meta w from) from;
    }

-- the level bytes, of which the first is without its mark
unfoldable pub levels_moved : Move → List ℕ → List ℕ
levels_moved m v =
    let first = m.from_size - m.len in
    bit_and (get_or v first 0) m.level_bits ∷ drop (first + 1) v

-- the mark, zeros and the level bytes
unfoldable pub moved_entry : Move → List ℕ → List ℕ
moved_entry m v = bit_and (get_or v 0 0) m.mark_bits ∷ (replicate m.zeros 0 ++ levels_moved m v)

-- each of n entries moved
unfoldable pub moved_entries : Move → ℕ → List ℕ → List ℕ
moved_entries m zero bytes = []
moved_entries m (suc n) bytes = moved_entry m (take m.from_size bytes) ++ moved_entries m n (drop m.from_size bytes)

-- n entries from a start, each moved
abbrev pub all_moved : Move → ℕ → ℕ → List ℕ → List ℕ
all_moved m start n bytes = overlay bytes start (moved_entries m n (part start (n * m.from_size) bytes))

-- an entry has level bytes, and is not longer than in its new place
pub record Grows (from_size len zeros : ℕ) : Type 0 where
  pub some : 1 ≤ len
  pub held : len ≤ from_size
  pub wider : from_size ≤ len + zeros + 1

-- entries under one set, to be laid out under another that is no smaller
pub record Widenable (from to : States) (start entries bits length : ℕ) : Type 0 where
  pub wide : 1 ≤ bits
  pub narrow : bits ≤ 4096
  pub up : mark_of from ≤ mark_of to
  pub few : entries ≤ 1048576
  pub room : start + entries * entry_size bits to ≤ length
