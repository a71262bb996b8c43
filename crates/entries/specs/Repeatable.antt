-- Inner: an entry that may repeat the last of some entries, and whether it does.
-- Assumes nothing.
use Rattle.std.specs.Prelude.{ℕ, ◌*◌, ◌≤◌, ◌≡◌, Bool, List, length}
use Rattle.value.specs.declared.States.{States}
use Rattle.value.specs.Slice.{part, same}
use Rattle.value.specs.Level.{mark_of}
use Rattle.layout.specs.Entry.{entry_size, widen_entry, widen_all}
use Rattle.layout.specs.Writable.{entry_from}
use Rattle.entries.specs.Repeats.{repeats}

-- an entry under a set, behind entries of as many levels under another, which are to be laid out anew under its own
pub record Wider : Type 0 where
  pub from : States
  pub to : States
  pub bits : ℕ
  pub entry : List ℕ

-- the set is no smaller than the other, and the entry has its size
pub record Widens (from to : States) (bits size : ℕ) : Type 0 where
  pub up : mark_of from ≤ mark_of to
  pub wide : 1 ≤ bits
  pub short : bits ≤ 4096
  pub sized : size ≡ entry_size bits to

-- a string's
abbrev pub wider : States → States → States → List ℕ → Wider
wider from to own value = record { from = from; to = to; bits = length value; entry = entry_from to own value }

-- the size of the entries before it
abbrev pub size_before : Wider → ℕ
size_before e = entry_size e.bits e.from

-- its own
abbrev pub size_after : Wider → ℕ
size_after e = entry_size e.bits e.to

-- n of them laid out anew
abbrev pub widened : Wider → ℕ → List ℕ → List ℕ
widened e n bytes = widen_all e.bits e.from e.to n bytes

-- is the one at a place, laid out anew, this one
abbrev pub equals_widened : Wider → ℕ → List ℕ → Bool
equals_widened e at bytes = same (widen_entry e.bits e.from e.to (part at (size_before e) bytes)) e.entry

-- do bytes repeat the last of n entries that are as long
abbrev pub repeats_plain : List ℕ → ℕ → ℕ → List ℕ → Bool
repeats_plain new start n bytes = repeats (length new) n (part start (n * length new) bytes) new

-- does it repeat the last of n of them, once they are laid out anew
abbrev pub repeats_widened : Wider → ℕ → ℕ → List ℕ → Bool
repeats_widened e start n bytes =
    repeats (size_after e) n (widened e n (part start (n * size_before e) bytes)) e.entry
