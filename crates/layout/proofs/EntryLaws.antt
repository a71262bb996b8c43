-- The laws of an entry that runs rest on. Entries.antt proves them.
-- Assumes nothing.
use mathlib.Core.Path.{◌≡◌}
use Prim.Native.Nat.{ℕ, ◌^◌, ◌≤◌}
use mathlib.Core.List.{List}
use lib.ListN.{length}
use Rattle.value.specs.declared.States.{States}
use Rattle.value.specs.Level.{mark_of, bits_of}
use Rattle.value.specs.Digits.{Below}
use Rattle.layout.specs.Entry.{entry_size, entry_of, widen_entry}

-- w codes, each of as many bits as a set has
pub record Coded (w : ℕ) (own : States) (cs : List ℕ) : Type 0 where
  pub long : length cs ≡ w
  pub below : Below (2 ^ bits_of own) cs

pub record EntryLaws (w : ℕ) : Type 0 where
  pub sized : (M own : States) (cs : List ℕ) → length (entry_of w M own cs) ≡ entry_size w M
  pub bytes : (M own : States) (cs : List ℕ) → Below 256 (entry_of w M own cs)
  pub distinct : (M m k : States) (cs ds : List ℕ) → Coded w m cs → Coded w k ds
      → mark_of m ≤ mark_of M → mark_of k ≤ mark_of M
      → entry_of w M m cs ≡ entry_of w M k ds → (m ≡ k) × (cs ≡ ds)
  pub widened : (from to own : States) (cs : List ℕ) → Coded w own cs
      → mark_of own ≤ mark_of from → mark_of from ≤ mark_of to
      → widen_entry w from to (entry_of w from own cs) ≡ entry_of w to own cs
