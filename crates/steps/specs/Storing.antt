-- Inner: a step kept unless it repeats the last.
-- Assumes nothing.
use Rattle.std.specs.Prelude.{◌*◌, ◌+◌, ◌-◌, ◌<◌, ◌≤◌, suc, zero, ℕ, length, Bool, cond, false, List, map, ◌≡◌}
use Rattle.value.specs.Slice.{overlay, part, same}
use Rattle.value.specs.declared.States.{States}
use Rattle.layout.specs.Entry.{entry_size}
use Rattle.runs.specs.Runs.{Step, entries_of, index_of}

-- does an entry repeat the last of so many
unfoldable pub repeats_last : ℕ → List ℕ → List ℕ → Bool
repeats_last zero last entry = false
repeats_last (suc n) last entry = same last entry

-- the last of so many entries of a size that stand a stride apart
abbrev pub last_at : ℕ → ℕ → ℕ → List ℕ → List ℕ
last_at size stride count bytes = part ((count - 1) * stride) size bytes

-- an entry that is to stand behind so many others, for which there is room unless it repeats the last
pub record Appendable (entry : List ℕ) (stride count : ℕ) (bytes : List ℕ) : Type 0 where
  pub few : count ≤ 8388608
  pub last : 0 < count → (count - 1) * stride + length entry ≤ length bytes
  pub room : repeats_last count (last_at (length entry) stride count bytes) entry ≡ false → count * stride + length entry ≤ length bytes

pub record Appended (entry : List ℕ) (stride count : ℕ) (bytes : List ℕ) (r : ℕ) (bytes' : List ℕ) : Type 0 where
  pub counted : r ≡ cond (repeats_last count (last_at (length entry) stride count bytes) entry) count (count + 1)
  pub stored : bytes' ≡ cond (repeats_last count (last_at (length entry) stride count bytes) entry) bytes (overlay bytes (count * stride) entry)

-- each of so many entries has room, a stride apart
abbrev pub Roomy : ℕ → ℕ → ℕ → List ℕ → Type 0
Roomy all size stride bytes = (n : ℕ) → n < all → n * stride + size ≤ length bytes

-- the steps laid over the slices, and nothing else altered
pub record Stored (width : ℕ) (M : States) (steps : List Step) (bytes indices bytes' indices' : List ℕ) : Type 0 where
  pub entries : bytes' ≡ overlay bytes 0 (entries_of width M steps)
  pub times : indices' ≡ overlay indices 0 (map index_of steps)

-- all steps are counted and, an entry's size apart and with a place for each index, stored
pub record Wrote (width : ℕ) (M : States) (stride : ℕ) (steps : List Step) (bytes indices : List ℕ) (count : ℕ) (bytes' indices' : List ℕ) : Type 0 where
  pub counted : count ≡ length steps
  pub stored : stride ≡ entry_size width M → length steps ≤ length indices → Stored width M steps bytes indices bytes' indices'
