-- Inner: what writing an entry and comparing one ask.
-- Assumes nothing.
use Rattle.std.specs.Prelude.{ℕ, ◌+◌, ◌-◌, ◌≤◌, ◌≡◌, ◌*◌, cond, List, [], ◌∷◌, Option, IfSome, eqb, length, replicate}
use Rattle.value.specs.declared.States.{States}
use Rattle.value.specs.Digits.{number}
use Rattle.value.specs.Level.{fold_all, codes_of, mark_of, len_of}
use Rattle.wavemem.specs.Packed.{Codes}
use Rattle.layout.specs.Entry.{entry_size, entry_of}

-- a string of 1 to 4,096 characters of a set that is not above the largest, and room for its entry from a place on
pub record Writable (M own : States) (value : List ℕ) (room at : ℕ) : Type 0 where
  pub under : mark_of own ≤ mark_of M
  pub codes : Codes own (codes_of (fold_all value))
  pub wide : 1 ≤ length value
  pub short : length value ≤ 4096
  pub fits : at + entry_size (length value) M ≤ room

-- the entry of a string
abbrev pub entry_from : States → States → List ℕ → List ℕ
entry_from M own value = entry_of (length value) M own (codes_of (fold_all value))

-- the size of a string's entry, and the number that an entry of at most eight bytes is, where it is given
pub record Numbered (M own : States) (value : List ℕ) (size : ℕ) (n : Option ℕ) : Type 0 where
  pub writable : Writable M own value size 0
  pub sized : size ≡ entry_size (length value) M
  pub is : IfSome n (λ k. (size ≤ 8) × (k ≡ number 256 (entry_from M own value)))

-- how many bytes the entry of w levels has in front of its level bytes, and its mark on top of a byte
pub record LaidOut (M own : States) (w front mark : ℕ) : Type 0 where
  pub sized : front + len_of w own ≡ entry_size w M
  pub marked : mark ≡ mark_of own * 64

-- the bytes in front of the level bytes: the mark's and zeros
unfoldable pub mark_in_front : ℕ → ℕ → List ℕ
mark_in_front front mark = cond (eqb front 0) [] (mark ∷ replicate (front - 1) 0)
