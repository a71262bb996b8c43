-- Document 01, "A record": a change that is dropped.
-- Assumes nothing.
use Rattle.std.specs.Prelude.{ℕ, zero, suc, ◌*◌, Bool, false, List}
use Rattle.value.specs.Slice.{part, same}

-- "A bit-vector or real change whose bytes equal the last entry's is dropped, index too": the last of n entries
unfoldable pub repeats : ℕ → ℕ → List ℕ → List ℕ → Bool
repeats size zero bytes new = false
repeats size (suc n) bytes new = same (part (n * size) size bytes) new
