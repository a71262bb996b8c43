-- Document 01, "An entry".
-- Assumes nothing.
use Rattle.std.specs.Prelude.{ℕ, zero, suc, ◌+◌, ◌-◌, ◌*◌, ◌^◌, ◌/◌, ◌%◌, Bool, false, cond, List, [], ◌∷◌, ◌++◌, eqb, take, drop, get_or, replicate}
use Rattle.value.specs.declared.States.{States}
use Rattle.value.specs.declared.States.TheVariants.{Two, Four, Nine}
use Rattle.value.specs.Digits.{number, digits}
use Rattle.value.specs.Level.{mark_of, bits_of, len_of}

-- "A meta byte exists exactly when the set is Four and 4 divides w, or Nine and 2 divides w"
abbrev pub has_meta : ℕ → States → Bool
has_meta w Two = false
has_meta w Four = eqb (w % 4) 0
has_meta w Nine = eqb (w % 2) 0

-- "An entry takes L bytes, plus one with a meta byte, both by the record's largest set"
unfoldable pub entry_size : ℕ → States → ℕ
entry_size w M = cond (has_meta w M) (len_of w M + 1) (len_of w M)

-- "Levels are packed first character highest, last character in the lowest bits of the last byte, unused high bits zero. .. The mark of the
-- entry's own set is the top two bits of the entry's first byte .. A smaller set's levels stand in the last bytes, zeros between."
-- Under the largest set Two the own set is Two, whose mark is 0: none is stored.
unfoldable pub entry_of : ℕ → States → States → List ℕ → List ℕ
entry_of w M own codes =
    let n = entry_size w M in
    digits 256 n (mark_of own * 2 ^ (8 * n - 2) + number (2 ^ bits_of own) codes)

-- expand_entries at one entry of any bytes, which may be no writer's: its mark alone in the first byte, zeros, and its level bytes, from
-- which a mark that shared them is gone. Under Two nothing is a mark. Where the size stays nothing moves.
unfoldable pub mark_byte : States → List ℕ → ℕ
mark_byte Two v = 0
mark_byte Four v = get_or v 0 0 / 64 * 64
mark_byte Nine v = get_or v 0 0 / 64 * 64

unfoldable pub unmarked : States → List ℕ → List ℕ
unmarked Two v = v
unmarked Four v = get_or v 0 0 % 64 ∷ drop 1 v
unmarked Nine v = get_or v 0 0 % 64 ∷ drop 1 v

unfoldable pub level_bytes : ℕ → States → List ℕ → List ℕ
level_bytes w from v = cond (has_meta w from) (drop 1 v) (unmarked from v)

unfoldable pub widen_entry : ℕ → States → States → List ℕ → List ℕ
widen_entry w from to v =
    cond (eqb (entry_size w from) (entry_size w to)) v
    (mark_byte from v ∷ (replicate (entry_size w to - 1 - len_of w from) 0 ++ level_bytes w from v))

-- "When a change raises the largest set, earlier entries are laid out as though written under the new set": each of n entries
unfoldable pub widen_all : ℕ → States → States → ℕ → List ℕ → List ℕ
widen_all w from to zero bytes = []
widen_all w from to (suc n) bytes =
    widen_entry w from to (take (entry_size w from) bytes) ++ widen_all w from to n (drop (entry_size w from) bytes)
