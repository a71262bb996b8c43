-- `signal::packed::write_text` meets its contract: the characters of the full bytes stand behind those of the first where that is not full.
-- Assumes nothing.
use mathlib.Core.Path.{◌≡◌}
use Prim.Native.Nat.{ℕ, ◌%◌}
use native.Mathlib.Omega.{arith}
use Rattle.value.specs.Level.{len_of}
use Rattle.value.proofs.Digits.{below_all}
use Rattle.signal.proofs.CodesOfBytes.{Split, split_told, text_whole}
use Rattle.signal.proofs.packed.write_text.Goals.{After-bits_in_a_byte}
use Rattle.signal.proofs.packed.write_text.Goals as goal

-- what the first byte has, and the full bytes
parted : (c : After-bits_in_a_byte)
    → let a = c.args in
    (k : ℕ) → k ≡ len_of (a.width % c.bits_in_a_byte.result) a.states
    → Split a.width a.states a.levels.now (a.width % c.bits_in_a_byte.result) k
parted c k e = split_told c.requires.0 c.bits_in_a_byte.ensures e

pub returns : goal.returns
returns c =
    text_whole (parted (goal.at.returns c).After-bits_in_a_byte _ c.write_first-k.ensures.value) _ c.requires.1 c.write_first-k.ensures.value c.write_first-k.ensures.out_after
    (below_all 256 c.args.levels.now (λ i. omega (arith, c.type_inv.levels i))) c.write_bytes.ensures
