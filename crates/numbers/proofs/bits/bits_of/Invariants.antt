-- `numbers::bits::bits_of` meets its contract: the bits are those of the levels so far.
-- Assumes nothing.
use Prim.Native.Nat.{◌+◌, ◌*◌}
use Rattle.numbers.proofs.Words.{Begun, Known, codes_so_far, per_word}
use Rattle.numbers.proofs.bits.bits_of.Given as goal

abbrev pub invariant-loop-bytes : goal.invariant-loop-bytes
invariant-loop-bytes l =
    let i = l.first + per_word l.states * l.bytes-index in
    let k = l.k + l.bytes-index * 8 in
    Begun l.width l.states l.levels i k × Known (codes_so_far l.states l.levels i k) l.working
