-- `signal::packed::write_levels` meets its contract: as many characters stand there as turns were taken.
-- Assumes nothing.
use mathlib.Core.Path.{◌≡◌, sym, ap, ◌∙◌}
use mathlib.Core.List.{List}
use Prim.Native.Nat.{ℕ, ◌+◌, ◌-◌, ◌*◌, ◌/◌, ◌^◌, ◌<◌}
use native.Mathlib.Omega.{arith}
use lib.Bits.{bit_and}
use lib.ListN.{get_or, set, length-set}
use Rattle.value.specs.Digits.{digits}
use Rattle.value.specs.Level.{bits_of, letter_of}
use Rattle.value.proofs.Digits.{digits_length, digits_at}
use Rattle.signal.proofs.Decoding.{text_more}
use Rattle.signal.proofs.CodesOfBytes.{shift_small, level_shifted}
use Rattle.signal.proofs.packed.write_levels.Goals.{In-loop-i}
use Rattle.signal.proofs.packed.write_levels.Goals as goal

-- the bits behind the level lie in its byte
small : (c : In-loop-i) → (c.args.count - 1 - c.loop-i.i) * c.bits-bits.result < 8
small c =
    shift_small c.args.states c.args.count c.loop-i.i _ c.bits-bits.ensures c.loop-i-test.true c.requires.0

pub loop-i-preserved : goal.loop-i-preserved
loop-i-preserved c =
    let a = c.args in
    let i = c.loop-i.i in
    let j = a.count - 1 - i in
    let cs = digits (2 ^ bits_of a.states) a.count a.byte in
    let d : bit_and (a.byte / 2 ^ (j * c.bits-bits.result)) c.mask.result ≡ get_or cs i 0 =
    level_shifted a.states a.byte j _ _ c.bits-bits.ensures c.mask.ensures
    ∙ sym (digits_at (2 ^ bits_of a.states) a.count a.byte i j (omega arith)) in (
      ap (λ (o : List ℕ). set o (a.at + i) c.num_to_bit_char.result) c.loop-i.invariant.0
          ∙ text_more cs i (rw digits_length c.loop-i-test.true) a.out.now a.at c.num_to_bit_char.result (c.num_to_bit_char.ensures ∙ ap letter_of d) (omega arith),
      rw length-set c.loop-i.invariant.1,
    )
