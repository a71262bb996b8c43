-- `signal::packed::write_bytes` meets its contract: the characters of the bytes so far stand there.
-- Assumes nothing.
use Prim.Native.Nat.{◌+◌, ◌≤◌}
use native.Mathlib.Omega.{arith}
use lib.ListN.{length}
use Rattle.value.proofs.Digits.{below_all}
use Rattle.signal.proofs.CodesOfBytes.{per_byte, stored_room, stored_on}
use Rattle.signal.proofs.packed.write_bytes.Goals.{In-loop-byte}
use Rattle.signal.proofs.packed.write_bytes.Goals as goal

room : (c : In-loop-byte) → c.loop-byte.i + per_byte c.args.states ≤ length c.args.out.now
room c = stored_room c.requires c.loop-byte.invariant c.loop-byte-test.true

pub loop-byte-preserved : goal.loop-byte-preserved
loop-byte-preserved c =
    stored_on c.requires c.loop-byte.invariant c.loop-byte-test.true
    (below_all 256 c.args.levels.now (λ i. omega (arith, c.type_inv.levels i))) c.bits_in_a_byte-per_byte.ensures c.write_byte.ensures
