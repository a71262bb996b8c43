-- `signal::packed::write_bytes` meets its contract: the characters of the bytes so far stand there.
-- Assumes nothing.
use Rattle.signal.proofs.CodesOfBytes.{Stored}
use Rattle.signal.proofs.packed.write_bytes.Given as goal

abbrev pub invariant-loop-byte : goal.invariant-loop-byte
invariant-loop-byte l = Stored l.states l.levels l.initial.out l.at l.i l.byte-index l.out
