-- `wavemem::turns::equals_turns` meets its contract: each turn compares the bytes of the next characters, and what is left decides.
-- Assumes nothing.
use Prim.Native.Nat.{◌*◌}
use Rattle.wavemem.proofs.Parts.{Agrees}
use Rattle.wavemem.proofs.turns.equals_turns.Given as goal

abbrev pub invariant-loop-chars : goal.invariant-loop-chars
invariant-loop-chars g l = Agrees g.P.Packs.set l.value l.bytes l.at g.row.CHARS (l.chars-index * g.row.CHARS) l.to
