-- `wavemem::turns::write_turns` meets its contract: each turn stores the bytes of the next characters.
-- Assumes nothing.
use Prim.Native.Nat.{◌*◌}
use Rattle.wavemem.proofs.Parts.{Stored}
use Rattle.wavemem.proofs.turns.write_turns.Given as goal

abbrev pub invariant-loop-chars : goal.invariant-loop-chars
invariant-loop-chars g l = Stored g.P.Packs.set l.value l.initial.out l.at g.row.CHARS l.out (l.chars-index * g.row.CHARS) l.to
