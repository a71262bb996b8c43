-- `wavemem::write_n_state_from_ascii` meets its contract: the first byte where it is not full, and then whole bytes.
-- Assumes nothing.
use mathlib.Core.Path.{refl}
use native.Mathlib.Omega.{arith}
use Rattle.wavemem.proofs.Packing.{first_byte, behind_lent}
use Rattle.wavemem.proofs.write_n_state_from_ascii.Goals as goal

pub byte_from_ascii-requires : goal.byte_from_ascii-requires
byte_from_ascii-requires c = first_byte c.requires c.first_count-first.ensures c.bits_in_a_byte.ensures c.if-first-bits_in_a_byte.false

pub write_whole-requires-2 : goal.write_whole-requires-2
write_whole-requires-2 c = behind_lent c.requires c.first_count-first.ensures c.bits_in_a_byte.ensures c.if-first-bits_in_a_byte.false c.args.out.now refl _ (omega arith) c.byte_from_ascii.ensures
