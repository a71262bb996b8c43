-- `wavemem::equals_n_state_from_ascii` meets its contract: the first byte where it is not full, and then whole bytes.
-- Assumes nothing.
use Rattle.wavemem.proofs.Packing.{first_byte, behind_whole}
use Rattle.wavemem.proofs.equals_n_state_from_ascii.Goals as goal

pub byte_from_ascii-requires : goal.byte_from_ascii-requires
byte_from_ascii-requires c = first_byte c.requires c.first_count-first.ensures c.bits_in_a_byte.ensures c.if-first-bits_in_a_byte.false

pub equals_whole-requires-2 : goal.equals_whole-requires-2
equals_whole-requires-2 c = behind_whole c.requires c.first_count-first.ensures c.bits_in_a_byte.ensures c.if-first-bits_in_a_byte.false
