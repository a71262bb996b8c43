-- `wavemem::packs::TablePacks41::pack` meets its contract.
-- Assumes nothing.
use native.Mathlib.Omega.{arith}
use Rattle.value.specs.declared.States.TheVariants.{Four}
use Rattle.wavemem.proofs.Packing.{turn_small, turn_byte}
use Rattle.wavemem.proofs.packs.TablePacks41.pack.Goals as goal

pub overflow_cast-result : goal.overflow_cast-result
overflow_cast-result c = omega (arith, turn_small Four c.args.chars.now c.requires (omega arith) c.number.ensures)

pub returns : goal.returns
returns c = turn_byte Four c.args.chars.now c.requires (omega arith) c.number.ensures (omega arith)
