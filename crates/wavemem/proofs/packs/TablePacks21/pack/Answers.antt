-- `wavemem::packs::TablePacks21::pack` meets its contract.
-- Assumes nothing.
use native.Mathlib.Omega.{arith}
use Rattle.value.specs.declared.States.TheVariants.{Nine}
use Rattle.wavemem.proofs.Packing.{turn_small, turn_byte}
use Rattle.wavemem.proofs.packs.TablePacks21.pack.Goals as goal

pub overflow_cast-result : goal.overflow_cast-result
overflow_cast-result c = omega (arith, turn_small Nine c.args.chars.now c.requires (omega arith) c.number.ensures)

pub returns : goal.returns
returns c = turn_byte Nine c.args.chars.now c.requires (omega arith) c.number.ensures (omega arith)
