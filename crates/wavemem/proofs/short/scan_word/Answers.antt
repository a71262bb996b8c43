-- `wavemem::short::scan_word` meets its contract.
-- Assumes nothing.
use native.Mathlib.Omega.{arith}
use Rattle.value.specs.declared.States.TheVariants.{Two, Four, Nine}
use Rattle.wavemem.proofs.Marks.{held_codes, marked_codes}
use Rattle.wavemem.proofs.short.scan_word.Goals as goal

pub two_of_word-requires : goal.two_of_word-requires
two_of_word-requires c = held_codes Two c.args.w c.beside_two.result (omega arith) c.beside_two.ensures c.if-beside_two-eq0.true

pub four_of_word-requires : goal.four_of_word-requires
four_of_word-requires c = marked_codes Four c.args.w c.beside_four.result (omega arith) c.beside_four.ensures c.if-beside_four-eq0.true

pub nine_of_word-requires : goal.nine_of_word-requires
nine_of_word-requires c = marked_codes Nine c.args.w c.beside_nine.result (omega arith) c.beside_nine.ensures c.if-beside_nine-eq0.true
