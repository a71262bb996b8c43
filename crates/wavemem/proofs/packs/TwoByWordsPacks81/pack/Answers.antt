-- `wavemem::packs::TwoByWordsPacks81::pack` meets its contract: the bytes of its word are the characters.
-- Assumes nothing.
use mathlib.Core.Path.{◌≡◌}
use native.Mathlib.Omega.{arith}
use Rattle.value.specs.declared.States.TheVariants.{Two}
use Rattle.value.specs.Digits.{number}
use Rattle.value.specs.Level.{fold_all, codes_of}
use Rattle.value.proofs.Digits.{below_all}
use Rattle.wavemem.proofs.Words.{word_bytes}
use Rattle.wavemem.proofs.Packing.{turn_small, turn_byte}
use Rattle.wavemem.proofs.packs.TwoByWordsPacks81.pack.Goals.{After-two_of_word}
use Rattle.wavemem.proofs.packs.TwoByWordsPacks81.pack.Goals as goal

told : (w : After-two_of_word) → w.two_of_word.result ≡ number 2 (codes_of (fold_all w.args.chars.now))
told w = rw (word_bytes w.args.chars.now w.word.result (omega arith) (below_all 256 w.args.chars.now w.fits-chars) w.word.ensures) at w.two_of_word.ensures

pub overflow_cast-result : goal.overflow_cast-result
overflow_cast-result c = omega (arith, turn_small Two c.args.chars.now c.requires (omega arith) (told (goal.at.overflow_cast-result c).After-two_of_word))

pub returns : goal.returns
returns c = turn_byte Two c.args.chars.now c.requires (omega arith) (told (goal.at.returns c).After-two_of_word) (omega arith)
