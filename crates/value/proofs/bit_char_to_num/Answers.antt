-- `value::bit_char_to_num` meets its contract: each arm has the code of its byte, and the last one is left what is not on the page.
-- Assumes nothing.
use native.Mathlib.Omega.{arith}
use Rattle.value.specs.Level.{place_in, code_of, fold}
use Rattle.value.specs.Answer.{char_code}
use Rattle.value.proofs.Page.{off_page}
use Rattle.value.proofs.bit_char_to_num.Goals as goal

pub returns-in_default : goal.returns-in_default
unfolding char_code code_of place_in fold
returns-in_default c = off_page c.args.value (omega arith) c.in_default.in_default-own.rest
