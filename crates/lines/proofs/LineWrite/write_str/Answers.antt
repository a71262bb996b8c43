-- `lines::Line::write_str` meets its contract, by what `strip_prefix` says where equal numbers alone are equal.
-- Assumes nothing.
use Rattle.std.specs.Prelude.{None, Some}
use Rattle.std.proofs.lemmas.Bool.Decides.{Decides-eqb}
use Rattle.std.proofs.lemmas.Slice.Eq.{strip_prefix_is}
use Rattle.lines.proofs.LineWrite.write_str.Goals as goal

pub returns-in_default-clause-refused : goal.returns-in_default-clause-refused
returns-in_default-clause-refused c = strip_prefix_is Decides-eqb _ _ None (rw (← c.as_bytes.ensures.value) c.in_default.ensures.cases)

pub returns-clause-ok : goal.returns-clause-ok
returns-clause-ok c = λ _. strip_prefix_is Decides-eqb _ _ (Some c.in-Some.rest) (rw (← c.as_bytes.ensures.value) c.in-Some.ensures.cases)
