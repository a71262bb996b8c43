-- `transform::refusals::is_coded_badly` meets its contract.
-- Assumes nothing.
use lib.ListN.{get_or}
use mathlib.Core.Path.{◌∙◌, ◌≡◌, ap, sym}
use Rattle.fst.proofs.Records.{standing}
use Rattle.steps.specs.Refusals.{its_inputs}
use Rattle.steps.specs.declared.Input.{Input}
use Rattle.steps.proofs.InputTests.{no_input}
use Rattle.transform.specs.Refusals.{ReadableInput}
use Rattle.transform.proofs.InputCodes.{picking, picks_said, source_input, source_within}
use Rattle.transform.proofs.PieceTests.{code_by_entries}
use Rattle.transform.proofs.refusals.is_coded_badly.Goals.{After-used}
use Rattle.transform.proofs.refusals.is_coded_badly.Goals as goal

-- the piece's input
module _ (u : After-used) where
  abbrev x : Input
  x = get_or u.used.result.now u.args.extract.signal no_input

  told : get_or (its_inputs u.args.sources.now) u.args.extract.signal no_input ≡ x
  told = ap (λ l. get_or l u.args.extract.signal no_input) (sym u.used.ensures.value)

  readable : ReadableInput u.args.sources.now x
  readable = rw told at (source_input u.requires)

pub used_bytes-requires : goal.used_bytes-requires
used_bytes-requires c = (standing (readable (goal.at.used_bytes-requires c).After-used).stands).room.bytes

pub any_bad_pick-requires : goal.any_bad_pick-requires
any_bad_pick-requires c =
    let u = (goal.at.any_bad_pick-requires c).After-used in
    picking (readable u) c.used_bytes.ensures c.args.extract (rw (told u) at (source_within c.requires))

pub returns : goal.returns
returns c =
    let u = (goal.at.returns c).After-used in
    let s = c.args.sources.now in
    picks_said (readable u) c.used_bytes.ensures c.args.extract c.any_bad_pick.ensures
    ∙ rw (← told u) (sym (code_by_entries s.bytes.now s.indices.now (its_inputs s) c.args.extract c.requires.named no_input))
