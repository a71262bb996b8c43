-- `transform::refusals::is_coded` meets its contract.
-- Assumes nothing.
use mathlib.Core.Bool.{Bool, false, not, true, true≢false}
use mathlib.Core.Path.{◌∙◌, ◌≡◌, refl, sym}
use native.Mathlib.Omega.{arith}
use Rattle.fst.specs.Record.{kept_in}
use Rattle.steps.specs.Refusals.{its_record}
use Rattle.transform.proofs.InputCodes.{picking, picks_said, whole_coded, whole_of}
use Rattle.transform.proofs.refusals.is_coded.Goals as goal

pub any_bad_pick-requires : goal.any_bad_pick-requires
any_bad_pick-requires c = picking c.requires c.used_bytes.ensures (whole_of c.width-width.result) (omega (arith, c.width-width.ensures))

clean : (b : Bool) → not b ≡ true → b ≡ false
clean true h = absurd (true≢false (sym h))
clean false h = refl

pub returns : goal.returns
unfolding kept_in
returns c h =
    let w = c.width-width.result in
    whole_coded (its_record c.args.sources.now c.args.input.now) w c.width-width.ensures
    (sym (picks_said c.requires c.used_bytes.ensures (whole_of w) c.any_bad_pick.ensures) ∙ clean c.any_bad_pick.result h)
