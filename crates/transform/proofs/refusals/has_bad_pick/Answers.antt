-- `transform::refusals::has_bad_pick` meets its contract.
-- Assumes nothing.
use mathlib.Core.Path.{◌∙◌, ◌≡◌, ap, sym}
use Rattle.signal.proofs.Reading.{inside, no_text}
use Rattle.signal.specs.Decode.{entry_at}
use Rattle.signal.specs.Packed.{is_packed}
use Rattle.signal.specs.Parts.{unpacked}
use native.Mathlib.Omega.{arith}
use Rattle.transform.specs.Refusals.{EntryPick}
use Rattle.transform.proofs.PieceTests.{levels_as, no_levels, pick_few, pick_levels, picks}
use Rattle.transform.proofs.refusals.has_bad_pick.Goals.{After-entry_at, After-marked_levels-levels}
use Rattle.transform.proofs.refusals.has_bad_pick.Goals as goal

-- the entry
module _ (b : After-entry_at) where
  pick : EntryPick b.args.extract b.in-BitVector.width b.in-BitVector.max_states (entry_at b.args.description.encoding 0 b.args.used.now b.args.k)
  pick = picks b.args.extract b.args.description b.args.used.now b.requires.0 _ _ b.in-BitVector.is b.args.k b.requires.1

pub returns-in_default : goal.returns-in_default
returns-in_default c = sym (no_levels c.args.extract c.args.description.encoding _ (no_text c.args.description.encoding c.in_default.not-BitVector))

pub entry_at-requires : goal.entry_at-requires
entry_at-requires c = inside (record { sound = c.requires.0.stands; below = c.requires.1 })

pub invariant_of-entry : goal.invariant_of-entry
invariant_of-entry c = record { whole = rw c.entry_at.ensures (pick (goal.at.invariant_of-entry c).After-entry_at).whole }

-- its levels
module _ (m : After-marked_levels-levels) where
  told : is_packed m.marked_levels-levels.result ≡ unpacked m.in-BitVector.width m.in-BitVector.max_states (entry_at m.args.description.encoding 0 m.args.used.now m.args.k)
  told = m.marked_levels-levels.ensures ∙ ap (unpacked m.in-BitVector.width m.in-BitVector.max_states) m.entry_at.ensures

pub returns-then-bits-lt4 : goal.returns-then-bits-lt4
returns-then-bits-lt4 c =
    let at = goal.at.returns-then-bits-lt4 c in
    sym (levels_as c.args.extract _ c.in-BitVector.is (pick_few (pick at.After-entry_at) (told at.After-marked_levels-levels) (omega (arith, c.bits.ensures, c.if-bits-lt4.true))))

pub returns : goal.returns
returns c =
    let at = goal.at.returns c in
    sym (levels_as c.args.extract _ c.in-BitVector.is (sym (c.has_bad_level.ensures ∙ pick_levels (pick at.After-entry_at) (told at.After-marked_levels-levels))))
