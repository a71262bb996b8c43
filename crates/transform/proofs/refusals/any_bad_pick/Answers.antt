-- `transform::refusals::any_bad_pick` meets its contract.
-- Assumes nothing.
use Prim.Native.Nat.{ℕ}
use borrow.Author.Tests.{tests}
use mathlib.Core.Bool.{Bool}
use mathlib.Core.Path.{◌∙◌, refl, sym}
use native.Mathlib.Omega.{arith}
use Rattle.std.proofs.Common.{rules}
use Rattle.std.proofs.lemmas.Iterator.{YieldsList-from_range}
use Rattle.std.proofs.lemmas.Iterator.Search.{any_from_yields_List}
use Rattle.value.specs.Level.{has_no_code}
use Rattle.signal.specs.Decode.{entry_at, levels_in}
use Rattle.signal.proofs.Entries.{entries_none}
use Rattle.steps.specs.Refusals.{kept_with}
use Rattle.steps.proofs.Anys.{any_entry}
use Rattle.transform.specs.Derive.{pick_is_bad, picked_of}
use Rattle.transform.proofs.PieceTests.{none_below}
use Rattle.transform.proofs.refusals.any_bad_pick.Goals as goal

pub returns-then-bits-lt4 : goal.returns-then-bits-lt4
returns-then-bits-lt4 c indices l =
    let a = c.args in
    sym (entries_none (kept_with a.description a.used.now indices) (pick_is_bad a.extract)
    (λ i h. none_below a.extract a.description a.used.now c.requires (omega (arith, rw c.largest.ensures at c.bits.ensures)) i (rw l at h)))

pub returns : goal.returns
returns c indices l =
    let a = c.args in
    let d = a.description in
    let test : ℕ → Bool = λ k. has_no_code (picked_of a.extract (levels_in d.encoding (entry_at d.encoding 0 a.used.now k))) in
    any_from_yields_List test _ _ _ c.any.ensures.ran (YieldsList-from_range 0 d.count d.count refl (omega arith)) (λ x b q k. search (rules, tests))
    ∙ any_entry (kept_with d a.used.now indices) (pick_is_bad a.extract) test (λ k i. refl) d.count l
