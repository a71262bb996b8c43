-- `steps::refusals::any_bad_mark` meets its contract.
-- Assumes nothing.
use Prim.Native.Nat.{ℕ}
use borrow.Author.Tests.{tests}
use mathlib.Core.Bool.{Bool}
use mathlib.Core.Path.{◌∙◌, refl}
use native.Mathlib.Omega.{arith}
use Rattle.std.proofs.Common.{rules}
use Rattle.std.proofs.lemmas.Iterator.{YieldsList-from_range}
use Rattle.std.proofs.lemmas.Iterator.Search.{any_from_yields_List}
use Rattle.signal.specs.Decode.{entry_at, has_bad_mark}
use Rattle.steps.specs.Inputs.{entry_is_bad}
use Rattle.steps.specs.Refusals.{kept_with}
use Rattle.steps.proofs.Anys.{any_entry}
use Rattle.steps.proofs.refusals.any_bad_mark.Goals as goal

pub returns : goal.returns
returns c indices l =
    let d = c.args.description in
    let test : ℕ → Bool = λ k. has_bad_mark d.encoding (entry_at d.encoding 0 c.args.used.now k) in
    any_from_yields_List test _ _ _ c.any.ensures.ran (YieldsList-from_range 0 d.count d.count refl (omega arith)) (λ x b q k. search (rules, tests))
    ∙ any_entry (kept_with d c.args.used.now indices) entry_is_bad test (λ k i. refl) d.count l
