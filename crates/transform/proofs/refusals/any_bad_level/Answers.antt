-- `transform::refusals::any_bad_level` meets its contract.
-- Assumes nothing.
use Prim.Native.Nat.{◌+◌, ◌-◌, ℕ}
use borrow.Author.Tests.{tests}
use lib.ListN.{get_or}
use mathlib.Core.Bool.{Bool}
use mathlib.Core.Path.{◌∙◌, refl}
use native.Mathlib.Omega.{arith}
use Rattle.std.proofs.Common.{rules}
use Rattle.std.proofs.lemmas.Iterator.{YieldsList-from_range}
use Rattle.std.proofs.lemmas.Iterator.Search.{any_from_yields_List}
use Rattle.value.specs.Level.{is_no_code}
use Rattle.signal.specs.Decode.{codes_at}
use Rattle.derivation.specs.Piece.{end_of}
use Rattle.transform.proofs.PieceTests.{any_picked}
use Rattle.transform.proofs.refusals.any_bad_level.Goals as goal

pub returns : goal.returns
returns c =
    let a = c.args in
    let e = a.extract in
    let p = a.levels.now in
    let test : ℕ → Bool = λ i. is_no_code (get_or (codes_at p.width p.states p.bytes.now) (p.width - end_of e + i) 0) in
    any_from_yields_List test _ _ _ c.any.ensures.ran (YieldsList-from_range 0 c.from-count.result e.width refl (omega (arith, c.from-count.ensures))) (λ x b q k. search (rules, tests))
    ∙ any_picked e p.width p.states p.bytes.now c.requires is_no_code
