-- `transform::Task::any_bad_code` meets its contract.
-- Assumes nothing.
use Prim.Native.Nat.{ℕ}
use borrow.Author.Tests.{tests}
use lib.ListN.{length}
use mathlib.Core.Bool.{false}
use mathlib.Core.List.{List, map}
use mathlib.Core.Path.{◌∙◌, ◌≡◌, ap, sym}
use native.Mathlib.Omega.{arith}
use Rattle.std.proofs.Common.{rules}
use Rattle.std.proofs.lemmas.Iterator.{YieldsList-from_slice, cases_from_all}
use Rattle.std.proofs.lemmas.Iterator.Adapters.{serves_from_places}
use Rattle.std.specs.List.{AllWithin}
use Rattle.value.specs.Slice.{any}
use Rattle.runs.proofs.All.{all_by}
use Rattle.derivation.specs.Piece.{extract_of}
use Rattle.derivation.proofs.Pieces.{sound}
use Rattle.steps.specs.Refusals.{its_inputs, its_record, its_records}
use Rattle.steps.specs.declared.Input.{Input}
use Rattle.steps.proofs.Anys.{any_image, map_here}
use Rattle.steps.proofs.InputTests.{no_input}
use Rattle.transform.specs.Derive.{code_is_bad}
use Rattle.transform.specs.Refusals.{SourcePick, is_uncoded}
use Rattle.transform.proofs.InputCodes.{f, pick_at, pieces_coded, readable}
use Rattle.transform.proofs.Task.any_bad_code.Goals as goal

pub overflow_mul-widest : goal.overflow_mul-widest
overflow_mul-widest c =
    let d = c.args.self.now.derivation.now in
    omega (arith, (sound d (f d c.args.self.now.sources.now c.requires).sound).few)

pub all-requires-clause-callable : goal.all-requires-clause-callable
all-requires-clause-callable c =
    let s = c.args.self.now.sources.now in
    serves_from_places (YieldsList-from_slice (its_inputs s) cc) (λ x q r. search rules)
    (λ x k h e. let n = readable c.args.self.now.derivation.now s c.requires x.now k h e in search rules)

pub returns-then-all : goal.returns-then-all
returns-then-all c =
    let s = c.args.self.now.sources.now in
    let Yes : Input → Type 0 = λ i. is_uncoded (its_record s i) ≡ false in
    let w : AllWithin Yes (its_inputs s) 0 (length (its_inputs s)) = rw c.if-all.true at (cases_from_all _ _ c.all.result Yes (λ i. Unit {0}) c.all.ensures.ran (YieldsList-from_slice (its_inputs s) cc) (λ x q k. search (rules, tests)) (λ x q k. tt)) in
    sym (pieces_coded c.args.self.now.derivation.now s c.requires (all_by Yes (its_inputs s) no_input (λ i h. w i no_input (omega arith) h)))

pub any-requires-clause-callable : goal.any-requires-clause-callable
any-requires-clause-callable c =
    let s = c.args.self.now.sources.now in
    serves_from_places (YieldsList-from_slice c.pieces-pieces.result.now cc) (λ x q r. search rules)
    (λ x k h e. let n = map_here (λ p. SourcePick p s) extract_of c.pieces-pieces.result.now (rw c.pieces-pieces.ensures.value (pick_at c.args.self.now.derivation.now s c.requires)) x.now k h e in search rules)

pub returns : goal.returns
returns c =
    let ks = its_records c.args.self.now.sources.now in
    any_image (code_is_bad ks) extract_of c.pieces-pieces.result.now _ _ _ _ c.any.ensures.ran (cc) (λ x b q k. search (rules, tests))
    ∙ ap (λ (l : List ℕ). any (code_is_bad ks) (map extract_of l)) c.pieces-pieces.ensures.value
