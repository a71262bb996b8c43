-- `transform::refusals::any_beyond` meets its contract.
-- Assumes nothing.
use Prim.Native.Nat.{◌<◌}
use borrow.Author.Tests.{tests}
use lib.ListN.{length}
use mathlib.Core.List.{map}
use Rattle.std.proofs.Common.{rules}
use Rattle.std.proofs.lemmas.Iterator.{YieldsList-from_slice}
use Rattle.std.proofs.lemmas.Iterator.Adapters.{serves_from_places}
use Rattle.derivation.specs.Piece.{extract_of}
use Rattle.steps.specs.Inputs.{input_kept}
use Rattle.steps.proofs.Anys.{any_image, map_here}
use Rattle.transform.specs.Derive.{is_beyond}
use Rattle.transform.proofs.refusals.any_beyond.Goals as goal

pub any-requires-clause-callable : goal.any-requires-clause-callable
any-requires-clause-callable c =
    serves_from_places (YieldsList-from_slice c.args.pieces.now cc) (λ x q r. search rules)
    (λ x k h e. let n = map_here (λ p. p.signal < length c.args.inputs.now) extract_of c.args.pieces.now c.requires x.now k h e in search rules)

pub returns : goal.returns
returns c bytes indices =
    let ks = map (input_kept bytes indices) c.args.inputs.now in
    any_image (is_beyond ks) extract_of c.args.pieces.now _ _ _ _ c.any.ensures.ran (cc) (λ x b q k. search (rules, tests))
