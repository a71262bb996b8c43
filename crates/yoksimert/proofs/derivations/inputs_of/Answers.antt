-- `yoksimert::derivations::inputs_of` meets its contract.
-- Assumes nothing.
use mathlib.Core.Path.{ap}
use mathlib.Core.List.{List}
use native.Mathlib.Omega.{arith}
use Rattle.value.proofs.Lists.{mapped}
use Rattle.steps.specs.declared.Input.{Input}
use Rattle.yoksimert.specs.Derivations.{input_of}
use Rattle.yoksimert.proofs.derivations.inputs_of.Goals as goal

pub returns : goal.returns
returns c =
    let a = c.args.flat in
    ap (λ (slots : List Input). record { count = a.count; slots = slots })
    (mapped input_of a.inputs c.map.result c.map.ensures.items (omega arith) (λ x y q s k. k.met))
