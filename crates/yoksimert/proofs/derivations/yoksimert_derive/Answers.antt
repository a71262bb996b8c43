-- `yoksimert::derivations::yoksimert_derive` meets its contract.
-- Assumes nothing.
use Rattle.yoksimert.proofs.Derived.{derive_by}
use Rattle.yoksimert.proofs.derivations.yoksimert_derive.Goals as goal

pub returns : goal.returns
returns c =
    let a = c.args in
    derive_by a.derivation a.names.now a.pieces.now a.inputs a.bytes.now a.indices.now a.out_bytes.now a.out_indices.now c.derivation_of-known.ensures c.inputs_of.ensures c.from.ensures c.derive.ensures
