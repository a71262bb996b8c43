-- An accepted call of Derive by numbers, for demand 3.
-- Assumes nothing.
use Rattle.std.specs.Prelude.{ℕ, List, ◌≡◌}
use Rattle.fst.specs.Record.{Kept, Held}
use Rattle.runs.specs.Runs.{Step}
use Rattle.derivation.specs.Piece.{Sized}
use Rattle.steps.specs.Inputs.{kept_all}
use Rattle.transform.specs.Derive.{derived_from, lent_out}
use Rattle.yoksimert.specs.declared.FlatDescription.{FlatDescription}
use Rattle.yoksimert.specs.declared.FlatDerivation.{FlatDerivation}
use Rattle.yoksimert.specs.declared.FlatInputs.{FlatInputs}
use Rattle.yoksimert.specs.Derivations.{derivation_of, inputs_by, FlatDerived, flat_derive}
use Rattle.yoksimert.specs.Recorder.{flat_kept_in}

-- what was given, and that the number is 0. An array's length is its type's.
pub record FlatAccepted : Type 0 where
  pub derivation : FlatDerivation
  pub names : List ℕ
  pub pieces : List ℕ
  pub inputs : FlatInputs
  pub bytes : List ℕ
  pub indices : List ℕ
  pub out_bytes : List ℕ
  pub out_indices : List ℕ
  pub sized : Sized (derivation_of derivation names pieces)
  pub is : (flat_derive derivation names pieces inputs bytes indices out_bytes out_indices).answer.number ≡ 0

-- the input records
abbrev pub flat_ks_of : FlatAccepted → List Kept
flat_ks_of a = kept_all a.bytes a.indices (inputs_by a.inputs)

abbrev pub flat_list_of : FlatAccepted → List Step
flat_list_of a = derived_from (derivation_of a.derivation a.names a.pieces) (inputs_by a.inputs) a.bytes a.indices

abbrev pub flat_left_of : FlatAccepted → FlatDerived
flat_left_of a =
    flat_derive a.derivation a.names a.pieces a.inputs a.bytes a.indices a.out_bytes a.out_indices

-- the record that it left at the front of the output slices
abbrev pub flat_record_of : FlatAccepted → Held FlatDescription
flat_record_of a = flat_kept_in (flat_left_of a).answer.description (lent_out (flat_left_of a).bytes (flat_left_of a).indices)
