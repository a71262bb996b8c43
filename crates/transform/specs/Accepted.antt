-- Document 01, "Derived list" and demand 3: an accepted Derive, its list and the record that it leaves.
-- Assumes nothing.
use Rattle.std.specs.Prelude.{ℕ, List, ◌≡◌}
use Rattle.fst.specs.Record.{Held, Kept, held_in}
use Rattle.fst.specs.Refusal.{given}
use Rattle.fst.specs.declared.Description.{Description}
use Rattle.runs.specs.Runs.{Step}
use Rattle.derivation.specs.Piece.{Sized}
use Rattle.derivation.specs.declared.DerivedBitVecSignal.{DerivedBitVecSignal}
use Rattle.steps.specs.Inputs.{kept_all}
use Rattle.steps.specs.declared.Inputs.{Inputs}
use Rattle.transform.specs.Derive.{Derived, derive, derived_from, lent_out}

-- what was given, and that a description was answered. An array's length is its type's.
pub record Accepted : Type 0 where
  pub derivation : DerivedBitVecSignal
  pub inputs : Inputs
  pub bytes : List ℕ
  pub indices : List ℕ
  pub out_bytes : List ℕ
  pub out_indices : List ℕ
  pub made : Description
  pub sized : Sized derivation
  pub is : (derive derivation inputs bytes indices out_bytes out_indices).answer ≡ given made

-- the input records
abbrev pub ks_of : Accepted → List Kept
ks_of a = kept_all a.bytes a.indices a.inputs

abbrev pub list_of : Accepted → List Step
list_of a = derived_from a.derivation a.inputs a.bytes a.indices

abbrev pub left_of : Accepted → Derived
left_of a = derive a.derivation a.inputs a.bytes a.indices a.out_bytes a.out_indices

-- the record that it left at the front of the output slices
abbrev pub record_of : Accepted → Held Description
record_of a = held_in a.made (lent_out (left_of a).bytes (left_of a).indices)
