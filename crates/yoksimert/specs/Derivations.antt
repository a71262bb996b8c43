-- Derivations as numbers and two arrays, and what the exported operations on them do with any numbers.
-- Assumes nothing.
use Rattle.std.specs.Prelude.{ℕ, List, map}
use Rattle.fst.specs.Refusal.{Outcome}
use Rattle.derivation.specs.declared.DerivedBitVecSignal.{DerivedBitVecSignal}
use Rattle.steps.specs.declared.Input.{Input}
use Rattle.steps.specs.declared.Inputs.{Inputs}
use Rattle.transform.specs.Derive.{Derived, derive}
use Rattle.yoksimert.specs.declared.FlatMade.{FlatMade}
use Rattle.yoksimert.specs.declared.FlatDerivation.{FlatDerivation}
use Rattle.yoksimert.specs.declared.FlatJoined.{FlatJoined}
use Rattle.yoksimert.specs.declared.FlatInput.{FlatInput}
use Rattle.yoksimert.specs.declared.FlatInputs.{FlatInputs}
use Rattle.yoksimert.specs.Flat.{decoded, described_by, flat_made}

-- ---- Add a piece

-- the derivation of its numbers and arrays
abbrev pub derivation_of : FlatDerivation → List ℕ → List ℕ → DerivedBitVecSignal
derivation_of f names pieces =
    record {
      width = f.width;
      input_count = f.input_count;
      inputs = names;
      piece_count = f.piece_count;
      bits = pieces;
    }

-- what a call leaves, by its answer and the arrays as they are then
abbrev pub left_by_joined : FlatJoined → List ℕ → List ℕ → Outcome DerivedBitVecSignal
left_by_joined r names pieces = record { refused = r.number; left = derivation_of r.next names pieces }

-- ---- Derive

abbrev pub input_of : FlatInput → Input
input_of f =
    record { description = described_by (decoded f.description); byte_start = f.byte_start; index_start = f.index_start }

abbrev pub inputs_by : FlatInputs → Inputs
inputs_by f = record { count = f.count; slots = map input_of f.inputs }

-- what Derive leaves: the answer, and the output slices
pub record FlatDerived : Type 0 where
  pub answer : FlatMade
  pub bytes : List ℕ
  pub indices : List ℕ

-- by the answer and the slices as they are then
abbrev pub made_by : FlatMade → List ℕ → List ℕ → FlatDerived
made_by r bytes indices = record { answer = r; bytes = bytes; indices = indices }

abbrev pub flat_derived : Derived → FlatDerived
flat_derived d = made_by (flat_made d.answer) d.bytes d.indices

-- of a derivation and its arrays, inputs with the slices lent, and the output slices
unfoldable pub flat_derive : FlatDerivation → List ℕ → List ℕ → FlatInputs → List ℕ → List ℕ → List ℕ → List ℕ → FlatDerived
flat_derive f names pieces inputs bytes indices out_bytes out_indices =
    flat_derived (derive (derivation_of f names pieces) (inputs_by inputs) bytes indices out_bytes out_indices)
