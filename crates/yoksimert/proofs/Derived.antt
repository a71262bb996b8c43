-- The exported operations on derivations, from what the operations leave.
-- Assumes nothing.
use mathlib.Core.Path.{◌≡◌, refl, ap}
use mathlib.Core.Bool.{true}
use mathlib.Core.List.{List}
use Prim.Native.Nat.{ℕ}
use Rattle.fst.specs.declared.Description.{Description}
use Rattle.fst.specs.Refusal.{Reply}
use Rattle.fst.specs.Record.{is_bad, width_stands}
use Rattle.derivation.specs.declared.DerivedBitVecSignal.{DerivedBitVecSignal}
use Rattle.steps.specs.declared.Inputs.{Inputs}
use Rattle.steps.specs.Inputs.{is_bad_input}
use Rattle.transform.specs.Derive.{Derived, derive}
use Rattle.std.specs.Prelude.{Err}
use Rattle.fst.specs.declared.Refusal.{Refusal}
use Rattle.yoksimert.specs.declared.FlatMade.{FlatMade}
use Rattle.yoksimert.specs.declared.FlatDerivation.{FlatDerivation}
use Rattle.yoksimert.specs.declared.FlatInput.{FlatInput}
use Rattle.yoksimert.specs.declared.FlatInputs.{FlatInputs}
use Rattle.yoksimert.specs.Flat.{decoded, flat_made}
use Rattle.yoksimert.specs.Derivations.{derivation_of, input_of, inputs_by, made_by, flat_derived, flat_derive}

-- an input that is no description is refused with 2
pub unknown_is_bad : (f : FlatInput) (bytes indices : List ℕ) → {r : Refusal} → decoded f.description ≡ Err r → is_bad_input bytes indices (input_of f) ≡ true
unfolding is_bad width_stands
unknown_is_bad f bytes indices h = rw h refl

module _ (f : FlatDerivation) (names pieces : List ℕ) (inputs : FlatInputs) (bytes indices out_bytes out_indices : List ℕ) where
  pub derive_by : {d : DerivedBitVecSignal} {is : Inputs} → d ≡ derivation_of f names pieces → is ≡ inputs_by inputs
      → {r : FlatMade} {m : Reply Description} {b i : List ℕ} → r ≡ flat_made m
      → ◌≡◌ {A = Derived} (record { answer = m; bytes = b; indices = i }) (derive d is bytes indices out_bytes out_indices)
      → made_by r b i ≡ flat_derive f names pieces inputs bytes indices out_bytes out_indices
  unfolding flat_derive
  derive_by p q s t = rw (s, ← p, ← q) (ap flat_derived t)
