-- Derive by its room: where the derived list has none nothing is stored, and else the record is the list laid out.
-- Assumes nothing.
use Prim.Native.Nat.{◌*◌, ◌+◌, ◌≤◌, ℕ}
use lib.ListN.{length, length-map}
use mathlib.Core.Bool.{Bool, false, not, true}
use mathlib.Core.List.{List, [], ◌∷◌, map}
use mathlib.Core.Path.{◌∙◌, ◌≡◌, ap, refl, sym}
use native.Mathlib.Nat.{mul-le-mul_right, suc-mul, zero-add}
use native.Mathlib.Omega.{arith}
use Rattle.value.specs.Slice.{overlay}
use Rattle.value.specs.declared.States.{States}
use Rattle.layout.specs.Entry.{entry_size}
use Rattle.fst.specs.Record.{Kept, fits, fits_bytes, described}
use Rattle.fst.specs.Refusal.{Reply, ◌⇐◌, given, refused, tried}
use Rattle.fst.specs.declared.Encoding.TheVariants.{BitVector}
use Rattle.fst.proofs.Records.{fits_room}
use Rattle.runs.specs.Runs.{Step, entries_of, index_of, laid_out}
use Rattle.derivation.specs.declared.DerivedBitVecSignal.{DerivedBitVecSignal}
use Rattle.steps.specs.Inputs.{kept_all}
use Rattle.steps.specs.Room.{room_for}
use Rattle.steps.specs.Storing.{Roomy, Wrote}
use Rattle.steps.specs.declared.Inputs.{Inputs}
use Rattle.transform.specs.Derive.{Derived, derive, derived_by, derived_from, derived_kept, largest_among, lent_out}
use Rattle.transform.specs.Picking.{Walkable}
use Rattle.transform.specs.Refusals.{first_tests}
use Rattle.transform.proofs.RefusalsInOrder.{derive_refused, derive_room}

-- a number before 7
pub refused_first : (d : DerivedBitVecSignal) (inputs : Inputs) (bytes indices out_bytes out_indices : List ℕ) (n : ℕ) → ◌≡◌ {A = Reply Unit} (tried (first_tests d inputs bytes indices) (given tt)) (refused n)
    → ◌≡◌ {A = Derived} (record { answer = refused n; bytes = out_bytes; indices = out_indices }) (derive d inputs bytes indices out_bytes out_indices)
unfolding derive
refused_first d inputs bytes indices out_bytes out_indices n h =
    sym (ap (derived_by (lent_out out_bytes out_indices)) (derive_refused d inputs bytes indices (lent_out out_bytes out_indices) (given (derived_kept d (kept_all bytes indices inputs))) n h))

module _ {d : DerivedBitVecSignal} {inputs : Inputs} {bytes indices : List ℕ} {M : States} (W : Walkable d inputs bytes indices M) (out_bytes out_indices : List ℕ) where
  abbrev ks : List Kept
  ks = kept_all bytes indices inputs

  abbrev steps : List Step
  steps = derived_from d inputs bytes indices

  abbrev fit : Bool
  fit = fits (BitVector d.width (largest_among ks)) (length (map index_of steps)) (lent_out out_bytes out_indices)

  by_room : derive d inputs bytes indices out_bytes out_indices ≡ derived_by (lent_out out_bytes out_indices) (tried (7 ⇐ not fit ∷ []) (given (derived_kept d ks)))
  unfolding derive laid_out
  by_room = ap (derived_by (lent_out out_bytes out_indices)) (derive_room d inputs bytes indices (lent_out out_bytes out_indices) (given (derived_kept d ks)) W.derivable)

  module _ {b : Bool} (e : b ≡ room_for (length steps) (entry_size d.width M) (length out_bytes) (length out_indices)) where
    fit_is : fit ≡ b
    unfolding fits fits_bytes
    fit_is = rw (length-map steps index_of, ← W.largest, zero-add, zero-add) (sym e)

    pub no_room : b ≡ false → ◌≡◌ {A = Derived} (record { answer = refused 7; bytes = out_bytes; indices = out_indices }) (derive d inputs bytes indices out_bytes out_indices)
    unfolding tried
    no_room h = sym (by_room ∙ rw (fit_is ∙ h))

    pub roomy : b ≡ true → Roomy (length steps) (entry_size d.width M) (entry_size d.width M) out_bytes × (length steps ≤ length out_indices)
    roomy h =
        let f = fits_room (fit_is ∙ h) in
        let z = entry_size d.width (largest_among ks) in
        let m = length-map steps index_of in
        let b : 0 + length steps * z ≤ length out_bytes = rw m at f.bytes in
        rw W.largest (λ n l. omega (arith, mul-le-mul_right z l, suc-mul n z), omega (arith, f.indices))

    pub all_stored : b ≡ true → {count : ℕ} {newBytes newIndices : List ℕ} → Wrote d.width M (entry_size d.width M) steps out_bytes out_indices count newBytes newIndices
        → ◌≡◌ {A = Derived} (record { answer = given (described (BitVector d.width M) count); bytes = newBytes; indices = newIndices }) (derive d inputs bytes indices out_bytes out_indices)
    unfolding tried laid_out
    all_stored h w =
        let k = W.largest in
        let c = w.counted ∙ sym (length-map steps index_of) in
        let z = w.stored refl (roomy h).1 in
        sym
        (by_room
        ∙ rw (fit_is ∙ h)
        (λ t.
        record {
          answer = given (described (BitVector d.width (sym k t)) (sym c t));
          bytes = sym (z.entries ∙ ap (λ (S : States). overlay out_bytes 0 (entries_of d.width S steps)) k) t;
          indices = sym z.times t;
        }))
