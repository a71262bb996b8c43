-- An entry that is appended to others, unless it repeats the last.
-- Assumes nothing.
use Prim.Native.Nat.{◌*◌, ◌+◌, ◌<◌, ◌≤◌, suc, zero, ℕ}
use lib.ListN.{get_or, length, set, take}
use lib.Seq.{length-take-le, take-suc}
use mathlib.Core.Bool.{Bool, false, true}
use mathlib.Core.List.{List, [], ◌++◌, ◌∷◌}
use mathlib.Core.Path.{◌∙◌, ◌≡◌, ap, refl, sym}
use native.Mathlib.Numerals.{add-one}
use native.Mathlib.Omega.{arith}
use Rattle.value.specs.Slice.{overlay, same}
use Rattle.value.proofs.Slices.{overlay_store}
use Rattle.steps.specs.Storing.{Appended, last_at, repeats_last}

-- one more byte stored
pub stored_more : (out : List ℕ) (at : ℕ) (entry : List ℕ) (j v : ℕ) → j < length entry → at + length entry ≤ length out → v ≡ get_or entry j 0
    → set (overlay out at (take j entry)) (at + j) v ≡ overlay out at (take (j + 1) entry)
stored_more out at entry j v h r e =
    overlay_store out at (take j entry) (at + j) v (ap (λ (n : ℕ). at + n) (length-take-le j entry (omega arith))) (omega arith)
    ∙ ap (overlay out at) (ap (λ (x : ℕ). take j entry ++ (x ∷ [])) e ∙ sym (rw (add-one j) (take-suc entry j 0 h)))

pub none_before : (count : ℕ) (last entry : List ℕ) → count ≡ 0 → false ≡ repeats_last count last entry
unfolding repeats_last
none_before count last entry e = rw e

pub one_before : (count : ℕ) (last entry : List ℕ) → (count ≡ 0 → ⊥) → same last entry ≡ repeats_last count last entry
unfolding repeats_last
one_before zero last entry n = absurd (n refl)
one_before (suc k) last entry n = refl

module _ (entry : List ℕ) (stride count : ℕ) (bytes : List ℕ) where
  abbrev again : Bool
  again = repeats_last count (last_at (length entry) stride count bytes) entry

  pub append_none : again ≡ true → Appended entry stride count bytes count bytes
  append_none h = record { counted = rw h; stored = rw h }

  pub append_one : again ≡ false → (new : List ℕ) → new ≡ overlay bytes (count * stride) entry → Appended entry stride count bytes (count + 1) new
  append_one h new e = record { counted = rw h; stored = e ∙ rw h }
