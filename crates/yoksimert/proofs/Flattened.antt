-- The exported operations, from what the operations on descriptions leave.
-- Assumes nothing.
use mathlib.Core.Path.{◌≡◌, refl, ap, ◌∙◌}
use mathlib.Core.List.{List}
use Prim.Native.Nat.{ℕ, suc}
use Rattle.fst.specs.declared.Description.{Description}
use Rattle.fst.specs.declared.Added.{Added}
use Rattle.fst.specs.declared.Refusal.{Refusal}
use Rattle.fst.specs.Refusal.{refusal_number, number_of}
use Rattle.fst.specs.Record.{Lent, Recorder}
use Rattle.fst.specs.Change.{Change, add_change, left_by}
use Rattle.runs.proofs.Histories.{refused_unchanged}
use Rattle.yoksimert.specs.declared.FlatDescription.{FlatDescription}
use Rattle.std.specs.Prelude.{Result, Ok, Err}
use Rattle.yoksimert.specs.Flat.{decoded, encoded}
use Rattle.yoksimert.specs.Exports.{FlatRecorder, flat_left, add_to, flat_add, left_by_flat}
use Rattle.yoksimert.proofs.Numbers.{forth}

-- ---- Add a change

abbrev flatten : Recorder Description → FlatRecorder
flatten r = record { description = encoded r.description; bytes = r.bytes; indices = r.indices }

module _ (f : FlatDescription) (l : Lent) (i : ℕ) (c : Change) where
  pub add_unknown : {r : Refusal} → decoded f ≡ Err r → left_by_flat (refusal_number r) f l.bytes l.indices ≡ flat_add f l i c
  unfolding flat_add
  add_unknown h = rw h

  pub add_known : {d : Description} → decoded f ≡ Ok d → (a : Added) {bytes indices : List ℕ} → left_by a bytes indices ≡ add_change d l i c
      → left_by_flat (number_of a.verdict) (encoded a.next) bytes indices ≡ flat_add f l i c
  unfolding flat_add
  add_known h a e = rw h (ap flat_left e)

-- on a refusal the numbers and the slices come back as they were
pub add_refused : (f : FlatDescription) (l : Lent) (i : ℕ) (c : Change) (n : ℕ) → (flat_add f l i c).refused ≡ suc n
    → (flat_add f l i c).left ≡ record { description = f; bytes = l.bytes; indices = l.indices }
unfolding flat_add
add_refused f l i c n h = go (decoded f) refl h
  where
    go : (x : Result Description Refusal) → decoded f ≡ x → (add_to x f l i c).refused ≡ suc n
        → (add_to x f l i c).left ≡ record { description = f; bytes = l.bytes; indices = l.indices }
    go (Ok d) q h = ap flatten (refused_unchanged d l i c n h) ∙ ap (λ (g : FlatDescription). record { description = g; bytes = l.bytes; indices = l.indices }) (forth f d q)
    go (Err r) q h = refl
