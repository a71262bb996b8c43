-- There are not more steps than entries of all inputs, so that room for these is room for the steps.
-- Assumes nothing.
use Rattle.std.specs.Prelude.{Option, None, Some}
use Prim.Native.Nat.{◌+◌, ◌<◌, ◌^◌, ◌≤◌, suc, zero, ℕ}
use lib.ListN.{length, length-map}
use mathlib.Core.Bool.{Bool, true}
use mathlib.Core.List.{List, [], ◌∷◌, foldl, map}
use mathlib.Core.Path.{◌∙◌, ◌≡◌, refl, sym}
use native.Mathlib.Omega.{arith}
use Rattle.value.specs.Slice.{sum}
use Rattle.fst.specs.Record.{maximum}
use Rattle.runs.specs.All.{All}
use Rattle.runs.specs.Runs.{joined}
use Rattle.runs.proofs.All.{all_at}
use Rattle.steps.specs.Inputs.{input_kept, inputs_of, kept_all}
use Rattle.std.proofs.lemmas.List.Sums.{sum_by-cons, sum_by-le}
use Rattle.steps.specs.Room.{count_in, room_for, total_over}
use Rattle.steps.specs.Steps.{Moment, Track, count_of, kept_steps, moments_from, moments_of, moved, shown_in, smallest, unbegun}
use Rattle.steps.specs.declared.Input.{Input}
use Rattle.steps.specs.declared.Inputs.{Inputs}
use Rattle.steps.proofs.InputTests.{Stands}
use Rattle.steps.proofs.Rooms.{room_fewer}
use Rattle.steps.proofs.Tracks.{shown_count}
use Rattle.steps.proofs.Walk.{joined_length}

-- ---- how many steps there can be

fold_bound : {A : Type 0} (like : A → A → Bool) (l xs : List A) → length (foldl (joined like) l xs) ≤ length l + length xs
fold_bound like l [] = omega arith
fold_bound like l (x ∷ xs) = omega (arith, fold_bound like (joined like l x) xs, joined_length like l x)

moments_bound : (n : ℕ) (i : Option ℕ) (ts : List Track) → length (moments_from n i ts) ≤ n
unfolding moments_from
moments_bound zero i ts = omega arith
moments_bound (suc n) None ts = omega arith
moments_bound (suc n) (Some i) ts = let us = map (moved i) ts in omega (arith, moments_bound n (smallest us) us)

come_all : (bytes indices : List ℕ) (is : List Input) → All (Stands bytes indices) is → sum (map count_of (map unbegun (map shown_in (map (input_kept bytes indices) is)))) ≡ total_over is
unfolding sum
come_all bytes indices [] a = refl
come_all bytes indices (i ∷ is) a = rw (shown_count bytes indices i a.0, come_all bytes indices is a.1) (sym (sum_by-cons count_in i is))

module _ (inputs : Inputs) (bytes indices : List ℕ) (G : All (Stands bytes indices) (inputs_of inputs)) where
  pub total_small : length (inputs_of inputs) ≤ 8 → total_over (inputs_of inputs) < 2 ^ 32
  total_small few =
      let b = sum_by-le count_in maximum (inputs_of inputs) (λ k d h. (all_at (Stands bytes indices) (inputs_of inputs) G k d h).room.count) in
      omega arith

  pub steps_bound : {S : Type 0} (yields : Moment → S) (like : S → S → Bool) → length (kept_steps yields like (kept_all bytes indices inputs)) ≤ total_over (inputs_of inputs)
  unfolding kept_steps moments_of
  steps_bound yields like =
      let ts = map unbegun (map shown_in (kept_all bytes indices inputs)) in
      let ms = moments_from (sum (map count_of ts)) (smallest ts) ts in
      omega (
        arith,
        fold_bound like [] (map yields ms),
        length-map ms yields,
        moments_bound (sum (map count_of ts)) (smallest ts) ts,
        come_all bytes indices (inputs_of inputs) G,
      )

-- ---- the room of the steps, by the numbers that the code has

module _ (n z bytes indices m size : ℕ) (e : size ≡ z) {b : Bool} (r : b ≡ room_for m size bytes indices) where
  pub fits_counted : m ≡ n → b ≡ room_for n z bytes indices
  fits_counted c = r ∙ rw (c, e)

  pub fits_together : (t : ℕ) → m ≡ t → n ≤ t → b ≡ true → true ≡ room_for n z bytes indices
  fits_together t c h y =
      let f : room_for t z bytes indices ≡ true = rw (← c, ← e) (sym r ∙ y) in
      sym (room_fewer n t z bytes indices h f)
