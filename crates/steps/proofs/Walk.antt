-- A walk over the steps: what is kept so far and what the steps to come yield make all that is kept. What a step yields and which two are
-- alike is left open, and an input may not have begun.
-- Assumes nothing.
use Rattle.std.specs.Prelude.{Option, None, Some}
use Prim.Native.Nat.{◌*◌, ◌+◌, ◌-◌, ◌<◌, ◌≤◌, suc, zero, ℕ}
use borrow.Author.Tests.{eq-eqb, ne_eqb}
use lib.ListN.{length, length-append, length-drop, length-map}
use mathlib.Core.Bool.{Bool, cond, false, true}
use mathlib.Core.List.{List, [], ◌++◌, ◌∷◌, foldl, map}
use mathlib.Core.Path.{◌∙◌, ◌≡◌, ap, ap₂, refl, subst, sym}
use native.Mathlib.Omega.{arith}
use Rattle.value.specs.Slice.{sum}
use Rattle.value.proofs.Tests.{by_eq}
use Rattle.runs.specs.All.{All}
use Rattle.runs.specs.Runs.{ends_like, joined}
use Rattle.runs.proofs.All.{all_both, all_map, all_of}
use Rattle.runs.proofs.Joined.{joined_grows}
use Rattle.steps.specs.Cursor.{Cursor}
use Rattle.steps.specs.Inputs.{inputs_of, kept_all}
use Rattle.steps.specs.Stepping.{Reaches, ReachesNow, advanced, at_start, begun_at, input_of, next_in, soonest}
use Rattle.steps.specs.Steps.{Moment, Track, kept_steps, moments_from, moments_of, moved, now_of, shown_in, smallest, unbegun}
use Rattle.steps.specs.declared.Input.{Input}
use Rattle.steps.specs.declared.Inputs.{Inputs}
use Rattle.steps.proofs.InputTests.{Stands}
use Rattle.steps.proofs.Nexts.{next_within}
use Rattle.steps.proofs.Standing.{all_behind, all_reach}
use Rattle.steps.proofs.Tracks.{Within, come_less, moves_tracks, shown_count, shown_of, soonest_smallest, to_come, tracks, tracks_start}

-- ---- cursors as they start and move on

pub all_zero : (is : List Input) → All (λ c. c.begun ≡ 0) (map at_start is)
all_zero [] = tt
all_zero (i ∷ is) = (refl, all_zero is)

pub start_behind : (is : List Input) → map input_of (map at_start is) ≡ is
start_behind [] = refl
start_behind (i ∷ is) = ap (λ (l : List Input). i ∷ l) (start_behind is)

advance_behind : (indices : List ℕ) (i : ℕ) (cs : List Cursor) → map input_of (map (advanced indices i) cs) ≡ map input_of cs
advance_behind indices i [] = refl
advance_behind indices i (c ∷ cs) = ap (λ (l : List Input). c.input ∷ l) (advance_behind indices i cs)

begun_within : (indices : List ℕ) (c : Cursor) → Reaches indices c.input → Within c → (i : ℕ) → Within (advanced indices i c)
begun_within indices c r w i = go (next_in indices c) refl
  where
    go : (n : Option ℕ) → next_in indices c ≡ n → begun_at i c.begun (next_in indices c) ≤ c.input.description.count
    go None e = rw e w
    go (Some j) e =
        let h = next_within indices c.input c.begun r j e i in
        by_eq j i (λ q. rw (e, eq-eqb j i q) (omega arith)) (λ q. rw (e, ne_eqb j i q) w)

-- ---- how many steps there can be

come_bound : (bytes indices : List ℕ) (cs : List Cursor) → All (λ c. Stands bytes indices c.input) cs → to_come (tracks bytes indices cs) ≤ length cs * 1048576
unfolding sum
come_bound bytes indices [] a = omega arith
come_bound bytes indices (c ∷ cs) a =
    let n = shown_count bytes indices c.input a.0 in
    let l = length-drop c.begun (shown_of bytes indices c.input) in
    omega (arith, come_bound bytes indices cs a.1, a.0.room.count)

pub joined_length : {A : Type 0} (like : A → A → Bool) (l : List A) (x : A) → length (joined like l x) ≤ suc (length l)
unfolding joined
joined_length {A} like l x = go (ends_like like l x)
  where
    go : (b : Bool) → length (cond b l (l ++ (x ∷ []))) ≤ suc (length l)
    go true = omega arith
    go false = omega (arith, length-append l (x ∷ []))

-- what is kept only grows
fold_grows : {A : Type 0} (like : A → A → Bool) (l xs : List A) → length l ≤ length (foldl (joined like) l xs)
fold_grows like l [] = omega arith
fold_grows like l (x ∷ xs) =
    let g = joined_grows like l x in
    omega (arith, fold_grows like (joined like l x) xs, ap length g.1, length-append l g.0)

-- ---- the walk

-- the step at an index, by where the inputs stand
abbrev pub moment_at : List ℕ → List ℕ → ℕ → List Cursor → Moment
moment_at bytes indices i cs = record { index = i; showing = map now_of (tracks bytes indices cs) }

module _ {S : Type 0} (yields : Moment → S) (like : S → S → Bool) (inputs : Inputs) (bytes indices : List ℕ) where
  abbrev pub all_kept : List S
  all_kept = kept_steps yields like (kept_all bytes indices inputs)

  -- where the inputs stand, the next step is at an index, so much is kept, and so many steps may be left
  pub record Walk (cs : List Cursor) (next : Option ℕ) (kept : List S) (left : ℕ) : Type 0 where
    pub behind : map input_of cs ≡ inputs_of inputs
    pub told : next ≡ soonest indices cs
    pub within : All Within cs
    pub enough : to_come (tracks bytes indices cs) ≤ left
    pub rest : foldl (joined like) kept (map yields (moments_from left next (tracks bytes indices cs))) ≡ all_kept
    pub bounded : length kept + to_come (tracks bytes indices cs) ≤ 8388608

-- what holds of the inputs holds behind the cursors
behind_all : (inputs : Inputs) (cs : List Cursor) → map input_of cs ≡ inputs_of inputs → (P : Input → Type 0) → All P (inputs_of inputs) → All (λ c. P c.input) cs
behind_all inputs cs e P ps = all_behind P cs (rw e ps)

module _ {S : Type 0} {yields : Moment → S} {like : S → S → Bool} {inputs : Inputs} {bytes indices : List ℕ} where
  pub walk_few : {cs : List Cursor} {next : Option ℕ} {kept : List S} {left : ℕ} → Walk yields like inputs bytes indices cs next kept left
      → length kept ≤ length (all_kept yields like inputs bytes indices)
  walk_few {cs} {next} {kept} {left} W =
      subst (λ (l : List S). length kept ≤ length l) W.rest
      (fold_grows like kept (map yields (moments_from left next (tracks bytes indices cs))))

  -- nothing comes any more
  pub walk_done : {cs : List Cursor} {kept : List S} {left : ℕ} → Walk yields like inputs bytes indices cs None kept left → kept ≡ all_kept yields like inputs bytes indices
  unfolding moments_from
  walk_done {left = zero} W = W.rest
  walk_done {left = suc n} W = W.rest

  module _ (G : All (Stands bytes indices) (inputs_of inputs)) where
    pub walk_start : length (inputs_of inputs) ≤ 8 → let cs = map at_start (inputs_of inputs) in
        Walk yields like inputs bytes indices cs (soonest indices cs) [] (to_come (tracks bytes indices cs))
    unfolding kept_steps moments_of
    walk_start few =
        let is = inputs_of inputs in
        let cs = map at_start is in
        let t : tracks bytes indices cs ≡ map unbegun (map shown_in (kept_all bytes indices inputs)) = tracks_start bytes indices is in
        record {
          behind = start_behind is;
          told = refl;
          within = all_of (λ c. c.begun ≡ 0) Within (λ c b. rw b (omega arith)) cs (all_zero is);
          enough = omega arith;
          rest =
              ap (λ (n : Option ℕ). foldl (joined like) [] (map yields (moments_from (to_come (tracks bytes indices cs)) n (tracks bytes indices cs))))
              (sym (soonest_smallest bytes indices cs))
              ∙ ap (λ (ts : List Track). foldl (joined like) [] (map yields (moments_from (to_come ts) (smallest ts) ts))) t;
          bounded =
              let b = come_bound bytes indices cs (behind_all inputs cs (start_behind is) (Stands bytes indices) G) in
              let n = length-map is at_start in
              omega arith;
        }

    -- the inputs' indices lie within the lent ones
    pub walk_reaches : {cs : List Cursor} {next : Option ℕ} {kept : List S} {left : ℕ} → Walk yields like inputs bytes indices cs next kept left → All (ReachesNow indices) cs
    walk_reaches {cs} W = behind_all inputs cs W.behind (Reaches indices) (all_reach (inputs_of inputs) bytes indices G)

    -- the step at an index is taken
    module _ {cs : List Cursor} {i : ℕ} {kept : List S} {left : ℕ} (W : Walk yields like inputs bytes indices cs (Some i) kept left) where
      abbrev on : List Cursor
      on = map (advanced indices i) cs

      pub on_behind : map input_of on ≡ inputs_of inputs
      on_behind = advance_behind indices i cs ∙ W.behind

      pub on_within : All Within on
      on_within =
          all_map (λ c. Within (advanced indices i c)) Within (advanced indices i) cs (λ c w. w)
          (all_both (ReachesNow indices) Within (λ c. Within (advanced indices i c)) (λ c r w. begun_within indices c r w i) cs
          (walk_reaches W) W.within)

      abbrev ts : List Track
      ts = tracks bytes indices cs

      abbrev us : List Track
      us = tracks bytes indices on

      us_are : map (moved i) ts ≡ us
      us_are = moves_tracks bytes indices i cs

      pub come_fewer : to_come us < to_come ts
      come_fewer = rw (← us_are) (come_less i ts (soonest_smallest bytes indices cs ∙ sym W.told))

      module _ (s : S) (e : yields (moment_at bytes indices i on) ≡ s) where
        rest_on : (left : ℕ) → to_come ts ≤ left → foldl (joined like) kept (map yields (moments_from left (Some i) ts)) ≡ all_kept yields like inputs bytes indices
            → foldl (joined like) (joined like kept s) (map yields (moments_from (left - 1) (soonest indices on) us)) ≡ all_kept yields like inputs bytes indices
        unfolding moments_from
        rest_on zero h r = absurd (omega (arith, come_fewer))
        rest_on (suc n) h r =
            let k : suc n - 1 ≡ n = omega arith in
            ap₂ (λ (m : ℕ) (x : Option ℕ). foldl (joined like) (joined like kept s) (map yields (moments_from m x us))) k (sym (soonest_smallest bytes indices on))
            ∙ ap (λ (x : S). foldl (joined like) (joined like kept x) (map yields (moments_from n (smallest us) us))) (sym e)
            ∙ ap (λ (vs : List Track). foldl (joined like) (joined like kept (yields (record { index = i; showing = map now_of vs }))) (map yields (moments_from n (smallest vs) vs))) (sym us_are)
            ∙ r

        pub walk_on : Walk yields like inputs bytes indices on (soonest indices on) (joined like kept s) (left - 1)
        walk_on =
            let f = come_fewer in
            let g = joined_length like kept s in
            record {
              behind = on_behind;
              told = refl;
              within = on_within;
              enough = omega (arith, W.enough);
              rest = rest_on left W.enough W.rest;
              bounded = omega (arith, W.bounded);
            }
