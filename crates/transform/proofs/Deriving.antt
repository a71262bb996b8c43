-- Derive's walk over the steps, which stores those that are kept.
-- Assumes nothing.
use Rattle.std.specs.Prelude.{Option, None, Some}
use Prim.Native.Nat.{◌-◌, ◌<◌, ◌≤◌, min, suc, zero, ℕ}
use borrow.Author.Tests.{eq-eqb, ne_eqb}
use lib.Dec.{T, eqb, eqb_refl, eqb→eq, ltb}
use lib.ListN.{length-append, drop, length, set, take}
use mathlib.Core.Bool.{cond, false}
use mathlib.Core.List.{List, [], ◌++◌, ◌∷◌, map}
use mathlib.Core.Path.{◌∙◌, ◌≡◌, ap, ap₂, refl, subst, sym}
use native.Mathlib.Omega.{arith}
use Rattle.value.specs.Level.{codes_of, mark_of, text_of}
use Rattle.value.specs.Slice.{overlay, part, same}
use Rattle.value.specs.declared.States.{States}
use Rattle.value.proofs.Levels.{codes_text, mark_inj}
use Rattle.value.proofs.Slices.{same_refl, same_sound}
use Rattle.value.proofs.Tests.{and_both, and_left, and_right, both_ways, by_eq}
use Rattle.layout.specs.Entry.{entry_of, entry_size}
use Rattle.layout.specs.Writable.{Writable, entry_from}
use Rattle.layout.proofs.Entries.{laws}
use Rattle.layout.proofs.EntryLaws.{EntryLaws}
use Rattle.fst.specs.Record.{kept_in}
use Rattle.runs.specs.All.{All}
use Rattle.runs.specs.Runs.{Step, ends_like, joined}
use Rattle.runs.proofs.All.{all_both, all_map, all_of}
use Rattle.runs.proofs.Joined.{joined_all, joined_by}
use Rattle.runs.proofs.Laid.{Sound, entry_tells, entry_for, same_entry}
use Rattle.offset.specs.Offset.{head_of}
use Rattle.derivation.specs.Piece.{extract_of, pieces_of}
use Rattle.derivation.specs.declared.DerivedBitVecSignal.{DerivedBitVecSignal}
use Rattle.steps.specs.Inputs.{input_kept, inputs_of, is_late, starts_late}
use Rattle.steps.specs.Cursor.{Cursor}
use Rattle.steps.specs.Stepping.{ReachesNow, advanced, at_start, begun_at, input_of, next_in, soonest}
use Rattle.steps.specs.Steps.{smaller}
use Rattle.steps.specs.Storing.{Appendable, Appended, Roomy, Wrote}
use Rattle.steps.specs.declared.Inputs.{Inputs}
use Rattle.steps.proofs.Standing.{all_behind}
use Rattle.steps.proofs.Storing.{Storing, appendable, storing_done, storing_none, storing_on}
use Rattle.steps.proofs.Tracks.{Begun, Within, to_come, tracks}
use Rattle.steps.proofs.Walk.{Walk, all_zero, come_fewer, moment_at, on_behind, on_within, start_behind, walk_done, walk_few, walk_on, walk_reaches, walk_start}
use Rattle.transform.specs.Derive.{derived_from, same_step, yielded}
use Rattle.transform.specs.Picking.{Pickable, Stepped, Walkable, largest_now, picked_now}
use Rattle.transform.proofs.Given.{all_shows, early, few_used, set_in_lem, stand, stepped, wide}
use Rattle.transform.proofs.Picked.{entry_gathered, front_long, largest_shown_lem, pickable, picked_all, picked_below, picked_shown, writable}

-- ---- two steps are alike just where their entries are

same_agree : {w : ℕ} (L : EntryLaws w) {M : States} (a b : Step) → Sound w M a → Sound w M b → same_step a b ≡ same_entry w M a b
same_agree {w} L {M} a b x y =
    both_ways (same_step a b) (same_entry w M a b)
    (λ t.
    let s = same_sound a.string b.string (and_left (same a.string b.string) (eqb (mark_of a.set) (mark_of b.set)) t) in
    let m = mark_inj a.set b.set (eqb→eq (mark_of a.set) (mark_of b.set) (and_right (same a.string b.string) (eqb (mark_of a.set) (mark_of b.set)) t)) in
    let e : entry_for w M a ≡ entry_for w M b = ap₂ (λ (S : States) (l : List ℕ). entry_of w M S (codes_of l)) m s in
    subst (λ (l : List ℕ). T (same (entry_for w M a) l)) e (same_refl (entry_for w M a)))
    (λ t.
    let z = entry_tells w L M a b x y (same_sound (entry_for w M a) (entry_for w M b) t) in
    and_both (same a.string b.string) (eqb (mark_of a.set) (mark_of b.set))
    (subst (λ (l : List ℕ). T (same a.string l)) z.1 (same_refl a.string))
    (subst (λ (n : ℕ). T (eqb (mark_of a.set) n)) (ap mark_of z.0) (eqb_refl (mark_of a.set))))

-- ---- inputs that start at index 0 (15)

begun_grows : (i k : ℕ) (n : Option ℕ) → k ≤ begun_at i k n
begun_grows i k None = omega arith
begun_grows i k (Some j) = by_eq j i (λ q. rw (eq-eqb j i q) (omega arith)) (λ q. rw (ne_eqb j i q) (omega arith))

early_next : (l : List ℕ) → is_late l ≡ false → head_of l ≡ Some 0
early_next [] h = let z : ◌≡◌ {A = ℕ} 0 1 = cc in absurd (omega arith)
early_next (zero ∷ l) h = refl
early_next (suc i ∷ l) h = let z : ◌≡◌ {A = ℕ} 0 1 = cc in absurd (omega arith)

soonest_zero : (indices : List ℕ) (cs : List Cursor) → All (λ c. next_in indices c ≡ Some 0) cs → (k : ℕ) → soonest indices cs ≡ Some k → k ≡ 0
unfolding soonest
soonest_zero indices [] a k e = let z : ◌≡◌ {A = ℕ} 0 1 = cc in absurd (omega arith)
soonest_zero indices (c ∷ cs) a k e = go (soonest indices cs) (ap (λ (n : Option ℕ). smaller n (soonest indices cs)) (sym a.0) ∙ e)
  where
    go : (n : Option ℕ) → smaller (Some 0) n ≡ Some k → k ≡ 0
    go None e = cc
    go (Some j) e = let z : min 0 j ≡ k = cc in omega arith

-- ---- the walk

-- what is known all along
pub record Ready (d : DerivedBitVecSignal) (inputs : Inputs) (bytes indices : List ℕ) (M : States) : Type 0 where
  pub walkable : Walkable d inputs bytes indices M
  pub some : 0 < length (pieces_of d)

module _ (d : DerivedBitVecSignal) (inputs : Inputs) (bytes indices : List ℕ) (M : States) where
  -- every input has begun once the next step is taken, and the steps that are kept are sound
  pub record Deriving (cs : List Cursor) (next : Option ℕ) (kept : List Step) (left : ℕ) : Type 0 where
    pub walk : Walk (yielded (pieces_of d)) same_step inputs bytes indices cs next kept left
    pub starts : (k : ℕ) → next ≡ Some k → All (λ c. Begun (advanced indices k c)) cs
    pub sound : All (Sound d.width M) kept

  pub record Writing (stride : ℕ) (out_bytes out_indices : List ℕ) (cs : List Cursor) (count : ℕ) (nowBytes nowIndices : List ℕ) : Type 0 where
    pub kept : List Step
    pub left : ℕ
    pub derives : Deriving cs (soonest indices cs) kept left
    pub storing : Storing d.width M stride (length (derived_from d inputs bytes indices)) out_bytes out_indices kept count nowBytes nowIndices

-- the characters and the set of the step that the inputs then show
pub record Yielded (cs : List Cursor) (bytes packed text : List ℕ) (S : States) (new : List ℕ) : Type 0 where
  pub set : S ≡ largest_now bytes cs
  pub stored : new ≡ overlay text 0 (text_of (picked_now bytes cs (map extract_of packed)))

module _ {d : DerivedBitVecSignal} {inputs : Inputs} {bytes indices : List ℕ} {M : States} where
  pub writing_done : {stride : ℕ} {out_bytes out_indices : List ℕ} {cs : List Cursor} {count : ℕ} {nowBytes nowIndices : List ℕ}
      → Writing d inputs bytes indices M stride out_bytes out_indices cs count nowBytes nowIndices
      → soonest indices cs ≡ None → Wrote d.width M stride (derived_from d inputs bytes indices) out_bytes out_indices count nowBytes nowIndices
  writing_done {cs = cs} C e =
      storing_done C.storing refl (walk_done (subst (λ (n : Option ℕ). Walk (yielded (pieces_of d)) same_step inputs bytes indices cs n C.kept C.left) e C.derives.walk))

  module _ (R : Ready d inputs bytes indices M) where
    abbrev W₀ : Walkable d inputs bytes indices M
    W₀ = R.walkable

    abbrev L : EntryLaws d.width
    L = laws d.width (wide W₀ R.some)

    deriving_start : let cs = map at_start (inputs_of inputs) in Deriving d inputs bytes indices M cs (soonest indices cs) [] (to_come (tracks bytes indices cs))
    unfolding next_in kept_in
    deriving_start =
        let is = inputs_of inputs in
        let cs₀ = map at_start is in
        let heads : All (λ c. next_in indices c ≡ Some 0) cs₀ =
        all_both (λ c. starts_late (input_kept bytes indices c.input) ≡ false) (λ c. c.begun ≡ 0) (λ c. next_in indices c ≡ Some 0)
        (λ c s b.
        ap (λ (k : ℕ). head_of (drop k (part c.input.index_start c.input.description.count indices))) b
        ∙ early_next (part c.input.index_start c.input.description.count indices) s)
        cs₀ (all_behind (λ i. starts_late (input_kept bytes indices i) ≡ false) cs₀ (rw (start_behind is) (early W₀))) (all_zero is) in
        record {
          walk = walk_start (stand W₀) (few_used W₀);
          starts =
              λ k f.
              let o : k ≡ 0 = soonest_zero indices cs₀ heads k f in
              rw o
              (all_of (λ c. next_in indices c ≡ Some 0) (λ c. 1 ≤ begun_at 0 c.begun (next_in indices c)) (λ c h. rw h (omega arith)) cs₀ heads);
          sound = tt;
        }

    pub writing_start : {stride : ℕ} {out_bytes out_indices : List ℕ} {cs : List Cursor} → cs ≡ map at_start (inputs_of inputs)
        → Writing d inputs bytes indices M stride out_bytes out_indices cs 0 out_bytes out_indices
    writing_start z = rw z (record { kept = []; left = _; derives = deriving_start; storing = storing_none })

    -- the inputs' indices lie within the lent ones
    pub reaches : {cs : List Cursor} {next : Option ℕ} {kept : List Step} {left : ℕ} → Deriving d inputs bytes indices M cs next kept left → All (ReachesNow indices) cs
    reaches D = walk_reaches (stand W₀) D.walk

    -- the step at an index is taken
    module _ {cs : List Cursor} {i : ℕ} {kept : List Step} {left : ℕ} (W : Deriving d inputs bytes indices M cs (Some i) kept left) where
      abbrev on : List Cursor
      on = map (advanced indices i) cs

      begun : All Begun on
      begun = all_map (λ c. Begun (advanced indices i c)) Begun (advanced indices i) cs (λ c b. b) (W.starts i refl)

      inside : All Within on
      inside = on_within (stand W₀) W.walk

      behind : map input_of on ≡ inputs_of inputs
      behind = on_behind (stand W₀) W.walk

      step : Stepped on bytes (take d.piece_count d.bits) (largest_now bytes on) d.width
      step = stepped W₀ on behind begun inside R.some

      under : mark_of (largest_now bytes on) ≤ mark_of M
      under = set_in_lem W₀ on behind begun inside

      abbrev s : Step
      s = record { index = i; string = text_of (picked_now bytes on (pieces_of d)); set = largest_now bytes on }

      string_codes : codes_of s.string ≡ picked_now bytes on (pieces_of d)
      string_codes = codes_text (picked_now bytes on (pieces_of d)) step.letters

      step_sound : Sound d.width M s
      step_sound =
          record {
            codes =
                rw string_codes
                (record {
                  long = picked_all bytes (largest_now bytes on) on (pieces_of d) step.pieces ∙ step.whole;
                  below = picked_below bytes (largest_now bytes on) on step.under (pieces_of d);
                });
            letters = rw string_codes step.letters;
            within = under;
          }

      yields : yielded (pieces_of d) (moment_at bytes indices i on) ≡ s
      yields =
          let h = all_shows W₀ on behind begun inside in
          let x = picked_shown bytes indices on h (pieces_of d) in
          let y = largest_shown_lem bytes indices on h in
          λ t. record { index = i; string = text_of (x t); set = y t }

      deriving_on : Deriving d inputs bytes indices M on (soonest indices on) (joined same_step kept s) (left - 1)
      deriving_on =
          record {
            walk = walk_on (stand W₀) W.walk s yields;
            starts = λ k h. all_of Begun (λ c. Begun (advanced indices k c)) (λ c b. omega (arith, begun_grows k c.begun (next_in indices c))) on begun;
            sound = joined_all (Sound d.width M) same_step kept s W.sound step_sound;
          }

      -- whether the step is kept, by entries
      joined_is : joined same_step kept s ≡ joined (same_entry d.width M) kept s
      joined_is = joined_by {P = Sound d.width M} same_step (same_entry d.width M) kept s W.sound (λ x h. same_agree L x s h step_sound)

      new_few : ends_like (same_entry d.width M) kept s ≡ false → length kept < length (derived_from d inputs bytes indices)
      unfolding joined
      new_few h =
          let j : joined same_step kept s ≡ kept ++ (s ∷ []) = joined_is ∙ rw h in
          let g : length (joined same_step kept s) ≤ length (derived_from d inputs bytes indices) = walk_few deriving_on.walk in
          omega (arith, ap length j, length-append kept (s ∷ []))

    -- a step is at hand
    module _ {stride : ℕ} {out_bytes out_indices : List ℕ} {cs : List Cursor} {count : ℕ} {nowBytes nowIndices : List ℕ}
        (C : Writing d inputs bytes indices M stride out_bytes out_indices cs count nowBytes nowIndices) {i : ℕ} (e : soonest indices cs ≡ Some i) where
      abbrev W : Deriving d inputs bytes indices M cs (Some i) C.kept C.left
      W = subst (λ (n : Option ℕ). Deriving d inputs bytes indices M cs n C.kept C.left) e C.derives

      abbrev moved : List Cursor
      moved = map (advanced indices i) cs

      module _ {q : List Cursor} (a : q ≡ moved) where
        pub fewer : to_come (tracks bytes indices q) < to_come (tracks bytes indices cs)
        fewer = rw a (come_fewer (stand W₀) W.walk)

        pub pickable_on : {ps : List ℕ} → ps ≡ take d.piece_count d.bits → {room : ℕ} → d.width ≤ room → Pickable q bytes ps room
        pickable_on is {room} h = rw (a, is) (pickable (step W) room h)

        module _ {text new : List ℕ} {S : States} (t : Yielded q bytes (take d.piece_count d.bits) text S new) where
          z : Yielded moved bytes (take d.piece_count d.bits) text S new
          z = rw a at t

          st : Stepped moved bytes (take d.piece_count d.bits) S d.width
          st = rw z.set (step W)

          up : mark_of S ≤ mark_of M
          up = rw z.set (under W)

          abbrev entry : List ℕ
          entry = entry_from M S (take d.width new)

          entry_is : entry ≡ entry_for d.width M (s W)
          entry_is =
              entry_gathered st M up text new z.stored
              ∙ ap (λ (x : States). entry_of d.width M x (picked_now bytes moved (pieces_of d))) z.set
              ∙ ap (entry_of d.width M (largest_now bytes moved)) (sym (string_codes W))

          few : count ≤ length (derived_from d inputs bytes indices)
          few = rw C.storing.counted (walk_few W.walk)

          -- the string of the step makes an entry
          pub writable_on : Writable M S (take d.width new) (entry_size d.width M) 0 × (length (take d.width new) ≡ d.width)
          writable_on = (writable st M up text new z.stored (entry_size d.width M) refl, front_long st M up text new z.stored)

          module _ (room : Roomy (length (derived_from d inputs bytes indices)) (entry_size d.width M) stride out_bytes) where
            pub appendable_on : Appendable entry stride count nowBytes
            appendable_on = appendable C.storing L room (s W) entry entry_is few (λ h. rw C.storing.counted (new_few W h)) refl (omega (arith, C.storing.counted, W.walk.bounded))

            pub writing_on : {r : ℕ} {newBytes newIndices : List ℕ} → Appended entry stride count nowBytes r newBytes
                → newIndices ≡ cond (ltb count r) (set nowIndices count i) nowIndices → Writing d inputs bytes indices M stride out_bytes out_indices q r newBytes newIndices
            writing_on {r} {newBytes} {newIndices} x y =
                rw a
                (record {
                  kept = joined same_step C.kept (s W);
                  left = C.left - 1;
                  derives = deriving_on W;
                  storing =
                      subst (λ (l : List Step). Storing d.width M stride (length (derived_from d inputs bytes indices)) out_bytes out_indices l r newBytes newIndices) (sym (joined_is W))
                      (storing_on C.storing L room (s W) entry entry_is few (λ h. rw C.storing.counted (new_few W h)) x y);
                })
