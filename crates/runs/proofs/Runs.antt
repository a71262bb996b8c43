-- After every run the record is its history laid out, and two records are equal just where their histories are. The laws of an entry are a
-- parameter.
-- Assumes nothing.
use mathlib.Core.Path.{◌≡◌, refl, sym, ap, ◌∙◌, subst}
use mathlib.Core.Logic.{◌↔◌}
use Prim.Native.Nat.{ℕ, suc, ◌≤◌}
use native.Mathlib.Omega.{arith}
use mathlib.Core.Bool.{Bool, true, false, not, cond, true≢false}
use mathlib.Core.List.{List, [], ◌∷◌, ◌++◌, map, foldl, map-append}
use lib.Dec.{T, eqb}
use lib.ListN.{length, length-map}
use borrow.Author.Tests.{not-false, eqb-true, ne_eqb}
use Rattle.value.specs.declared.States.{States}
use Rattle.value.specs.declared.States.TheVariants.{Two}
use Rattle.value.specs.Level.{fold, fold_all, code_of, codes_of, mark_of, join, least_of, join_all, has_no_code}
use Rattle.value.specs.Digits.{Below}
use Rattle.value.proofs.Tests.{to_t}
use Rattle.value.proofs.Slices.{part_overlay, same_sound, same_by}
use Rattle.value.proofs.Levels.{mark_inj, mark_join, all_below_lem, under}
use Rattle.fst.specs.declared.Description.{Description}
use Rattle.fst.specs.declared.Encoding.TheVariants.{BitVector}
use Rattle.fst.specs.Refusal.{Reply, given, tried, Outcome, outcome}
use Rattle.layout.specs.Entry.{entry_of}
use Rattle.fst.specs.Record.{Lent, Kept, Held, Recorder, kept_in, held_in, kept_of}
use Rattle.fst.specs.Change.{Change, text, real, is_other_kind, is_other_length, is_foreign, changed, with_change, refusals, in_hand, stored, add_change}
use Rattle.runs.specs.All.{All}
use Rattle.runs.specs.Runs.{by_value, Call, called, left_in, leaves, Run, fresh_held, after, Fed, fed, Pair, ends_like, joined, same_string, fed_one, history_of, Step, index_of, entries_of, laid_out, step_of, largest_of, history_laid_out, seen, Same}
use Rattle.layout.proofs.EntryLaws.{EntryLaws}
use Rattle.fst.proofs.Refusals.{Passed, Result, through, stopped, result}
use Rattle.fst.proofs.Records.{standing}
use Rattle.runs.proofs.All.{all_map}
use Rattle.runs.proofs.Joined.{joined_all, joined_map, joined_by}
use Rattle.runs.proofs.Laid.{entry_for, same_entry, Sound, entry_tells, laid_same, laid_found, step_appended}

-- ---- the largest set

pub largest_head : (s : Step) (l : List Step) → mark_of s.set ≤ mark_of (largest_of (s ∷ l))
unfolding join_all
largest_head s l = omega (arith, mark_join s.set (largest_of l))

pub largest_tail : (s : Step) (l : List Step) → mark_of (largest_of l) ≤ mark_of (largest_of (s ∷ l))
unfolding join_all
largest_tail s l = omega (arith, mark_join s.set (largest_of l))

pub largest_snoc : (l : List Step) (s : Step) → largest_of (l ++ (s ∷ [])) ≡ join (largest_of l) s.set
unfolding join_all
largest_snoc [] s = mark_inj (join s.set Two) s.set (omega (arith, mark_join s.set Two))
largest_snoc (t ∷ l) s =
    ap (join t.set) (largest_snoc l s)
    ∙ mark_inj (join t.set (join (largest_of l) s.set)) (join (join t.set (largest_of l)) s.set)
    (omega (
      arith,
      mark_join t.set (join (largest_of l) s.set),
      mark_join (largest_of l) s.set,
      mark_join (join t.set (largest_of l)) s.set,
      mark_join t.set (largest_of l),
    ))

-- ---- a history

abbrev pub least_set : Pair → States
least_set p = least_of (codes_of p.string)

abbrev pub largest_set : List Pair → States
largest_set h = largest_of (map step_of h)

-- a string that repeats the last raises no set
pub ends_within : (h : List Pair) (p : Pair) → T (ends_like same_string h p) → mark_of (least_set p) ≤ mark_of (largest_set h)
unfolding ends_like
ends_within [] p t = absurd t
ends_within (q ∷ []) p t =
    subst (λ (x : List ℕ). mark_of (least_of (codes_of x)) ≤ mark_of (largest_set (q ∷ []))) (same_sound q.string p.string t)
    (largest_head (step_of q) [])
ends_within (q ∷ r ∷ h) p t = omega (arith, ends_within (r ∷ h) p t, largest_tail (step_of q) (map step_of (r ∷ h)))

-- a pair's string is w levels in small letters
pub record Spelt (w : ℕ) (p : Pair) : Type 0 where
  pub long : length (codes_of p.string) ≡ w
  pub letters : Below 9 (codes_of p.string)

pub spelt_sound : (w : ℕ) (M : States) (p : Pair) → Spelt w p → mark_of (least_set p) ≤ mark_of M → Sound w M (step_of p)
spelt_sound w M p s h =
    record { codes = record { long = s.long; below = under (codes_of p.string) s.letters }; letters = s.letters; within = h }

pub all_sound : (w : ℕ) (M : States) (h : List Pair) → All (Spelt w) h → mark_of (largest_set h) ≤ mark_of M
    → All (λ (p : Pair). Sound w M (step_of p)) h
all_sound w M [] g a = tt
all_sound w M (p ∷ h) g a = (
  spelt_sound w M p g.0 (omega (arith, largest_head (step_of p) (map step_of h))),
  all_sound w M h g.1 (omega (arith, largest_tail (step_of p) (map step_of h))),
)

pub steps_sound : (w : ℕ) (M : States) (h : List Pair) → All (Spelt w) h → mark_of (largest_set h) ≤ mark_of M → All (Sound w M) (map step_of h)
steps_sound w M h g a =
    all_map (λ (p : Pair). Sound w M (step_of p)) (Sound w M) step_of h (λ (p : Pair) (s : Sound w M (step_of p)). s) (all_sound w M h g a)

-- where a pair joins: the set that is then the largest
pub joined_largest : (h : List Pair) (p : Pair) → join (largest_set h) (least_set p) ≡ largest_set (joined same_string h p)
unfolding joined
joined_largest h p = go (ends_like same_string h p) refl
  where
    go : (b : Bool) → ends_like same_string h p ≡ b → join (largest_set h) (least_set p) ≡ largest_set (cond b h (h ++ (p ∷ [])))
    go true e =
        mark_inj (join (largest_set h) (least_set p)) (largest_set h)
        (omega (arith, mark_join (largest_set h) (least_set p), ends_within h p (to_t (ends_like same_string h p) e)))
    go false e = sym (ap largest_of (map-append step_of h (p ∷ [])) ∙ largest_snoc (map step_of h) (step_of p))

-- the steps of a history tell it
abbrev pair_of : Step → Pair
pair_of s = record { index = s.index; string = s.string }

steps_tell : (h : List Pair) → map pair_of (map step_of h) ≡ h
steps_tell [] = refl
steps_tell (p ∷ h) = ap (λ (l : List Pair). p ∷ l) (steps_tell h)

-- ---- a call

-- a description that counts its indices
abbrev Counted : Held Description → Type 0
Counted k = k.description.count ≡ length k.indices

module _ (d : Description) (l : Lent) (i : ℕ) (ch : Change) (held : Counted (held_in d l)) where
  stored_counted : (k : Kept) → l.index_start ≤ length l.indices → Counted (left_in by_value l (stored l k))
  unfolding kept_in stored
  stored_counted k h = sym (ap length (part_overlay l.indices k.indices l.index_start (length k.indices) h refl))

  call_counted : Counted (left_in by_value l (add_change d l i ch).left)
  unfolding add_change refusals
  call_counted = go (result (given (stored l new)) (refusals d l i ch) tt)
    where
      new : Kept
      new = with_change (kept_in d l) i ch

      Left : Reply (Recorder Description) → Type 0
      Left r = Counted (left_in by_value l (outcome (in_hand d l) r).left)

      go : Result (given (stored l new)) (refusals d l i ch) → Left (tried (refusals d l i ch) (given (stored l new)))
      go (through ps e) = subst Left (sym e) (stored_counted new (omega (arith, (standing ps.0).room.indices)))
      go (stopped n e) = subst Left (sym e) held

counted_from : (k : Held Description) → Counted k → (cs : List Call) → Run by_value k cs → Counted (after by_value k cs)
unfolding Run after leaves
counted_from k h [] r = h
counted_from k h (c ∷ cs) r =
    counted_from (leaves by_value k c)
    (call_counted k.description c.lent c.index c.change (subst Counted (sym r.0) h)) cs r.1

-- what a call feeds the history
abbrev pub fed_by : Held Description → Call → Fed
fed_by k c = record { index = c.index; change = c.change; accepted = eqb (called by_value k c).refused 0 }

module _ (w : ℕ) (L : EntryLaws w) where
  -- entries repeat just where strings do
  joined_steps : (M : States) (h : List Pair) (p : Pair) → All (Spelt w) h → Spelt w p
      → mark_of (largest_set h) ≤ mark_of M → mark_of (least_set p) ≤ mark_of M
      → joined (same_entry w M) (map step_of h) (step_of p) ≡ map step_of (joined same_string h p)
  joined_steps M h p g s a b =
      joined_map step_of (same_entry w M) h p
      ∙ ap (map step_of)
      (joined_by (λ (x y : Pair). same_entry w M (step_of x) (step_of y)) same_string h p (all_sound w M h g a)
      (λ (q : Pair) (sq : Sound w M (step_of q)).
      same_by (entry_for w M (step_of q)) (entry_for w M (step_of p)) q.string p.string
      (λ e. (entry_tells w L M (step_of q) (step_of p) sq (spelt_sound w M p s b) e).1)
      (λ e. ap (λ (x : List ℕ). entry_of w M (least_of (codes_of x)) (codes_of x)) e)))

  -- a string joins the record as it joins the history
  string_joins : (h : List Pair) → All (Spelt w) h → (i : ℕ) (s : List ℕ)
      → let p : Pair = record { index = i; string = fold_all s } in
      Spelt w p → with_change (history_laid_out w h) i (text s) ≡ history_laid_out w (joined same_string h p)
  unfolding history_laid_out laid_out changed
  string_joins h g i s sp =
      let p : Pair = record { index = i; string = fold_all s } in
      let M = largest_set h in
      let to = join M (least_set p) in
      let up : mark_of M ≤ mark_of to = omega (arith, mark_join M (least_set p)) in
      let own : mark_of (least_set p) ≤ mark_of to = omega (arith, mark_join M (least_set p)) in
      step_appended w L M to (map step_of h) (steps_sound w M h g (omega arith)) up (step_of p)
      ∙ ap (laid_out w to) (joined_steps to h p g sp up own)
      ∙ ap (λ (N : States). laid_out w N (map step_of (joined same_string h p))) (joined_largest h p)

  -- a reply and what the history makes of it agree
  abbrev Agrees : List Pair → Lent → ℕ → Change → Outcome (Recorder Description) → Type 0
  Agrees h l i ch o =
      let f : Fed = record { index = i; change = ch; accepted = eqb o.refused 0 } in
      (kept_of (left_in by_value l o.left) ≡ history_laid_out w (fed_one h f)) × All (Spelt w) (fed_one h f)

  -- one call, from a description that finds a history laid out
  module _ (h : List Pair) (g : All (Spelt w) h) (d : Description) (l : Lent) (i : ℕ) (held : kept_in d l ≡ history_laid_out w h) where
    refused_agrees : (ch : Change) (n : ℕ) → Agrees h l i ch (record { refused = suc n; left = in_hand d l })
    unfolding kept_in
    refused_agrees (text s) n = rw (ne_eqb (suc n) 0 (λ e. omega (arith, e))) (held, g)
    refused_agrees (real x) n = (held, g)

    vector : d.encoding ≡ BitVector w (largest_set h)
    unfolding kept_in history_laid_out laid_out
    vector = ap (λ (k : Kept). k.encoding) held

    given_agrees : (ch : Change) → Passed (refusals d l i ch) → Agrees h l i ch (record { refused = 0; left = stored l (with_change (kept_in d l) i ch) })
    unfolding refusals is_other_kind is_other_length is_foreign history_laid_out
    given_agrees (real x) ps = absurd (true≢false (rw vector at ps.1.0))
    given_agrees (text s) ps =
        let room = (standing ps.0).room in
        let p : Pair = record { index = i; string = fold_all s } in
        let same : not (eqb (length s) w) ≡ false = rw vector at ps.1.1.0 in
        let known : has_no_code (codes_of (fold_all s)) ≡ false = rw vector at ps.1.1.1.0 in
        let sp : Spelt w p = record {
          long = length-map (fold_all s) code_of ∙ length-map s fold ∙ eqb-true (length s) w (not-false (eqb (length s) w) same);
          letters = all_below_lem (codes_of (fold_all s)) known;
        } in
        let h' = joined same_string h p in (
          ap (λ (k : Kept). kept_of (left_in by_value l (stored l (with_change k i (text s))))) held
              ∙ ap (λ (k : Kept). kept_of (left_in by_value l (stored l k))) (string_joins h g i s sp)
              ∙ laid_found w L (largest_set h') (map step_of h') l (omega (arith, room.bytes)) (omega (arith, room.indices)),
          joined_all (Spelt w) same_string h p g sp,
        )

    call_agrees : (ch : Change) → Agrees h l i ch (add_change d l i ch)
    unfolding add_change refusals
    call_agrees ch = go (result (given (stored l (with_change (kept_in d l) i ch))) (refusals d l i ch) tt)
      where
        go : Result (given (stored l (with_change (kept_in d l) i ch))) (refusals d l i ch) → Agrees h l i ch (add_change d l i ch)
        go (through ps e) = subst (λ (r : Reply (Recorder Description)). Agrees h l i ch (outcome (in_hand d l) r)) (sym e) (given_agrees ch ps)
        go (stopped n e) = subst (λ (r : Reply (Recorder Description)). Agrees h l i ch (outcome (in_hand d l) r)) (sym e) (refused_agrees ch n)

  -- any calls, from a record that is a history laid out
  layout_from : (h : List Pair) → All (Spelt w) h → (k : Held Description) → kept_of k ≡ history_laid_out w h → (cs : List Call) → Run by_value k cs
      → (kept_of (after by_value k cs) ≡ history_laid_out w (foldl fed_one h (fed by_value k cs))) × All (Spelt w) (foldl fed_one h (fed by_value k cs))
  unfolding Run after fed leaves kept_in
  layout_from h g k e [] r = (e, g)
  layout_from h g k e (c ∷ cs) r =
      let st = call_agrees h g k.description c.lent c.index (ap kept_of r.0 ∙ e) c.change in
      layout_from (fed_one h (fed_by k c)) st.1 (leaves by_value k c) st.0 cs r.1

  from_fresh : (cs : List Call) → Run by_value (fresh_held w) cs
      → let h = history_of (fed by_value (fresh_held w) cs) in
      (kept_of (after by_value (fresh_held w) cs) ≡ history_laid_out w h) × All (Spelt w) h
  unfolding history_laid_out laid_out join_all entries_of
  from_fresh cs r = layout_from [] tt (fresh_held w) refl cs r

  -- after every run the record is its history laid out
  pub layout : (cs : List Call) → Run by_value (fresh_held w) cs → kept_of (after by_value (fresh_held w) cs) ≡ history_laid_out w (history_of (fed by_value (fresh_held w) cs))
  layout cs r = (from_fresh cs r).0

  -- and each string of the history is w levels in small letters
  pub spelt : (cs : List Call) → Run by_value (fresh_held w) cs → All (Spelt w) (history_of (fed by_value (fresh_held w) cs))
  spelt cs r = (from_fresh cs r).1

  -- and its count is the number of pairs
  pub counts : (cs : List Call) → Run by_value (fresh_held w) cs → (after by_value (fresh_held w) cs).description.count ≡ length (history_of (fed by_value (fresh_held w) cs))
  unfolding history_laid_out laid_out
  counts cs r =
      let h = history_of (fed by_value (fresh_held w) cs) in
      counted_from (fresh_held w) refl cs r
      ∙ ap (λ (k : Kept). length k.indices) (layout cs r)
      ∙ length-map (map step_of h) index_of
      ∙ length-map h step_of

  -- two histories laid out are equal records only where they are equal
  history_same : (h g : List Pair) → All (Spelt w) h → All (Spelt w) g → seen (history_laid_out w h) ≡ seen (history_laid_out w g) → h ≡ g
  unfolding history_laid_out
  history_same h g a b s =
      sym (steps_tell h)
      ∙ ap (map pair_of)
      (laid_same w L (largest_set h) (largest_set g) (map step_of h) (map step_of g)
      (steps_sound w (largest_set h) h a (omega arith)) (steps_sound w (largest_set g) g b (omega arith)) s).1
      ∙ steps_tell g

  pub demand3 : (xs ys : List Call) → Run by_value (fresh_held w) xs → Run by_value (fresh_held w) ys
      → Same by_value (after by_value (fresh_held w) xs) (after by_value (fresh_held w) ys) ↔ (history_of (fed by_value (fresh_held w) xs) ≡ history_of (fed by_value (fresh_held w) ys))
  demand3 xs ys r q = (
    (λ s. history_same (history_of (fed by_value (fresh_held w) xs)) (history_of (fed by_value (fresh_held w) ys)) (spelt xs r) (spelt ys q)
        (sym (ap seen (layout xs r)) ∙ s ∙ ap seen (layout ys q))),
    (λ e. ap seen (layout xs r ∙ ap (history_laid_out w) e ∙ sym (layout ys q))),
  )
