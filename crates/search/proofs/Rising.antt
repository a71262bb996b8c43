-- No index of a record that runs leave falls: of a bit vector, a real or an event, from a fresh one on or from another that doesn't fall.
-- Assumes nothing.
use mathlib.Core.Path.{◌≡◌, refl, sym, ap, ◌∙◌, subst}
use mathlib.Core.Bool.{Bool, true, false, cond}
use mathlib.Core.List.{List, [], ◌∷◌, ◌++◌}
use Prim.Native.Nat.{ℕ}
use native.Mathlib.Omega.{arith}
use lib.Dec.{ltb}
use lib.ListN.{length}
use Rattle.value.proofs.Tests.{or_left, or_right, or_both}
use Rattle.value.proofs.Slices.{part_overlay}
use Rattle.fst.specs.declared.Encoding.{Encoding}
use Rattle.fst.specs.declared.Encoding.TheVariants.{Event, Real, BitVector}
use Rattle.fst.specs.declared.Description.{Description}
use Rattle.fst.specs.Refusal.{Reply, given, tried, outcome}
use Rattle.fst.specs.Record.{Lent, Kept, Held, Recorder, size_of, kept_in, held_in, empty}
use Rattle.fst.specs.Change.{Change, text, real, is_below_last, appended, changed, with_change, refusals, in_hand, stored, add_change}
use Rattle.entries.specs.Repeats.{repeats}
use Rattle.fst.proofs.Refusals.{Passed, Result, through, stopped, result}
use Rattle.fst.proofs.Records.{standing}
use Rattle.runs.specs.Runs.{by_value, Call, left_in, leaves, Run, after}
use Rattle.offset.specs.Offset.{falls, look_up}
use Rattle.search.specs.Quartering.{search}
use Rattle.search.proofs.Searched.{search_is_look_up}

-- ---- one index more

rises_more : (l : List ℕ) (i : ℕ) → falls l ≡ false → is_below_last i (length l) l ≡ false → falls (l ++ (i ∷ [])) ≡ false
unfolding falls is_below_last
rises_more [] i f h = refl
rises_more (x ∷ []) i f h = or_both (ltb i x) false h refl
rises_more (x ∷ y ∷ l) i f h =
    or_both (ltb y x) (falls ((y ∷ l) ++ (i ∷ []))) (or_left (ltb y x) (falls (y ∷ l)) f)
    (rises_more (y ∷ l) i (or_right (ltb y x) (falls (y ∷ l)) f) h)

module _ (bytes indices : List ℕ) (i : ℕ) (f : falls indices ≡ false) (h : is_below_last i (length indices) indices ≡ false) where
  appended_rises : (e : Encoding) (old new : List ℕ) → falls (appended e old indices i new).indices ≡ false
  unfolding appended
  appended_rises e old new = go (repeats (size_of e) (length indices) old new)
    where
      go : (b : Bool)
          → falls (cond {A = Kept} b (record { encoding = e; bytes = old; indices = indices }) (record { encoding = e; bytes = old ++ new; indices = indices ++ (i ∷ []) })).indices
          ≡ false
      go true = f
      go false = rises_more indices i f h

  changed_rises : (e : Encoding) (c : Change) → falls (changed e bytes indices i c).indices ≡ false
  unfolding changed
  changed_rises Event (text s) = rises_more indices i f h
  changed_rises Event (real x) = f
  changed_rises Real (text s) = f
  changed_rises Real (real x) = appended_rises _ _ _
  changed_rises (BitVector w M) (text s) = appended_rises _ _ _
  changed_rises (BitVector w M) (real x) = f

-- ---- one call

-- a record that counts its indices, none of which falls
pub record Rises (k : Held Description) : Type 0 where
  pub counted : k.description.count ≡ length k.indices
  pub rises : falls k.indices ≡ false

module _ (d : Description) (l : Lent) (i : ℕ) (ch : Change) (held : Rises (held_in d l)) where
  abbrev new : Kept
  new = with_change (kept_in d l) i ch

  abbrev Left : Reply (Recorder Description) → Type 0
  Left r = Rises (left_in by_value l (outcome (in_hand d l) r).left)

  given_rises : Passed (refusals d l i ch) → Left (given (stored l new))
  unfolding kept_in stored refusals
  given_rises ps =
      let found : (left_in by_value l (stored l new)).indices ≡ new.indices =
      part_overlay l.indices new.indices l.index_start (length new.indices) (omega (arith, (standing ps.0).room.indices)) refl in
      let last = ap (λ (n : ℕ). is_below_last i n (kept_in d l).indices) (sym held.counted) ∙ ps.1.1.1.1.0 in
      record {
        counted = sym (ap length found);
        rises = ap falls found ∙ changed_rises (kept_in d l).bytes (kept_in d l).indices i held.rises last d.encoding ch;
      }

  call_rises : Rises (left_in by_value l (add_change d l i ch).left)
  unfolding add_change refusals
  call_rises = go (result (given (stored l new)) (refusals d l i ch) tt)
    where
      go : Result (given (stored l new)) (refusals d l i ch) → Left (tried (refusals d l i ch) (given (stored l new)))
      go (through ps e) = subst Left (sym e) (given_rises ps)
      go (stopped n e) = subst Left (sym e) held

-- ---- runs

-- from a record that doesn't fall, such as one that a service goes on with
pub run_keeps_rising : (k : Held Description) → Rises k → (cs : List Call) → Run by_value k cs → Rises (after by_value k cs)
unfolding Run after leaves
run_keeps_rising k h [] r = h
run_keeps_rising k h (c ∷ cs) r =
    run_keeps_rising (leaves by_value k c) (call_rises k.description c.lent c.index c.change (subst Rises (sym r.0) h)) cs r.1

-- of an encoding without an entry
abbrev pub empty_held : Encoding → Held Description
empty_held e = record { description = empty e; bytes = []; indices = [] }

-- from Fresh, of whatever kind and width
pub run_rises : (e : Encoding) (cs : List Call) → Run by_value (empty_held e) cs → falls (after by_value (empty_held e) cs).indices ≡ false
unfolding falls
run_rises e cs r = (run_keeps_rising (empty_held e) (record { counted = refl; rises = refl }) cs r).rises

-- so Search is Look up in each record of a run
pub run_searched : (e : Encoding) (cs : List Call) → Run by_value (empty_held e) cs → (s : ℕ)
    → let l = (after by_value (empty_held e) cs).indices in
    search l s ≡ look_up l s
run_searched e cs r s = search_is_look_up _ s (run_rises e cs r)
