-- A record that was laid out is read back: each entry by its own set and its string.
-- Assumes nothing.
use mathlib.Core.Path.{◌≡◌, refl, sym, ap, ◌∙◌, subst}
use mathlib.Core.Bool.{false}
use mathlib.Core.List.{List, map}
use Prim.Native.Nat.{ℕ, ◌*◌, ◌≤◌, ◌<◌}
use native.Mathlib.Nat.{zero-add}
use native.Mathlib.Omega.{arith}
use lib.ListN.{length, get_or, length-map, get_or-map}
use borrow.Author.Tests.{le-ltb}
use Rattle.value.specs.declared.States.{States}
use Rattle.value.specs.Slice.{part, overlay}
use Rattle.fst.specs.declared.Encoding.TheVariants.{BitVector}
use Rattle.fst.specs.declared.Description.{Description}
use Rattle.fst.specs.Refusal.{tried}
use Rattle.layout.specs.Entry.{entry_size}
use Rattle.fst.specs.Record.{Kept, used_size, kept_of, is_bad_bytes}
use Rattle.runs.specs.All.{All}
use Rattle.runs.specs.Runs.{Pair, Step, entries_of, laid_out, step_of, largest_of, history_laid_out, by_value, Call, Run, fresh_held, after, fed, history_of}
use Rattle.runs.proofs.All.{all_at}
use Rattle.runs.proofs.Laid.{entry_for, Sound}
use Rattle.runs.proofs.Laid as laid
use Rattle.layout.proofs.Entries.{laws}
use Rattle.runs.proofs.Runs.{steps_sound}
use Rattle.runs.proofs.Runs as runs
use Rattle.runs.proofs.Demand3.{run_is_laid_out}
use Rattle.signal.specs.Decode.{entry_at, set_in, has_bad_mark, has_bad_code, text_in}
use Rattle.signal.specs.Read.{text_left, read_text}
use Rattle.signal.specs.Parts.{text_stored}
use Rattle.signal.proofs.Reading.{entry_within, text_on}
use Rattle.signal.proofs.EntryBack.{set_back, mark_sound, code_sound, text_back}

-- ---- one entry

-- what an entry says of the step that it was laid out for
pub record Tells (w : ℕ) (M : States) (v : List ℕ) (s : Step) : Type 0 where
  pub mark : has_bad_mark (BitVector w M) v ≡ false
  pub set : set_in (BitVector w M) v ≡ s.set
  pub code : has_bad_code (BitVector w M) v ≡ false
  pub text : text_in (BitVector w M) v ≡ s.string

-- ---- a list laid out

module _ (w : ℕ) (pos : 1 ≤ w) where
  pub entry_tells : (M : States) (s : Step) → Sound w M s → Tells w M (entry_for w M s) s
  entry_tells M s h =
      record {
        mark = mark_sound pos M h.codes h.within;
        set = set_back pos M h.codes h.within;
        code = code_sound pos M h.codes h.within h.letters;
        text = text_back pos M s.string h.codes h.within h.letters;
      }

  -- entry k of a list laid out
  pub laid_entry : (M : States) (l : List Step) (k : ℕ) (d : Step) → k < length l
      → entry_at (BitVector w M) 0 (laid_out w M l).bytes k ≡ entry_for w M (get_or l k d)
  unfolding entry_at laid_out
  laid_entry M l k d h =
      ap (λ (n : ℕ). part n (entry_size w M) (entries_of w M l)) (zero-add (k * entry_size w M)) ∙ laid.entry_at_lem w (laws w pos) M l k d h

  -- reading entry k of a list laid out gives the own set and the string of step k
  pub read_back : (M : States) (l : List Step) → All (Sound w M) l → (k : ℕ) (d : Step) → k < length l
      → Tells w M (entry_at (BitVector w M) 0 (laid_out w M l).bytes k) (get_or l k d)
  read_back M l e k d h = rw (laid_entry M l k d h) (entry_tells M (get_or l k d) (all_at (Sound w M) l e k d h))

  -- and so does Text, wherever the record stands in its slice
  pub text_laid : (M : States) (l : List Step) → All (Sound w M) l → (k : ℕ) (s : Step) → k < length l
      → (d : Description) → d.encoding ≡ BitVector w M → d.count ≡ length l → (bytes : List ℕ) (start : ℕ) (out : List ℕ)
      → part start (used_size d) bytes ≡ (laid_out w M l).bytes → is_bad_bytes d start bytes ≡ false → w ≤ length out
      → read_text d bytes start k out ≡ text_left 0 (overlay out 0 (get_or l k s).string)
  unfolding laid_out text_stored tried
  text_laid M l e k s h d v c bytes start out q b n =
      let p : k < d.count = rw c h in
      let z : entry_at (BitVector w M) 0 (laid_out w M l).bytes k ≡ entry_at d.encoding start bytes k = rw (← q, ← v) (entry_within d bytes start k p) in
      let t = rw z at (read_back M l e k s h) in
      sym (text_on (record { sound = b; below = p }) v refl out) ∙ rw (t.mark, t.code, le-ltb (length out) w n, t.text)

  -- entry k of a run's record tells pair k of its history
  pub read_back_run : (xs : List Call) → Run by_value (fresh_held w) xs → (k : ℕ) (p : Pair)
      → let r = kept_of (after by_value (fresh_held w) xs) in
      let h = history_of (fed by_value (fresh_held w) xs) in
      k < length h → Tells w (largest_of (map step_of h)) (entry_at r.encoding 0 r.bytes k) (step_of (get_or h k p))
  unfolding history_laid_out laid_out
  read_back_run xs r k p n =
      let h = history_of (fed by_value (fresh_held w) xs) in
      let M = largest_of (map step_of h) in
      subst (λ (q : Kept). Tells w M (entry_at q.encoding 0 q.bytes k) (step_of (get_or h k p))) (sym (run_is_laid_out w pos xs r))
      (rw (← get_or-map step_of h k p)
      (read_back M (map step_of h) (steps_sound w M h (runs.spelt w (laws w pos) xs r) (omega arith)) k (step_of p) (rw length-map n)))
