-- Demand 3 of the calls that take the recorder lent: their runs are the runs of descriptions, by numbers.
-- Assumes nothing.
use mathlib.Core.Path.{◌≡◌, refl, sym, ap, ◌∙◌, subst}
use mathlib.Core.Logic.Iff
use mathlib.Core.Logic.{◌↔◌}
use mathlib.Core.Bool.{false}
use mathlib.Core.List.{List, [], ◌∷◌}
use Prim.Native.Nat.{ℕ, ◌≤◌}
use lib.ListN.{length}
use Rattle.value.specs.declared.States.{States}
use Rattle.value.specs.Level.{mark_of}
use Rattle.value.proofs.Levels.{mark_inj}
use Rattle.fst.specs.declared.Description.{Description}
use Rattle.fst.specs.declared.Encoding.{Encoding}
use Rattle.fst.specs.Refusal.{Outcome}
use Rattle.fst.specs.Record.{Lent, Held, max_width, largest_in, held_in, kept_of}
use Rattle.fst.specs.Change.{Change, add_change}
use Rattle.runs.specs.Runs.{by_value, Call, left_in, leaves, Run, fresh_held, after, fed, history_of, history_laid_out, Seen, Same}
use Rattle.offset.specs.Offset.{falls}
use Rattle.search.proofs.Rising.{Rises, empty_held, run_rises, run_keeps_rising}
use Rattle.runs.proofs.Demand3.{fresh_gives, run_is_laid_out, run_counts, demand_3}
use Rattle.yoksimert.specs.declared.FlatDescription.{FlatDescription}
use Rattle.yoksimert.specs.Flat.{encoded}
use Rattle.yoksimert.specs.Exports.{FlatRecorder, flat_left, flat_add}
use Rattle.yoksimert.specs.Recorder.{flat_kept_in, flat_kept_of, by_numbers, flat_start}
use Rattle.yoksimert.proofs.Numbers.{back}

-- a description by its numbers, with the same used part
abbrev pub flat_held : Held Description → Held FlatDescription
flat_held h = record { description = encoded h.description; bytes = h.bytes; indices = h.indices }

kept_of_lem : (h : Held Description) → flat_kept_of (flat_held h) ≡ kept_of h
kept_of_lem h = rw (back h.description)

-- ---- one call

pub kept_by : (d : Description) (l : Lent) → flat_kept_in (encoded d) l ≡ flat_held (held_in d l)
unfolding flat_kept_in
kept_by d l = rw (back d)

added_by : (d : Description) (l : Lent) (i : ℕ) (c : Change) → flat_add (encoded d) l i c ≡ flat_left (add_change d l i c)
unfolding flat_add
added_by d l i c = rw (back d)

leaves_by : (k : Held Description) (c : Call) → leaves by_numbers (flat_held k) c ≡ flat_held (leaves by_value k c)
unfolding leaves
leaves_by k c =
    ap (λ (o : Outcome FlatRecorder). left_in by_numbers c.lent o.left) (added_by k.description c.lent c.index c.change) ∙ kept_by _ _

-- ---- runs

run_of : (k : Held Description) (cs : List Call) → Run by_numbers (flat_held k) cs → Run by_value k cs
unfolding Run
run_of k [] r = tt
run_of k (c ∷ cs) r =
    (holds (sym (kept_by k.description c.lent) ∙ r.0), run_of (leaves by_value k c) cs (subst (λ (j : Held FlatDescription). Run by_numbers j cs) (leaves_by k c) r.1))
  where
    holds : flat_held (held_in k.description c.lent) ≡ flat_held k → held_in k.description c.lent ≡ k
    holds e = ap (λ (j : Held FlatDescription). record { description = k.description; bytes = j.bytes; indices = j.indices }) e

-- and each run is one of the calls
pub run_by : (k : Held Description) (cs : List Call) → Run by_value k cs → Run by_numbers (flat_held k) cs
unfolding Run
run_by k [] r = tt
run_by k (c ∷ cs) r =
    (kept_by k.description c.lent ∙ ap flat_held r.0, subst (λ (j : Held FlatDescription). Run by_numbers j cs) (sym (leaves_by k c)) (run_by (leaves by_value k c) cs r.1))

after_by : (k : Held Description) (cs : List Call) → after by_numbers (flat_held k) cs ≡ flat_held (after by_value k cs)
unfolding after
after_by k [] = refl
after_by k (c ∷ cs) = ap (λ (j : Held FlatDescription). after by_numbers j cs) (leaves_by k c) ∙ after_by (leaves by_value k c) cs

fed_by_lem : (k : Held Description) (cs : List Call) → fed by_numbers (flat_held k) cs ≡ fed by_value k cs
unfolding fed
fed_by_lem k [] = refl
fed_by_lem k (c ∷ cs) =
    rw (added_by k.description c.lent c.index c.change, leaves_by k c, fed_by_lem (leaves by_value k c) cs)

pub same_iff : (k l : Held Description) → Same by_numbers (flat_held k) (flat_held l) ↔ Same by_value k l
same_iff k l = (
  λ s. rw (ap (λ (x : Seen ℕ). x.indices) s, ap (λ (x : Seen ℕ). x.bytes) s, mark_inj (largest_in k.description.encoding) (largest_in l.description.encoding) (ap (λ (x : Seen ℕ). x.largest) s)),
  λ s. ap (λ (x : Seen States). record { indices = x.indices; bytes = x.bytes; largest = mark_of x.largest }) s,
)

-- ---- no index falls

-- from a record that doesn't fall, such as one that a service goes on with
pub flat_run_keeps_rising : (k : Held Description) → Rises k → (cs : List Call) → Run by_numbers (flat_held k) cs
    → falls (after by_numbers (flat_held k) cs).indices ≡ false
flat_run_keeps_rising k h cs r = rw (after_by k cs) (run_keeps_rising k h cs (run_of k cs r)).rises

-- from Fresh, of whatever kind and width
pub flat_run_rises : (e : Encoding) (cs : List Call) → Run by_numbers (flat_held (empty_held e)) cs
    → falls (after by_numbers (flat_held (empty_held e)) cs).indices ≡ false
flat_run_rises e cs r = rw (after_by (empty_held e) cs) (run_rises e cs (run_of (empty_held e) cs r))

-- ---- demand 3

-- "After every run the record is its history laid out"
pub flat_laid_out : (w : ℕ) → 1 ≤ w → w ≤ max_width → (f : FlatDescription) (cs : List Call) → Run by_numbers (flat_start f w) cs
    → flat_kept_of (after by_numbers (flat_start f w) cs) ≡ history_laid_out w (history_of (fed by_numbers (flat_start f w) cs))
flat_laid_out w a b f cs =
    let k = fresh_held w in
    rw (fresh_gives w a b) (λ r. rw (after_by k cs, fed_by_lem k cs) (kept_of_lem (after by_value k cs) ∙ run_is_laid_out w a cs (run_of k cs r)))

-- "The count is the number of pairs"
pub flat_counts : (w : ℕ) → 1 ≤ w → w ≤ max_width → (f : FlatDescription) (cs : List Call) → Run by_numbers (flat_start f w) cs
    → (after by_numbers (flat_start f w) cs).description.count ≡ length (history_of (fed by_numbers (flat_start f w) cs))
flat_counts w a b f cs =
    let k = fresh_held w in
    rw (fresh_gives w a b) (λ r. rw (after_by k cs, fed_by_lem k cs) (run_counts w a cs (run_of k cs r)))

-- two runs of the calls, of one width, leave equal records just where their histories are equal
pub flat_demand_3 : (w : ℕ) → 1 ≤ w → w ≤ max_width → (xs ys : List Call) (f g : FlatDescription)
    → Run by_numbers (flat_start f w) xs → Run by_numbers (flat_start g w) ys
    → Same by_numbers (after by_numbers (flat_start f w) xs) (after by_numbers (flat_start g w) ys)
    ↔ (history_of (fed by_numbers (flat_start f w) xs) ≡ history_of (fed by_numbers (flat_start g w) ys))
flat_demand_3 w a b xs ys f g =
    let k = fresh_held w in
    rw (fresh_gives w a b)
    (λ r q.
    rw (after_by k xs, after_by k ys, fed_by_lem k xs, fed_by_lem k ys)
    (Iff.trans (same_iff (after by_value k xs) (after by_value k ys)) (demand_3 w a xs ys (run_of k xs r) (run_of k ys q))))
