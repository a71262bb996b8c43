-- What a refused and an accepted call do to a record and its history.
-- Assumes nothing.
use mathlib.Core.Path.{◌≡◌, refl, sym, ap, ◌∙◌}
use Prim.Native.Nat.{ℕ, suc}
use mathlib.Core.Bool.{Bool, true, false}
use mathlib.Core.List.{List, [], ◌∷◌, ◌++◌, foldl, append_assoc, append-nil, foldl-append}
use Rattle.value.specs.Level.{fold_all}
use Rattle.value.proofs.Tests.{from_t}
use Rattle.value.proofs.Slices.{same_refl}
use Rattle.fst.specs.declared.Description.{Description}
use Rattle.fst.specs.Record.{Lent, Held, kept_in}
use Rattle.fst.specs.Change.{Change, text, real, with_change, refusals, in_hand, stored, add_change}
use Rattle.runs.specs.Runs.{by_value, Call, leaves, after, Fed, fed, Pair, ends_like, same_string, fed_one, history_of}
use Rattle.runs.proofs.Joined.{joined_grows, joined_ends}
use Rattle.fst.proofs.Refusals.{refused_old}

-- a refused call leaves the description and both slices as they were, whole
pub refused_unchanged : (d : Description) (l : Lent) (i : ℕ) (c : Change) (n : ℕ) → (add_change d l i c).refused ≡ suc n
    → (add_change d l i c).left ≡ in_hand d l
unfolding add_change refusals
refused_unchanged d l i c n e = refused_old (refusals d l i c) tt (in_hand d l) (stored l (with_change (kept_in d l) i c)) n e

-- ---- a history grows at its end, and nowhere else

fed_grows : (h : List Pair) (i : ℕ) (c : Change) (b : Bool)
    → (t : List Pair) × (fed_one h (record { index = i; change = c; accepted = b }) ≡ h ++ t)
fed_grows h i (text s) true = joined_grows same_string h (record { index = i; string = fold_all s })
fed_grows h i (text s) false = ([], sym (append-nil h))
fed_grows h i (real x) b = ([], sym (append-nil h))

all_grow : (h : List Pair) (fs : List Fed) → (t : List Pair) × (foldl fed_one h fs ≡ h ++ t)
all_grow h [] = ([], sym (append-nil h))
all_grow h (f ∷ fs) =
    let one = fed_grows h f.index f.change f.accepted in
    let rest = all_grow (fed_one h f) fs in
    (one.0 ++ rest.0, rest.1 ∙ ap (λ (g : List Pair). g ++ rest.0) one.1 ∙ append_assoc h one.0 rest.0)

fed_append : (k : Held Description) (cs ds : List Call) → fed by_value k (cs ++ ds) ≡ fed by_value k cs ++ fed by_value (after by_value k cs) ds
unfolding fed after
fed_append k [] ds = refl
fed_append k (c ∷ cs) ds = rw (fed_append (leaves by_value k c) cs ds)

-- no later call, accepted or refused, loses or alters a pair
pub history_grows : (k : Held Description) (cs ds : List Call) → (t : List Pair) × (history_of (fed by_value k (cs ++ ds)) ≡ history_of (fed by_value k cs) ++ t)
history_grows k cs ds =
    let rest = all_grow (history_of (fed by_value k cs)) (fed by_value (after by_value k cs) ds) in
    (rest.0, ap history_of (fed_append k cs ds) ∙ foldl-append fed_one [] (fed by_value k cs) (fed by_value (after by_value k cs) ds) ∙ rest.1)

-- ---- and an accepted string is its last

pub accepted_ends : (h : List Pair) (i : ℕ) (s : List ℕ)
    → ends_like same_string (fed_one h (record { index = i; change = text s; accepted = true })) (record { index = i; string = fold_all s }) ≡ true
accepted_ends h i s =
    joined_ends same_string h (record { index = i; string = fold_all s }) (from_t _ (same_refl (fold_all s)))
