-- What the calls store in a lent recorder: a change keeps the kind and the width.
-- Assumes nothing.
use mathlib.Core.Path.{◌≡◌, refl, sym, ap, ◌∙◌, subst}
use mathlib.Core.Bool.{Bool, true, false, cond}
use mathlib.Core.List.{List, [], ◌∷◌, ◌++◌}
use Prim.Native.Nat.{ℕ}
use lib.ListN.{length}
use Rattle.fst.specs.declared.Encoding.{Encoding}
use Rattle.fst.specs.declared.Encoding.TheVariants.{Event, Real, BitVector}
use Rattle.fst.specs.declared.Description.{Description}
use Rattle.fst.specs.declared.Added.{Added}
use Rattle.fst.specs.Refusal.{Reply, given, tried, Outcome, outcome, number_of}
use Rattle.fst.specs.Record.{Lent, Kept, Recorder, size_of, width_of, kept_in}
use Rattle.fst.specs.Change.{Change, text, real, appended, changed, with_change, refusals, in_hand, stored, add_change, left_by}
use Rattle.entries.specs.Repeats.{repeats}
use Rattle.fst.proofs.Refusals.{Result, through, stopped, result}
use Rattle.signal.specs.Read.{kind_of}
use Rattle.yoksimert.specs.declared.FlatDescription.{FlatDescription}
use Rattle.std.specs.Prelude.{Ok}
use Rattle.yoksimert.specs.Flat.{decoded, kind_number, encoded}
use Rattle.yoksimert.specs.Exports.{flat_add, left_by_flat}
use Rattle.yoksimert.specs.Recorder.{recorded_by}
use Rattle.yoksimert.proofs.Numbers.{forth}
use Rattle.yoksimert.proofs.Flattened.{add_known}

-- ---- kind and width

-- two encodings agree in both
record Alike (e g : Encoding) : Type 0 where
  kind : kind_of e ≡ kind_of g
  width : width_of e ≡ width_of g

alike : {e : Encoding} → Alike e e
alike = record { kind = refl; width = refl }

appended_keeps : (e : Encoding) (bytes indices : List ℕ) (i : ℕ) (new : List ℕ) → (appended e bytes indices i new).encoding ≡ e
unfolding appended
appended_keeps e bytes indices i new = go (repeats (size_of e) (length indices) bytes new)
  where
    go : (b : Bool) → (cond {A = Kept} b (record { encoding = e; bytes = bytes; indices = indices }) (record { encoding = e; bytes = bytes ++ new; indices = indices ++ (i ∷ []) })).encoding ≡ e
    go true = refl
    go false = refl

changed_alike : (e : Encoding) (bytes indices : List ℕ) (i : ℕ) (c : Change) → Alike (changed e bytes indices i c).encoding e
unfolding changed
changed_alike Event bytes indices i (text s) = alike
changed_alike Event bytes indices i (real x) = alike
changed_alike Real bytes indices i (text s) = alike
changed_alike Real bytes indices i (real x) = rw appended_keeps alike
changed_alike (BitVector w M) bytes indices i (text s) = rw appended_keeps (record { kind = refl; width = refl })
changed_alike (BitVector w M) bytes indices i (real x) = alike

-- of what a call leaves: the old description, or the new one
added_alike : (d : Description) (l : Lent) (i : ℕ) (c : Change) → Alike (add_change d l i c).left.description.encoding d.encoding
unfolding add_change refusals stored kept_in
added_alike d l i c = go (result (given new) (refusals d l i c) tt)
  where
    new : Recorder Description
    new = stored l (with_change (kept_in d l) i c)

    Claim : Reply (Recorder Description) → Type 0
    Claim r = Alike (outcome (in_hand d l) r).left.description.encoding d.encoding

    go : Result (given new) (refusals d l i c) → Claim (tried (refusals d l i c) (given new))
    go (through p e) = subst Claim (sym e) (changed_alike d.encoding _ _ i c)
    go (stopped n e) = subst Claim (sym e) alike

-- ---- the calls

module _ (f : FlatDescription) (l : Lent) (i : ℕ) (c : Change) where
  pub record_known : {d : Description} → decoded f ≡ Ok d → (a : Added) {bytes indices : List ℕ} → left_by a bytes indices ≡ add_change d l i c
      → {n : ℕ} → n ≡ number_of a.verdict → {g : FlatDescription} → g ≡ recorded_by f a → left_by_flat n g bytes indices ≡ flat_add f l i c
  record_known {d} h a {bytes} {indices} e p q = rw (p, q, same) (add_known f l i c h a e)
    where
      was : encoded d ≡ f
      was = forth f d h

      stays : Alike a.next.encoding d.encoding
      stays = rw (ap (λ (o : Outcome (Recorder Description)). o.left.description) e) (added_alike d l i c)

      kind : f.kind ≡ (encoded a.next).kind
      kind = ap (λ (g : FlatDescription). g.kind) (sym was) ∙ ap kind_number (sym stays.kind)

      width : f.width ≡ (encoded a.next).width
      width = ap (λ (g : FlatDescription). g.width) (sym was) ∙ sym stays.width

      same : recorded_by f a ≡ encoded a.next
      same = rw (kind, width)
