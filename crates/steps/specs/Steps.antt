-- Document 01, "A derived record": the steps over the inputs, apart from what a step yields.
-- Assumes nothing.
use Rattle.std.specs.Prelude.{Option, None, Some, min, suc, zero, ℕ, eqb, length, Bool, cond}
use mathlib.Core.List.{List, [], ◌∷◌, foldl, map}
use Rattle.value.specs.Slice.{sum}
use Rattle.value.specs.declared.States.{States}
use Rattle.fst.specs.Record.{Kept}
use Rattle.runs.specs.Runs.{joined}
use Rattle.offset.specs.Offset.{head_of}
use Rattle.signal.specs.Decode.{Indexed, entries_in, levels_in, set_in}

-- an entry as an input shows it
pub record Shown : Type 0 where
  pub index : ℕ
  pub set : States
  pub codes : List ℕ

abbrev pub shown_by : Indexed → Shown
shown_by e = record { index = e.index; set = set_in e.encoding e.bytes; codes = levels_in e.encoding e.bytes }

abbrev pub shown_index : Shown → ℕ
shown_index s = s.index

-- an input: what it shows now, nothing before it has begun, and its entries to come
pub record Track : Type 0 where
  pub now : Option Shown
  pub next : List Shown

abbrev pub unbegun : List Shown → Track
unbegun l = record { now = None; next = l }

abbrev pub now_of : Track → Option Shown
now_of t = t.now

-- "the smallest index among the inputs' next entries"
abbrev pub smaller : Option ℕ → Option ℕ → Option ℕ
smaller None b = b
smaller (Some i) None = Some i
smaller (Some i) (Some j) = Some (min i j)

unfoldable pub smallest : List Track → Option ℕ
smallest [] = None
smallest (t ∷ ts) = smaller (head_of (map shown_index t.next)) (smallest ts)

-- "every input whose next entry carries it moves on by one"
unfoldable pub moved : ℕ → Track → Track
moved i t = go t.next
  where
    go : List Shown → Track
    go [] = t
    go (s ∷ l) = cond (eqb s.index i) (record { now = Some s; next = l }) t

-- a step: its index, and what each input then shows
pub record Moment : Type 0 where
  pub index : ℕ
  pub showing : List (Option Shown)

-- the steps at an index and after it; each uses up an entry, so that n steps suffice for n entries to come
unfoldable pub moments_from : ℕ → Option ℕ → List Track → List Moment
moments_from zero i ts = []
moments_from (suc n) None ts = []
moments_from (suc n) (Some i) ts =
    let us = map (moved i) ts in
    record { index = i; showing = map now_of us } ∷ moments_from n (smallest us) us

abbrev pub count_of : Track → ℕ
count_of t = length t.next

-- "Step one: index 0, every input at entry 0. Each later step: .." Every input starts at index 0 (15), so step one follows the same rule.
unfoldable pub moments_of : List (List Shown) → List Moment
moments_of inputs = let ts = map unbegun inputs in moments_from (sum (map count_of ts)) (smallest ts) ts

-- ---- the steps that are kept

abbrev pub shown_in : Kept → List Shown
shown_in k = map shown_by (entries_in k)

-- what the steps over records yield, less each that is like the one kept before it
unfoldable pub kept_steps : {S : Type 0} → (Moment → S) → (S → S → Bool) → List Kept → List S
kept_steps yields like ks = foldl (joined like) [] (map yields (moments_of (map shown_in ks)))
