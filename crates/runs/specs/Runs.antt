-- Document 01, "Runs and histories, for demand 3".
-- Assumes nothing.
use Rattle.std.specs.Prelude.{ℕ, ◌≡◌, Bool, true, false, cond, eqb}
use mathlib.Core.List.{List, [], ◌∷◌, ◌++◌, map, foldl}
use Rattle.value.specs.declared.States.{States}
use Rattle.value.specs.declared.States.TheVariants.{Two}
use Rattle.value.specs.Slice.{same}
use Rattle.value.specs.Level.{fold_all, codes_of, join_all, least_of}
use Rattle.fst.specs.declared.Description.{Description}
use Rattle.fst.specs.declared.Encoding.TheVariants.{BitVector}
use Rattle.fst.specs.Refusal.{Outcome}
use Rattle.layout.specs.Entry.{entry_of}
use Rattle.fst.specs.Record.{Lent, lent, Kept, Held, Recorder, largest_in, held_in, empty}
use Rattle.fst.specs.Change.{Change, text, real, add_change}

-- ---- a run

-- what records of one sort of description are: what a description finds in two slices, how a change is added there, and its largest set
pub record Records (D : Type 0) : Type 1 where
  pub found : D → Lent → Held D
  pub added : D → Lent → ℕ → Change → Outcome (Recorder D)
  pub Set : Type 0
  pub largest : D → Set

-- those of Add a change by value
abbrev pub by_value : Records Description
by_value = record { found = held_in; added = add_change; Set = States; largest = λ d. largest_in d.encoding }

-- one change of a run, with the slices lent for it
pub record Call : Type 0 where
  pub lent : Lent
  pub index : ℕ
  pub change : Change

abbrev pub called : {D : Type 0} → Records D → Held D → Call → Outcome (Recorder D)
called R k c = R.added k.description c.lent c.index c.change

-- the record that is found where a call left it, from the same starts on
abbrev pub left_in : {D : Type 0} → Records D → Lent → Recorder D → Held D
left_in R l r = R.found r.description (lent r.bytes l.byte_start r.indices l.index_start)

-- the record that a call leaves in its slices
unfoldable pub leaves : {D : Type 0} → Records D → Held D → Call → Held D
leaves R k c = left_in R c.lent (called R k c).left

-- "Each change gets the description that the one before it handed back, .. and two lent slices that hold the used part as that call left it"
unfoldable pub Run : {D : Type 0} → Records D → Held D → List Call → Type 0
Run R k [] = Unit
Run R k (c ∷ cs) = (R.found k.description c.lent ≡ k) × Run R (leaves R k c) cs

-- "A run starts with the description that Fresh gives for a width of 1 to 4,096"
abbrev pub fresh_held : ℕ → Held Description
fresh_held w = record { description = empty (BitVector w Two); bytes = []; indices = [] }

-- the record after a run
unfoldable pub after : {D : Type 0} → Records D → Held D → List Call → Held D
after R k [] = k
after R k (c ∷ cs) = after R (leaves R k c) cs

-- ---- its history

-- "It is fed the index and the string or real of each change of the run, and whether the change was accepted"
pub record Fed : Type 0 where
  pub index : ℕ
  pub change : Change
  pub accepted : Bool

unfoldable pub fed : {D : Type 0} → Records D → Held D → List Call → List Fed
fed R k [] = []
fed R k (c ∷ cs) =
    record { index = c.index; change = c.change; accepted = eqb (called R k c).refused 0 } ∷ fed R (leaves R k c) cs

-- "the pair of index and string"
pub record Pair : Type 0 where
  pub index : ℕ
  pub string : List ℕ

-- does a list end in an element that is like x
unfoldable pub ends_like : {A : Type 0} → (A → A → Bool) → List A → A → Bool
ends_like like [] x = false
ends_like like (p ∷ []) x = like p x
ends_like like (p ∷ q ∷ l) x = ends_like like (q ∷ l) x

-- "Where it equals the last .., nothing alters; else .. joins at the end"
unfoldable pub joined : {A : Type 0} → (A → A → Bool) → List A → A → List A
joined like l x = cond (ends_like like l x) l (l ++ (x ∷ []))

abbrev pub same_string : Pair → Pair → Bool
same_string p q = same p.string q.string

-- "A refused change alters nothing. The string of an accepted change is folded to small letters." No real is accepted.
abbrev pub fed_one : List Pair → Fed → List Pair
fed_one h f = go f.change f.accepted
  where
    go : Change → Bool → List Pair
    go (text s) true = joined same_string h (record { index = f.index; string = fold_all s })
    go (text s) false = h
    go (real x) accepted = h

-- "A list of pairs, empty at first"
abbrev pub history_of : List Fed → List Pair
history_of fs = foldl fed_one [] fs

-- ---- a list laid out

-- an index, a string in small letters and its own set
pub record Step : Type 0 where
  pub index : ℕ
  pub string : List ℕ
  pub set : States

abbrev pub index_of : Step → ℕ
index_of s = s.index

-- "the used bytes are the strings' entries in order under that set, each with its .. own set"
unfoldable pub entries_of : ℕ → States → List Step → List ℕ
entries_of w M [] = []
entries_of w M (s ∷ l) = entry_of w M s.set (codes_of s.string) ++ entries_of w M l

-- "the time indices are theirs in order"; a record by itself has as many entries as indices
unfoldable pub laid_out : ℕ → States → List Step → Kept
laid_out w M l = record { encoding = BitVector w M; bytes = entries_of w M l; indices = map index_of l }

-- "each with its string's least set as its own set"
abbrev pub step_of : Pair → Step
step_of p = record { index = p.index; string = p.string; set = least_of (codes_of p.string) }

-- "the largest set is the largest of the strings' least sets, or Two with no pair"
abbrev pub largest_of : List Step → States
largest_of l = join_all (map (λ (s : Step). s.set) l)

-- "After every run the record is its history laid out"
unfoldable pub history_laid_out : ℕ → List Pair → Kept
history_laid_out w h = laid_out w (largest_of (map step_of h)) (map step_of h)

-- ---- demand 3

-- what it looks at in a record: "their time indices, their used bytes and their largest sets"
pub record Seen (S : Type 0) : Type 0 where
  pub indices : List ℕ
  pub bytes : List ℕ
  pub largest : S

abbrev pub seen : Kept → Seen States
seen k = record { indices = k.indices; bytes = k.bytes; largest = largest_in k.encoding }

abbrev pub seen_by : {D : Type 0} → (R : Records D) → Held D → Seen R.Set
seen_by R h = record { indices = h.indices; bytes = h.bytes; largest = R.largest h.description }

-- "Two records are equal in the sense of demand 3 when .. are equal"
abbrev pub Same : {D : Type 0} → Records D → Held D → Held D → Type 0
Same R k l = seen_by R k ≡ seen_by R l
