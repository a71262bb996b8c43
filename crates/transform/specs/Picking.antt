-- Inner: what a step of Derive yields, by where the inputs stand.
-- Assumes nothing.
use Rattle.std.specs.Prelude.{◌+◌, ◌<◌, ◌≤◌, ℕ, get_or, length, List, [], ◌++◌, ◌∷◌, map, ◌≡◌}
use Rattle.value.specs.Digits.{Below}
use Rattle.value.specs.Level.{join_all, mark_of}
use Rattle.value.specs.Slice.{sum}
use Rattle.value.specs.declared.States.{States}
use Rattle.fst.specs.Record.{largest_in}
use Rattle.runs.specs.All.{All}
use Rattle.derivation.specs.Piece.{end_of, extract_of, piece_width}
use Rattle.derivation.specs.declared.DerivedBitVecSignal.{DerivedBitVecSignal}
use Rattle.derivation.specs.declared.Extract.{Extract}
use Rattle.steps.specs.Inputs.{kept_all}
use Rattle.steps.specs.Cursor.{Cursor}
use Rattle.steps.specs.Stepping.{Showing, levels_now, set_now, width_now}
use Rattle.steps.specs.declared.Input.{Input}
use Rattle.steps.specs.declared.Inputs.{Inputs}
use Rattle.transform.specs.Derive.{largest_among, picked_of}
use Rattle.transform.specs.Refusals.{Derivable}
use Rattle.transform.specs.declared.Task.{Task}

abbrev pub largest_now : List ℕ → List Cursor → States
largest_now bytes cs = join_all (map (set_now bytes) cs)

unfoldable pub picked_now : List ℕ → List Cursor → List Extract → List ℕ
picked_now bytes cs [] = []
picked_now bytes cs (e ∷ es) = picked_of e (get_or (map (levels_now bytes) cs) e.signal []) ++ picked_now bytes cs es

-- ---- the characters of a step gathered, and the entry that they make

-- a piece lies within its input's width, and there is room for its characters from a place on
pub record Picks (bytes : List ℕ) (c : Cursor) (e : Extract) (room at : ℕ) : Type 0 where
  pub shows : Showing bytes c
  pub within : end_of e ≤ width_now c
  pub fits : at + e.width ≤ room

abbrev pub PieceIn : List Cursor → Extract → Type 0
PieceIn cs e = (e.signal < length cs) × (end_of e ≤ get_or (map width_now cs) e.signal 0)

-- each piece lies within its input's width, and there is room for the characters of all
pub record Pickable (cs : List Cursor) (bytes packed : List ℕ) (room : ℕ) : Type 0 where
  pub shown : All (Showing bytes) cs
  pub pieces : All (PieceIn cs) (map extract_of packed)
  pub fits : sum (map piece_width (map extract_of packed)) ≤ room

abbrev pub Under : List ℕ → States → Cursor → Type 0
Under bytes S c = mark_of (set_now bytes c) ≤ mark_of S

-- the pieces of a step and its set, of which each picked level is a letter's
pub record Stepped (cs : List Cursor) (bytes packed : List ℕ) (S : States) (width : ℕ) : Type 0 where
  pub shown : All (Showing bytes) cs
  pub pieces : All (PieceIn cs) (map extract_of packed)
  pub under : All (Under bytes S) cs
  pub letters : Below 9 (picked_now bytes cs (map extract_of packed))
  pub whole : sum (map piece_width (map extract_of packed)) ≡ width
  pub wide : 1 ≤ width
  pub narrow : width ≤ 4096

-- ---- all steps

-- what the walk over the steps is given
pub record Walkable (d : DerivedBitVecSignal) (inputs : Inputs) (bytes indices : List ℕ) (M : States) : Type 0 where
  pub derivable : Derivable d inputs bytes indices
  pub largest : M ≡ largest_among (kept_all bytes indices inputs)

abbrev pub WalkableOf : Task → States → Type 0
WalkableOf t M = let s = t.sources.now in Walkable t.derivation.now s.inputs.now s.bytes.now s.indices.now M

-- the largest of the inputs' largest sets
abbrev pub largest_over : List Input → States
largest_over is = join_all (map (λ (i : Input). largest_in i.description.encoding) is)
