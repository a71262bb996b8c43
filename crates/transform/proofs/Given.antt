-- What the tests of Derive before its room leave known of the inputs, of what they show and of the pieces.
-- Assumes nothing.
use Prim.Native.Nat.{◌-◌, ◌<◌, ◌≤◌, ℕ}
use borrow.Author.Tests.{ltb-false}
use Rattle.std.proofs.lemmas.List.{get_or-map}
use lib.ListN.{get_or, length, length-map, length-take, take}
use mathlib.Core.Bool.{false}
use mathlib.Core.List.{List, [], ◌∷◌, map}
use mathlib.Core.Path.{◌∙◌, ◌≡◌, ap, refl, sym}
use native.Mathlib.Omega.{arith}
use Rattle.value.specs.Digits.{Below}
use Rattle.value.specs.Level.{has_no_code, join, join_all, mark_of}
use Rattle.value.specs.Slice.{any}
use Rattle.value.specs.declared.States.{States}
use Rattle.value.proofs.Digits.{below_append}
use Rattle.value.proofs.Levels.{all_below_lem, mark_join}
use Rattle.value.proofs.Tests.{or_left, or_right}
use Rattle.fst.specs.Record.{Kept, kept_in, largest_in}
use Rattle.runs.specs.All.{All}
use Rattle.runs.proofs.All.{all_at, all_both}
use Rattle.signal.specs.Decode.{entries_in, levels_in}
use Rattle.signal.proofs.Entries.{entries_each}
use Rattle.derivation.specs.Piece.{is_bad_piece, pieces_of}
use Rattle.derivation.specs.declared.DerivedBitVecSignal.{DerivedBitVecSignal}
use Rattle.derivation.specs.declared.Extract.{Extract}
use Rattle.derivation.proofs.Pieces.{Sound, sound}
use Rattle.steps.specs.Inputs.{input_kept, inputs_of, is_bad_input, is_no_bit_vector, kept_all, mark_is_bad, starts_late}
use Rattle.steps.specs.Cursor.{Cursor}
use Rattle.steps.specs.Stepping.{Showing, at_start, input_of, levels_now, set_now, width_now}
use Rattle.steps.specs.declared.Input.{Input}
use Rattle.steps.specs.declared.Inputs.{Inputs}
use Rattle.steps.proofs.InputTests.{Stands, no_input}
use Rattle.steps.proofs.Standing.{Source, all_behind, all_none, all_none_map, all_stand, set_within, showing, shows}
use Rattle.steps.proofs.Tracks.{Begun, Shows, Within, bytes_shown, r_indices}
use Rattle.transform.specs.Derive.{code_is_bad, is_beyond, largest_among, pick_is_bad, picked_of}
use Rattle.transform.specs.Picking.{PieceIn, Stepped, Under, Walkable, largest_now, largest_over, picked_now}
use Rattle.transform.specs.Refusals.{Derivable}
use Rattle.transform.proofs.PieceTests.{Fit, beyond_by_width, code_by_entries, fit, fit_wide, named}

-- ---- the sets

all_under : (bytes : List ℕ) (S : States) (cs : List Cursor) → mark_of (largest_now bytes cs) ≤ mark_of S → All (Under bytes S) cs
unfolding join_all
all_under bytes S [] h = tt
all_under bytes S (c ∷ cs) h =
    let j = mark_join (set_now bytes c) (largest_now bytes cs) in
    (omega arith, all_under bytes S cs (omega arith))

abbrev SetWithin : List ℕ → Cursor → Type 0
SetWithin bytes c = mark_of (set_now bytes c) ≤ mark_of (largest_in c.input.description.encoding)

largest_within : (bytes indices : List ℕ) (cs : List Cursor) → All (SetWithin bytes) cs
    → mark_of (largest_now bytes cs) ≤ mark_of (largest_among (map (input_kept bytes indices) (map input_of cs)))
unfolding join_all kept_in
largest_within bytes indices [] h = omega arith
largest_within bytes indices (c ∷ cs) h =
    let a = mark_join (set_now bytes c) (largest_now bytes cs) in
    let b = mark_join (largest_in c.input.description.encoding) (largest_among (map (input_kept bytes indices) (map input_of cs))) in
    let r = largest_within bytes indices cs h.1 in
    omega (arith, h.0)

pub largest_is : (bytes indices : List ℕ) (is : List Input) → largest_over is ≡ largest_among (map (input_kept bytes indices) is)
unfolding join_all kept_in
largest_is bytes indices [] = refl
largest_is bytes indices (i ∷ is) = ap (join (largest_in i.description.encoding)) (largest_is bytes indices is)

-- ---- what Derive is given, once no number before 7 refuses it

module _ {d : DerivedBitVecSignal} {inputs : Inputs} {bytes indices : List ℕ} {M : States} (W : Walkable d inputs bytes indices M) where
  abbrev ks : List Kept
  ks = kept_all bytes indices inputs

  abbrev is : List Input
  is = inputs_of inputs

  abbrev D : Derivable d inputs bytes indices
  D = W.derivable

  tests : Fit d inputs.count ks
  tests = fit d inputs.count ks D.fit

  parts : Sound d
  parts = sound d tests.sound

  pub few_inputs : inputs.count ≤ 8
  few_inputs = omega (arith, tests.counted, parts.named)

  pub few_used : length is ≤ 8
  few_used = omega (arith, few_inputs, length-take inputs.count inputs.slots)

  pub narrow : d.width ≤ 4096
  narrow = parts.narrow

  pub stand : All (Stands bytes indices) is
  stand = all_stand is bytes indices D.stand

  pub sources : All (Source bytes indices) is
  unfolding kept_in
  sources =
      let f = input_kept bytes indices in
      let a = all_none (is_bad_input bytes indices) is D.stand in
      let b = all_none_map is_no_bit_vector f is tests.vectors in
      let m = all_none_map mark_is_bad f is D.marked in
      all_both (λ i. (is_bad_input bytes indices i ≡ false) × (is_no_bit_vector (f i) ≡ false)) (λ i. mark_is_bad (f i) ≡ false) (Source bytes indices)
      (λ i x y. record { stands = x.0; vector = x.1; marked = y }) is
      (all_both _ _ _ (λ i x y. (x, y)) is a b) m

  -- 15
  pub early : All (λ i. starts_late (input_kept bytes indices i) ≡ false) is
  early = all_none_map starts_late (input_kept bytes indices) is D.begun

  pub wide : 0 < length (pieces_of d) → 1 ≤ d.width
  wide = fit_wide tests

  -- each piece names an input
  signals : (e : Extract) → is_bad_piece d.input_count e ≡ false → is_beyond ks e ≡ false → e.signal < length is
  signals e b o = rw (length-map is (input_kept bytes indices)) at (named ks d.input_count e b o)

  module _ (cs : List Cursor) (behind : map input_of cs ≡ is) where
    as_many : length cs ≡ length is
    as_many = sym (length-map cs input_of) ∙ ap length behind

    -- the input behind a cursor
    behind_at : (i : ℕ) (c : Cursor) → i < length cs → (get_or cs i c).input ≡ get_or is i c.input
    behind_at i c h = sym (get_or-map input_of cs i c c.input h) ∙ ap (λ (l : List Input). get_or l i c.input) behind

    pieces_in : All (PieceIn cs) (pieces_of d)
    pieces_in =
        all_both (λ e. is_bad_piece d.input_count e ≡ false) (λ e. is_beyond ks e ≡ false) (PieceIn cs)
        (λ e b o.
        let s : e.signal < length is = signals e b o in
        let t : e.signal < length cs = rw as_many s in
        let c = at_start no_input in
        let n = ltb-false _ _ (sym (beyond_by_width bytes indices is e s c.input) ∙ o) in
        (t, rw (get_or-map width_now cs e.signal c 0 t, behind_at e.signal c t) n))
        (pieces_of d) (all_none (is_bad_piece d.input_count) (pieces_of d) parts.pieces) (all_none (is_beyond ks) (pieces_of d) tests.within)

    module _ (b : All Begun cs) (w : All Within cs) where
      all_known : (P : Cursor → Type 0) → ((c : Cursor) → Source bytes indices c.input → Begun c → Within c → P c) → All P cs
      all_known P f =
          all_both (λ c. Source bytes indices c.input) (λ c. Begun c × Within c) P (λ c s x. f c s x.0 x.1) cs
          (all_behind (Source bytes indices) cs (rw behind sources))
          (all_both Begun Within (λ c. Begun c × Within c) (λ c x y. (x, y)) cs b w)

      pub all_shows : All (Shows bytes indices) cs
      all_shows = all_known (Shows bytes indices) shows

      pub set_in_lem : mark_of (largest_now bytes cs) ≤ mark_of M
      set_in_lem = rw (W.largest, ← behind) (largest_within bytes indices cs (all_known (SetWithin bytes) set_within))

      -- each picked level is a letter's
      letters_of : (e : Extract) → is_bad_piece d.input_count e ≡ false → is_beyond ks e ≡ false → code_is_bad ks e ≡ false
          → Below 9 (picked_of e (get_or (map (levels_now bytes) cs) e.signal []))
      unfolding kept_in
      letters_of e x o y =
          let s : e.signal < length is = signals e x o in
          let t : e.signal < length cs = rw as_many s in
          let z = at_start no_input in
          let c = get_or cs e.signal z in
          let i = c.input in
          let h = all_at (Shows bytes indices) cs all_shows e.signal z t in
          let n : c.begun - 1 < length (input_kept bytes indices i).indices = rw (r_indices bytes indices c h) (omega (arith, h.begun, h.within)) in
          let f : any (pick_is_bad e) (entries_in (input_kept bytes indices i)) ≡ false = rw (behind_at e.signal z t) (sym (code_by_entries bytes indices is e s z.input) ∙ y) in
          let q = entries_each (input_kept bytes indices i) (pick_is_bad e) f (c.begun - 1) n in
          rw (get_or-map (levels_now bytes) cs e.signal z [] t)
          (all_below_lem (picked_of e (levels_now bytes c))
          (ap (λ (v : List ℕ). has_no_code (picked_of e (levels_in i.description.encoding v))) (sym (bytes_shown bytes indices c h)) ∙ q))

      letters : Below 9 (picked_now bytes cs (pieces_of d))
      unfolding any picked_now
      letters = go (pieces_of d) parts.pieces tests.within D.coded
        where
          go : (es : List Extract) → any (is_bad_piece d.input_count) es ≡ false → any (is_beyond ks) es ≡ false → any (code_is_bad ks) es ≡ false → Below 9 (picked_now bytes cs es)
          go [] x o y = tt
          go (e ∷ es) x o y =
              let B = is_bad_piece d.input_count in
              below_append 9 (picked_of e (get_or (map (levels_now bytes) cs) e.signal [])) (picked_now bytes cs es)
              (letters_of e (or_left (B e) (any B es) x) (or_left (is_beyond ks e) (any (is_beyond ks) es) o) (or_left (code_is_bad ks e) (any (code_is_bad ks) es) y))
              (go es (or_right (B e) (any B es) x) (or_right (is_beyond ks e) (any (is_beyond ks) es) o) (or_right (code_is_bad ks e) (any (code_is_bad ks) es) y))

      pub stepped : 0 < length (pieces_of d) → Stepped cs bytes (take d.piece_count d.bits) (largest_now bytes cs) d.width
      stepped some =
          record {
            shown = all_known (Showing bytes) showing;
            pieces = pieces_in;
            under = all_under bytes (largest_now bytes cs) cs (omega arith);
            letters = letters;
            whole = sym parts.whole;
            wide = wide some;
            narrow = parts.narrow;
          }
