-- A test over pieces: what a loop over them keeps, and what it says of each.
-- Assumes nothing.
use Prim.Native.Nat.{◌+◌, ◌-◌, ◌<◌, ◌≤◌, ℕ}
use borrow.Author.Tests.{eq-eqb, eqb-false, eqb-true, ltb-false, ne_eqb, not-false}
use lib.Dec.{eqb, ltb}
use lib.ListN.{get_or-eq_default, get_or, length, length-map}
use mathlib.Core.Bool.{Bool, ◌||◌, false, not, true, true≢false}
use mathlib.Core.List.{List, [], ◌∷◌, map}
use mathlib.Core.Path.{◌∙◌, ◌≡◌, ap, refl, sym}
use native.Mathlib.Omega.{arith}
use Rattle.value.specs.Level.{bits_of, has_no_code, mark_of, set_at}
use Rattle.value.specs.Slice.{any, part, sum}
use Rattle.value.specs.declared.States.{States}
use Rattle.value.proofs.Digits.{below_drop, below_take}
use Rattle.value.proofs.Levels.{all_below_lem, bits_up, mark_set, mark_small, none_foreign}
use Rattle.value.proofs.Slices.{part_at, part_length}
use Rattle.value.proofs.Tests.{by_le, or_left, or_right}
use Rattle.fst.specs.Record.{Kept, has_no_text, kept_in, largest_in, width_of}
use Rattle.fst.specs.declared.Description.{Description}
use Rattle.fst.specs.declared.Encoding.{Encoding}
use Rattle.fst.specs.declared.Encoding.TheVariants.{BitVector, Event, Real}
use Rattle.runs.specs.All.{All}
use Rattle.runs.proofs.All.{all_of}
use Rattle.signal.specs.Decode.{codes_at, entries_in, entry_at, has_bad_mark, levels_in, mark_in, set_in}
use Rattle.signal.specs.Parts.{Unpacked, unpacked}
use Rattle.signal.proofs.Decoding.{codes_length, few_bits}
use Rattle.signal.proofs.Reading.{codes_are, vector, whole}
use Rattle.derivation.specs.Piece.{Sized, end_of, is_bad_derivation, is_bad_piece, piece_width, pieces_of}
use Rattle.derivation.specs.declared.DerivedBitVecSignal.{DerivedBitVecSignal}
use Rattle.derivation.specs.declared.Extract.{Extract}
use Rattle.derivation.proofs.Joins.{count_is}
use Rattle.derivation.proofs.Pieces.{good_piece, sound}
use Rattle.steps.specs.Inputs.{encoding_of, input_kept, is_no_bit_vector}
use Rattle.steps.specs.declared.Input.{Input}
use Rattle.std.specs.List.{list_any, range_with_len}
use Rattle.steps.proofs.Anys.{any_places}
use Rattle.steps.proofs.InputTests.{kept_at}
use Rattle.steps.proofs.Standing.{all_none}
use Rattle.transform.specs.Derive.{code_is_bad, is_beyond, is_unfit, pick_is_bad, picked_of}
use Rattle.transform.specs.Refusals.{EntryPick, RecordPick}

-- ---- picked levels

module _ (e : Extract) (w : ℕ) (S : States) (levels : List ℕ) (h : end_of e ≤ w) where
  abbrev codes : List ℕ
  codes = codes_at w S levels

  pub pick_count : length (picked_of e codes) ≡ e.width
  pick_count = part_length codes (length codes - end_of e) e.width (rw (codes_length w S levels) (omega arith))

  pub pick_code : (i : ℕ) → i < e.width → get_or codes (w - end_of e + i) 0 ≡ get_or (picked_of e codes) i 0
  pick_code i k =
      sym (part_at codes (length codes - end_of e) e.width i 0 k ∙ ap (λ (n : ℕ). get_or codes (n - end_of e + i) 0) (codes_length w S levels))

  -- a test of each of them
  pub any_picked : (test : ℕ → Bool) → list_any (λ i. test (get_or codes (w - end_of e + i) 0)) (range_with_len 0 e.width) ≡ any test (picked_of e codes)
  unfolding part
  any_picked test =
      let z : w - end_of e + 0 ≡ length codes - end_of e = omega (arith, codes_length w S levels) in
      any_places test codes (w - end_of e) 0 e.width (rw (codes_length w S levels) (omega arith)) ∙ ap (λ (n : ℕ). any test (part n e.width codes)) z

pub pick_none : (e : Extract) (cs : List ℕ) → has_no_code cs ≡ false → has_no_code (picked_of e cs) ≡ false
unfolding part
pick_none e cs h = none_foreign (picked_of e cs) (below_take 9 _ (below_drop 9 cs (all_below_lem cs h) (length cs - end_of e)) e.width)

module _ {e : Extract} {w : ℕ} {M : States} {v : List ℕ} (p : EntryPick e w M v) where
  -- what the levels found say of the picked ones
  pub pick_levels : {u : Unpacked} → u ≡ unpacked w M v
      → has_no_code (picked_of e (codes_at u.width u.set u.part)) ≡ has_no_code (picked_of e (levels_in (BitVector w M) v))
  pick_levels q = ap (λ (cs : List ℕ). has_no_code (picked_of e cs)) (codes_are w M v q)

  -- a set of fewer than four bits has no bad code
  pub pick_few : {u : Unpacked} → u ≡ unpacked w M v → bits_of u.set < 4 → has_no_code (picked_of e (levels_in (BitVector w M) v)) ≡ false
  pick_few {u} q b =
      pick_none e (levels_in (BitVector w M) v) (ap has_no_code (sym (codes_are w M v q)) ∙ sym (few_bits u.width u.set u.part b))

  pub pick_below : bits_of M < 4 → has_no_code (picked_of e (levels_in (BitVector w M) v)) ≡ false
  unfolding has_bad_mark set_in
  pick_below b =
      let m : mark_in M v ≤ mark_of M = ltb-false _ _ p.marked in
      let k : mark_of (set_at (mark_in M v)) ≡ mark_in M v = mark_set (mark_in M v) (omega (arith, mark_small M)) in
      let f : bits_of (set_at (mark_in M v)) < 4 = omega (arith, bits_up (set_at (mark_in M v)) M (omega arith)) in
      pick_few refl f

pub no_levels : (e : Extract) (x : Encoding) (v : List ℕ) → has_no_text x ≡ true → has_no_code (picked_of e (levels_in x v)) ≡ false
unfolding has_no_text levels_in
no_levels e Event v h = pick_none e [] (none_foreign [] tt)
no_levels e Real v h = pick_none e [] (none_foreign [] tt)
no_levels e (BitVector w M) v h = absurd (true≢false (sym h))

pub levels_as : (e : Extract) (v : List ℕ) {x y : Encoding} {b : Bool} → x ≡ y → has_no_code (picked_of e (levels_in y v)) ≡ b → has_no_code (picked_of e (levels_in x v)) ≡ b
levels_as e v {x} {y} q h = ap (λ (z : Encoding). has_no_code (picked_of e (levels_in z v))) q ∙ h

-- an entry of a record that a piece picks from
pub picks : (e : Extract) (d : Description) (used : List ℕ) → RecordPick e d used → (w : ℕ) (M : States) → d.encoding ≡ BitVector w M → (k : ℕ) → k < d.count
    → EntryPick e w M (entry_at d.encoding 0 used k)
picks e d used p w M q k h =
    record {
      whole = vector q (whole (record { sound = p.stands; below = h }));
      marked = ap (λ (x : Encoding). has_bad_mark x (entry_at d.encoding 0 used k)) (sym q) ∙ p.marked k h;
      inside = rw q at p.inside;
    }

-- of a record whose largest set has fewer than four bits
pub none_below : (e : Extract) (d : Description) (used : List ℕ) → RecordPick e d used → bits_of (largest_in d.encoding) < 4 → (k : ℕ) → k < d.count
    → has_no_code (picked_of e (levels_in d.encoding (entry_at d.encoding 0 used k))) ≡ false
unfolding has_no_text
none_below e d used p b k h = go d.encoding refl
  where
    go : (x : Encoding) → d.encoding ≡ x → has_no_code (picked_of e (levels_in d.encoding (entry_at d.encoding 0 used k))) ≡ false
    go Event q = levels_as e (entry_at d.encoding 0 used k) q (no_levels e Event (entry_at d.encoding 0 used k) refl)
    go Real q = levels_as e (entry_at d.encoding 0 used k) q (no_levels e Real (entry_at d.encoding 0 used k) refl)
    go (BitVector w M) q = levels_as e (entry_at d.encoding 0 used k) q (pick_below (picks e d used p w M q k h) (rw q at b))

-- ---- 14

pub record Fit (d : DerivedBitVecSignal) (count : ℕ) (ks : List Kept) : Type 0 where
  pub sound : is_bad_derivation d ≡ false
  pub pieces : 0 < d.piece_count
  pub counted : count ≡ d.input_count
  pub vectors : any is_no_bit_vector ks ≡ false
  pub within : any (is_beyond ks) (pieces_of d) ≡ false

pub fit : (d : DerivedBitVecSignal) (count : ℕ) (ks : List Kept) → is_unfit d count ks ≡ false → Fit d count ks
unfolding is_unfit
fit d count ks h =
    let a = is_bad_derivation d in
    let b = eqb d.piece_count 0 in
    let n = eqb count d.input_count in
    let k = any is_no_bit_vector ks in
    let p = any (is_beyond ks) (pieces_of d) in
    let h1 = or_left (a || b || not n || k) p h in
    let h2 = or_left (a || b || not n) k h1 in
    let h3 = or_left (a || b) (not n) h2 in
    let z : (d.piece_count ≡ 0 → ⊥) = eqb-false d.piece_count 0 (or_right a b h3) in
    record {
      sound = or_left a b h3;
      pieces = by_le d.piece_count 0 (λ l. absurd (z (omega arith))) (λ l. l);
      counted = eqb-true count d.input_count (not-false n (or_right (a || b) (not n) h2));
      vectors = or_right (a || b || not n) k h1;
      within = or_right (a || b || not n || k) p h;
    }

pub unfit_by_beyond : (d : DerivedBitVecSignal) (count : ℕ) (ks : List Kept) (b : Bool) → is_bad_derivation d ≡ false → (d.piece_count ≡ 0 → ⊥) → count ≡ d.input_count
    → any is_no_bit_vector ks ≡ false → b ≡ any (is_beyond ks) (pieces_of d) → b ≡ is_unfit d count ks
unfolding is_unfit
unfit_by_beyond d count ks b g p c v e = rw (g, ne_eqb d.piece_count 0 p, eq-eqb count d.input_count c, v) e

-- ---- the pieces of a derivation that is not bad

pub pieces_count : {d : DerivedBitVecSignal} → Sized d → is_bad_derivation d ≡ false → length (pieces_of d) ≡ d.piece_count
pieces_count {d} z good = count_is d.bits d.piece_count (omega (arith, (sound d good).few, z.bits))

-- each names an input
pub pieces_named : (d : DerivedBitVecSignal) → is_bad_derivation d ≡ false → All (λ e. e.signal < d.input_count) (pieces_of d)
pieces_named d good =
    all_of (λ e. is_bad_piece d.input_count e ≡ false) (λ e. e.signal < d.input_count) (λ e b. (good_piece d.input_count e b).1) (pieces_of d)
    (all_none (is_bad_piece d.input_count) (pieces_of d) (sound d good).pieces)

-- a derivation that fits its inputs has a level
pub fit_wide : {d : DerivedBitVecSignal} {count : ℕ} {ks : List Kept} → Fit d count ks → 0 < length (pieces_of d) → 1 ≤ d.width
unfolding any sum
fit_wide {d} f z =
    let s = sound d f.sound in
    rw s.whole (go (pieces_of d) z s.pieces)
  where
    go : (es : List Extract) → 0 < length es → any (is_bad_piece d.input_count) es ≡ false → 1 ≤ sum (map piece_width es)
    go [] h b = absurd (omega arith)
    go (e ∷ es) h b = omega (arith, (good_piece d.input_count e (or_left (is_bad_piece d.input_count e) (any (is_bad_piece d.input_count) es) b)).0)

-- ---- a piece against its input

module _ (bytes indices : List ℕ) (is : List Input) (e : Extract) (h : e.signal < length is) (x : Input) where
  abbrev its : Input
  its = get_or is e.signal x

  pub beyond_by_width : is_beyond (map (input_kept bytes indices) is) e ≡ ltb (width_of its.description.encoding) (end_of e)
  unfolding kept_in
  beyond_by_width = ap (λ (x : Encoding). ltb (width_of x) (end_of e)) (kept_at bytes indices is encoding_of Event e.signal x h)

  pub code_by_entries : code_is_bad (map (input_kept bytes indices) is) e ≡ any (pick_is_bad e) (entries_in (input_kept bytes indices its))
  code_by_entries = ap (any (pick_is_bad e)) (kept_at bytes indices is entries_in [] e.signal x h)

-- a piece that isn't beyond its input's width names an input
pub named : (ks : List Kept) (n : ℕ) (e : Extract) → is_bad_piece n e ≡ false → is_beyond ks e ≡ false → e.signal < length ks
named ks n e b w =
    let g = good_piece n e b in
    let l = ltb-false (width_of (get_or (map encoding_of ks) e.signal Event)) (end_of e) w in
    by_le (length ks) e.signal
    (λ h.
    let z : get_or (map encoding_of ks) e.signal Event ≡ Event = get_or-eq_default (map encoding_of ks) Event (rw length-map h) in
    let y : width_of (get_or (map encoding_of ks) e.signal Event) ≡ 0 = ap width_of z in
    absurd (omega arith))
    (λ h. h)
