-- Laws of derivations: pieces packed, a name and a piece added, and what Add a piece leaves.
-- Assumes nothing.
use mathlib.Core.Path.{◌≡◌, refl, sym, ap, ap₂, ◌∙◌}
use mathlib.Core.Bool.{Bool, true, false, cond, not, ◌&&◌, ◌||◌, true≢false}
use mathlib.Core.List.{List, [], ◌∷◌, ◌++◌, map, map-append}
use Prim.Native.Nat.{ℕ, zero, suc, ◌+◌, ◌-◌, ◌*◌, ◌/◌, ◌%◌, ◌^◌, ◌≤◌, ◌<◌}
use native.Mathlib.Omega.{arith}
use borrow.Author.Tests.{ltb-false, leb-false, eqb-true, eqb-false, lt-ltb, le-ltb, lt-leb, eq-eqb, ne_eqb, not-false}
use lib.Dec.{eqb, leb, ltb}
use lib.ListN.{length, length-append, length-map}
use lib.Bits.{bit_or, or_shifted}
use lib.Pow.{shl_exact}
use lib.Seq.{length-take-le}
use Rattle.value.specs.Slice.{part, any, sum}
use Rattle.value.specs.Level.{place_in}
use Rattle.value.proofs.Slices.{part_overlay, overlay_length, any_append}
use Rattle.value.proofs.Tests.{or_left, or_right, or_both, by_le}
use Rattle.fst.specs.Refusal.{◌⇐◌, given, refused, tried, Outcome, outcome}
use Rattle.derivation.specs.declared.Extract.{Extract}
use Rattle.derivation.specs.declared.DerivedBitVecSignal.{DerivedBitVecSignal}
use Rattle.derivation.specs.declared.Side.{Side}
use Rattle.derivation.specs.declared.Side.TheVariants.{Left, Right}
use Rattle.derivation.specs.Piece.{Sized, packed_of, extract_of, end_of, pieces_of, names_of, is_bad_piece, piece_width, is_bad_derivation, adjoin, merged, merging, piece_added, name_added, piece_of, derivation_with, is_bad_range, is_overfull, add_piece, add_full, identity_of, slice_of, empty_derivation}

-- ---- packing

pub packed_extract : (n : ℕ) → packed_of (extract_of n) ≡ n
unfolding packed_of extract_of
packed_extract n = omega arith

pub extract_packed : (e : Extract) → e.width < 2 ^ 16 → e.lsb < 2 ^ 32 → extract_of (packed_of e) ≡ e
unfolding packed_of extract_of
extract_packed e w l =
    let p : (e.signal * 2 ^ 48 + e.width * 2 ^ 32 + e.lsb) / 2 ^ 48 ≡ e.signal = omega arith in
    let q : (e.signal * 2 ^ 48 + e.width * 2 ^ 32 + e.lsb) / 2 ^ 32 % 2 ^ 16 ≡ e.width = omega arith in
    let r : (e.signal * 2 ^ 48 + e.width * 2 ^ 32 + e.lsb) % 2 ^ 32 ≡ e.lsb = omega arith in
    λ i. record { signal = p i; width = q i; lsb = r i }

-- the three fields beside each other
pub packed_bits : (e : Extract) → e.signal < 2 ^ 16 → e.width < 2 ^ 16 → e.lsb < 2 ^ 32
    → bit_or (bit_or (e.signal * 2 ^ 48 % 2 ^ 64) (e.width * 2 ^ 32 % 2 ^ 64)) e.lsb ≡ packed_of e
unfolding packed_of
packed_bits e s w l =
    let f : e.signal * 2 ^ 48 + e.width * 2 ^ 32 ≡ (e.signal * 2 ^ 16 + e.width) * 2 ^ 32 = omega arith in
    ap₂ (λ (x y : ℕ). bit_or (bit_or x y) e.lsb) (shl_exact {a = e.signal} 16 48 64 s (omega arith)) (shl_exact {a = e.width} 16 32 64 w (omega arith))
    ∙ ap (λ (x : ℕ). bit_or x e.lsb) (or_shifted e.signal 48 (e.width * 2 ^ 32) (omega arith) ∙ f)
    ∙ or_shifted (e.signal * 2 ^ 16 + e.width) 32 e.lsb l
    ∙ ap (λ (x : ℕ). x + e.lsb) (sym f)

pub packed_all : (l : List ℕ) → map packed_of (map extract_of l) ≡ l
packed_all [] = refl
packed_all (x ∷ l) = ap₂ (λ (y : ℕ) (r : List ℕ). y ∷ r) (packed_extract x) (packed_all l)

-- ---- a name added

pub place_le : (names : List ℕ) (name : ℕ) → place_in names name ≤ length names
unfolding place_in
place_le [] name = omega arith
place_le (x ∷ names) name = go (eqb x name) (place_le names name)
  where
    go : (b : Bool) → place_in names name ≤ length names → cond b 0 (suc (place_in names name)) ≤ suc (length names)
    go true h = omega arith
    go false h = omega arith

module _ (names : List ℕ) (name : ℕ) where
  pub name_known : place_in names name < length names → name_added name names ≡ names
  unfolding name_added
  name_known h = rw (lt-ltb (place_in names name) (length names) h)

  pub name_new : place_in names name ≡ length names → name_added name names ≡ names ++ (name ∷ [])
  unfolding name_added
  name_new e = rw (le-ltb (place_in names name) (length names) (omega arith))

  pub names_length : length names ≤ length (name_added name names)
  names_length =
      by_le (length names) (place_in names name)
      (λ h. rw (name_new (omega (arith, place_le names name)), length-append) (omega arith))
      (λ h. rw (name_known h) (omega arith))

  pub place_below : place_in names name < length (name_added name names)
  place_below =
      by_le (length names) (place_in names name)
      (λ h. let e : place_in names name ≡ length names = omega (arith, place_le names name) in rw (name_new e, length-append) (omega arith))
      (λ h. rw (name_known h) h)

-- ---- a piece added

merged_width : (high low : Extract) → sum (map piece_width (merging high low)) ≡ high.width + low.width
unfolding merging sum
merged_width high low = go (adjoin high low)
  where
    go : (b : Bool) → sum (map piece_width (cond b (merged high low ∷ []) (high ∷ low ∷ []))) ≡ high.width + low.width
    go true = omega arith
    go false = omega arith

sum_append : (xs ys : List ℕ) → sum (xs ++ ys) ≡ sum xs + sum ys
unfolding sum
sum_append [] ys = omega arith
sum_append (x ∷ xs) ys = omega (arith, sum_append xs ys)

pub sum_added : (side : Side) (e : Extract) (ps : List Extract) → sum (map piece_width (piece_added side e ps)) ≡ sum (map piece_width ps) + e.width
unfolding piece_added sum
sum_added Left e [] = omega arith
sum_added Right e [] = omega arith
sum_added Left e (p ∷ ps) = rw (map-append piece_width (merging e p) ps, sum_append, merged_width) (omega arith)
sum_added Right e (p ∷ []) = omega (arith, merged_width p e)
sum_added Right e (p ∷ q ∷ ps) = omega (arith, sum_added Right e (q ∷ ps))

-- ---- what the tests say

adjoined : (high low : Extract) → adjoin high low ≡ true → high.lsb ≡ end_of low
unfolding adjoin
adjoined high low = go (eqb high.signal low.signal)
  where
    go : (b : Bool) → b && eqb high.lsb (end_of low) ≡ true → high.lsb ≡ end_of low
    go true h = eqb-true high.lsb (end_of low) h
    go false h = absurd (true≢false (sym h))

pub not_full : (names : List ℕ) (pieces : List Extract) → is_overfull names pieces ≡ false
    → (length names ≤ 8) × (length pieces ≤ 64) × (sum (map piece_width pieces) ≤ 4096)
unfolding is_overfull
not_full names pieces h =
    let a = ltb 8 (length names) in
    let b = ltb 64 (length pieces) in
    let w = ltb 4096 (sum (map piece_width pieces)) in
    let k = or_left (a || b) w h in
    (ltb-false 8 (length names) (or_left a b k), ltb-false 64 (length pieces) (or_right a b k), ltb-false 4096 (sum (map piece_width pieces)) (or_right (a || b) w h))

module _ (inputs : ℕ) (e : Extract) where
  pub good_piece : is_bad_piece inputs e ≡ false → (0 < e.width) × (e.signal < inputs) × (end_of e ≤ 4096)
  unfolding is_bad_piece
  good_piece h =
      let w = eqb e.width 0 in
      let s = leb inputs e.signal in
      let t = ltb 4096 (end_of e) in
      let h1 = or_left (w || s) t h in
      let z : (e.width ≡ 0 → ⊥) = eqb-false e.width 0 (or_left w s h1) in
      (by_le e.width 0 (λ k. absurd (z (omega arith))) (λ k. k), leb-false inputs e.signal (or_right w s h1), ltb-false 4096 (end_of e) (or_right (w || s) t h))

  pub is_good_piece : 0 < e.width → e.signal < inputs → end_of e ≤ 4096 → is_bad_piece inputs e ≡ false
  unfolding is_bad_piece
  is_good_piece w s t = simp (ne_eqb e.width 0 (λ z. omega arith), lt-leb inputs e.signal s, le-ltb 4096 (end_of e) t)

-- a derivation that is not bad
pub record Sound (d : DerivedBitVecSignal) : Type 0 where
  pub few : d.piece_count ≤ 64
  pub named : d.input_count ≤ 8
  pub pieces : any (is_bad_piece d.input_count) (pieces_of d) ≡ false
  pub whole : d.width ≡ sum (map piece_width (pieces_of d))
  pub narrow : d.width ≤ 4096

module _ (d : DerivedBitVecSignal) where
  pub sound : is_bad_derivation d ≡ false → Sound d
  unfolding is_bad_derivation
  sound h =
      let a = ltb 64 d.piece_count in
      let b = ltb 8 d.input_count in
      let p = any (is_bad_piece d.input_count) (pieces_of d) in
      let w = eqb d.width (sum (map piece_width (pieces_of d))) in
      let n = ltb 4096 d.width in
      let h1 = or_left (a || b || p || not w) n h in
      let h2 = or_left (a || b || p) (not w) h1 in
      let h3 = or_left (a || b) p h2 in
      record {
        few = ltb-false 64 d.piece_count (or_left a b h3);
        named = ltb-false 8 d.input_count (or_right a b h3);
        pieces = or_right (a || b) p h2;
        whole = eqb-true d.width (sum (map piece_width (pieces_of d))) (not-false w (or_right (a || b || p) (not w) h1));
        narrow = ltb-false 4096 d.width (or_right (a || b || p || not w) n h);
      }

  pub not_bad : Sound d → is_bad_derivation d ≡ false
  unfolding is_bad_derivation
  not_bad s =
      simp (
        le-ltb 64 d.piece_count s.few,
        le-ltb 8 d.input_count s.named,
        s.pieces,
        eq-eqb d.width (sum (map piece_width (pieces_of d))) s.whole,
        le-ltb 4096 d.width s.narrow,
      )

pub good_range : (msb lsb : ℕ) → is_bad_range msb lsb ≡ false → (lsb ≤ msb) × (msb < 4096)
unfolding is_bad_range
good_range msb lsb h =
    (ltb-false msb lsb (or_left (ltb msb lsb) (leb 4096 msb) h), leb-false 4096 msb (or_right (ltb msb lsb) (leb 4096 msb) h))

-- ---- Add a piece

module _ (d : DerivedBitVecSignal) (side : Side) (name msb lsb : ℕ) where
  abbrev added : List Extract
  added = piece_added side (piece_of d name msb lsb) (pieces_of d)

  abbrev known : List ℕ
  known = name_added name (names_of d)

  pub refused_bad : is_bad_derivation d ≡ true → add_piece d side name msb lsb ≡ record { refused = 14; left = d }
  unfolding add_piece tried
  refused_bad b = rw b

  pub refused_range : is_bad_derivation d ≡ false → is_bad_range msb lsb ≡ true → add_piece d side name msb lsb ≡ record { refused = 12; left = d }
  unfolding add_piece tried
  refused_range b r = rw (b, r)

  pub refused_full : is_bad_derivation d ≡ false → is_bad_range msb lsb ≡ false → is_overfull known added ≡ true → add_piece d side name msb lsb ≡ record { refused = 13; left = d }
  unfolding add_piece tried
  refused_full b r f = rw (b, r, f)

  pub accepted : is_bad_derivation d ≡ false → is_bad_range msb lsb ≡ false → is_overfull known added ≡ false
      → add_piece d side name msb lsb ≡ record { refused = 0; left = derivation_with d known added }
  unfolding add_piece tried
  accepted b r f = rw (b, r, f)

-- ---- pieces that are not bad

good_merging : (n : ℕ) (high low : Extract) → is_bad_piece n high ≡ false → is_bad_piece n low ≡ false → any (is_bad_piece n) (merging high low) ≡ false
unfolding merging any
good_merging n high low h l = go (adjoin high low) refl
  where
    go : (b : Bool) → adjoin high low ≡ b → any (is_bad_piece n) (cond b (merged high low ∷ []) (high ∷ low ∷ [])) ≡ false
    go true t =
        let g = good_piece n high h in
        let k = good_piece n low l in
        or_both (is_bad_piece n (merged high low)) false
        (is_good_piece n (merged high low) (omega arith) k.1 (omega (arith, adjoined high low t)))
        refl
    go false t = or_both (is_bad_piece n high) (is_bad_piece n low || false) h (or_both (is_bad_piece n low) false l refl)

pub good_added : (n : ℕ) (side : Side) (e : Extract) (ps : List Extract) → any (is_bad_piece n) ps ≡ false → is_bad_piece n e ≡ false → any (is_bad_piece n) (piece_added side e ps) ≡ false
unfolding piece_added any
good_added n Left e [] h k = or_both (is_bad_piece n e) false k refl
good_added n Right e [] h k = or_both (is_bad_piece n e) false k refl
good_added n Left e (p ∷ ps) h k =
    any_append (is_bad_piece n) (merging e p) ps
    ∙ or_both (any (is_bad_piece n) (merging e p)) (any (is_bad_piece n) ps) (good_merging n e p k (or_left (is_bad_piece n p) (any (is_bad_piece n) ps) h)) (or_right (is_bad_piece n p) (any (is_bad_piece n) ps) h)
good_added n Right e (p ∷ []) h k = good_merging n p e (or_left (is_bad_piece n p) false h) k
good_added n Right e (p ∷ q ∷ ps) h k =
    or_both (is_bad_piece n p) (any (is_bad_piece n) (piece_added Right e (q ∷ ps)))
    (or_left (is_bad_piece n p) (any (is_bad_piece n) (q ∷ ps)) h)
    (good_added n Right e (q ∷ ps) (or_right (is_bad_piece n p) (any (is_bad_piece n) (q ∷ ps)) h) k)

-- among more inputs too
good_among : (n m : ℕ) → n ≤ m → (ps : List Extract) → any (is_bad_piece n) ps ≡ false → any (is_bad_piece m) ps ≡ false
unfolding any
good_among n m l [] h = refl
good_among n m l (p ∷ ps) h =
    let g = good_piece n p (or_left (is_bad_piece n p) (any (is_bad_piece n) ps) h) in
    or_both (is_bad_piece m p) (any (is_bad_piece m) ps) (is_good_piece m p g.0 (omega arith) g.2) (good_among n m l ps (or_right (is_bad_piece n p) (any (is_bad_piece n) ps) h))

pub unpacked_all : (n : ℕ) (ps : List Extract) → any (is_bad_piece n) ps ≡ false → map extract_of (map packed_of ps) ≡ ps
unfolding any
unpacked_all n [] h = refl
unpacked_all n (p ∷ ps) h =
    let g = good_piece n p (or_left (is_bad_piece n p) (any (is_bad_piece n) ps) h) in
    ap₂ (λ (x : Extract) (r : List Extract). x ∷ r) (extract_packed p (omega arith) (omega arith)) (unpacked_all n ps (or_right (is_bad_piece n p) (any (is_bad_piece n) ps) h))

-- ---- what an accepted Add a piece leaves

module _ (d : DerivedBitVecSignal) (names : List ℕ) (pieces : List Extract) where
  with_names_lem : names_of (derivation_with d names pieces) ≡ names
  unfolding derivation_with part
  with_names_lem = part_overlay d.inputs names 0 (length names) (omega arith) refl

  with_pieces_lem : (n : ℕ) → any (is_bad_piece n) pieces ≡ false → pieces_of (derivation_with d names pieces) ≡ pieces
  unfolding derivation_with part
  with_pieces_lem n h = ap (map extract_of) (part_overlay d.bits (map packed_of pieces) 0 (length pieces) (omega arith) (length-map pieces packed_of)) ∙ unpacked_all n pieces h

-- a derivation of such names and pieces that is not bad
pub record Consists (d : DerivedBitVecSignal) (names : List ℕ) (pieces : List Extract) : Type 0 where
  pub good : is_bad_derivation d ≡ false
  pub names_are : names_of d ≡ names
  pub pieces_are : pieces_of d ≡ pieces
  pub sized : Sized d

leaves : (d : DerivedBitVecSignal) → Sized d → (names : List ℕ) (pieces : List Extract) → is_overfull names pieces ≡ false → any (is_bad_piece (length names)) pieces ≡ false
    → Consists (derivation_with d names pieces) names pieces
unfolding derivation_with
leaves d z names pieces full fine =
    let w = not_full names pieces full in
    let e : pieces_of (derivation_with d names pieces) ≡ pieces = with_pieces_lem d names pieces (length names) fine in
    record {
      good =
          not_bad (derivation_with d names pieces)
          (record { few = w.1; named = w.0; pieces = rw e fine; whole = rw e; narrow = w.2 });
      names_are = with_names_lem d names pieces;
      pieces_are = e;
      sized =
          record {
            names = overlay_length d.inputs names 0 (omega (arith, z.names)) ∙ z.names;
            bits = overlay_length d.bits (map packed_of pieces) 0 (rw (length-map pieces packed_of) (omega (arith, z.bits))) ∙ z.bits;
          };
    }

module _ (d : DerivedBitVecSignal) (side : Side) (name msb lsb : ℕ) where
  abbrev r : Outcome DerivedBitVecSignal
  r = add_piece d side name msb lsb

  pub none_refused : r.refused ≡ 0 → (is_bad_derivation d ≡ false) × (is_bad_range msb lsb ≡ false) × (is_overfull (known d side name msb lsb) (added d side name msb lsb) ≡ false)
  unfolding add_piece tried
  none_refused = go (is_bad_derivation d) (is_bad_range msb lsb) (is_overfull (known d side name msb lsb) (added d side name msb lsb))
    where
      go : (a b c : Bool) → (outcome d (tried (14 ⇐ a ∷ 12 ⇐ b ∷ 13 ⇐ c ∷ []) (given (derivation_with d (known d side name msb lsb) (added d side name msb lsb))))).refused ≡ 0 → (a ≡ false) × (b ≡ false) × (c ≡ false)
      go true b c h = absurd (omega arith)
      go false true c h = absurd (omega arith)
      go false false true h = absurd (omega arith)
      go false false false h = (refl, refl, refl)

  pub added_piece : Sized d → r.refused ≡ 0 → Consists r.left (name_added name (names_of d)) (piece_added side (piece_of d name msb lsb) (pieces_of d))
  added_piece z h =
      let n = none_refused h in
      let s = sound d n.0 in
      let g = good_range msb lsb n.1 in
      let l : length (names_of d) ≡ d.input_count = length-take-le d.input_count d.inputs (omega (arith, z.names, s.named)) in
      let new = known d side name msb lsb in
      let ps = added d side name msb lsb in
      let fine : any (is_bad_piece (length new)) ps ≡ false =
      good_added (length new) side (piece_of d name msb lsb) (pieces_of d)
      (good_among d.input_count (length new) (omega (arith, names_length (names_of d) name)) (pieces_of d) s.pieces)
      (is_good_piece (length new) (piece_of d name msb lsb) (omega arith) (place_below (names_of d) name) (omega arith)) in
      rw (accepted d side name msb lsb n.0 n.1 n.2) (leaves d z new ps n.2 fine)

-- ---- all wires of a signal

pub full_wide : (d : DerivedBitVecSignal) (side : Side) (name w : ℕ) → 0 < w → add_full d side name w ≡ add_piece d side name (w - 1) 0
unfolding add_full
full_wide d side name zero h = absurd (omega arith)
full_wide d side name (suc w) h = let n : w ≡ suc w - 1 = omega arith in ap (λ (k : ℕ). add_piece d side name k 0) n

pub full_none : (d : DerivedBitVecSignal) (side : Side) (name w : ℕ) → w ≤ 0 → add_full d side name w ≡ outcome d (tried (14 ⇐ is_bad_derivation d ∷ []) (given d))
unfolding add_full
full_none d side name zero h = refl
full_none d side name (suc w) h = absurd (omega arith)

pub identity_wide : (name w : ℕ) → 0 < w → identity_of name w ≡ slice_of name (w - 1) 0
unfolding identity_of
identity_wide name zero h = absurd (omega arith)
identity_wide name (suc w) h = let n : w ≡ suc w - 1 = omega arith in ap (λ (k : ℕ). slice_of name k 0) n

pub identity_none : (name w : ℕ) → w ≤ 0 → identity_of name w ≡ outcome empty_derivation (refused 12)
unfolding identity_of
identity_none name zero h = refl
identity_none name (suc w) h = absurd (omega arith)
