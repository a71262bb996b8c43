-- The characters of a step, gathered piece by piece, and the entry that they make.
-- Assumes nothing.
use Rattle.std.specs.Prelude.{None}
use Prim.Native.Nat.{◌+◌, ◌-◌, ◌<◌, ◌^◌, ◌≤◌, suc, zero, ℕ}
use Rattle.std.proofs.lemmas.List.{get_or-map}
use lib.ListN.{drop, drop_of_length-le, get_or, length, length-append, length-map, take}
use lib.Pow.{pow_mono}
use lib.Seq.{drop-cons}
use mathlib.Core.List.{List, [], ◌++◌, ◌∷◌, map, map-append}
use mathlib.Core.Path.{◌∙◌, ◌≡◌, ap, ap₂, refl, sym}
use native.Mathlib.Numerals.{add-one}
use native.Mathlib.Omega.{arith}
use Rattle.value.specs.Digits.{Below}
use Rattle.value.specs.Level.{bits_of, codes_of, fold_all, join, join_all, letter_of, mark_of, text_of}
use Rattle.value.specs.Slice.{overlay, part, sum}
use Rattle.value.specs.declared.States.{States}
use Rattle.value.proofs.Digits.{below_append, below_drop, below_mono, below_take}
use Rattle.value.proofs.Levels.{bits_up, codes_text, fold_text}
use Rattle.value.proofs.Lists.{at_any}
use Rattle.value.proofs.Slices.{overlay_nil, overlay_overlay, part_at, part_length, part_overlay}
use Rattle.layout.specs.Entry.{entry_of, entry_size}
use Rattle.layout.specs.Writable.{Writable, entry_from}
use Rattle.fst.specs.Record.{kept_in}
use Rattle.runs.specs.All.{All}
use Rattle.runs.proofs.All.{all_at}
use Rattle.signal.specs.Decode.{codes_at, levels_in, set_in}
use Rattle.signal.proofs.Decoding.{codes_length}
use Rattle.derivation.specs.Piece.{end_of, extract_of, piece_width}
use Rattle.derivation.specs.declared.Extract.{Extract}
use Rattle.steps.specs.Cursor.{Cursor}
use Rattle.steps.specs.Stepping.{Showing, levels_now, set_now, shown_bytes, width_now}
use Rattle.steps.specs.Steps.{now_of}
use Rattle.steps.proofs.Anys.{map_here}
use Rattle.steps.proofs.Levels.{levels_below, levels_length}
use Rattle.steps.proofs.Tracks.{Shows, bytes_shown, now_shown, track_of, tracks}
use Rattle.transform.specs.Derive.{codes_shown, largest_shown, picked, picked_of, set_shown}
use Rattle.transform.specs.Picking.{Pickable, Picks, PieceIn, Stepped, Under, largest_now, picked_now}

-- ---- the characters that a piece picks

text_at : (cs : List ℕ) (j : ℕ) → j < length cs → letter_of (get_or cs j 0) ≡ get_or (text_of cs) j 0
text_at [] j h = absurd (omega arith)
text_at (c ∷ cs) zero h = refl
text_at (c ∷ cs) (suc j) h = text_at cs j (omega arith)

module _ (w : ℕ) (own : States) (levels : List ℕ) (first count : ℕ) (h : first + count ≤ w) where
  abbrev picks : List ℕ
  picks = part first count (codes_at w own levels)

  abbrev pub chars : List ℕ
  chars = text_of picks

  picks_length : length picks ≡ count
  picks_length = part_length (codes_at w own levels) first count (rw (codes_length w own levels) h)

  pub chars_length : length chars ≡ count
  chars_length = length-map picks letter_of ∙ picks_length

  pub char_at : (j c : ℕ) → j < count → c ≡ letter_of (get_or (codes_at w own levels) (first + j) 0) → c ≡ get_or chars j 0
  char_at j c k e = e ∙ ap letter_of (sym (part_at (codes_at w own levels) first count j 0 k)) ∙ text_at picks j (rw picks_length k)

pub picked_is : (w : ℕ) (own : States) (levels : List ℕ) (e : Extract) (codes : List ℕ) → codes_at w own levels ≡ codes
    → part (w - (e.lsb + e.width)) e.width (codes_at w own levels) ≡ picked_of e codes
picked_is w own levels e codes q =
    ap (λ (n : ℕ). part (n - end_of e) e.width (codes_at w own levels)) (sym (codes_length w own levels)) ∙ ap (picked_of e) q

pub picked_length : (e : Extract) (codes : List ℕ) → end_of e ≤ length codes → length (picked_of e codes) ≡ e.width
picked_length e codes h = part_length codes (length codes - end_of e) e.width (omega arith)

-- ---- a turn over the pieces

abbrev pub widths : List ℕ → ℕ
widths packed = sum (map piece_width (map extract_of packed))

pub widths_more : (packed : List ℕ) (i : ℕ) → i < length packed → widths (drop i packed) ≡ (extract_of (get_or packed i 0)).width + widths (drop (i + 1) packed)
unfolding sum
widths_more packed i h = rw (drop-cons packed i 0 h, add-one i)

module _ {cs : List Cursor} {bytes packed : List ℕ} {room : ℕ}
    (st : Pickable cs bytes packed room) (i : ℕ) (h : i < length packed) (e : Extract) (q : e ≡ extract_of (get_or packed i 0)) (d : Cursor) where
  named : PieceIn cs e
  named = rw q (map_here (PieceIn cs) extract_of packed st.pieces (get_or packed i 0) i h (at_any packed i 0 (get_or packed i 0) h))

  pub signal_in : e.signal < length cs
  signal_in = named.0

  abbrev pub source : Cursor
  source = get_or cs e.signal d

  source_wide : end_of e ≤ width_now source
  source_wide = rw (get_or-map width_now cs e.signal d 0 signal_in) at named.1

  module _ (at : ℕ) (l : at + widths (drop i packed) ≤ room) where
    pub piece_picks : Picks bytes source e room at
    piece_picks =
        record {
          shows = all_at (Showing bytes) cs st.shown e.signal d signal_in;
          within = source_wide;
          fits = rw q (omega (arith, widths_more packed i h));
        }

    pub room_more : at + e.width + widths (drop (i + 1) packed) ≤ room
    room_more = rw q (omega (arith, widths_more packed i h))

    pub pieces_more : (text new : List ℕ) → length text ≡ room → new ≡ overlay text at (text_of (picked_of e (levels_now bytes source)))
        → overlay new (at + e.width) (text_of (picked_now bytes cs (map extract_of (drop (i + 1) packed))))
        ≡ overlay text at (text_of (picked_now bytes cs (map extract_of (drop i packed))))
    unfolding picked_now
    pieces_more text new long f =
        let P = picked_of e (levels_now bytes source) in
        let R = picked_now bytes cs (map extract_of (drop (suc i) packed)) in
        let n : length (text_of P) ≡ e.width = length-map P letter_of ∙ picked_length e (levels_now bytes source) (rw (levels_length source.input.description.encoding (shown_bytes bytes source)) source_wide) in
        let g : picked_now bytes cs (map extract_of (drop i packed)) ≡ P ++ R =
        ap (λ (x : List ℕ). picked_now bytes cs (map extract_of x)) (drop-cons packed i 0 h)
        ∙ ap (λ (x : Extract). picked_of x (get_or (map (levels_now bytes) cs) x.signal []) ++ R) (sym q)
        ∙ ap (λ (x : List ℕ). picked_of e x ++ R) (get_or-map (levels_now bytes) cs e.signal d [] signal_in) in
        ap₂ (λ (k : ℕ) (x : List ℕ). overlay x (at + e.width) (text_of (picked_now bytes cs (map extract_of (drop k packed))))) (add-one i) f
        ∙ overlay_overlay text at (text_of P) (text_of R) (at + e.width) (rw n) (rw long (omega (arith, piece_picks.fits)))
        ∙ ap (overlay text at) (sym (map-append letter_of P R) ∙ ap text_of (sym g))

pub pieces_done : (bytes : List ℕ) (cs : List Cursor) (packed : List ℕ) (at i : ℕ) (text : List ℕ) → length packed ≤ i
    → overlay text at (text_of (picked_now bytes cs (map extract_of (drop i packed)))) ≡ text
unfolding picked_now
pieces_done bytes cs packed at i text h =
    ap (λ (l : List ℕ). overlay text at (text_of (picked_now bytes cs (map extract_of l)))) (drop_of_length-le packed {i = i} h) ∙ overlay_nil text at

-- ---- the levels of a step

pub below_part : (B start n : ℕ) (xs : List ℕ) → Below B xs → Below B (part start n xs)
unfolding part
below_part B start n xs h = below_take B (drop start xs) (below_drop B xs h start) n

module _ (bytes : List ℕ) (S : States) where
  -- the levels of an input, which there may not be
  shown_below : (cs : List Cursor) → All (Under bytes S) cs → (i : ℕ) → Below (2 ^ bits_of S) (get_or (map (levels_now bytes) cs) i [])
  shown_below [] u i = tt
  shown_below (c ∷ cs) u zero =
      below_mono (2 ^ bits_of (set_now bytes c)) (2 ^ bits_of S) (levels_now bytes c) (pow_mono (bits_up (set_now bytes c) S u.0))
      (levels_below c.input.description.encoding (shown_bytes bytes c))
  shown_below (c ∷ cs) u (suc i) = shown_below cs u.1 i

  shown_length : (cs : List Cursor) (i : ℕ) → length (get_or (map (levels_now bytes) cs) i []) ≡ get_or (map width_now cs) i 0
  shown_length [] i = refl
  shown_length (c ∷ cs) zero = levels_length c.input.description.encoding (shown_bytes bytes c)
  shown_length (c ∷ cs) (suc i) = shown_length cs i

  pub picked_below : (cs : List Cursor) → All (Under bytes S) cs → (es : List Extract) → Below (2 ^ bits_of S) (picked_now bytes cs es)
  unfolding picked_now
  picked_below cs u [] = tt
  picked_below cs u (e ∷ es) =
      below_append (2 ^ bits_of S) (picked_of e (get_or (map (levels_now bytes) cs) e.signal [])) (picked_now bytes cs es)
      (below_part (2 ^ bits_of S) _ _ (get_or (map (levels_now bytes) cs) e.signal []) (shown_below cs u e.signal)) (picked_below cs u es)

  pub picked_all : (cs : List Cursor) (es : List Extract) → All (PieceIn cs) es → length (picked_now bytes cs es) ≡ sum (map piece_width es)
  unfolding picked_now sum
  picked_all cs [] p = refl
  picked_all cs (e ∷ es) p =
      length-append (picked_of e (get_or (map (levels_now bytes) cs) e.signal [])) (picked_now bytes cs es)
      ∙ ap₂ (λ (a b : ℕ). a + b) (picked_length e (get_or (map (levels_now bytes) cs) e.signal []) (rw (shown_length cs e.signal) p.0.1)) (picked_all cs es p.1)

module _ {cs : List Cursor} {bytes packed : List ℕ} {S : States} {width : ℕ} (st : Stepped cs bytes packed S width) where
  abbrev gathered : List ℕ
  gathered = picked_now bytes cs (map extract_of packed)

  picked_long : length gathered ≡ width
  picked_long = picked_all bytes S cs (map extract_of packed) st.pieces ∙ st.whole

  pub pickable : (room : ℕ) → width ≤ room → Pickable cs bytes packed room
  pickable room h = record { shown = st.shown; pieces = st.pieces; fits = rw st.whole h }

  -- the characters stand at the front of a text
  module _ (M : States) (up : mark_of S ≤ mark_of M) (text new : List ℕ) (e : new ≡ overlay text 0 (text_of gathered)) where
    front : take width new ≡ text_of gathered
    unfolding part
    front = ap (take width) e ∙ part_overlay text (text_of gathered) 0 width (omega arith) (length-map gathered letter_of ∙ picked_long)

    front_codes : codes_of (fold_all (take width new)) ≡ gathered
    front_codes = ap (λ (l : List ℕ). codes_of (fold_all l)) front ∙ ap codes_of (fold_text gathered st.letters) ∙ codes_text gathered st.letters

    pub front_long : length (take width new) ≡ width
    front_long = ap length front ∙ length-map gathered letter_of ∙ picked_long

    pub writable : (room : ℕ) → room ≡ entry_size width M → Writable M S (take width new) room 0
    writable room r =
        record {
          under = up;
          codes = rw front_codes (record { known = st.letters; below = picked_below bytes S cs st.under (map extract_of packed) });
          wide = rw front_long st.wide;
          short = rw front_long st.narrow;
          fits = rw (front_long, r) (omega arith);
        }

    pub entry_gathered : entry_from M S (take width new) ≡ entry_of width M S gathered
    entry_gathered = ap₂ (λ (n : ℕ) (cs : List ℕ). entry_of n M S cs) front_long front_codes

-- ---- by the definition's tracks

module _ (bytes indices : List ℕ) where
  set_shown_lem : (c : Cursor) → Shows bytes indices c → set_shown (now_of (track_of bytes indices c)) ≡ set_now bytes c
  unfolding kept_in
  set_shown_lem c h = ap set_shown (now_shown bytes indices c h) ∙ ap (set_in c.input.description.encoding) (bytes_shown bytes indices c h)

  codes_shown_lem : (c : Cursor) → Shows bytes indices c → codes_shown (now_of (track_of bytes indices c)) ≡ levels_now bytes c
  unfolding kept_in
  codes_shown_lem c h = ap codes_shown (now_shown bytes indices c h) ∙ ap (levels_in c.input.description.encoding) (bytes_shown bytes indices c h)

  pub largest_shown_lem : (cs : List Cursor) → All (Shows bytes indices) cs → largest_shown (map now_of (tracks bytes indices cs)) ≡ largest_now bytes cs
  unfolding join_all
  largest_shown_lem [] s = refl
  largest_shown_lem (c ∷ cs) s = ap₂ join (set_shown_lem c s.0) (largest_shown_lem cs s.1)

  codes_at_lem : (cs : List Cursor) → All (Shows bytes indices) cs → (i : ℕ) → codes_shown (get_or (map now_of (tracks bytes indices cs)) i None) ≡ get_or (map (levels_now bytes) cs) i []
  codes_at_lem [] s i = refl
  codes_at_lem (c ∷ cs) s zero = codes_shown_lem c s.0
  codes_at_lem (c ∷ cs) s (suc i) = codes_at_lem cs s.1 i

  pub picked_shown : (cs : List Cursor) → All (Shows bytes indices) cs → (es : List Extract) → picked es (map now_of (tracks bytes indices cs)) ≡ picked_now bytes cs es
  unfolding picked picked_now
  picked_shown cs s [] = refl
  picked_shown cs s (e ∷ es) =
      ap₂ (λ (a b : List ℕ). a ++ b) (ap (picked_of e) (codes_at_lem cs s e.signal)) (picked_shown cs s es)
