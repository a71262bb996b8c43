-- Whether an input has a number that is no code: by whole bytes, and what that says of each piece.
-- Assumes nothing.
use Prim.Native.Nat.{◌%◌, ◌*◌, ◌+◌, ◌-◌, ◌/◌, ◌<◌, ◌^◌, ◌≤◌, suc, zero, ℕ}
use borrow.Author.Tests.{ltb-false, ltb-true}
use lib.Bits.{and_mask, bit_and}
use lib.Dec.{leb, leb→le, ltb}
use lib.ListN.{get_or, length, length-map}
use mathlib.Core.Bool.{Bool, false, not, true}
use mathlib.Core.List.{List, [], ◌∷◌}
use mathlib.Core.Path.{◌∙◌, ◌≡◌, ap, ap₂, sym}
use native.Mathlib.Omega.{arith}
use Rattle.value.specs.Digits.{Below, digits}
use Rattle.value.specs.Level.{bits_of, has_no_code}
use Rattle.value.specs.Slice.{any, part}
use Rattle.value.specs.declared.States.{States}
use Rattle.value.specs.declared.States.TheVariants.{Four, Nine, Two}
use Rattle.value.proofs.Classes.{each_byte}
use Rattle.value.proofs.Digits.{below_at}
use Rattle.value.proofs.Levels.{none_foreign}
use Rattle.value.proofs.Lists.{any_map}
use Rattle.value.proofs.Packed.{read}
use Rattle.value.proofs.Slices.{any_none, part_all, part_at, part_length}
use Rattle.value.proofs.Tests.{and_right, by_eq, to_t}
use Rattle.fst.specs.Record.{Kept, kept_in, used_size, width_of, width_stands}
use Rattle.fst.specs.declared.Description.{Description}
use Rattle.fst.specs.declared.Encoding.{Encoding}
use Rattle.fst.specs.declared.Encoding.TheVariants.{BitVector, Event, Real}
use Rattle.fst.proofs.Records.{indices_used, standing}
use Rattle.runs.specs.All.{All}
use Rattle.runs.proofs.All.{all_at, all_both, all_of}
use Rattle.signal.specs.Decode.{codes_at, entries_in, levels_in}
use Rattle.signal.specs.Parts.{Levels, is_bad_byte}
use Rattle.signal.proofs.Decoding.{level_code, level_in}
use Rattle.signal.proofs.Entries.{entries_each, entries_none}
use Rattle.signal.proofs.Reading.{inside}
use Rattle.derivation.specs.Piece.{end_of, is_bad_piece, pieces_of}
use Rattle.derivation.proofs.Pieces.{sound}
use Rattle.derivation.specs.declared.DerivedBitVecSignal.{DerivedBitVecSignal}
use Rattle.derivation.specs.declared.Extract.{Extract}
use Rattle.steps.specs.Inputs.{entry_is_bad, mark_is_bad}
use Rattle.steps.specs.Refusals.{is_bad_in, its_inputs, its_record, its_records, kept_with}
use Rattle.steps.specs.declared.Sources.{Sources}
use Rattle.steps.specs.declared.Input.{Input}
use Rattle.steps.proofs.Anys.{none_each, none_here}
use Rattle.steps.proofs.InputTests.{no_input, used_stands}
use Rattle.steps.proofs.Standing.{all_none}
use Rattle.steps.proofs.Levels.{levels_length}
use Rattle.transform.specs.Derive.{code_is_bad, is_beyond, pick_is_bad, picked_of}
use Rattle.transform.specs.Refusals.{ReadableInput, Readable, RecordPick, SourcePick, entry_is_uncoded, is_uncoded}
use Rattle.transform.proofs.PieceTests.{Fit, beyond_by_width, code_by_entries, fit, named, pick_code, pick_count, pick_none}

-- ---- one byte

-- both levels of a byte under the set Nine are codes
abbrev TwoCodes : ℕ → Type 0
TwoCodes b = (b / 16 < 9) × (b % 16 < 9)

two_codes : (b : ℕ) → b < 256 → is_bad_byte b ≡ false → TwoCodes b
unfolding digits any
two_codes b h e =
    let n : not (is_bad_byte b) ≡ true = ap not e in (
      ltb-true (b / 16) 9 (each_byte (λ (n : ℕ). not (is_bad_byte n)) (λ (n : ℕ). ltb (n / 16) 9) tt b h n),
      ltb-true (b % 16) 9 (each_byte (λ (n : ℕ). not (is_bad_byte n)) (λ (n : ℕ). ltb (n % 16) 9) tt b h n),
    )

-- ---- the picked levels of bytes

below_each : (B : ℕ) (ds : List ℕ) → ((i : ℕ) → i < length ds → get_or ds i 0 < B) → Below B ds
below_each B [] f = tt
below_each B (d ∷ ds) f = (f zero (omega arith), below_each B ds (λ i h. f (suc i) (omega arith)))

-- where in its byte a level starts, and whether that is a code
starts : (j : ℕ) → (j * 4 % 8 ≡ 0 → ⊥) → j * 4 % 8 ≡ 4
starts j h = omega arith

level_low : (b s : ℕ) → TwoCodes b → s ≡ 0 → b / 2 ^ s % 16 < 9
level_low b s t e = rw e (omega arith)

level_high : (b s : ℕ) → TwoCodes b → s ≡ 4 → b / 2 ^ s % 16 < 9
level_high b s t e = rw e (omega arith)

-- the byte of level j among those of the levels lsb to E, of w levels
bytes_between : (n w E lsb j : ℕ) → n ≡ (w + 1) / 2 → E ≤ w → lsb ≤ j → j < E → (j * 4 / 8 + 1 ≤ (E + 1) / 2) × ((E + 1) / 2 ≤ n) × (lsb / 2 ≤ j * 4 / 8)
bytes_between n w E lsb j l h a b = (omega arith, omega arith, omega arith)

module _ (n a b k : ℕ) (x : k + 1 ≤ a) (y : a ≤ n) (z : b ≤ k) where
  between_at : n - a + (n - 1 - k - (n - a)) ≡ n - 1 - k
  between_at = omega arith

  between_low : n - 1 - k - (n - a) < n - b - (n - a)
  between_low = omega arith

  between_inside : n - 1 - k < n
  between_inside = omega arith

  between_fits : n - a + (n - b - (n - a)) ≤ n
  between_fits = omega arith

followed : (w E i : ℕ) → E ≤ w → i < E → w - 1 - (w - E + i) ≡ E - suc i
followed w E i h k = omega arith

-- the bytes of the picked levels
abbrev from : Extract → List ℕ → ℕ
from e levels = length levels - (end_of e + 1) / 2

abbrev to : Extract → List ℕ → ℕ
to e levels = length levels - e.lsb / 2

abbrev pub bytes_of : Extract → List ℕ → List ℕ
bytes_of e levels = part (from e levels) (to e levels - from e levels) levels

module _ (e : Extract) {w : ℕ} {levels : List ℕ} (h : Levels w Nine levels) (inside : end_of e ≤ w) (bytes : Below 256 levels) where
  abbrev codes : List ℕ
  codes = codes_at w Nine levels

  module _ (clean : any is_bad_byte (bytes_of e levels) ≡ false) where
    code : (i : ℕ) → i < e.width → get_or (picked_of e codes) i 0 < 9
    code i k =
        let n = w - end_of e + i in
        let f = followed w (end_of e) i inside (omega arith) in
        let m : n < w = omega arith in
        let j = w - 1 - n in
        let g = bytes_between (length levels) w (end_of e) e.lsb j h.long inside (rw f (omega arith)) (rw f (omega arith)) in
        let at = length levels - 1 - j * 4 / 8 in
        let p : length (bytes_of e levels) ≡ to e levels - from e levels = part_length levels (from e levels) (to e levels - from e levels) (between_fits (length levels) ((end_of e + 1) / 2) (e.lsb / 2) (j * 4 / 8) g.0 g.1 g.2) in
        let l = between_low (length levels) ((end_of e + 1) / 2) (e.lsb / 2) (j * 4 / 8) g.0 g.1 g.2 in
        let q : is_bad_byte (get_or levels at 0) ≡ false =
        rw (part_at levels (from e levels) (to e levels - from e levels) (at - from e levels) 0 l, between_at (length levels) ((end_of e + 1) / 2) (e.lsb / 2) (j * 4 / 8) g.0 g.1 g.2) at (any_none is_bad_byte (bytes_of e levels) clean (at - from e levels) 0 (rw p l)) in
        let t = two_codes (get_or levels at 0) (below_at 256 levels bytes at 0 (between_inside (length levels) ((end_of e + 1) / 2) (e.lsb / 2) (j * 4 / 8) g.0 g.1 g.2)) q in
        let s : bit_and (j * 4) 7 ≡ j * 4 % 8 = and_mask (j * 4) 3 in
        let c : get_or (picked_of e codes) i 0 ≡ get_or levels at 0 / 2 ^ bit_and (j * 4) 7 % 16 =
        sym (pick_code e w Nine levels inside i k)
        ∙ sym (level_code h n m)
        ∙ sym (read Nine j levels bytes (level_in h n m))
        ∙ and_mask (get_or levels at 0 / 2 ^ bit_and (j * 4) 7) 4 in
        rw c
        (by_eq (j * 4 % 8) 0
        (λ z. level_low (get_or levels at 0) (bit_and (j * 4) 7) t (s ∙ z))
        (λ z. level_high (get_or levels at 0) (bit_and (j * 4) 7) t (s ∙ starts j z)))

    none_nine : has_no_code (picked_of e codes) ≡ false
    none_nine = none_foreign (picked_of e codes) (below_each 9 (picked_of e codes) (λ i k. code i (rw (pick_count e w Nine levels inside) at k)))

-- under a set of four bits
pub none_picked : (S : States) → 4 ≤ bits_of S → (e : Extract) {w : ℕ} {levels : List ℕ} → Levels w S levels → end_of e ≤ w → Below 256 levels
    → any is_bad_byte (bytes_of e levels) ≡ false
    → has_no_code (picked_of e (codes_at w S levels)) ≡ false
none_picked Two b e h inside bytes clean = absurd (omega arith)
none_picked Four b e h inside bytes clean = absurd (omega arith)
none_picked Nine b e h inside bytes clean = none_nine e h inside bytes clean

pub picked_room : (e : Extract) {w : ℕ} (S : States) {levels : List ℕ} → Levels w S levels → end_of e ≤ w → 4 ≤ bits_of S → (end_of e + 1) / 2 ≤ length levels
picked_room e Two h inside b = absurd (omega arith)
picked_room e Four h inside b = absurd (omega arith)
picked_room e {w} Nine {levels} h inside b = let l : length levels ≡ (w + 1) / 2 = h.long in omega arith

-- ---- an input

width_narrow : (e : Encoding) → width_stands e ≡ true → width_of e ≤ 4096
unfolding width_stands
width_narrow Event h = omega arith
width_narrow Real h = omega arith
width_narrow (BitVector w M) h = leb→le w 4096 (and_right (leb 1 w) (leb w 4096) (to_t _ h))

-- an input that is not 2, each of whose marks is a set's
module _ {s : Sources} {x : Input} (r : ReadableInput s x) where
  abbrev d : Description
  d = x.description

  pub input_narrow : width_of d.encoding ≤ 4096
  input_narrow = width_narrow d.encoding (standing r.stands).width

  module _ {u : List ℕ} (f : u ≡ part x.byte_start (used_size d) s.bytes.now) where
    pub picking : (e : Extract) → end_of e ≤ width_of d.encoding → RecordPick e d u
    unfolding kept_in
    picking e h =
        rw f
        (record {
          stands = used_stands (standing r.stands);
          marked = λ k l. entries_each (its_record s x) entry_is_bad r.marked k (rw (indices_used (standing r.stands)) l);
          inside = h;
        })

    -- what its entries say of a piece
    pub picks_said : (e : Extract) {b : Bool} → ((l : List ℕ) → length l ≡ d.count → b ≡ any (pick_is_bad e) (entries_in (kept_with d u l)))
        → b ≡ any (pick_is_bad e) (entries_in (its_record s x))
    unfolding kept_in
    picks_said e g =
        let l = part x.index_start d.count s.indices.now in
        g l (indices_used (standing r.stands)) ∙ ap (λ (v : List ℕ). any (pick_is_bad e) (entries_in (kept_with d v l))) f

-- ---- all levels of an input

-- all wires of an input as one piece
abbrev pub whole_of : ℕ → Extract
whole_of w = record { signal = 0; width = w; lsb = 0 }

whole_pick : (w : ℕ) (codes : List ℕ) → length codes ≡ w → picked_of (whole_of w) codes ≡ codes
whole_pick w codes l =
    let z : length codes - (0 + w) ≡ 0 = omega arith in
    ap₂ (λ (a n : ℕ). part a n codes) z (sym l) ∙ part_all codes

-- then no level is no code
pub whole_coded : (k : Kept) (w : ℕ) → w ≡ width_of k.encoding → any (pick_is_bad (whole_of w)) (entries_in k) ≡ false → is_uncoded k ≡ false
whole_coded k w q n =
    entries_none k entry_is_uncoded
    (λ i h.
    ap has_no_code (sym (whole_pick w (levels_in k.encoding _) (levels_length k.encoding _ ∙ sym q)))
    ∙ entries_each k (pick_is_bad (whole_of w)) n i h)

-- ---- the input of a piece

module _ {e : Extract} {s : Sources} (p : SourcePick e s) where
  pub source_input : ReadableInput s (get_or (its_inputs s) e.signal no_input)
  source_input =
      record {
        stands = any_none (is_bad_in s) (its_inputs s) p.stand e.signal no_input p.named;
        marked = any_none (λ i. mark_is_bad (its_record s i)) (its_inputs s) (sym (any_map mark_is_bad (its_record s) (its_inputs s)) ∙ p.marked) e.signal no_input p.named;
      }

  pub source_within : end_of e ≤ width_of (get_or (its_inputs s) e.signal no_input).description.encoding
  source_within = ltb-false _ _ (sym (beyond_by_width s.bytes.now s.indices.now (its_inputs s) e p.named no_input) ∙ p.within)

-- ---- all inputs

-- a derivation of inputs that none of 2, 14 and 9 refuses
module _ (d : DerivedBitVecSignal) (s : Sources) (r : Readable d s.inputs.now s.bytes.now s.indices.now) where
  abbrev ks : List Kept
  ks = its_records s

  pub f : Fit d s.inputs.now.count ks
  f = fit d s.inputs.now.count ks r.fit

  pub readable : (x : Input) (k : ℕ) → k < length (its_inputs s) → x ≡ get_or (its_inputs s) k x → ReadableInput s x
  readable x k h e =
      record {
        stands = none_here (is_bad_in s) (its_inputs s) r.stand x k h e;
        marked = none_here (λ i. mark_is_bad (its_record s i)) (its_inputs s) (sym (any_map mark_is_bad (its_record s) (its_inputs s)) ∙ r.marked) x k h e;
      }

  pub pick_at : All (λ e. SourcePick e s) (pieces_of d)
  pick_at =
      all_both (λ e. is_bad_piece d.input_count e ≡ false) (λ e. is_beyond ks e ≡ false) (λ e. SourcePick e s)
      (λ e b w.
      record {
        named = rw (length-map (its_inputs s) (its_record s)) at (named ks d.input_count e b w);
        stand = r.stand;
        marked = r.marked;
        within = w;
      })
      (pieces_of d) (all_none (is_bad_piece d.input_count) (pieces_of d) (sound d f.sound).pieces) (all_none (is_beyond ks) (pieces_of d) f.within)

  -- where no input has such a level no piece picks one
  pub pieces_coded : All (λ i. is_uncoded (its_record s i) ≡ false) (its_inputs s) → any (code_is_bad ks) (pieces_of d) ≡ false
  pieces_coded n =
      none_each (code_is_bad ks) (pieces_of d)
      (all_of (λ e. SourcePick e s) (λ e. code_is_bad ks e ≡ false)
      (λ e p.
      let x = get_or (its_inputs s) e.signal no_input in
      let u = all_at (λ i. is_uncoded (its_record s i) ≡ false) (its_inputs s) n e.signal no_input p.named in
      code_by_entries s.bytes.now s.indices.now (its_inputs s) e p.named no_input
      ∙ entries_none (its_record s x) (pick_is_bad e) (λ k m. pick_none e _ (entries_each (its_record s x) entry_is_uncoded u k m)))
      (pieces_of d) pick_at)
