-- An entry that was laid out is read back: its own set, its codes, its text.
-- Assumes nothing.
use mathlib.Core.Path.{◌≡◌, sym, ap, ap₂, ◌∙◌}
use mathlib.Core.Bool.{false}
use mathlib.Core.List.{List}
use Prim.Native.Nat.{ℕ, suc, ◌+◌, ◌-◌, ◌*◌, ◌/◌, ◌%◌, ◌^◌, ◌≤◌, ◌<◌}
use native.Mathlib.Nat.{mul_comm, mul_assoc, add_comm, zero-mul, zero-add, mul-le-mul_left, lt_of_lt_of_le, div-lt_iff_lt-mul, div-add-mod'}
use native.Mathlib.Omega.{arith}
use lib.ListN.{length, get_or, take, drop, length-drop, take-append-drop}
use lib.Pow.{pow-add, pow_mono}
use borrow.Author.Tests.{le-ltb}
use Rattle.value.specs.declared.States.{States}
use Rattle.value.specs.declared.States.TheVariants.{Two, Four, Nine}
use Rattle.value.specs.Digits.{number, digits, Below}
use Rattle.value.specs.Level.{mark_of, bits_of, len_of, set_at, codes_of}
use Rattle.value.proofs.Digits.{pow_pow, base_pos, number_lt, number_append, number_digits, digits_number, digits_high}
use Rattle.value.proofs.Tests.{by_le}
use Rattle.value.proofs.Levels.{bits_up, mark_small, set_mark, len_room, none_foreign, text_codes}
use Rattle.fst.specs.declared.Encoding.TheVariants.{BitVector}
use Rattle.layout.specs.Entry.{entry_size, entry_of}
use Rattle.layout.proofs.EntryLaws.{Coded}
use Rattle.layout.proofs.Sizes.{Marked, size_pos, mark_bits_lem}
use Rattle.layout.proofs.Entries.{marked_digits, sized}
use Rattle.layout.proofs.EntryParts.{len_fits}
use Rattle.signal.specs.Decode.{mark_in, set_in, level_part, levels_in, has_bad_mark, has_bad_code, text_in}

-- a power of two as a multiple of w levels of b bits
over : (b w k : ℕ) → w * b ≤ k → 2 ^ k ≡ 2 ^ (k - w * b) * (2 ^ b) ^ w
over b w k h =
    let e : k ≡ (k - w * b) + w * b = omega arith in
    ap (λ (n : ℕ). 2 ^ n) e ∙ pow-add 2 (k - w * b) (w * b) ∙ ap (λ (n : ℕ). 2 ^ (k - w * b) * n) (sym (pow_pow 2 b w))

bytes_over : (b w n : ℕ) → w * b ≤ 8 * n → 256 ^ n ≡ 2 ^ (8 * n - w * b) * (2 ^ b) ^ w
bytes_over b w n h = pow_pow 2 8 n ∙ ap (λ (k : ℕ). 2 ^ k) (mul_comm n 8) ∙ over b w (8 * n) h

module _ {w : ℕ} {own : States} {cs : List ℕ} (pos : 1 ≤ w) (M : States) (c : Coded w own cs) (h : mark_of own ≤ mark_of M) where
  abbrev B : ℕ
  B = 2 ^ bits_of own

  abbrev whole : ℕ
  whole = mark_of own * 2 ^ (8 * entry_size w M - 2) + number B cs

  abbrev entry : List ℕ
  entry = entry_of w M own cs

  B-pos : 0 < B
  B-pos = base_pos 2 (omega arith) (bits_of own)

  -- ---- the mark

  bits_fit : w * bits_of own ≤ w * bits_of M
  bits_fit = mul-le-mul_left w (bits_up own M h)

  levels_free : Marked M → number B cs < 2 ^ (8 * entry_size w M - 2)
  levels_free m =
      lt_of_lt_of_le (rw (pow_pow 2 (bits_of own) (length cs)) at (number_lt B cs c.below))
      (pow_mono (rw c.long (omega (arith, bits_fit, mark_bits_lem w pos M m))))

  head_mark : Marked M → get_or entry 0 0 / 64 ≡ mark_of own
  unfolding entry_of
  head_mark m =
      let n = entry_size w M - 1 in
      let s : entry_size w M ≡ suc n = omega (arith, size_pos w pos M) in
      let p : 2 ^ (8 * entry_size w M - 2) ≡ 64 * 256 ^ n = weight n s in
      let f : number B cs < 64 * 256 ^ n = rw p at (levels_free m) in
      let q : number B cs / 256 ^ n < 64 = (div-lt_iff_lt-mul (base_pos 256 (omega arith) n)).1 f in
      ap (λ (v : List ℕ). get_or v 0 0 / 64) (ap₂ (λ (k x : ℕ). digits 256 k (mark_of own * x + number B cs)) s p ∙ marked_digits n (mark_of own) (number B cs) (mark_small own) f)
      ∙ omega arith
    where
      weight : (n : ℕ) → entry_size w M ≡ suc n → 2 ^ (8 * entry_size w M - 2) ≡ 64 * 256 ^ n
      weight n s =
          let e : 8 * entry_size w M - 2 ≡ 6 + 8 * n = omega arith in
          ap (λ (k : ℕ). 2 ^ k) e ∙ pow-add 2 6 (8 * n) ∙ ap (λ (k : ℕ). 64 * k) (ap (λ (k : ℕ). 2 ^ k) (mul_comm 8 n) ∙ sym (pow_pow 2 8 n))

  pub mark_back : mark_in M entry ≡ mark_of own
  unfolding mark_in
  mark_back = go M h head_mark
    where
      go : (N : States) → mark_of own ≤ mark_of N → (Marked N → get_or entry 0 0 / 64 ≡ mark_of own) → mark_in N entry ≡ mark_of own
      go Two k f = omega arith
      go Four k f = f (omega arith)
      go Nine k f = f (omega arith)

  -- ---- the codes

  -- bytes in front of the levels, and a mark over them, change no level
  last_bytes : (k : ℕ) → k ≤ length entry → w * bits_of own ≤ 8 * (length entry - k) → digits B w (number 256 (drop k entry)) ≡ digits B w (number 256 entry)
  last_bytes k l r =
      let n = length entry - k in
      let t = number 256 (take k entry) in
      let e : number 256 entry ≡ number 256 (drop k entry) + t * 2 ^ (8 * n - w * bits_of own) * B ^ w =
      ap (number 256) (sym (take-append-drop k entry)) ∙ number_append 256 (take k entry) (drop k entry)
      ∙ ap (λ (x : ℕ). t * 256 ^ x + number 256 (drop k entry)) (length-drop k entry)
      ∙ ap (λ (x : ℕ). t * x + number 256 (drop k entry)) (bytes_over (bits_of own) w n r)
      ∙ add_comm (t * (2 ^ (8 * n - w * bits_of own) * B ^ w)) (number 256 (drop k entry))
      ∙ ap (λ (x : ℕ). number 256 (drop k entry) + x) (sym (mul_assoc t (2 ^ (8 * n - w * bits_of own)) (B ^ w))) in
      sym (ap (digits B w) e ∙ digits_high B B-pos w (number 256 (drop k entry)) (t * 2 ^ (8 * n - w * bits_of own)))

  room : w * bits_of own ≤ 8 * entry_size w M
  room = omega (arith, len_room w own, len_fits w own M h)

  whole_number : digits B w (number 256 entry) ≡ digits B w whole
  unfolding entry_of
  whole_number =
      let n = entry_size w M in
      let z = 2 ^ (8 * n - w * bits_of own) in
      let e : whole ≡ whole % 256 ^ n + whole / 256 ^ n * z * B ^ w =
      sym (div-add-mod' whole (256 ^ n)) ∙ add_comm (whole / 256 ^ n * 256 ^ n) (whole % 256 ^ n)
      ∙ ap (λ (x : ℕ). whole % 256 ^ n + whole / 256 ^ n * x) (bytes_over (bits_of own) w n room)
      ∙ ap (λ (x : ℕ). whole % 256 ^ n + x) (sym (mul_assoc (whole / 256 ^ n) z (B ^ w))) in
      ap (digits B w) (number_digits 256 (omega arith) n whole)
      ∙ sym (ap (digits B w) e ∙ digits_high B B-pos w (whole % 256 ^ n) (whole / 256 ^ n * z))

  marked_whole : Marked M → digits B w whole ≡ digits B w (number B cs)
  marked_whole m =
      let k = 8 * entry_size w M - 2 in
      let z = 2 ^ (k - w * bits_of own) in
      let e : whole ≡ number B cs + mark_of own * z * B ^ w =
      ap (λ (x : ℕ). mark_of own * x + number B cs) (over (bits_of own) w k (omega (arith, bits_fit, mark_bits_lem w pos M m)))
      ∙ add_comm (mark_of own * (z * B ^ w)) (number B cs)
      ∙ ap (λ (x : ℕ). number B cs + x) (sym (mul_assoc (mark_of own) z (B ^ w))) in
      ap (digits B w) e ∙ digits_high B B-pos w (number B cs) (mark_of own * z)

  whole_levels : digits B w whole ≡ digits B w (number B cs)
  whole_levels = by_le (mark_of M) 0 (λ z. ap (digits B w) (plain (omega arith))) marked_whole
    where
      plain : mark_of own ≡ 0 → whole ≡ number B cs
      plain z = ap (λ (m : ℕ). m * 2 ^ (8 * entry_size w M - 2) + number B cs) z ∙ rw (zero-mul, zero-add)

  pub set_back : set_in (BitVector w M) entry ≡ own
  unfolding set_in
  set_back = ap set_at mark_back ∙ set_mark own

  pub codes_back : levels_in (BitVector w M) entry ≡ cs
  unfolding levels_in level_part
  codes_back =
      let n = entry_size w M in
      let l : length entry ≡ n = sized w pos M own cs in
      let f : len_of w own ≤ n = len_fits w own M h in
      let e : length entry - (n - len_of w own) ≡ len_of w own = omega arith in
      ap (λ (S : States). digits (2 ^ bits_of S) w (number 256 (drop (n - len_of w S) entry))) set_back
      ∙ last_bytes (n - len_of w own) (omega arith) (rw e (len_room w own))
      ∙ whole_number ∙ whole_levels ∙ digits_number B B-pos w cs c.long c.below

  pub mark_sound : has_bad_mark (BitVector w M) entry ≡ false
  unfolding has_bad_mark
  mark_sound = le-ltb (mark_of M) (mark_in M entry) (rw mark_back h)

  pub code_sound : Below 9 cs → has_bad_code (BitVector w M) entry ≡ false
  code_sound b = rw codes_back (none_foreign cs b)

-- the text of a string's entry is the string
pub text_back : {w : ℕ} {own : States} → 1 ≤ w → (M : States) (s : List ℕ) → Coded w own (codes_of s) → mark_of own ≤ mark_of M → Below 9 (codes_of s)
    → text_in (BitVector w M) (entry_of w M own (codes_of s)) ≡ s
text_back pos M s c h b = rw (codes_back pos M c h) (text_codes s b)
