-- An entry, and bytes in a slice, as numbers of at most 64 bits.
-- Assumes nothing.
use mathlib.Core.Path.{◌≡◌, refl, sym, ap, ap₂, ◌∙◌}
use mathlib.Core.List.{List, [], ◌∷◌}
use Prim.Native.Nat.{ℕ, suc, ◌+◌, ◌-◌, ◌*◌, ◌^◌, ◌/◌, ◌%◌, ◌≤◌, ◌<◌}
use native.Mathlib.Nat.{mul-le-mul_left, mul_assoc, zero-mul, zero-add, pow-suc, div-one, div-div-eq-div-mul}
use native.Mathlib.Omega.{arith}
use native.Mathlib.Numerals.{add-one}
use Rattle.std.specs.Prelude.{Option, Some}
use Rattle.std.specs.List.{fold}
use lib.Dec.{eqb}
use borrow.Author.Tests.{eq-eqb, ne_eqb}
use lib.Bits.{bit_and, bit_or, and_mask, or_shifted, or_shifted_r, or_zero_r}
use lib.Pow.{shl_exact}
use lib.ListN.{length, get_or, set}
use Rattle.value.specs.declared.States.{States}
use Rattle.value.specs.Digits.{number, digits, Below}
use Rattle.value.specs.Slice.{part, overlay, same}
use Rattle.value.specs.Level.{fold_all, codes_of, mark_of, bits_of}
use Rattle.value.proofs.Tests.{by_eq, by_le}
use Rattle.value.proofs.Levels.{bits_up, len_room}
use Rattle.value.proofs.Digits.{pow_pow, digits_length, digits_number, number_inj}
use Rattle.value.proofs.Slices.{part_length, part_nil, overlay_nil}
use Rattle.value.proofs.Backward.{below_part, part_cons, store_front}
use Rattle.wavemem.specs.Packed.{OneWord}
use Rattle.wavemem.proofs.Packing.{length_codes}
use Rattle.wavemem.proofs.Compare.{same_is, same_not}
use Rattle.layout.specs.Entry.{entry_size}
use Rattle.layout.specs.Writable.{Writable, Numbered, entry_from}
use Rattle.layout.proofs.Sizes.{size_pos, len_le, mark_bits_lem}
use Rattle.layout.proofs.EntryLaws as laws
use Rattle.layout.proofs.Entries.{value_lt, entry_number_lem, sized, bytes}

-- one byte is its number
pub number_of_one : (l : List ℕ) (at : ℕ) → at < length l → get_or l at 0 ≡ number 256 (part at 1 l)
unfolding number
number_of_one l at h = sym (ap (number 256) (part_cons l at 0 0 h ∙ ap (λ (r : List ℕ). get_or l at 0 ∷ r) (part_nil l (at + 1))) ∙ omega arith)

module _ {M own : States} {v : List ℕ} {room at : ℕ} (ok : Writable M own v room at) (few : entry_size (length v) M ≤ 8) where
  abbrev size : ℕ
  size = entry_size (length v) M

  abbrev levels : ℕ
  levels = number (2 ^ bits_of own) (codes_of (fold_all v))

  coded : laws.Coded (length v) own (codes_of (fold_all v))
  coded = record { long = length_codes v; below = ok.codes.below }

  pub one_word : OneWord own v
  one_word =
      record {
        codes = ok.codes;
        short = omega (arith, mul-le-mul_left (length v) (bits_up own M ok.under), len_room (length v) M, len_le (length v) M);
      }

  pub some : 1 ≤ size
  some = size_pos (length v) ok.wide M

  -- the mark on top
  pub marked_number : bit_or levels (mark_of own * 2 ^ (8 * size - 2)) ≡ number 256 (entry_from M own v)
  marked_number =
      by_le 1 (mark_of own)
      (λ h.
      or_shifted_r (mark_of own) (8 * size - 2) levels
      (value_lt M coded ok.under (8 * size - 2) (omega (arith, mark_bits_lem (length v) ok.wide M (omega (arith, ok.under))))))
      (λ h.
      let z : mark_of own ≡ 0 = omega arith in
      rw (z, zero-mul) (or_zero_r levels ∙ sym (zero-add levels)))
      ∙ sym (entry_number_lem (length v) ok.wide M coded ok.under)

-- `(number << 8) | byte`
abbrev pub pushed : ℕ → ℕ → ℕ
pushed n x = bit_or (n * 2 ^ 8 % 2 ^ 64) x

-- for each of at most 8 bytes, k of which are in the number at first
pub pushed_all : (l : List ℕ) → Below 256 l → (k n : ℕ) → n < 256 ^ k → k + length l ≤ 8 → fold pushed n l ≡ n * 256 ^ length l + number 256 l
unfolding number
pushed_all [] b k n h few = omega arith
pushed_all (x ∷ l) b k n h few =
    let small : n < 2 ^ (k * 8) = rw (← pow_pow 2 8 k) h in
    let m = n * 256 + x in
    let e : pushed n x ≡ m = rw (shl_exact {a = n} (k * 8) 8 64 small (omega arith)) (or_shifted n 8 x b.0) in
    let next : m < 256 ^ (k + 1) = rw (add-one, pow-suc) (omega (arith, b.0)) in
    ap (λ (y : ℕ). fold pushed y l) e
    ∙ pushed_all l b.1 (k + 1) m next (omega arith)
    ∙ rw pow-suc (omega (arith, mul_assoc n 256 (256 ^ length l)))

-- a number's lowest digits are stored from the back
module _ (n : ℕ) (d : List ℕ) where
  pub stored_next : (k q : ℕ) → q + 1 + k ≤ length d
      → set (overlay d (q + 1) (digits 256 k n)) q (n / 256 ^ k % 256) ≡ overlay d q (digits 256 (suc k) n)
  unfolding digits
  stored_next k q h = store_front d (digits 256 k n) q (q + 1) (n / 256 ^ k % 256) refl (rw digits_length (omega arith))

  -- one byte
  pub one_stored : (q : ℕ) → q < length d → set d q (bit_and n 255) ≡ overlay d q (digits 256 1 n)
  unfolding digits
  one_stored q h =
      ap₂ (λ (o : List ℕ) (y : ℕ). set o q y) (sym (overlay_nil d (q + 1))) (and_mask n 8 ∙ ap (λ (m : ℕ). m % 256) (sym (div-one n)))
      ∙ stored_next 0 q (omega arith)

  pub rest_next : (k : ℕ) → n / 256 ^ k / 256 ≡ n / 256 ^ suc k
  rest_next k = div-div-eq-div-mul n (256 ^ k) 256 ∙ rw pow-suc

-- ---- a string's entry and its number

module _ {M own : States} {v : List ℕ} {size : ℕ} {n : Option ℕ} {e : List ℕ} (m : Numbered M own v size n) (view : entry_from M own v ≡ e) where
  pub entry_length : size ≡ length e
  entry_length = m.sized ∙ sym (sized (length v) m.writable.wide M own _) ∙ ap length view

  -- what its bytes ask, in a slice with room for them
  pub entry_writable : (room at : ℕ) → at + length e ≤ room → Writable M own v room at
  entry_writable room at r =
      let w = m.writable in
      record { under = w.under; codes = w.codes; wide = w.wide; short = w.short; fits = omega (arith, entry_length, m.sized) }

  module _ {k : ℕ} (given : n ≡ Some k) where
    few_and_is : (size ≤ 8) × (k ≡ number 256 (entry_from M own v))
    few_and_is = rw given at m.is

    pub few : size ≤ 8
    few = few_and_is.0

    is_number : k ≡ number 256 e
    is_number = few_and_is.1 ∙ ap (number 256) view

    below : Below 256 e
    below = rw (← view) (bytes (length v) m.writable.wide M own _)

    -- what is stored
    pub entry_digits : digits 256 size k ≡ e
    entry_digits = rw (is_number, entry_length) (digits_number 256 (omega arith) _ e refl below)

    -- what is compared
    pub numbers_same : (b : List ℕ) → Below 256 b → (at x : ℕ) → at + length e ≤ length b → x ≡ number 256 (part at size b)
        → eqb x k ≡ same (part at (length e) b) e
    numbers_same b under at x r i =
        let p = part at (length e) b in
        let f : x ≡ number 256 p = i ∙ ap (λ (j : ℕ). number 256 (part at j b)) entry_length in
        let l : length p ≡ length e = part_length b at (length e) r in
        by_eq x k
        (λ q. eq-eqb x k q ∙ sym (same_is p e (number_inj 256 p e l (below_part 256 b under at (length e)) below (sym f ∙ q ∙ is_number))))
        (λ q. ne_eqb x k q ∙ sym (same_not p e (λ g. q (f ∙ ap (number 256) g ∙ sym is_number))))
