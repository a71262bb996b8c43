-- The signed number and the decimal one, by the unsigned number of the same levels.
-- Assumes nothing.
use mathlib.Core.Path.{◌≡◌, refl, sym, ap, ◌∙◌}
use mathlib.Core.Bool.{Bool, true, false, cond}
use mathlib.Core.List.{List, [], ◌∷◌}
use Prim.Native.Nat.{ℕ, suc, ◌+◌, ◌-◌, ◌*◌, ◌/◌, ◌%◌, ◌^◌, ◌≤◌, ◌<◌}
use native.Mathlib.Nat.{pow-suc, zero-mul, one-mul, mul_comm, pow-le-pow_right}
use native.Mathlib.Omega.{arith}
use borrow.Author.Tests.{lt-ltb, le-ltb, lt-leb, le-leb}
use lib.Bits.{bit_and, and_mask}
use lib.Dec.{leb}
use lib.IntN.{pos, negsuc, sub_ℕ}
use lib.ListN.{length, take, get_or}
use lib.Seq.{take_all, length-take-le}
use Rattle.value.specs.Digits.{number, digits, Below}
use Rattle.value.specs.Slice.{any}
use Rattle.value.proofs.Digits.{pow_pow, number_lt, number_more, digits_length, digits_at}
use Rattle.value.proofs.Slices.{any_at}
use Rattle.value.proofs.Tests.{by_eq}
use Rattle.value.proofs.Lists.{none_from, Clear, clear_none, clear_more, clear_all}
use Rattle.fst.specs.Refusal.{refused, given, tried}
use Rattle.numbers.specs.Number.{signed_of}
use Rattle.numbers.specs.Parts.{signed_by, decimal_by}

-- ---- signed

sub_below : (a b : ℕ) → a < b → sub_ℕ a b ≡ negsuc (b - suc a)
sub_below a b h = ap (λ (t : Bool). cond t (negsuc (b - suc a)) (pos (a - b))) (lt-ltb a b h)

sub_not_below : (a b : ℕ) → b ≤ a → sub_ℕ a b ≡ pos (a - b)
sub_not_below a b h = ap (λ (t : Bool). cond t (negsuc (b - suc a)) (pos (a - b))) (le-ltb a b h)

module _ (w n : ℕ) where
  pub signed_pos : n < 2 ^ (w - 1) → signed_by w n ≡ pos n
  signed_pos h = ap (λ (t : Bool). cond t (pos n) (negsuc (2 ^ w - suc n))) (lt-ltb n (2 ^ (w - 1)) h)

  pub signed_neg : 2 ^ (w - 1) ≤ n → signed_by w n ≡ negsuc (2 ^ w - suc n)
  signed_neg h = ap (λ (t : Bool). cond t (pos n) (negsuc (2 ^ w - suc n))) (le-ltb n (2 ^ (w - 1)) h)

-- a first level 0 leaves the unsigned number as it is, and a first level 1 takes 2 ^ w off
pub signed_unsigned : (levels : List ℕ) → Below 2 levels → 1 ≤ length levels → signed_of levels ≡ signed_by (length levels) (number 2 levels)
unfolding signed_of number
signed_unsigned [] h l = absurd (omega arith)
signed_unsigned (b ∷ levels) h l =
    let k = length levels in
    let n = number 2 levels in
    let m : n < 2 ^ k = number_lt 2 levels h.1 in
    let one : suc k - 1 ≡ k = omega arith in
    by_eq b 0
    (λ z.
    let e : b * 2 ^ k ≡ 0 = rw z (zero-mul (2 ^ k)) in
    sub_not_below n (b * 2 ^ k) (omega arith)
    ∙ ap pos (omega arith)
    ∙ sym (signed_pos (suc k) (b * 2 ^ k + n) (rw one (omega arith))))
    (λ z.
    let o : b ≡ 1 = omega (arith, h.0) in
    let e : b * 2 ^ k ≡ 2 ^ k = rw o (one-mul (2 ^ k)) in
    let p : 2 ^ suc k ≡ 2 ^ k * 2 = pow-suc 2 k in
    sub_below n (b * 2 ^ k) (omega arith)
    ∙ ap negsuc (omega arith)
    ∙ sym (signed_neg (suc k) (b * 2 ^ k + n) (rw one (omega arith))))

-- ---- decimal

module _ (count n : ℕ) where
  abbrev ds : List ℕ
  ds = digits 16 count n

  -- the digit behind i others
  pub digit_at : (i : ℕ) → i < count → bit_and (n / 2 ^ (4 * (count - 1 - i))) 15 ≡ get_or ds i 0
  digit_at i h =
      let j = count - 1 - i in
      and_mask (n / 2 ^ (4 * j)) 4
      ∙ ap (λ (x : ℕ). n / x % 16) (ap (λ (k : ℕ). 2 ^ k) (mul_comm 4 j) ∙ sym (pow_pow 2 4 j))
      ∙ sym (digits_at 16 count n i j (omega arith))

  -- a digit above 9
  pub digit_high : (i : ℕ) → i < count → 9 < get_or ds i 0 → refused 18 ≡ decimal_by count n
  unfolding tried
  digit_high i l h = let e : any (leb 10) ds ≡ true = any_at (leb 10) ds i 0 (rw digits_length l) (le-leb 10 (get_or ds i 0) h) in rw e

-- the number of the first i digits, none of which is above 9
pub record Read (count n i working : ℕ) : Type 0 where
  pub clear : Clear (leb 10) (digits 16 count n) i
  pub is : working ≡ number 10 (take i (digits 16 count n))

module _ {count n : ℕ} where
  pub read_none : Read count n 0 0
  unfolding number
  read_none = record { clear = clear_none; is = refl }

  module _ {i working digit : ℕ} (h : Read count n i working) (p : i < count) (e : digit ≡ get_or (digits 16 count n) i 0) (k : digit ≤ 9) where
    pub read_more : Read count n (i + 1) (10 * working + digit)
    read_more =
        let ds = digits 16 count n in
        let l : i < length ds = rw digits_length p in
        record {
          clear = clear_more 0 l (lt-leb 10 (get_or ds i 0) (omega (arith, e))) h.clear;
          is = rw (e, h.is) (ap (λ (y : ℕ). y + get_or ds i 0) (mul_comm 10 (number 10 (take i ds))) ∙ sym (number_more 10 ds i 0 l));
        }

    -- 16 digits write a number of 64 bits
    pub read_fits : count ≤ 16 → 10 * working + digit < 2 ^ 64
    read_fits c =
        let ds = digits 16 count n in
        let l : length (take i ds) ≡ i = length-take-le i ds (rw digits_length (omega arith)) in
        let m : working < 10 ^ i = rw h.is (rw l at (number_lt 10 (take i ds) (none_from 10 (take i ds) h.clear.none))) in
        let small : i ≤ 15 = omega arith in
        let q : 10 ^ i ≤ 10 ^ 15 = pow-le-pow_right {n = 10} (omega arith) small in
        omega arith

  pub read_all : {i working : ℕ} → Read count n i working → count ≤ i → given working ≡ decimal_by count n
  unfolding tried
  read_all {i} h z =
      let ds = digits 16 count n in
      let l : length ds ≤ i = rw digits_length z in
      let c : any (leb 10) ds ≡ false = clear_all l h.clear in
      rw (c, h.is, take_all i ds l)
