-- Digits that stand in the low bits of a word's lanes, pushed together: neighbours are joined, and then those, until one lane is left.
-- Assumes nothing.
use mathlib.Core.Path.{◌≡◌, refl, sym, ap, ap₂, ◌∙◌}
use mathlib.Core.Bool.{true}
use mathlib.Core.List.{List, [], ◌∷◌, map}
use Prim.Native.Nat.{ℕ, zero, suc, ◌+◌, ◌-◌, ◌*◌, ◌/◌, ◌%◌, ◌^◌, ◌≤◌, ◌<◌}
use native.Mathlib.Nat.{pow-zero, pow-suc, mul_assoc, mod-eq_of_lt, zero-lt-suc, lt_of_lt_of_le}
use native.Mathlib.Omega.{arith}
use borrow.Author.Tests.{eqb-true}
use lib.Dec.{eqb}
use lib.Arith.{digits_lt}
use lib.Bits.{bit_and, bit_or, and_mask, or_mod, or_shifted_r}
use lib.Pow.{pow-add, pow_pos, pow_mono, ones_lt, shl_lt, high, low}
use lib.ListN.{length, replicate}
use Rattle.value.specs.Digits.{number, digits, Below}
use Rattle.value.proofs.Classes.{each_byte}
use Rattle.value.proofs.Digits.{below_mono, pow_pow, number_lt, digits_number, digits_length}
use Rattle.wavemem.proofs.Lanes.{Lows, itself, by_or, fewer, shifted, kept, in_lanes, number_back}

-- two digits to the base B as one
unfoldable pairs : ℕ → List ℕ → List ℕ
pairs B [] = []
pairs B (p ∷ []) = p ∷ []
pairs B (p ∷ q ∷ ds) = (p * B + q) ∷ pairs B ds

-- one digit is its own number under any base
one : (B C : ℕ) (ds : List ℕ) → length ds ≡ 1 → number B ds ≡ number C ds
unfolding number
one B C [] l = refl
one B C (d ∷ []) l = rw (pow-zero B, pow-zero C)
one B C (d ∷ e ∷ ds) l = absurd (omega arith)

pair_lt : {p q : ℕ} (b : ℕ) → p < 2 ^ b → q < 2 ^ b → p * 2 ^ b + q < 2 ^ (2 * b)
pair_lt b hp hq = let m : 2 * b ≡ b + b = omega arith in rw (m, pow-add 2 b b) (digits_lt hp hq)

-- a list of 2n is taken apart by two
by_two : {P : ℕ → List ℕ → Type 0} → P 0 [] → ((n p q : ℕ) (ds : List ℕ) → length ds ≡ n * 2 → P n ds → P (suc n) (p ∷ q ∷ ds))
    → (n : ℕ) (ds : List ℕ) → length ds ≡ n * 2 → P n ds
by_two z s zero [] e = z
by_two z s zero (p ∷ ds) e = absurd (omega arith)
by_two z s (suc n) [] e = absurd (omega arith)
by_two z s (suc n) (p ∷ []) e = absurd (omega arith)
by_two z s (suc n) (p ∷ q ∷ ds) e = let h : length ds ≡ n * 2 = omega arith in s n p q ds h (by_two z s n ds h)

pairs_length : (B n : ℕ) (ds : List ℕ) → length ds ≡ n * 2 → length (pairs B ds) ≡ n
unfolding pairs
pairs_length B = by_two {P = λ n ds. length (pairs B ds) ≡ n} refl (λ n p q ds l e. ap suc e)

pairs_number : (B n : ℕ) (ds : List ℕ) → length ds ≡ n * 2 → number (B ^ 2) (pairs B ds) ≡ number B ds
unfolding pairs number
pairs_number B =
    by_two {P = λ n ds. number (B ^ 2) (pairs B ds) ≡ number B ds} refl
    (λ n p q ds l e. rw (e, pairs_length B n ds l, pow_pow B 2 n, l, pow-suc B (n * 2)) (omega arith))

pairs_below : (b n : ℕ) (ds : List ℕ) → length ds ≡ n * 2 → Below (2 ^ b) ds → Below (2 ^ (2 * b)) (pairs (2 ^ b) ds)
unfolding pairs
pairs_below b =
    by_two {P = λ n ds. Below (2 ^ b) ds → Below (2 ^ (2 * b)) (pairs (2 ^ b) ds)} (λ h. tt)
    (λ n p q ds l ih h. (pair_lt b h.0 h.1.0, ih h.1.1))

-- ---- one step

-- digits of b bits in lanes of L: each joins its neighbour, in n lanes of twice the width
abbrev pub push : ℕ → ℕ → ℕ → ℕ → ℕ
push L b n x = bit_and (bit_or x (x / 2 ^ (L - b))) (number (2 ^ (2 * L)) (replicate n (2 ^ (2 * b) - 1)))

module _ (L b : ℕ) (room : 2 * b ≤ L) where
  -- one lane of a step
  abbrev join : ℕ → ℕ
  join x = bit_and (bit_or x (x / 2 ^ (L - b))) (2 ^ (2 * b) - 1)

  join_is : (p q : ℕ) → p < 2 ^ b → q < 2 ^ b → join (p * 2 ^ L + q) % 2 ^ (2 * L) ≡ p * 2 ^ b + q
  join_is p q hp hq =
      let x = p * 2 ^ L + q in
      let d = L - b in
      let e : L - 2 * b + 2 * b ≡ L = omega arith in
      let f : b + d ≡ L = omega arith in
      let m : 2 * b ≡ b + b = omega arith in
      let lo : x % 2 ^ (2 * b) ≡ q
      = ap (λ (z : ℕ). (z + q) % 2 ^ (2 * b)) (ap (λ (z : ℕ). p * 2 ^ z) (sym e) ∙ ap (λ (z : ℕ). p * z) (pow-add 2 (L - 2 * b) (2 * b)) ∙ sym (mul_assoc p (2 ^ (L - 2 * b)) (2 ^ (2 * b))))
      ∙ low (p * 2 ^ (L - 2 * b)) (2 * b) (lt_of_lt_of_le hq (pow_mono (omega arith))) in
      let hi : x / 2 ^ d ≡ p * 2 ^ b
      = ap (λ (z : ℕ). (z + q) / 2 ^ d) (ap (λ (z : ℕ). p * 2 ^ z) (sym f) ∙ ap (λ (z : ℕ). p * z) (pow-add 2 b d) ∙ sym (mul_assoc p (2 ^ b) (2 ^ d)))
      ∙ high (p * 2 ^ b) d (lt_of_lt_of_le hq (pow_mono (omega arith))) in
      let up : p * 2 ^ b < 2 ^ (2 * b) = rw m (shl_lt {a = p} b b hp) in
      let s : join x ≡ p * 2 ^ b + q
      = and_mask (bit_or x (x / 2 ^ d)) (2 * b)
      ∙ or_mod x (x / 2 ^ d) (2 * b)
      ∙ ap₂ bit_or lo (ap (λ (z : ℕ). z % 2 ^ (2 * b)) hi ∙ mod-eq_of_lt up)
      ∙ or_shifted_r p b q hq in
      ap (λ (z : ℕ). z % 2 ^ (2 * L)) s ∙ mod-eq_of_lt (lt_of_lt_of_le (pair_lt b hp hq) (pow_mono (omega arith)))

  joined : (n : ℕ) (ds : List ℕ) → length ds ≡ n * 2 → Below (2 ^ b) ds → map (λ (x : ℕ). join x % 2 ^ (2 * L)) (pairs (2 ^ L) ds) ≡ pairs (2 ^ b) ds
  unfolding pairs
  joined =
      by_two {P = λ n ds. Below (2 ^ b) ds → map (λ (x : ℕ). join x % 2 ^ (2 * L)) (pairs (2 ^ L) ds) ≡ pairs (2 ^ b) ds} (λ h. refl)
      (λ n p q ds l ih h. ap₂ (λ (x : ℕ) (xs : List ℕ). x ∷ xs) (join_is p q h.0 h.1.0) (ih h.1.1))

  pushed : (n : ℕ) (ds : List ℕ) → length ds ≡ n * 2 → Below (2 ^ b) ds → push L b n (number (2 ^ L) ds) ≡ number (2 ^ (2 * L)) (pairs (2 ^ b) ds)
  pushed n ds l h =
      let x = number (2 ^ L) ds in
      let g : Below (2 ^ L) ds = below_mono (2 ^ b) (2 ^ L) ds (pow_mono (omega arith)) h in
      let two : x ≡ number (2 ^ (2 * L)) (pairs (2 ^ L) ds) = sym (pairs_number (2 ^ L) n ds l) ∙ ap (λ (B : ℕ). number B (pairs (2 ^ L) ds)) (pow_pow 2 L 2) in
      let ps : Below (2 ^ (2 * L)) (pairs (2 ^ L) ds) = pairs_below L n ds l g in
      let pn : length (pairs (2 ^ L) ds) ≡ n = pairs_length (2 ^ L) n ds l in
      let small : x < 2 ^ (n * (2 * L)) = rw (two, ← pow_pow 2 (2 * L) n) (rw pn at (number_lt (2 ^ (2 * L)) (pairs (2 ^ L) ds) ps)) in
      let all : Lows (2 * L) n x (2 * L) (λ (y : ℕ). y) x = itself small in
      let r : Lows (2 * L) n x (2 * L) join (push L b n x)
      = kept {j = 2 * b} (2 ^ (2 * b) - 1) (omega arith) (ones_lt (2 * b))
      (by_or (fewer (2 * b) (omega arith) all) (shifted (2 * b) (L - b) (fewer (2 * b + (L - b)) (omega arith) all))) in
      in_lanes r
      ∙ ap (λ (ls : List ℕ). number (2 ^ (2 * L)) (map (λ (y : ℕ). join y % 2 ^ (2 * L)) ls))
      (ap (digits (2 ^ (2 * L)) n) two ∙ digits_number (2 ^ (2 * L)) (pow_pos (2 * L)) n (pairs (2 ^ L) ds) pn ps)
      ∙ ap (number (2 ^ (2 * L))) (joined n ds l h)

-- ---- steps until one lane is left

-- k steps, from 2 ^ k lanes of L bits on
abbrev pub pushes : ℕ → ℕ → ℕ → ℕ → ℕ
pushes zero L b x = x
pushes (suc k) L b x = pushes k (2 * L) (2 * b) (push L b (2 ^ k) x)

pushed_all : (k L b : ℕ) (ds : List ℕ) → 2 * b ≤ L → length ds ≡ 2 ^ k → Below (2 ^ b) ds → pushes k L b (number (2 ^ L) ds) ≡ number (2 ^ b) ds
pushed_all zero L b ds r l h = one (2 ^ L) (2 ^ b) ds (rw pow-zero at l)
pushed_all (suc k) L b ds r l h =
    let m : length ds ≡ 2 ^ k * 2 = l ∙ pow-suc 2 k in
    ap (pushes k (2 * L) (2 * b)) (pushed L b r (2 ^ k) ds m h)
    ∙ pushed_all k (2 * L) (2 * b) (pairs (2 ^ b) ds) (omega arith) (pairs_length (2 ^ b) (2 ^ k) ds m) (pairs_below b (2 ^ k) ds m h)
    ∙ ap (λ (B : ℕ). number B (pairs (2 ^ b) ds)) (sym (pow_pow 2 b 2))
    ∙ pairs_number (2 ^ b) (2 ^ k) ds m

-- of a number of 2 ^ k lanes
pub squeezed : (k L b x : ℕ) → 2 * b ≤ L → x < (2 ^ L) ^ (2 ^ k) → Below (2 ^ b) (digits (2 ^ L) (2 ^ k) x) → pushes k L b x ≡ number (2 ^ b) (digits (2 ^ L) (2 ^ k) x)
squeezed k L b x r m h =
    let ds = digits (2 ^ L) (2 ^ k) x in
    ap (pushes k L b) (number_back (2 ^ L) (2 ^ k) x (pow_pos L) m) ∙ pushed_all k L b ds r (digits_length (2 ^ L) (2 ^ k) x) h

-- ---- digits of one bit need no masks, computed at each byte

abbrev unmasked : ℕ → ℕ
unmasked x =
    let y = bit_or x (x / 2 ^ 7) in
    let z = bit_or y (y / 2 ^ 14) in
    bit_and (bit_or z (z / 2 ^ 28)) 255

computed : (n : ℕ) → n < 256 → unmasked (number 256 (digits 2 8 n)) ≡ n
unfolding number digits
computed n h =
    eqb-true (unmasked (number 256 (digits 2 8 n))) n
    (each_byte (λ (k : ℕ). true) (λ (k : ℕ). eqb (unmasked (number 256 (digits 2 8 k))) k) tt n h refl)

pub bits_squeezed : (x : ℕ) → x < 2 ^ 64 → Below 2 (digits 256 8 x) → unmasked x ≡ number 2 (digits 256 8 x)
bits_squeezed x m k =
    let ds = digits 256 8 x in
    let l = digits_length 256 8 x in
    ap unmasked (number_back 256 8 x (zero-lt-suc 255) m ∙ ap (number 256) (sym (digits_number 2 (zero-lt-suc 1) 8 ds l k)))
    ∙ computed (number 2 ds) (rw l at (number_lt 2 ds k))
