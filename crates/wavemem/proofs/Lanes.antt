-- Words by their lanes: fields of one width side by side, as the bytes of a word.
-- Assumes nothing.
use mathlib.Core.Path.{◌≡◌, refl, sym, ap, ap₂, ◌∙◌}
use mathlib.Core.List.{List, [], ◌∷◌, map}
use Prim.Native.Nat.{ℕ, zero, suc, ◌+◌, ◌-◌, ◌*◌, ◌/◌, ◌%◌, ◌^◌, ◌≤◌, ◌<◌}
use native.Mathlib.Nat.{add_comm, mod-lt, mod-eq_of_lt, le_refl, le_trans, lt_of_le_of_lt, lt_of_lt_of_le, mod-le, mul-le-mul_right}
use native.Mathlib.Omega.{arith}
use lib.Bits.{bit_and, bit_or, bit_xor, and_lt, or_lt, xor_lt, and_shr, or_shr, xor_shr, and_mod, or_mod, xor_mod, and_block, and_zero_r, and_le_l, and_le_r}
use lib.Pow.{pow_pos, pow_mono, split, field, shr-shr, shr_le, mod-mod-pow}
use lib.ListN.{length, get_or, drop, replicate, length-map, length-replicate, get_or-replicate}
use Rattle.value.specs.Digits.{number, digits, Below}
use Rattle.value.proofs.Tests.{by_eq}
use Rattle.value.proofs.Digits.{pow_pow, number_lt, number_at, number_digits, digits_below, digits_length, digits_number}

-- In each of n lanes of L bits the low j bits of `a` are those of F of what `w` has there.
pub record Lows (L n w j : ℕ) (F : ℕ → ℕ) (a : ℕ) : Type 0 where
  pub small : a < 2 ^ (n * L)
  pub here : (k : ℕ) → k < n → a / 2 ^ (k * L) % 2 ^ j ≡ F (w / 2 ^ (k * L) % 2 ^ L) % 2 ^ j

-- a number below Bⁿ is that of its n digits
pub number_back : (B n x : ℕ) → 0 < B → x < B ^ n → x ≡ number B (digits B n x)
number_back B n x pos h = sym (number_digits B pos n x ∙ mod-eq_of_lt h)

low_of_low : (y i j : ℕ) → j ≤ i → y % 2 ^ i % 2 ^ j ≡ y % 2 ^ j
low_of_low y i j h = let e : i ≡ i - j + j = omega arith in rw e (mod-mod-pow y (i - j) j)

-- a mask takes only low bits
and_low : (y m j : ℕ) → m < 2 ^ j → bit_and y m ≡ bit_and (y % 2 ^ j) m
and_low y m j h =
    let e : y / 2 ^ j * 2 ^ j + y % 2 ^ j ≡ y = split y j in
    let z : 0 * 2 ^ j + m ≡ m = omega arith in
    ap₂ bit_and (sym e) (sym z)
    ∙ and_block j (y / 2 ^ j) 0 (y % 2 ^ j) m (mod-lt y (pow_pos j)) h
    ∙ ap (λ (n : ℕ). n * 2 ^ j + bit_and (y % 2 ^ j) m) (and_zero_r (y / 2 ^ j))
    ∙ omega arith

pub below_replicate : (B m n : ℕ) → m < B → Below B (replicate n m)
below_replicate B m zero h = tt
below_replicate B m (suc n) h = (h, below_replicate B m n h)

-- one number in every lane
mask_at : (L n m k : ℕ) → m < 2 ^ L → k < n → number (2 ^ L) (replicate n m) / 2 ^ (k * L) % 2 ^ L ≡ m
mask_at L n m k h i =
    rw (← pow_pow 2 L k)
    (number_at (2 ^ L) (replicate n m) (n - suc k) k (below_replicate (2 ^ L) m n h) (rw length-replicate (omega arith))
    ∙ get_or-replicate n (n - suc k) m 0 (omega arith))

below_map : (B : ℕ) (f : ℕ → ℕ) → ((x : ℕ) → x < B → f x < B) → (v : List ℕ) → Below B v → Below B (map f v)
below_map B f h [] b = tt
below_map B f h (x ∷ v) b = (h x b.0, below_map B f h v b.1)

number_sum : (B : ℕ) (f g : ℕ → ℕ) (v : List ℕ) → number B (map (λ (x : ℕ). f x + g x) v) ≡ number B (map f v) + number B (map g v)
unfolding number
number_sum B f g [] = refl
number_sum B f g (x ∷ v) = rw (number_sum B f g v, length-map v (λ (y : ℕ). f y + g y), length-map v f, length-map v g) (omega arith)

number_scaled : (B c : ℕ) (f : ℕ → ℕ) (v : List ℕ) → number B (map (λ (x : ℕ). f x * c) v) ≡ number B (map f v) * c
unfolding number
number_scaled B c f [] = omega arith
number_scaled B c f (x ∷ v) = rw (number_scaled B c f v, length-map v (λ (y : ℕ). f y * c), length-map v f) (omega arith)

-- one digit of each, where the digits of `a` are a function's values at those of `w`
digit_by : (B a w : ℕ) (F : ℕ → ℕ) (i : ℕ) → digits B i a ≡ map F (digits B i w) → (k : ℕ) → k < i → a / B ^ k % B ≡ F (w / B ^ k % B)
unfolding digits
digit_by B a w F zero e k h = absurd (omega arith)
digit_by B a w F (suc i) e k h =
    by_eq k i (λ z. rw z (ap (λ (l : List ℕ). get_or l 0 0) e)) (λ z. digit_by B a w F i (ap (drop 1) e) k (omega arith))

module _ {L n w : ℕ} where
  pub itself : w < 2 ^ (n * L) → Lows L n w L (λ (x : ℕ). x) w
  itself h = record { small = h; here = λ k i. sym (mod-eq_of_lt (mod-lt (w / 2 ^ (k * L)) (pow_pos L))) }

  module _ (op : ℕ → ℕ → ℕ)
      (lt : (k a b : ℕ) → a < 2 ^ k → b < 2 ^ k → op a b < 2 ^ k)
      (shr : (a b k : ℕ) → op a b / 2 ^ k ≡ op (a / 2 ^ k) (b / 2 ^ k))
      (low : (a b k : ℕ) → op a b % 2 ^ k ≡ op (a % 2 ^ k) (b % 2 ^ k)) where
    by_op : {j a b : ℕ} {F G : ℕ → ℕ} → Lows L n w j F a → Lows L n w j G b → Lows L n w j (λ (x : ℕ). op (F x) (G x)) (op a b)
    by_op {j} {a} {b} {F} {G} p q =
        record {
          small = lt (n * L) a b p.small q.small;
          here = λ k i.
              let s = k * L in
              let x = w / 2 ^ s % 2 ^ L in
              ap (λ (y : ℕ). y % 2 ^ j) (shr a b s)
              ∙ low (a / 2 ^ s) (b / 2 ^ s) j
              ∙ ap₂ op (p.here k i) (q.here k i)
              ∙ sym (low (F x) (G x) j);
        }

  pub by_and : {j a b : ℕ} {F G : ℕ → ℕ} → Lows L n w j F a → Lows L n w j G b → Lows L n w j (λ (x : ℕ). bit_and (F x) (G x)) (bit_and a b)
  by_and = by_op bit_and and_lt and_shr and_mod

  pub by_or : {j a b : ℕ} {F G : ℕ → ℕ} → Lows L n w j F a → Lows L n w j G b → Lows L n w j (λ (x : ℕ). bit_or (F x) (G x)) (bit_or a b)
  by_or = by_op bit_or or_lt or_shr or_mod

  pub by_xor : {j a b : ℕ} {F G : ℕ → ℕ} → Lows L n w j F a → Lows L n w j G b → Lows L n w j (λ (x : ℕ). bit_xor (F x) (G x)) (bit_xor a b)
  by_xor = by_op bit_xor xor_lt xor_shr xor_mod

  pub fewer : {i a : ℕ} {F : ℕ → ℕ} (j : ℕ) → j ≤ i → Lows L n w i F a → Lows L n w j F a
  fewer {i} {a} {F} j h p =
      record {
        small = p.small;
        here = λ k m. sym (low_of_low (a / 2 ^ (k * L)) i j h) ∙ ap (λ (y : ℕ). y % 2 ^ j) (p.here k m) ∙ low_of_low (F (w / 2 ^ (k * L) % 2 ^ L)) i j h;
      }

  pub shifted : {a : ℕ} {F : ℕ → ℕ} (j k : ℕ) → Lows L n w (j + k) F a → Lows L n w j (λ (x : ℕ). F x / 2 ^ k) (a / 2 ^ k)
  shifted {a} {F} j k p =
      record {
        small = lt_of_le_of_lt (shr_le a k) p.small;
        here = λ i m.
            let s = i * L in
            ap (λ (y : ℕ). y % 2 ^ j) (shr-shr a k s ∙ ap (λ (t : ℕ). a / 2 ^ t) (add_comm k s) ∙ sym (shr-shr a s k))
            ∙ sym (field (a / 2 ^ s) j k)
            ∙ ap (λ (y : ℕ). y / 2 ^ k) (p.here i m)
            ∙ field (F (w / 2 ^ s % 2 ^ L)) j k;
      }

  pub constant : (m : ℕ) → m < 2 ^ L → Lows L n w L (λ (x : ℕ). m) (number (2 ^ L) (replicate n m))
  constant m h =
      record {
        small = rw (← pow_pow 2 L n) (rw (length-replicate n m) at (number_lt (2 ^ L) (replicate n m) (below_replicate (2 ^ L) m n h)));
        here = λ k i. mask_at L n m k h i ∙ sym (mod-eq_of_lt h);
      }

  -- a mask of low bits, after which the lanes are known whole
  pub kept : {j a : ℕ} {F : ℕ → ℕ} (m : ℕ) → j ≤ L → m < 2 ^ j → Lows L n w j F a
      → Lows L n w L (λ (x : ℕ). bit_and (F x) m) (bit_and a (number (2 ^ L) (replicate n m)))
  kept {j} {a} {F} m h l p =
      let M = number (2 ^ L) (replicate n m) in
      let wide : m < 2 ^ L = lt_of_lt_of_le l (pow_mono h) in
      record {
        small = lt_of_le_of_lt (and_le_l a M) p.small;
        here = λ k i.
            let y = a / 2 ^ (k * L) in
            let x = F (w / 2 ^ (k * L) % 2 ^ L) in
            ap (λ (z : ℕ). z % 2 ^ L) (and_shr a M (k * L))
            ∙ and_mod y (M / 2 ^ (k * L)) L
            ∙ ap (bit_and (y % 2 ^ L)) (mask_at L n m k wide i)
            ∙ and_low (y % 2 ^ L) m j l
            ∙ ap (λ (z : ℕ). bit_and z m) (low_of_low y L j h ∙ p.here k i)
            ∙ sym (and_low x m j l)
            ∙ sym (mod-eq_of_lt (lt_of_le_of_lt (and_le_r x m) wide));
      }

  -- the lanes as digits
  first_lanes : {a : ℕ} {F : ℕ → ℕ} → Lows L n w L F a → (i : ℕ) → i ≤ n → digits (2 ^ L) i a ≡ map (λ (x : ℕ). F x % 2 ^ L) (digits (2 ^ L) i w)
  unfolding digits
  first_lanes p zero h = refl
  first_lanes p (suc i) h = ap₂ (λ (x : ℕ) (xs : List ℕ). x ∷ xs) (rw (pow_pow 2 L i) (p.here i h)) (first_lanes p i (omega arith))

  pub lanes : {a : ℕ} {F : ℕ → ℕ} → Lows L n w L F a → digits (2 ^ L) n a ≡ map (λ (x : ℕ). F x % 2 ^ L) (digits (2 ^ L) n w)
  lanes p = first_lanes p n (le_refl n)

  pub in_lanes : {a : ℕ} {F : ℕ → ℕ} → Lows L n w L F a → a ≡ number (2 ^ L) (map (λ (x : ℕ). F x % 2 ^ L) (digits (2 ^ L) n w))
  in_lanes {a} p = number_back (2 ^ L) n a (pow_pos L) (rw (pow_pow 2 L n) p.small) ∙ ap (number (2 ^ L)) (lanes p)

  pub of_lanes : (F : ℕ → ℕ) → ((x : ℕ) → x < 2 ^ L → F x < 2 ^ L) → Lows L n w L F (number (2 ^ L) (map F (digits (2 ^ L) n w)))
  of_lanes F h =
      let ds = digits (2 ^ L) n w in
      let b : Below (2 ^ L) (map F ds) = below_map (2 ^ L) F h ds (digits_below (2 ^ L) (pow_pos L) n w) in
      let l : length (map F ds) ≡ n = length-map ds F ∙ digits_length (2 ^ L) n w in
      record {
        small = rw (← pow_pow 2 L n) (rw l at (number_lt (2 ^ L) (map F ds) b));
        here = λ k i.
            rw (← pow_pow 2 L k)
            (digit_by (2 ^ L) (number (2 ^ L) (map F ds)) w F n (digits_number (2 ^ L) (pow_pos L) n (map F ds) l b) k i
            ∙ sym (mod-eq_of_lt (h (w / (2 ^ L) ^ k % 2 ^ L) (mod-lt (w / (2 ^ L) ^ k) (pow_pos L)))));
      }

  -- sums and shifts to the left that leave no lane
  pub added : {a b : ℕ} {F G : ℕ → ℕ} → Lows L n w L F a → Lows L n w L G b → ((x : ℕ) → x < 2 ^ L → F x % 2 ^ L + G x % 2 ^ L < 2 ^ L)
      → Lows L n w L (λ (x : ℕ). F x % 2 ^ L + G x % 2 ^ L) (a + b)
  added {a} {b} {F} {G} p q h =
      let e : number (2 ^ L) (map (λ (x : ℕ). F x % 2 ^ L + G x % 2 ^ L) (digits (2 ^ L) n w)) ≡ a + b
      = number_sum (2 ^ L) (λ (x : ℕ). F x % 2 ^ L) (λ (x : ℕ). G x % 2 ^ L) (digits (2 ^ L) n w) ∙ ap₂ (λ (x y : ℕ). x + y) (sym (in_lanes p)) (sym (in_lanes q)) in
      rw e at (of_lanes (λ (x : ℕ). F x % 2 ^ L + G x % 2 ^ L) h)

  raised : {a : ℕ} {F : ℕ → ℕ} (k : ℕ) → Lows L n w L F a → ((x : ℕ) → x < 2 ^ L → F x % 2 ^ L * 2 ^ k < 2 ^ L)
      → Lows L n w L (λ (x : ℕ). F x % 2 ^ L * 2 ^ k) (a * 2 ^ k % 2 ^ (n * L))
  raised {a} {F} k p h =
      let e : number (2 ^ L) (map (λ (x : ℕ). F x % 2 ^ L * 2 ^ k) (digits (2 ^ L) n w)) ≡ a * 2 ^ k
      = number_scaled (2 ^ L) (2 ^ k) (λ (x : ℕ). F x % 2 ^ L) (digits (2 ^ L) n w) ∙ ap (λ (x : ℕ). x * 2 ^ k) (sym (in_lanes p)) in
      let r : Lows L n w L (λ (x : ℕ). F x % 2 ^ L * 2 ^ k) (a * 2 ^ k) = rw e at (of_lanes (λ (x : ℕ). F x % 2 ^ L * 2 ^ k) h) in
      rw (mod-eq_of_lt r.small) r

  pub kept_raised : {j a : ℕ} {F : ℕ → ℕ} (m k : ℕ) → j ≤ L → m < 2 ^ j → m * 2 ^ k < 2 ^ L → Lows L n w j F a
      → Lows L n w L (λ (x : ℕ). bit_and (F x) m % 2 ^ L * 2 ^ k) (bit_and a (number (2 ^ L) (replicate n m)) * 2 ^ k % 2 ^ (n * L))
  kept_raised {F = F} m k h l u p =
      raised k (kept m h l p) (λ x i. lt_of_le_of_lt (mul-le-mul_right (2 ^ k) (le_trans (mod-le (bit_and (F x) m) (2 ^ L)) (and_le_r (F x) m))) u)
