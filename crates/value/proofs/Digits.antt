-- Laws of positional notation, over any base.
-- Assumes nothing.
use mathlib.Core.Path.{◌≡◌, refl, sym, ap, ap₂, ◌∙◌}
use mathlib.Core.List.{List, [], ◌∷◌, ◌++◌}
use Prim.Native.Nat.{ℕ, zero, suc, ◌+◌, ◌-◌, ◌*◌, ◌/◌, ◌%◌, ◌^◌, ◌≤◌, ◌<◌}
use native.Mathlib.Nat.{pow-zero, pow-suc, zero-lt-suc, suc_inj, suc-ne-zero, suc-add, one-le-pow, mod-eq_of_lt, mod-lt, add_comm, mul_comm, mul_assoc, div-div-eq-div-mul, zero-add, zero-mul, suc-mul, mod-one, add-mul-div_right, add-mul-mod_self_right, div-eq_of_lt, pow-le-pow_right, lt_of_lt_of_le, not-suc-le-zero, le_of_suc-le-suc}
use native.Mathlib.Numerals.{add-one}
use native.Mathlib.Omega.{arith}
use lib.ListN.{length, get_or, take, drop, replicate, length-append, length-drop, take-append-drop}
use lib.Seq.{take-suc}
use lib.Pow.{pow-add}
use lib.Arith.{digits_lt, digits_div, digits_mod, mod-mul}
use Rattle.value.specs.Digits.{number, digits, Below}

pub below_at : (B : ℕ) (ds : List ℕ) → Below B ds → (i d : ℕ) → i < length ds → get_or ds i d < B
below_at B [] h i d k = absurd (not-suc-le-zero k)
below_at B (x ∷ ds) h zero d k = h.0
below_at B (x ∷ ds) h (suc i) d k = below_at B ds h.1 i d (le_of_suc-le-suc k)

pub below_all : (B : ℕ) (ds : List ℕ) → ((i : ℕ) → get_or ds i 0 < B) → Below B ds
below_all B [] h = tt
below_all B (d ∷ ds) h = (h 0, below_all B ds (λ i. h (suc i)))

pub below_mono : (B C : ℕ) (ds : List ℕ) → B ≤ C → Below B ds → Below C ds
below_mono B C [] h b = tt
below_mono B C (d ∷ ds) h b = (lt_of_lt_of_le b.0 h, below_mono B C ds h b.1)

pub below_append : (B : ℕ) (xs ys : List ℕ) → Below B xs → Below B ys → Below B (xs ++ ys)
below_append B [] ys a b = b
below_append B (x ∷ xs) ys a b = (a.0, below_append B xs ys a.1 b)

pub below_take : (B : ℕ) (ds : List ℕ) → Below B ds → (i : ℕ) → Below B (take i ds)
below_take B ds h zero = tt
below_take B [] h (suc i) = tt
below_take B (x ∷ ds) h (suc i) = (h.0, below_take B ds h.1 i)

pub below_drop : (B : ℕ) (ds : List ℕ) → Below B ds → (i : ℕ) → Below B (drop i ds)
below_drop B ds h zero = h
below_drop B [] h (suc i) = h
below_drop B (x ∷ ds) h (suc i) = below_drop B ds h.1 i

pub pow_pow : (n a b : ℕ) → (n ^ a) ^ b ≡ n ^ (b * a)
pow_pow n a zero = simp (pow-zero, zero-mul)
pow_pow n a (suc b) = rw (pow-suc (n ^ a) b, pow_pow n a b, suc-mul, pow-add)

-- ---- the number of digits

pub number_lt : (B : ℕ) (ds : List ℕ) → Below B ds → number B ds < B ^ length ds
unfolding number
number_lt B [] h = rw pow-zero (zero-lt-suc 0)
number_lt B (d ∷ ds) h = rw (pow-suc, mul_comm (B ^ length ds) B) (digits_lt h.0 (number_lt B ds h.1))

pub number_append : (B : ℕ) (xs ys : List ℕ) → number B (xs ++ ys) ≡ number B xs * B ^ length ys + number B ys
unfolding number
number_append B [] ys = omega arith
number_append B (x ∷ xs) ys = rw (number_append B xs ys, length-append xs ys, pow-add) (omega arith)

pub number_snoc : (B : ℕ) (xs : List ℕ) (d : ℕ) → number B (xs ++ (d ∷ [])) ≡ number B xs * B + d
unfolding number
number_snoc B xs d = number_append B xs (d ∷ []) ∙ rw (pow-suc, pow-zero) (omega arith)

-- one digit more
pub number_more : (B : ℕ) (ds : List ℕ) (i d : ℕ) → i < length ds → number B (take (i + 1) ds) ≡ number B (take i ds) * B + get_or ds i d
number_more B ds i d h = rw (add-one, take-suc ds i d, number_snoc)

-- the digits in front
pub number_prefix : (B : ℕ) (ds : List ℕ) (i : ℕ) → Below B ds → number B ds / B ^ (length ds - i) ≡ number B (take i ds)
number_prefix B ds i h =
    ap (λ (l : List ℕ). number B l / B ^ (length ds - i)) (sym (take-append-drop i ds))
    ∙ rw (number_append, ← length-drop i ds) (digits_div (number B (take i ds)) (number_lt B (drop i ds) (below_drop B ds h i)))

-- one digit: j stand behind it
pub number_at : (B : ℕ) (ds : List ℕ) (i j : ℕ) → Below B ds → i + suc j ≡ length ds → number B ds / B ^ j % B ≡ get_or ds i 0
number_at B ds i j h e =
    let z : j ≡ length ds - (i + 1) = omega arith in
    rw (z, number_prefix B ds (i + 1) h, number_more B ds i 0 (omega arith))
    (digits_mod (number B (take i ds)) (below_at B ds h i 0 (omega arith)))

-- two lists of digits that are as long and write one number are one list
pub number_inj : (B : ℕ) (xs ys : List ℕ) → length xs ≡ length ys → Below B xs → Below B ys → number B xs ≡ number B ys → xs ≡ ys
unfolding number
number_inj B [] [] l h k e = refl
number_inj B [] (y ∷ ys) l h k e = absurd (suc-ne-zero (length ys) (sym l))
number_inj B (x ∷ xs) [] l h k e = absurd (suc-ne-zero (length xs) l)
number_inj B (x ∷ xs) (y ∷ ys) l h k e =
    let m : length xs ≡ length ys = suc_inj l in
    let f : x * B ^ length xs + number B xs ≡ y * B ^ length xs + number B ys = e ∙ ap (λ (n : ℕ). y * B ^ n + number B ys) (sym m) in
    let a : number B xs < B ^ length xs = number_lt B xs h.1 in
    let b : number B ys < B ^ length xs = rw m (number_lt B ys k.1) in
    let p : x ≡ y = sym (digits_div x a) ∙ ap (λ (n : ℕ). n / B ^ length xs) f ∙ digits_div y b in
    let q : number B xs ≡ number B ys = sym (digits_mod x a) ∙ ap (λ (n : ℕ). n % B ^ length xs) f ∙ digits_mod y b in
    ap₂ (λ (z : ℕ) (zs : List ℕ). z ∷ zs) p (number_inj B xs ys m h.1 k.1 q)

-- ---- the digits of a number

pub digits_length : (B k n : ℕ) → length (digits B k n) ≡ k
unfolding digits
digits_length B zero n = refl
digits_length B (suc k) n = ap suc (digits_length B k n)

-- the digit at a place: j stand behind it
pub digits_at : (B k n i j : ℕ) → i + suc j ≡ k → get_or (digits B k n) i 0 ≡ n / B ^ j % B
unfolding digits
digits_at B zero n i j e = absurd (omega arith)
digits_at B (suc k) n zero j e = let m : j ≡ k = omega arith in rw m
digits_at B (suc k) n (suc i) j e = digits_at B k n i j (omega arith)

module _ (B : ℕ) (pos : 0 < B) where
  pub base_pos : (k : ℕ) → 0 < B ^ k
  base_pos k = one-le-pow k B pos

  pub digits_below : (k n : ℕ) → Below B (digits B k n)
  unfolding digits
  digits_below zero n = tt
  digits_below (suc k) n = (mod-lt (n / B ^ k) pos, digits_below k n)

  pub number_digits : (k n : ℕ) → number B (digits B k n) ≡ n % B ^ k
  unfolding digits number
  number_digits zero n = rw pow-zero (sym (mod-one n))
  number_digits (suc k) n =
      rw (digits_length B k n, number_digits k n, pow-suc, mul_comm (B ^ k) B) (sym (mod-mul n pos (base_pos k)))

  pub digits_inj : (k : ℕ) {a b : ℕ} → a < B ^ k → b < B ^ k → digits B k a ≡ digits B k b → a ≡ b
  digits_inj k {a} {b} h j e =
      sym (mod-eq_of_lt h) ∙ sym (number_digits k a) ∙ ap (number B) e ∙ number_digits k b ∙ mod-eq_of_lt j

  -- the digits of the number of digits
  pub digits_number : (k : ℕ) (ds : List ℕ) → length ds ≡ k → Below B ds → digits B k (number B ds) ≡ ds
  digits_number k ds l h =
      let m : number B ds < B ^ k = rw (← l) (number_lt B ds h) in
      number_inj B (digits B k (number B ds)) ds (digits_length B k (number B ds) ∙ sym l) (digits_below k (number B ds)) h
      (number_digits k (number B ds) ∙ mod-eq_of_lt m)

  -- what stands above the k low digits does not show in them
  pub digits_high : (k n q : ℕ) → digits B k (n + q * B ^ k) ≡ digits B k n
  unfolding digits
  digits_high zero n q = refl
  digits_high (suc k) n q =
      let e : q * B ^ suc k ≡ q * B * B ^ k
      = ap (λ (x : ℕ). q * x) (pow-suc B k ∙ mul_comm (B ^ k) B) ∙ sym (mul_assoc q B (B ^ k)) in
      rw (e, add-mul-div_right n (q * B) (base_pos k), add-mul-mod_self_right (n / B ^ k) q B, digits_high k n (q * B))

  -- the digits of two numbers, one behind the other
  pub digits_append : (k m N n : ℕ) → n < B ^ m → digits B (k + m) (N * B ^ m + n) ≡ digits B k N ++ digits B m n
  unfolding digits
  digits_append zero m N n h = rw (zero-add, add_comm (N * B ^ m) n) (digits_high m n N)
  digits_append (suc k) m N n h =
      let e : (N * B ^ m + n) / B ^ (k + m) ≡ N / B ^ k
      = ap (λ (x : ℕ). (N * B ^ m + n) / x) (pow-add B k m ∙ mul_comm (B ^ k) (B ^ m))
      ∙ sym (div-div-eq-div-mul (N * B ^ m + n) (B ^ m) (B ^ k)) ∙ ap (λ (x : ℕ). x / B ^ k) (digits_div N h) in
      rw (suc-add k m, e, digits_append k m N n h)

  -- high digits of a small number are zeros
  pub digits_zeros : (a c n : ℕ) → n < B ^ c → digits B (a + c) n ≡ replicate a 0 ++ digits B c n
  unfolding digits
  digits_zeros zero c n h = rw zero-add
  digits_zeros (suc a) c n h =
      rw (suc-add a c, div-eq_of_lt {n = n} {m = B ^ (a + c)} (lt_of_lt_of_le h (pow-le-pow_right pos (omega arith))), zero_mod, digits_zeros a c n h)
    where
      zero_mod : 0 % B ≡ 0
      zero_mod = mod-eq_of_lt pos
