-- Float `==` of two bit patterns, said of the bits: neither is a NaN, and they are equal or both zeros.
-- Assumes nothing.
use mathlib.Core.Path.{◌≡◌, refl, sym, ap, ap₂, ◌∙◌, subst}
use mathlib.Core.Bool.{Bool, true, false, not, cond, ◌&&◌, ◌||◌, beq}
use mathlib.Core.Logic.{◌⊎◌, inl, inr, ⊎_elim}
use Prim.Native.Nat.{ℕ, zero, suc, ◌+◌, ◌-◌, ◌*◌, ◌/◌, ◌%◌, ◌^◌, ◌≤◌, ◌<◌}
use native.Mathlib.Nat.{mul-div-mul_right, mul_right_comm, mul_comm, zero-mul, zero-div, mul-pos, lt_irrefl, zero-lt-suc}
use native.Mathlib.Omega.{arith}
use lib.Dec.{eqb, leb}
use lib.IntN.{ℤ}
use lib.Ieee.{Float, nan, inf, fin, Format, binary64, prec, low, up, down, size, hid, top, eq, ne, is_nan, of_fields, of_bits, to_bits, odd, span, climb}
use lib.Ieee.Bits.{to_bits-of_bits, nan_bits_is, nan_bits_above}
use lib.Ieee.Fits.{down_pos}
use lib.Ieee.Compare.{differs_from_itself}
use borrow.Author.Tests.{eqb-true, lt-ltb, le-ltb}
use Rattle.value.proofs.Tests.{to_t, from_t, and_left, and_right}

-- ---- a NaN differs

pub nan_left : (v u : Float) → is_nan v ≡ true → eq v u ≡ false
unfolding eq is_nan
nan_left nan u h = refl
nan_left (inf s) u h = let z : ◌≡◌ {A = ℕ} 0 1 = cc in absurd (omega arith)
nan_left (fin s m e) u h = let z : ◌≡◌ {A = ℕ} 0 1 = cc in absurd (omega arith)

pub nan_right : (v u : Float) → is_nan u ≡ true → eq v u ≡ false
unfolding eq is_nan
nan_right nan u h = refl
nan_right (inf s) nan h = refl
nan_right (inf s) (inf t) h = let z : ◌≡◌ {A = ℕ} 0 1 = cc in absurd (omega arith)
nan_right (inf s) (fin t n d) h = let z : ◌≡◌ {A = ℕ} 0 1 = cc in absurd (omega arith)
nan_right (fin s m e) nan h = refl
nan_right (fin s m e) (inf t) h = let z : ◌≡◌ {A = ℕ} 0 1 = cc in absurd (omega arith)
nan_right (fin s m e) (fin t n d) h = let z : ◌≡◌ {A = ℕ} 0 1 = cc in absurd (omega arith)

-- anything else equals itself
pub itself : (v : Float) → is_nan v ≡ false → eq v v ≡ true
unfolding ne is_nan
itself v h = go (eq v v) refl
  where
    go : (b : Bool) → eq v v ≡ b → b ≡ true
    go true e = refl
    go false e =
        let n : v ≡ nan = differs_from_itself v (to_t (not (eq v v)) (ap not e)) in
        let z : true ≡ false = sym (ap is_nan n) ∙ h in
        let y : ◌≡◌ {A = ℕ} 0 1 = cc in absurd (omega arith)

-- ---- equal values have equal bits, but for the sign of a zero

module _ (f : Format) where
  -- the bits of a sign and a magnitude in units of the smallest value
  unfoldable bits_for : Bool → ℕ → ℕ
  unfolding size
  bits_for s n = let k = size n - prec f in cond s (top f) 0 + k * hid f + n / 2 ^ k

  -- the magnitude
  abbrev in_units : ℕ → ℤ → ℕ
  in_units m e = m * up e * 2 ^ low f / down e

  bits_fin : (s : Bool) (m : ℕ) (e : ℤ) → to_bits f (fin s m e) ≡ bits_for s (in_units m e)
  unfolding to_bits bits_for
  bits_fin s m e = refl

  same_units : (m n : ℕ) (e d : ℤ) → m * up e * down d ≡ n * up d * down e → in_units m e ≡ in_units n d
  same_units m n e d q =
      let p = m * up e in
      let r = n * up d in
      let l = 2 ^ low f in
      sym (mul-div-mul_right (p * l) (down e) (down_pos d))
      ∙ ap₂ (λ (x y : ℕ). x / y) (mul_right_comm p l (down d) ∙ ap (λ (x : ℕ). x * l) q ∙ mul_right_comm r (down e) l) (mul_comm (down e) (down d))
      ∙ mul-div-mul_right (r * l) (down d) (down_pos e)

  no_units : (m : ℕ) (e d : ℤ) → m * up e * down d ≡ 0 → in_units m e ≡ 0
  no_units m e d q = ap (λ (x : ℕ). x * 2 ^ low f / down e) (go (m * up e) q) ∙ ap (λ (x : ℕ). x / down e) (zero-mul (2 ^ low f)) ∙ zero-div (down e)
    where
      go : (p : ℕ) → p * down d ≡ 0 → p ≡ 0
      go zero q = refl
      go (suc p) q = absurd (lt_irrefl 0 (subst (λ (x : ℕ). 0 < x) q (mul-pos (zero-lt-suc p) (down_pos d))))

-- a zero has no bit but the sign
bits_zero : (s : Bool) → bits_for binary64 s 0 % top binary64 ≡ 0
unfolding bits_for span climb
bits_zero true = refl
bits_zero false = refl

abbrev Zeros : ℕ → ℕ → Type 0
Zeros x y = (x % top binary64 ≡ 0) × (y % top binary64 ≡ 0)

same_bits : (v u : Float) → eq v u ≡ true → (to_bits binary64 v ≡ to_bits binary64 u) ⊎ Zeros (to_bits binary64 v) (to_bits binary64 u)
unfolding eq
same_bits nan u h = let z : ◌≡◌ {A = ℕ} 0 1 = cc in absurd (omega arith)
same_bits (inf s) nan h = let z : ◌≡◌ {A = ℕ} 0 1 = cc in absurd (omega arith)
same_bits (inf true) (inf true) h = inl refl
same_bits (inf true) (inf false) h = let z : ◌≡◌ {A = ℕ} 0 1 = cc in absurd (omega arith)
same_bits (inf false) (inf true) h = let z : ◌≡◌ {A = ℕ} 0 1 = cc in absurd (omega arith)
same_bits (inf false) (inf false) h = inl refl
same_bits (inf s) (fin t n d) h = let z : ◌≡◌ {A = ℕ} 0 1 = cc in absurd (omega arith)
same_bits (fin s m e) nan h = let z : ◌≡◌ {A = ℕ} 0 1 = cc in absurd (omega arith)
same_bits (fin s m e) (inf t) h = let z : ◌≡◌ {A = ℕ} 0 1 = cc in absurd (omega arith)
same_bits (fin s m e) (fin t n d) h =
    let a = m * up e * down d in
    let b = n * up d * down e in
    let k = to_t (eqb a b && (beq s t || eqb a 0)) h in
    let q : a ≡ b = eqb-true a b (from_t (eqb a b) (and_left (eqb a b) (beq s t || eqb a 0) k)) in
    go s t q (from_t (beq s t || eqb a 0) (and_right (eqb a b) (beq s t || eqb a 0) k))
  where
    Goal : Bool → Bool → Type 0
    Goal s t = (to_bits binary64 (fin s m e) ≡ to_bits binary64 (fin t n d)) ⊎ Zeros (to_bits binary64 (fin s m e)) (to_bits binary64 (fin t n d))

    equal : (s : Bool) → m * up e * down d ≡ n * up d * down e → to_bits binary64 (fin s m e) ≡ to_bits binary64 (fin s n d)
    equal s q = bits_fin binary64 s m e ∙ ap (bits_for binary64 s) (same_units binary64 m n e d q) ∙ sym (bits_fin binary64 s n d)

    zeros : (s t : Bool) → m * up e * down d ≡ n * up d * down e → m * up e * down d ≡ 0 → Zeros (to_bits binary64 (fin s m e)) (to_bits binary64 (fin t n d))
    zeros s t q z = (
      ap (λ (x : ℕ). x % top binary64) (bits_fin binary64 s m e ∙ ap (bits_for binary64 s) (no_units binary64 m e d z)) ∙ bits_zero s,
      ap (λ (x : ℕ). x % top binary64) (bits_fin binary64 t n d ∙ ap (bits_for binary64 t) (no_units binary64 n d e (sym q ∙ z))) ∙ bits_zero t,
    )

    go : (s t : Bool) → m * up e * down d ≡ n * up d * down e → beq s t || eqb (m * up e * down d) 0 ≡ true → Goal s t
    go true true q h = inl (equal true q)
    go false false q h = inl (equal false q)
    go true false q h = inr (zeros true false q (eqb-true (m * up e * down d) 0 h))
    go false true q h = inr (zeros false true q (eqb-true (m * up e * down d) 0 h))

-- the value of a zero's bits
zero_bits : (x : ℕ) → x % top binary64 ≡ 0 → of_bits binary64 x ≡ odd 53 (leb (top binary64) x) 0 0 1074
unfolding of_bits of_fields
zero_bits x h =
    let t : x % hid binary64 ≡ 0 = omega arith in
    rw (h, t)

zeros_equal : (s t : Bool) → eq (odd 53 s 0 0 1074) (odd 53 t 0 0 1074) ≡ true
unfolding eq odd
zeros_equal true true = refl
zeros_equal true false = refl
zeros_equal false true = refl
zeros_equal false false = refl

-- ---- what the tests on the bits say

module _ (x y : ℕ) where
  abbrev Eq : Bool
  Eq = eq (of_bits binary64 x) (of_bits binary64 y)

  is_nan_lem : (z : ℕ) → 9218868437227405312 < z % 9223372036854775808 → is_nan (of_bits binary64 z) ≡ true
  is_nan_lem z h = sym (nan_bits_is binary64 z) ∙ nan_bits_above binary64 z ∙ lt-ltb 9218868437227405312 (z % 9223372036854775808) h

  no_nan : (z : ℕ) → z % 9223372036854775808 ≤ 9218868437227405312 → is_nan (of_bits binary64 z) ≡ false
  no_nan z h = sym (nan_bits_is binary64 z) ∙ nan_bits_above binary64 z ∙ le-ltb 9218868437227405312 (z % 9223372036854775808) h

  pub first_nan : 9218868437227405312 < x % 9223372036854775808 → false ≡ Eq
  first_nan h = sym (nan_left _ _ (is_nan_lem x h))

  pub second_nan : 9218868437227405312 < y % 9223372036854775808 → false ≡ Eq
  second_nan h = sym (nan_right _ _ (is_nan_lem y h))

  module _ (a : x % 9223372036854775808 ≤ 9218868437227405312) (b : y % 9223372036854775808 ≤ 9218868437227405312) where
    pub equal_bits : x ≡ y → true ≡ Eq
    equal_bits e = sym (ap (λ (z : ℕ). eq (of_bits binary64 x) (of_bits binary64 z)) (sym e) ∙ itself (of_bits binary64 x) (no_nan x a))

    pub both_zeros : x % 9223372036854775808 ≡ 0 → y % 9223372036854775808 ≡ 0 → true ≡ Eq
    both_zeros h k = sym (ap₂ eq (zero_bits x h) (zero_bits y k) ∙ zeros_equal (leb (top binary64) x) (leb (top binary64) y))

    pub unequal_bits : x < 2 ^ 64 → y < 2 ^ 64 → (x ≡ y → ⊥) → (x % 9223372036854775808 ≡ 0 → y % 9223372036854775808 ≡ 0 → ⊥) → false ≡ Eq
    unequal_bits p q n z = go Eq refl
      where
        back : (w : ℕ) → w < 2 ^ 64 → w % 9223372036854775808 ≤ 9218868437227405312 → to_bits binary64 (of_bits binary64 w) ≡ w
        back w l h = to_bits-of_bits binary64 w l (to_t (not (is_nan (of_bits binary64 w))) (ap not (no_nan w h)))

        go : (t : Bool) → Eq ≡ t → false ≡ t
        go false e = refl
        go true e =
            absurd
            (⊎_elim
            (λ s. n (sym (back x p a) ∙ s ∙ back y q b))
            (λ s. z (rw (back x p a) at s.0) (rw (back y q b) at s.1))
            (same_bits (of_bits binary64 x) (of_bits binary64 y) e))
