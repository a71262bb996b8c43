-- A level read out of big-endian bytes, by shifts and masks.
-- Assumes nothing.
use mathlib.Core.Path.{◌≡◌, sym, ap, ◌∙◌}
use mathlib.Core.List.{List}
use Prim.Native.Nat.{ℕ, suc, ◌+◌, ◌-◌, ◌*◌, ◌/◌, ◌%◌, ◌^◌, ◌≤◌}
use native.Mathlib.Nat.{div-div-eq-div-mul, mul_comm}
use native.Mathlib.Omega.{arith}
use lib.ListN.{length, get_or}
use lib.Bits.{bit_and, and_mask}
use lib.Pow.{pow-add, field, mod-mod-pow}
use Rattle.value.specs.declared.States.{States}
use Rattle.value.specs.declared.States.TheVariants.{Two, Four, Nine}
use Rattle.value.specs.Digits.{number, Below}
use Rattle.value.specs.Level.{bits_of}
use Rattle.value.specs.Answer.{level_at, LevelIn}
use Rattle.value.proofs.Digits.{pow_pow, number_at}
use Rattle.value.proofs.Levels.{bits_pos}

-- ---- bits of levels

pub few_bits : (w : ℕ) (S : States) → w ≤ 4096 → w * bits_of S ≤ 16384
few_bits w Two h = omega arith
few_bits w Four h = omega arith
few_bits w Nine h = omega arith

-- a level lies in one byte
pub inside : (S : States) (i : ℕ) → i * bits_of S % 8 + bits_of S ≤ 8
inside Two i = omega arith
inside Four i = let h : i * 2 % 8 ≡ 2 * (i % 4) = omega arith in omega arith
inside Nine i = let h : i * 4 % 8 ≡ 4 * (i % 2) = omega arith in omega arith

-- ---- b bits from s on, of a number and of its lowest byte

window : (x s b : ℕ) → s + b ≤ 8 → x % 256 / 2 ^ s % 2 ^ b ≡ x / 2 ^ s % 2 ^ b
window x s b h =
    let e : 8 ≡ 8 - s + s = omega arith in
    let f : 8 - s ≡ 8 - s - b + b = omega arith in
    ap (λ (k : ℕ). x % 2 ^ k / 2 ^ s % 2 ^ b) e
    ∙ ap (λ (y : ℕ). y % 2 ^ b) (field x (8 - s) s)
    ∙ ap (λ (k : ℕ). x / 2 ^ s % 2 ^ k % 2 ^ b) f
    ∙ mod-mod-pow (x / 2 ^ s) (8 - s - b) b

-- ---- a level among bytes

module _ (S : States) (i n : ℕ) (l : LevelIn (bits_of S) i n) where
  pub ahead : (i * bits_of S / 8 + 1 ≤ n) × (i * bits_of S ≤ 16384)
  ahead = (omega (arith, l.room, bits_pos S), few_bits i S l.few)

module _ (S : States) (i : ℕ) (ds : List ℕ) (below : Below 256 ds) (l : LevelIn (bits_of S) i (length ds)) where
  abbrev b : ℕ
  b = bits_of S

  -- its byte, the bytes behind that, and the bits behind it in its byte
  abbrev at : ℕ
  at = length ds - 1 - i * b / 8

  abbrev behind : ℕ
  behind = i * b / 8

  abbrev from : ℕ
  from = i * b % 8

  place : at + suc behind ≡ length ds
  place = omega (arith, ahead S i (length ds) l)

  weight : (2 ^ b) ^ i ≡ 2 ^ from * 256 ^ behind
  weight =
      let t : i * b ≡ from + behind * 8 = omega arith in
      pow_pow 2 b i ∙ ap (λ (k : ℕ). 2 ^ k) t ∙ pow-add 2 from (behind * 8) ∙ ap (λ (y : ℕ). 2 ^ from * y) (sym (pow_pow 2 8 behind))

  in_byte : get_or ds at 0 / 2 ^ from % 2 ^ b ≡ level_at b i ds
  in_byte =
      ap (λ (y : ℕ). y / 2 ^ from % 2 ^ b) (sym (number_at 256 ds at behind below place))
      ∙ window (number 256 ds / 256 ^ behind) from b (inside S i)
      ∙ ap (λ (y : ℕ). y % 2 ^ b) (div-div-eq-div-mul (number 256 ds) (256 ^ behind) (2 ^ from))
      ∙ ap (λ (y : ℕ). number 256 ds / y % 2 ^ b) (mul_comm (256 ^ behind) (2 ^ from) ∙ sym weight)

  low : bit_and (i * b) 7 ≡ from
  low = and_mask (i * b) 3

  pub read : bit_and (get_or ds at 0 / 2 ^ bit_and (i * b) 7) (2 ^ b - 1) ≡ level_at b i ds
  read = rw (low, and_mask (get_or ds at 0 / 2 ^ from) b) in_byte
