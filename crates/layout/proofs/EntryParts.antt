-- An entry by its parts: packed levels with the mark on top of their first byte, or the mark's own byte, zeros and packed levels.
-- Assumes nothing.
use mathlib.Core.Path.{◌≡◌, refl}
use mathlib.Core.List.{List, ◌∷◌, ◌++◌}
use Prim.Native.Nat.{ℕ, zero, suc, ◌+◌, ◌-◌, ◌*◌, ◌^◌, ◌≤◌, ◌<◌}
use native.Mathlib.Nat.{add_comm, zero-add, zero-mul, mod-eq_of_lt, pow-le-pow_right, lt_of_lt_of_le, zero-lt-suc}
use native.Mathlib.Omega.{arith}
use lib.Arith.{digits_div}
use lib.ListN.{length, replicate}
use lib.Pow.{pow-add, pow_mono}
use Rattle.value.specs.declared.States.{States}
use Rattle.value.specs.Digits.{number, digits, Below}
use Rattle.value.specs.Level.{mark_of, bits_of, len_of}
use Rattle.value.proofs.Digits.{pow_pow, number_lt, digits_high, digits_zeros}
use Rattle.value.proofs.Levels.{mark_small, len_bits, len_room, len_up}
use Rattle.wavemem.specs.Packed.{packed_with}
use Rattle.layout.specs.Entry.{entry_size, entry_of}
use Rattle.layout.proofs.Sizes.{len_le}

-- ---- sizes

-- the levels of a set that is not above the largest fit
pub len_fits : (w : ℕ) (own M : States) → mark_of own ≤ mark_of M → len_of w own ≤ entry_size w M
len_fits w own M h = omega (arith, len_up w own M h, len_le w M)

-- ---- parts

-- the mark on top of a first byte that k bytes follow
mark_pow : (m k : ℕ) → m * 2 ^ (8 * suc k - 2) ≡ m * 64 * 256 ^ k
mark_pow m k =
    let e : 8 * suc k - 2 ≡ 6 + k * 8 = omega arith in
    rw (e, pow-add 2 6 (k * 8), pow_pow 2 8 k) (omega arith)

module _ (M own : States) (cs : List ℕ) where
  abbrev w : ℕ
  w = length cs

  abbrev N : ℕ
  N = number (2 ^ bits_of own) cs

  -- no byte of its own for the mark
  pub entry_one : len_of w own ≡ entry_size w M → entry_of w M own cs ≡ packed_with (bits_of own) (mark_of own * 64) cs
  unfolding entry_of packed_with digits
  entry_one e = rw (← len_bits w own, e) (go (entry_size w M))
    where
      go : (S : ℕ) → digits 256 S (mark_of own * 2 ^ (8 * S - 2) + N) ≡ digits 256 S (mark_of own * 64 * 256 ^ (S - 1) + N)
      go zero = refl
      go (suc k) = let z : suc k - 1 ≡ k = omega arith in rw (mark_pow (mark_of own) k, z)

  -- a byte for the mark, zeros, and the packed levels
  pub entry_apart : (z : ℕ) → Below (2 ^ bits_of own) cs → entry_size w M ≡ suc (z + len_of w own)
      → entry_of w M own cs ≡ mark_of own * 64 ∷ (replicate z 0 ++ packed_with (bits_of own) 0 cs)
  unfolding entry_of packed_with digits
  entry_apart z b e =
      let L = len_of w own in
      let n : N < 256 ^ L =
      rw (pow_pow 2 8 L) (lt_of_lt_of_le (rw (pow_pow 2 (bits_of own) w) at (number_lt (2 ^ bits_of own) cs b)) (pow_mono (omega (arith, len_room w own)))) in
      let n' : N < 256 ^ (z + L) = lt_of_lt_of_le n (pow-le-pow_right (zero-lt-suc 255) (omega arith)) in
      rw (← len_bits w own, e, mark_pow (mark_of own) (z + L), digits_div (mark_of own * 64) n', mod-eq_of_lt {n = mark_of own * 64} {m = 256} (omega (arith, mark_small own)), add_comm (mark_of own * 64 * 256 ^ (z + L)) N, digits_high 256 (zero-lt-suc 255) (z + L) N (mark_of own * 64), digits_zeros 256 (zero-lt-suc 255) z L N n, zero-mul, zero-add)
