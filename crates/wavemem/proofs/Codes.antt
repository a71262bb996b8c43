-- The codes of eight characters, by formulas of bits on the word that they make: what a formula gives for one byte is computed at each.
-- Assumes nothing.
use mathlib.Core.Path.{◌≡◌, refl, ap₂, ◌∙◌}
use mathlib.Core.List.{List, [], ◌∷◌, map}
use Prim.Native.Nat.{ℕ, ◌+◌, ◌*◌, ◌/◌, ◌%◌, ◌^◌, ◌<◌}
use native.Mathlib.Nat.{zero-lt-suc}
use native.Mathlib.Omega.{arith}
use lib.Bits.{bit_and, bit_or, bit_xor}
use lib.Dec.{T}
use Rattle.value.specs.Digits.{number, digits, Below}
use Rattle.value.specs.Level.{fold, fold_all, code_of, codes_of, place_in}
use Rattle.value.proofs.Tests.{all_below}
use Rattle.value.proofs.Classes.{tells, code_by}
use Rattle.value.proofs.Digits.{digits_below}
use Rattle.wavemem.proofs.Lanes.{Lows, itself, by_and, by_or, by_xor, fewer, shifted, kept, kept_raised, lanes}

told : (N : ℕ) (F : ℕ → ℕ) → T (all_below (tells N F) 256) → (v : List ℕ) → Below 256 v → Below N (codes_of (fold_all v)) → map F v ≡ codes_of (fold_all v)
told N F t [] b d = refl
told N F t (c ∷ v) b d = ap₂ (λ (x : ℕ) (xs : List ℕ). x ∷ xs) (code_by N F t c b.0 d.0) (told N F t v b.1 d.1)

pub word_codes : {w a : ℕ} {F : ℕ → ℕ} (N : ℕ) → Lows 8 8 w 8 F a → T (all_below (tells N (λ (x : ℕ). F x % 256)) 256) → Below N (codes_of (fold_all (digits 256 8 w)))
    → digits 256 8 a ≡ codes_of (fold_all (digits 256 8 w))
word_codes {w} {a} {F} N p t d = lanes p ∙ told N (λ (x : ℕ). F x % 256) t (digits 256 8 w) (digits_below 256 (zero-lt-suc 255) 8 w) d

-- ---- the formulas

-- the lowest bit of each byte
abbrev low : ℕ → ℕ
low x = bit_and x 0x0101010101010101

pub two_codes : (w : ℕ) → w < 2 ^ 64 → Below 2 (codes_of (fold_all (digits 256 8 w))) → digits 256 8 (low w) ≡ codes_of (fold_all (digits 256 8 w))
unfolding number code_of place_in fold
two_codes w h = word_codes 2 (kept 1 (omega arith) (omega arith) (itself h)) tt

abbrev by_two_bits : ℕ → ℕ
by_two_bits w = bit_or (bit_and (w / 4) 0x0202020202020202) (low (bit_or w (w / 2)))

pub four_codes : (w : ℕ) → w < 2 ^ 64 → Below 4 (codes_of (fold_all (digits 256 8 w))) → digits 256 8 (by_two_bits w) ≡ codes_of (fold_all (digits 256 8 w))
unfolding number code_of place_in fold
four_codes w h =
    word_codes 4
    (by_or
    (kept 2 (omega arith) (omega arith) (shifted 6 2 (itself h)))
    (kept 1 (omega arith) (omega arith) (by_or (fewer 7 (omega arith) (itself h)) (shifted 7 1 (itself h)))))
    tt

abbrev by_four_bits : ℕ → ℕ
by_four_bits w =
    let c0 = low (bit_xor (bit_xor w (w / 2)) (bit_and (w / 4) (w / 8))) in
    let c1 = low (bit_or (bit_and (bit_and (w / 8) (w / 64)) (bit_or (w / 16) (w / 4))) (w / 2)) in
    let c2 = low (bit_and (w / 64) (bit_xor (w / 16) (w / 8))) in
    let c3 = low (bit_and (w / 8) w) in
    bit_or (bit_or c0 (c1 * 2 % 2 ^ 64)) (bit_or (c2 * 4 % 2 ^ 64) (c3 * 8 % 2 ^ 64))

pub nine_codes : (w : ℕ) → w < 2 ^ 64 → Below 9 (codes_of (fold_all (digits 256 8 w))) → digits 256 8 (by_four_bits w) ≡ codes_of (fold_all (digits 256 8 w))
unfolding number code_of place_in fold
nine_codes w h =
    -- the bit that k bits follow
    let b : (k : ℕ) → k < 8 → Lows 8 8 w 1 (λ (x : ℕ). x / 2 ^ k) (w / 2 ^ k) = λ k l. shifted 1 k (fewer (1 + k) (omega arith) (itself h)) in
    let b0 : Lows 8 8 w 1 (λ (x : ℕ). x) w = fewer 1 (omega arith) (itself h) in
    let b1 = b 1 (omega arith) in
    let b2 = b 2 (omega arith) in
    let b3 = b 3 (omega arith) in
    let b4 = b 4 (omega arith) in
    let b6 = b 6 (omega arith) in
    word_codes 9
    (by_or
    (by_or (kept 1 (omega arith) (omega arith) (by_xor (by_xor b0 b1) (by_and b2 b3)))
    (kept_raised 1 1 (omega arith) (omega arith) (omega arith) (by_or (by_and (by_and b3 b6) (by_or b4 b2)) b1)))
    (by_or (kept_raised 1 2 (omega arith) (omega arith) (omega arith) (by_and b6 (by_xor b4 b3)))
    (kept_raised 1 3 (omega arith) (omega arith) (omega arith) (by_and b3 b0))))
    tt
