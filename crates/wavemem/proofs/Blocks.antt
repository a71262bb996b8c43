-- What a turn of a walk over a wide string makes: codes by bits, an array that is filled from the front, and the bytes of levels.
-- Assumes nothing.
use mathlib.Core.Path.{◌≡◌, refl, sym, ap, ap₂, ◌∙◌}
use mathlib.Core.List.{List, [], ◌∷◌, ◌++◌, append_assoc}
use Prim.Native.Nat.{ℕ, suc, ◌+◌, ◌-◌, ◌*◌, ◌/◌, ◌%◌, ◌^◌, ◌≤◌, ◌<◌}
use native.Mathlib.Nat.{zero-add}
use native.Mathlib.Omega.{arith}
use native.Mathlib.Numerals.{add-one}
use lib.Bits.{bit_and, bit_or, bit_xor, or_shifted, or_zero_r}
use lib.Pow.{shl_exact}
use lib.ListN.{length, get_or, take, set, replicate}
use lib.Seq.{length-take-le, take-suc, take_all}
use Rattle.std.specs.Int.{to_be_bytes}
use mir.Syntax.{w16}
use Rattle.value.specs.declared.States.TheVariants.{Four}
use Rattle.value.specs.Digits.{number, digits, Below}
use Rattle.value.specs.Slice.{overlay}
use Rattle.value.specs.Level.{fold, fold_all, code_of, codes_of, place_in}
use Rattle.value.proofs.Classes.{code_by}
use Rattle.value.proofs.Digits.{number_lt, below_at}
use Rattle.value.proofs.Backward.{overlay_whole}
use Rattle.value.proofs.Slices.{overlay_store}
use Rattle.wavemem.specs.Packed.{packed_with, packed_from}
use Rattle.wavemem.proofs.Packing.{code_at, code_below, length_codes, packed_length, packed_append, packed_one, next_stored}

-- ---- the code of a character

abbrev by_bits : ℕ → ℕ
by_bits c =
    let c0 = bit_and (bit_xor (bit_xor c (c / 2)) (bit_and (c / 4) (c / 8))) 1 in
    let c1 = bit_and (bit_or (bit_and (bit_and (c / 8) (c / 64)) (bit_or (c / 16) (c / 4))) (c / 2)) 1 in
    let c2 = bit_and (bit_and (c / 64) (bit_xor (c / 16) (c / 8))) 1 in
    let c3 = bit_and (bit_and (c / 8) c) 1 in
    bit_or (bit_or c0 (c1 * 2 % 256)) (bit_or (c2 * 4 % 256) (c3 * 8 % 256))

pub by_bits_lem : (c : ℕ) → c < 256 → code_of (fold c) < 9 → by_bits c ≡ code_of (fold c)
unfolding code_of place_in fold
by_bits_lem = code_by 9 by_bits tt

-- ---- an array that is filled with codes from the front

module _ (l v : List ℕ) (long : length v ≡ length l) where
  abbrev new : List ℕ
  new = codes_of (fold_all v)

  pub code_filled : (k x : ℕ) {out : List ℕ} → out ≡ overlay l 0 (take k new) → k < length l → Below 9 new → (code_of (fold (get_or v k 0)) < 9 → x ≡ code_of (fold (get_or v k 0)))
      → set out k x ≡ overlay l 0 (take (k + 1) new)
  code_filled k x so_far h b is =
      rw (zero-add k) at
      (next_stored l new 0 k x (code_of (fold 0)) (rw zero-add h) (rw length_codes (omega arith)) so_far (is (code_below 9 v k b (omega arith)) ∙ sym (code_at v k)))

  pub all_filled : (k : ℕ) → length l ≤ k → overlay l 0 (take k new) ≡ new
  all_filled k h = let m : length new ≡ length l = length_codes v ∙ long in ap (overlay l 0) (take_all k new (omega arith)) ∙ overlay_whole l new m

-- ---- the byte of two levels

pub pair_stored : (cs : List ℕ) → Below 16 cs → length cs ≡ 32 → (k : ℕ) → k < 16 → {out : List ℕ} → out ≡ overlay (replicate 16 0) 0 (packed_with 4 0 (take (2 * k) cs))
    → set out k (bit_or (get_or cs (2 * k) 0 * 2 ^ 4 % 2 ^ 8) (get_or cs (2 * k + 1) 0)) ≡ overlay (replicate 16 0) 0 (packed_with 4 0 (take (2 * (k + 1)) cs))
unfolding number
pair_stored cs below l k h so_far =
    let i = 2 * k in
    let x = get_or cs i 0 in
    let y = get_or cs (i + 1) 0 in
    let a : x < 2 ^ 4 = below_at 16 cs below i 0 (omega arith) in
    let b : y < 2 ^ 4 = below_at 16 cs below (i + 1) 0 (omega arith) in
    let n : length (packed_with 4 0 (take i cs)) ≡ k = packed_length 4 0 (take i cs) ∙ rw (length-take-le i cs (omega arith)) (omega arith) in
    let z : 2 * (k + 1) ≡ suc (suc i) = omega arith in
    let t : take (2 * (k + 1)) cs ≡ take i cs ++ (x ∷ y ∷ []) =
    rw (z, take-suc cs (suc i) 0 (omega arith), take-suc cs i 0 (omega arith), append_assoc, ← add-one i) in
    let r = bit_or (x * 2 ^ 4 % 2 ^ 8) y in
    let e : r ≡ number 16 (x ∷ y ∷ []) = rw (shl_exact {a = x} 4 4 8 a (omega arith), or_shifted x 4 y b) (omega arith) in
    let p : packed_with 4 0 (x ∷ y ∷ []) ≡ number 16 (x ∷ y ∷ []) ∷ [] =
    packed_one 4 0 (x ∷ y ∷ []) (a, (b, tt)) (omega arith) (omega arith) refl (omega arith) (λ g. absurd (omega arith)) ∙ ap (λ (m : ℕ). m ∷ []) (or_zero_r _) in
    ap (λ (o : List ℕ). set o k r) so_far
    ∙ overlay_store (replicate 16 0) 0 (packed_with 4 0 (take i cs)) k r (rw (zero-add, n)) h
    ∙ ap (overlay (replicate 16 0) 0)
    (ap (λ (m : ℕ). packed_with 4 0 (take i cs) ++ (m ∷ [])) e
    ∙ ap (λ (u : List ℕ). packed_with 4 0 (take i cs) ++ u) (sym p)
    ∙ sym (packed_append 4 0 1 (take i cs) (x ∷ y ∷ []) (a, (b, tt)) refl (λ g. absurd (omega arith)))
    ∙ ap (packed_with 4 0) (sym t))

pub pairs_none : packed_with 4 0 [] ≡ []
unfolding packed_with digits
pairs_none = refl

pub pairs_all : (cs : List ℕ) → length cs ≡ 32 → (k : ℕ) → 16 ≤ k → overlay (replicate 16 0) 0 (packed_with 4 0 (take (2 * k) cs)) ≡ packed_with 4 0 cs
pairs_all cs l k h =
    ap (λ (ds : List ℕ). overlay (replicate 16 0) 0 (packed_with 4 0 ds)) (take_all (2 * k) cs (omega arith))
    ∙ overlay_whole (replicate 16 0) (packed_with 4 0 cs) (packed_length 4 0 cs ∙ rw l)

-- ---- the two bytes of eight levels of two bits

module _ (v : List ℕ) (long : length v ≡ 8) (below : Below 4 (codes_of (fold_all v))) (x : ℕ) (is : x ≡ number 4 (codes_of (fold_all v))) where
  abbrev cs : List ℕ
  cs = codes_of (fold_all v)

  length_cs : length cs ≡ 8
  length_cs = length_codes v ∙ long

  pub word_small : x < 65536
  word_small = rw is (rw length_cs at (number_lt 4 cs below))

  pub two_bytes : packed_from Four 0 v ≡ to_be_bytes w16 x
  unfolding packed_with digits
  two_bytes =
      ap (λ (k : ℕ). let n = (k * 2 + 7) / 8 in digits 256 n (0 * 256 ^ (n - 1) + number 4 cs)) length_cs
      ∙ ap₂ (λ (a b : ℕ). a ∷ b ∷ []) (omega arith) (omega arith)
