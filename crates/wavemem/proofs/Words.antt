-- Words made of characters.
-- Assumes nothing.
use mathlib.Core.Path.{◌≡◌, sym, ap, ◌∙◌}
use mathlib.Core.List.{List, [], ◌∷◌, ◌++◌, append_assoc}
use Prim.Native.Nat.{ℕ, suc, ◌+◌, ◌-◌, ◌*◌, ◌%◌, ◌^◌, ◌≤◌, ◌<◌}
use native.Mathlib.Nat.{zero-lt-suc}
use native.Mathlib.Numerals.{add-one}
use native.Mathlib.Omega.{arith}
use lib.Bits.{bit_or, or_shifted}
use lib.ListN.{length, get_or, take, replicate, length-append, length-replicate}
use lib.Seq.{length-take-le, take-suc, take_all}
use Rattle.std.specs.Int.{from_be_bytes}
use mir.Syntax.{w64}
use Rattle.value.specs.Digits.{number, digits, Below}
use Rattle.value.proofs.Digits.{below_at, below_append, below_take, number_lt, number_more, number_snoc, digits_number}
use Rattle.wavemem.proofs.Lanes.{below_replicate}

-- the word that std makes of eight bytes
pub be_number : (v : List ℕ) → length v ≡ 8 → from_be_bytes w64 v ≡ number 256 v
unfolding number
be_number v l =
    let m : (i : ℕ) → i < length v → number 256 (take (i + 1) v) ≡ number 256 (take i v) * 256 + get_or v i 0 = λ i h. number_more 256 v i 0 h in
    omega (arith, m 0 (omega arith), m 1 (omega arith), m 2 (omega arith), m 3 (omega arith), m 4 (omega arith), m 5 (omega arith), m 6 (omega arith), m 7 (omega arith), ap (number 256) (take_all 8 v (omega arith)))

-- the bytes of a word
pub word_bytes : (v : List ℕ) (w : ℕ) → length v ≡ 8 → Below 256 v → w ≡ number 256 v → digits 256 8 w ≡ v
word_bytes v w l b e = ap (digits 256 8) e ∙ digits_number 256 (zero-lt-suc 255) 8 v l b

-- `(w << 8) | c` drops the character in front
pub padded_more : (v : List ℕ) (i w : ℕ) → i < length v → length v ≤ 8 → Below 256 v → w ≡ number 256 (replicate (8 - i) 48 ++ take i v)
    → bit_or (w * 256 % 2 ^ 64) (get_or v i 0) ≡ number 256 (replicate (8 - (i + 1)) 48 ++ take (i + 1) v)
unfolding number
padded_more v i w more short b e =
    let x = get_or v i 0 in
    let z : List ℕ = replicate (8 - (i + 1)) 48 in
    let u = z ++ take i v in
    let s : 8 - i ≡ suc (8 - (i + 1)) = omega arith in
    let l : length u ≡ 7 = length-append z (take i v) ∙ rw (length-replicate {A = ℕ} (8 - (i + 1)) 48, length-take-le i v (omega arith)) (omega arith) in
    let ub : Below 256 u = below_append 256 z (take i v) (below_replicate 256 48 (8 - (i + 1)) (omega arith)) (below_take 256 v b i) in
    let n : number 256 u < 256 ^ 7 = rw l at (number_lt 256 u ub) in
    let f : w ≡ 48 * 256 ^ 7 + number 256 u
    = e ∙ ap (λ (k : ℕ). number 256 (replicate k 48 ++ take i v)) s ∙ ap (λ (k : ℕ). 48 * 256 ^ k + number 256 u) l in
    let g : w * 256 % 2 ^ 64 ≡ number 256 u * 2 ^ 8 = omega arith in
    ap (λ (a : ℕ). bit_or a x) g
    ∙ or_shifted (number 256 u) 8 x (below_at 256 v b i 0 more)
    ∙ sym (number_snoc 256 u x)
    ∙ ap (number 256) (append_assoc z (take i v) (x ∷ []) ∙ ap (λ (t : List ℕ). z ++ t) (sym (rw add-one (take-suc v i 0 more))))
