-- The working number and packed levels: those of one byte, those of two parts, and a first byte that is not full.
-- Assumes nothing.
use mathlib.Core.Path.{◌≡◌, refl, sym, ap, ap₂, ◌∙◌}
use mathlib.Core.Bool.{Bool, true, false, ◌&&◌}
use mathlib.Core.List.{List, [], ◌∷◌, ◌++◌, map-append}
use Prim.Native.Nat.{ℕ, zero, suc, ◌+◌, ◌-◌, ◌*◌, ◌/◌, ◌%◌, ◌^◌, ◌≤◌, ◌<◌}
use native.Mathlib.Nat.{zero-lt-suc, add-mul, mul_assoc, suc-mul, zero-mul, mul-le-mul_right, lt_of_lt_of_le}
use native.Mathlib.Numerals.{add-one}
use native.Mathlib.Omega.{arith}
use lib.Dec.{eqb, leb, ltb, leb→le, ltb→lt}
use lib.ListN.{length, get_or, take, drop, set, length-set, length-append, length-map, length-drop, take-append-drop, get_or-map}
use lib.Seq.{length-take-le, take-add, take-suc, take_all, drop-cons}
use lib.Bits.{bit_and, bit_or, or_shifted, or_shifted_r, or_zero_r}
use lib.Pow.{pow-add, pow_mono, shl_exact}
use borrow.Author.Tests.{eqb-true, eq-eqb, ne_eqb, lt-ltb}
use Rattle.value.specs.declared.States.{States}
use Rattle.value.specs.declared.States.TheVariants.{Two, Four, Nine}
use Rattle.std.specs.Prelude.{unwrap_or}
use Rattle.value.specs.Digits.{number, digits, Below}
use Rattle.value.specs.Slice.{part, overlay, same}
use Rattle.value.specs.Level.{fold, fold_all, place_in, code_of, codes_of, bits_of, len_of}
use Rattle.value.specs.Answer.{char_code}
use Rattle.value.proofs.Tests.{to_t, from_t, and_left, and_right, by_le, at_below}
use Rattle.value.proofs.Slices.{overlay_nil, overlay_one, overlay_overlay, overlay_store}
use Rattle.value.proofs.Levels.{len_bits, bits_pos}
use Rattle.value.proofs.Classes.{each_byte, code_by}
use Rattle.value.proofs.Digits.{below_at, below_take, below_drop, pow_pow, number_lt, number_append, number_more, digits_length, digits_append}
use Rattle.wavemem.specs.Packed.{packed_with, packed_from, first_count, Codes, OneWord, OneByte, ByLowBits, WholeBytes, Packable}

-- the code of a character, and 9 of a foreign byte
pub code_told : (c : ℕ) → c < 256 → code_of (fold c) ≡ unwrap_or (char_code c) 9
unfolding char_code code_of place_in fold
code_told c h =
    eqb-true (code_of (fold c)) (unwrap_or (char_code c) 9) (from_t _ (at_below (λ (n : ℕ). eqb (code_of (fold n)) (unwrap_or (char_code n) 9)) 256 tt c h))

-- ---- the working number

pub code_at : (s : List ℕ) (i : ℕ) → get_or (codes_of (fold_all s)) i (code_of (fold 0)) ≡ code_of (fold (get_or s i 0))
code_at s i = get_or-map code_of (fold_all s) i (fold 0) ∙ ap code_of (get_or-map fold s i 0)

module _ (b : ℕ) (cs : List ℕ) (below : Below (2 ^ b) cs) (short : length cs * b ≤ 64) (i c d working : ℕ) (more : i < length cs) (is : c ≡ get_or cs i d)
    (so_far : working ≡ number (2 ^ b) (take i cs)) where
  -- `(working << b) | c`
  shifted : bit_or (working * 2 ^ b % 2 ^ 64) c ≡ number (2 ^ b) (take (i + 1) cs)
  shifted =
      let n = number (2 ^ b) (take i cs) in
      let l : n < 2 ^ (i * b) = rw (← pow_pow 2 b i) (rw (length-take-le i cs (omega arith)) at (number_lt (2 ^ b) (take i cs) (below_take (2 ^ b) cs below i))) in
      let f : i * b + b ≤ 64 = omega (arith, mul-le-mul_right b more, suc-mul i b) in
      let k : c < 2 ^ b = rw is (below_at (2 ^ b) cs below i d more) in
      rw (so_far, shl_exact {a = n} (i * b) b 64 l f, or_shifted n b c k, number_more (2 ^ b) cs i d more, is)

-- the place of a character in a table by low bits
known_place : (c : ℕ) → c < 256 → code_of (fold c) < 9 → (8 ≤ bit_and c 31) × (bit_and c 31 < 27)
unfolding code_of place_in fold
known_place c h k =
    let low = bit_and c 31 in
    let test : ℕ → Bool = λ (n : ℕ). leb 8 (bit_and n 31) && ltb (bit_and n 31) 27 in
    let t = to_t (test c) (each_byte (λ (n : ℕ). ltb (code_of (fold n)) 9) test tt c h (lt-ltb (code_of (fold c)) 9 k)) in
    (leb→le 8 low (and_left (leb 8 low) (ltb low 27) t), ltb→lt low 27 (and_right (leb 8 low) (ltb low 27) t))

-- the code of the next character
pub code_below : (n : ℕ) (v : List ℕ) (i : ℕ) → Below n (codes_of (fold_all v)) → i < length v → code_of (fold (get_or v i 0)) < n
code_below n v i below more = rw (← code_at v i) (below_at n (codes_of (fold_all v)) below i (code_of (fold 0)) (rw (length-map, length-map) more))

module _ {s : States} {v : List ℕ} (ok : OneWord s v) (i : ℕ) (more : i < length v) where
  pub low_from : get_or v i 0 < 256 → 8 ≤ bit_and (get_or v i 0) 31
  low_from byte = (known_place (get_or v i 0) byte (code_below 9 v i ok.codes.known more)).0

  pub low_within : get_or v i 0 < 256 → bit_and (get_or v i 0) 31 < 27
  low_within byte = (known_place (get_or v i 0) byte (code_below 9 v i ok.codes.known more)).1

  pub next_code : (b working c : ℕ) → b ≡ bits_of s → working ≡ number (2 ^ b) (take i (codes_of (fold_all v))) → c ≡ code_of (fold (get_or v i 0))
      → bit_or (working * 2 ^ b % 2 ^ 64) c ≡ number (2 ^ b) (take (i + 1) (codes_of (fold_all v)))
  next_code b working c e so_far is =
      shifted b (codes_of (fold_all v)) (rw e ok.codes.below) (rw (length-map, length-map, e) ok.short) i c (code_of (fold 0)) working (rw (length-map, length-map) more)
      (is ∙ sym (code_at v i))
      so_far

-- `(working << 8) | x`, x the number of eight digits
pub eight_more : (cs : List ℕ) → Below 2 cs → length cs ≤ 64 → (from working x : ℕ) → from + 8 ≤ length cs → working ≡ number 2 (take from cs)
    → x ≡ number 2 (take 8 (drop from cs)) → bit_or (working * 2 ^ 8 % 2 ^ 64) x ≡ number 2 (take (from + 8) cs)
eight_more cs below short from working x h so_far is =
    let n = number 2 (take from cs) in
    let ys = take 8 (drop from cs) in
    let l : n < 2 ^ from = rw (length-take-le from cs (omega arith)) at (number_lt 2 (take from cs) (below_take 2 cs below from)) in
    let m : length ys ≡ 8 = length-take-le 8 (drop from cs) (rw length-drop (omega arith)) in
    let k : number 2 ys < 2 ^ 8 = rw m at (number_lt 2 ys (below_take 2 (drop from cs) (below_drop 2 cs below from) 8)) in
    rw (so_far, is, shl_exact {a = n} from 8 64 l (omega arith), or_shifted n 8 (number 2 ys) k, take-add from 8 cs, number_append 2 (take from cs) ys, m)

-- ---- bytes and the levels that they hold

-- how many levels a byte holds
abbrev pub per_byte : States → ℕ
per_byte s = 8 / bits_of s

pub per_bits : (s : States) → per_byte s * bits_of s ≡ 8
per_bits Two = refl
per_bits Four = refl
per_bits Nine = refl

pub per_pos : (s : States) → 0 < per_byte s
per_pos Two = omega arith
per_pos Four = omega arith
per_pos Nine = omega arith

pub per_small : (s : States) → per_byte s ≤ 8
per_small Two = omega arith
per_small Four = omega arith
per_small Nine = omega arith

-- the bytes of w levels hold them, and no byte less does
pub spans : (w : ℕ) (s : States) → (w ≤ len_of w s * per_byte s) × (len_of w s * per_byte s < w + per_byte s)
spans w Two = omega arith
spans w Four = omega arith
spans w Nine = omega arith

pub len_full : (m : ℕ) (s : States) → len_of (m * per_byte s) s ≡ m
len_full m Two = omega arith
len_full m Four = omega arith
len_full m Nine = omega arith

pub len_none : (s : States) → len_of 0 s ≡ 0
len_none s = rw (zero-mul (per_byte s)) at (len_full 0 s)

-- the bits of levels that fill m bytes
pub full_bits : (s : States) (w m : ℕ) → w ≡ m * per_byte s → w * bits_of s ≡ m * 8
full_bits s w m e = rw (e, mul_assoc m (per_byte s) (bits_of s), per_bits s)

-- ---- the codes of a string

pub length_codes : (v : List ℕ) → length (codes_of (fold_all v)) ≡ length v
length_codes v = length-map (fold_all v) code_of ∙ length-map v fold

pub codes_drop : (f : ℕ) (v : List ℕ) → codes_of (fold_all (drop f v)) ≡ drop f (codes_of (fold_all v))
codes_drop zero v = refl
codes_drop (suc f) [] = refl
codes_drop (suc f) (c ∷ v) = codes_drop f v

pub codes_take : (m : ℕ) (v : List ℕ) → codes_of (fold_all (take m v)) ≡ take m (codes_of (fold_all v))
codes_take zero v = refl
codes_take (suc m) [] = refl
codes_take (suc m) (c ∷ v) = ap (λ (l : List ℕ). code_of (fold c) ∷ l) (codes_take m v)

pub drop_codes : {s : States} (f : ℕ) (v : List ℕ) → Codes s (codes_of (fold_all v)) → Codes s (codes_of (fold_all (drop f v)))
drop_codes {s} f v ok = record { known = rw codes_drop (below_drop 9 _ ok.known f); below = rw codes_drop (below_drop (2 ^ bits_of s) _ ok.below f) }

pub take_codes : {s : States} (m : ℕ) (v : List ℕ) → Codes s (codes_of (fold_all v)) → Codes s (codes_of (fold_all (take m v)))
take_codes {s} m v ok = record { known = rw codes_take (below_take 9 _ ok.known m); below = rw codes_take (below_take (2 ^ bits_of s) _ ok.below m) }

pub byte_small : {s : States} {v : List ℕ} → OneByte s v → number (2 ^ bits_of s) (codes_of (fold_all v)) < 256
byte_small {s} {v} ok =
    let cs = codes_of (fold_all v) in
    lt_of_lt_of_le (rw (pow_pow 2 (bits_of s) (length cs)) at (number_lt (2 ^ bits_of s) cs ok.codes.below))
    (pow_mono {j = 8} (rw length_codes ok.short))

-- the table of the letters
abbrev letter_codes : List ℕ
letter_codes = 4 ∷ 9 ∷ 9 ∷ 9 ∷ 7 ∷ 8 ∷ 9 ∷ 9 ∷ 0 ∷ 1 ∷ 9 ∷ 9 ∷ 9 ∷ 5 ∷ 9 ∷ 6 ∷ 2 ∷ 9 ∷ 3 ∷ []

pub by_low_bits : ByLowBits letter_codes
unfolding code_of place_in fold
by_low_bits = record { here = code_by 9 (λ (n : ℕ). get_or letter_codes (bit_and n 31 - 8) 0) tt }

-- ---- packed levels

-- how many bytes they take
pub packed_length : (b meta : ℕ) (cs : List ℕ) → length (packed_with b meta cs) ≡ (length cs * b + 7) / 8
unfolding packed_with
packed_length b meta cs = digits_length 256 _ _

pub packed_from_length : (s : States) (meta : ℕ) (v : List ℕ) → length (packed_from s meta v) ≡ len_of (length v) s
packed_from_length s meta v = packed_length (bits_of s) meta (codes_of (fold_all v)) ∙ sym (len_bits (length (codes_of (fold_all v))) s) ∙ rw length_codes

-- levels that fill whole bytes, behind others
pub packed_append : (b meta m : ℕ) (xs ys : List ℕ) → Below (2 ^ b) ys → length ys * b ≡ m * 8 → (0 < meta → 0 < length xs * b)
    → packed_with b meta (xs ++ ys) ≡ packed_with b meta xs ++ packed_with b 0 ys
unfolding packed_with
packed_append b meta m xs ys below g top =
    let n = (length xs * b + 7) / 8 in
    let N = number (2 ^ b) xs in
    let M = number (2 ^ b) ys in
    let far : (2 ^ b) ^ length ys ≡ 256 ^ m = pow_pow 2 b (length ys) ∙ ap (λ (x : ℕ). 2 ^ x) g ∙ sym (pow_pow 2 8 m) in
    let l : length (xs ++ ys) * b ≡ length xs * b + m * 8 = rw (length-append, add-mul, g) in
    let size : (length (xs ++ ys) * b + 7) / 8 ≡ n + m = omega arith in
    let own : (length ys * b + 7) / 8 ≡ m = omega arith in
    let up : meta * 256 ^ (n + m - 1) ≡ meta * 256 ^ (n - 1) * 256 ^ m =
    by_le 1 meta
    (λ h.
    let z : n + m - 1 ≡ n - 1 + m = omega (arith, top h) in
    ap (λ (x : ℕ). meta * 256 ^ x) z ∙ ap (λ (x : ℕ). meta * x) (pow-add 256 (n - 1) m) ∙ sym (mul_assoc meta (256 ^ (n - 1)) (256 ^ m)))
    (λ h. let z : meta ≡ 0 = omega arith in rw z (simp zero-mul)) in
    let sum : meta * 256 ^ (n + m - 1) + number (2 ^ b) (xs ++ ys) ≡ (meta * 256 ^ (n - 1) + N) * 256 ^ m + M =
    rw (up, number_append (2 ^ b) xs ys, far) (omega arith) in
    let none : 0 * 256 ^ (m - 1) + M ≡ M = omega arith in
    ap (λ (k : ℕ). digits 256 k (meta * 256 ^ (k - 1) + number (2 ^ b) (xs ++ ys))) size
    ∙ ap (digits 256 (n + m)) sum
    ∙ digits_append 256 (zero-lt-suc 255) n m (meta * 256 ^ (n - 1) + N) M (rw (← far) (number_lt (2 ^ b) ys below))
    ∙ ap (λ (l : List ℕ). digits 256 n (meta * 256 ^ (n - 1) + N) ++ l)
    (sym (ap (λ (k : ℕ). digits 256 k (0 * 256 ^ (k - 1) + M)) own ∙ ap (digits 256 m) none))

-- levels that one byte holds, under meta data in bits that they leave free
pub packed_one : (b meta : ℕ) (cs : List ℕ) → Below (2 ^ b) cs → 0 < length cs * b → length cs * b ≤ 8 → meta % 64 ≡ 0 → meta < 256
    → (0 < meta → length cs * b + 2 ≤ 8) → packed_with b meta cs ≡ bit_or (number (2 ^ b) cs) meta ∷ []
unfolding packed_with digits
packed_one b meta cs below some few marked fits free =
    let N = number (2 ^ b) cs in
    let n : (length cs * b + 7) / 8 ≡ 1 = omega arith in
    let s : N < 2 ^ (length cs * b) = rw (pow_pow 2 b (length cs)) at (number_lt (2 ^ b) cs below) in
    let small : N < 256 = lt_of_lt_of_le s (pow_mono {j = 8} few) in
    by_le 1 meta
    (λ h.
    let u : N < 64 = lt_of_lt_of_le s (pow_mono {j = 6} (omega (arith, free h))) in
    let v : meta ≡ meta / 64 * 64 = omega arith in
    let o : bit_or N meta ≡ meta + N = ap (bit_or N) v ∙ or_shifted_r (meta / 64) 6 N u ∙ omega arith in
    rw (n, o) (ap (λ (x : ℕ). x ∷ []) (omega arith)))
    (λ h.
    let z : meta ≡ 0 = omega arith in
    rw (n, z, or_zero_r) (ap (λ (x : ℕ). x ∷ []) (omega arith)))

-- a turn to one byte
module _ (s : States) (v : List ℕ) (ok : Codes s (codes_of (fold_all v))) (short : length v * bits_of s ≤ 8) {x : ℕ} (is : x ≡ number (2 ^ bits_of s) (codes_of (fold_all v))) where
  pub turn_small : x < 256
  turn_small = let b : OneByte s v = record { codes = ok; short = short } in omega (arith, is, byte_small b)

  pub turn_byte : 0 < length v * bits_of s → x ∷ [] ≡ packed_from s 0 v
  turn_byte some =
      let cs = codes_of (fold_all v) in
      sym
      (packed_one (bits_of s) 0 cs ok.below (rw length_codes some) (rw length_codes short) refl (omega arith) (λ h. absurd (omega arith))
      ∙ ap (λ (y : ℕ). y ∷ []) (or_zero_r _ ∙ sym is))

-- a string, and behind it one that fills whole bytes
pub packed_parts : (s : States) (meta : ℕ) (v w : List ℕ) → Below (2 ^ bits_of s) (codes_of (fold_all w)) → len_of (length w) s * per_byte s ≡ length w
    → (0 < meta → 0 < length v * bits_of s) → packed_from s meta (v ++ w) ≡ packed_from s meta v ++ packed_from s 0 w
packed_parts s meta v w below full some =
    let b = bits_of s in
    let m = len_of (length w) s in
    let e : codes_of (fold_all (v ++ w)) ≡ codes_of (fold_all v) ++ codes_of (fold_all w) = ap codes_of (map-append fold v w) ∙ map-append code_of (fold_all v) (fold_all w) in
    ap (packed_with b meta) e
    ∙ packed_append b meta m (codes_of (fold_all v)) (codes_of (fold_all w)) below (full_bits s _ m (length_codes w ∙ sym full)) (λ h. rw length_codes (some h))

-- one element more is stored
pub next_stored : (l new : List ℕ) (at k x d : ℕ) {out : List ℕ} → at + k < length l → k < length new → out ≡ overlay l at (take k new) → x ≡ get_or new k d
    → set out (at + k) x ≡ overlay l at (take (k + 1) new)
next_stored l new at k x d h more so_far e =
    ap₂ (λ (o : List ℕ) (y : ℕ). set o (at + k) y) so_far e
    ∙ overlay_store l at (take k new) (at + k) (get_or new k d) (ap (λ (i : ℕ). at + i) (length-take-le k new (omega arith))) h
    ∙ ap (overlay l at) (sym (rw add-one (take-suc new k d more)))

-- ---- a first byte that is not full

empty : (l : List ℕ) → length l ≡ 0 → l ≡ []
empty [] e = refl
empty (x ∷ l) e = absurd (omega arith)

-- the first byte, and the string behind it, as it is lent
module _ {s : States} {v : List ℕ} {room at meta first all : ℕ} (ok : Packable s v room at meta) (is : first ≡ first_count s (length v)) (full : all ≡ per_byte s) (e : first ≡ all → ⊥) where
  -- how many bytes are behind the first
  abbrev later : ℕ
  later = len_of (length v) s - 1

  abbrev behind : List ℕ
  behind = take (length v - first) (drop first v)

  some : 0 < len_of (length v) s
  some =
      by_le 1 (len_of (length v) s) (λ h. h)
      (λ h.
      let z : len_of (length v) s ≡ 0 = omega arith in
      let y : len_of (length v) s * per_byte s ≡ 0 = rw z (zero-mul (per_byte s)) in
      absurd (e (omega (arith, spans (length v) s))))

  behind_first : first + later * per_byte s ≡ length v
  behind_first =
      let y : len_of (length v) s * per_byte s ≡ later * per_byte s + per_byte s = ap (λ (x : ℕ). x * per_byte s) (omega (arith, some)) ∙ suc-mul later (per_byte s) in
      omega (arith, spans (length v) s)

  first_fits : first ≤ length v
  first_fits = omega (arith, behind_first)

  place_fits : at + 1 ≤ room
  place_fits = omega (arith, some, ok.fits)

  first_length : length (take first v) ≡ first
  first_length = length-take-le first v first_fits

  behind_is : behind ≡ drop first v
  behind_is = take_all (length v - first) (drop first v) (rw (length-drop first v) (omega arith))

  behind_length : length behind ≡ later * per_byte s
  behind_length = ap length behind_is ∙ length-drop first v ∙ omega (arith, behind_first)

  pub behind_size : len_of (length v) s ≡ suc (len_of (length behind) s)
  behind_size = rw (behind_length, len_full later s) (omega (arith, some))

  pub behind_whole : WholeBytes s behind room (at + 1)
  behind_whole =
      let f = ok.fits in
      record {
        codes = rw behind_is (drop_codes first v ok.codes);
        short = rw behind_length (omega (arith, behind_first, ok.short));
        fits = omega (arith, behind_size);
        full = rw (behind_length, len_full later s);
      }

  -- the bits of the first byte's levels
  first_bits : (0 < first * bits_of s) × (first * bits_of s ≤ 8) × (0 < meta → first * bits_of s + 2 ≤ 8)
  first_bits =
      let e : length v * bits_of s ≡ first * bits_of s + later * 8 =
      ap (λ (x : ℕ). x * bits_of s) (sym behind_first) ∙ add-mul first (later * per_byte s) (bits_of s) ∙ ap (λ (x : ℕ). first * bits_of s + x) (full_bits s _ later refl) in
      let h = spans (length v) s in
      let f : 1 ≤ first = omega arith in (
        omega (arith, mul-le-mul_right (bits_of s) f, bits_pos s),
        omega (arith, mul-le-mul_right (bits_of s) (let l : first ≤ per_byte s = omega arith in l), per_bits s),
        λ m. omega (arith, ok.free m, some),
      )

  pub first_byte : OneByte s (take first v)
  first_byte = record { codes = take_codes first v ok.codes; short = rw first_length first_bits.1 }

  packed_cons : (r : ℕ) → meta < 256 → r ≡ number (2 ^ bits_of s) (codes_of (fold_all (take first v))) → packed_from s meta v ≡ bit_or r meta ∷ packed_from s 0 behind
  packed_cons r fits n =
      let u = take first v in
      let l : length (codes_of (fold_all u)) ≡ first = length_codes u ∙ first_length in
      ap (packed_from s meta) (sym (take-append-drop first v) ∙ ap (λ (w : List ℕ). u ++ w) (sym behind_is))
      ∙ packed_parts s meta u behind behind_whole.codes.below behind_whole.full (λ h. rw first_length first_bits.0)
      ∙ ap (λ (x : List ℕ). x ++ packed_from s 0 behind)
      (packed_one (bits_of s) meta (codes_of (fold_all u)) first_byte.codes.below (rw l first_bits.0) (rw l first_bits.1) ok.marked fits (rw l first_bits.2) ∙ ap (λ (x : ℕ). bit_or x meta ∷ []) (sym n))

  none_behind : first ≡ length v → len_of (length behind) s ≡ 0
  none_behind only = let z : length behind ≡ 0 = rw (behind_is, length-drop) (omega (arith, only)) in ap (λ (n : ℕ). len_of n s) z ∙ len_none s

  no_rest : first ≡ length v → packed_from s 0 behind ≡ []
  no_rest only = empty (packed_from s 0 behind) (packed_from_length s 0 behind ∙ none_behind only)

  module _ (l : List ℕ) (long : length l ≡ room) (r : ℕ) (fits : meta < 256) (told : r ≡ number (2 ^ bits_of s) (codes_of (fold_all (take first v)))) where
    -- what is stored behind the first byte
    pub behind_lent : WholeBytes s behind (length (set l at (bit_or r meta))) (at + 1)
    behind_lent = rw (length-set, long) behind_whole

    pub first_stored : overlay (set l at (bit_or r meta)) (at + 1) (packed_from s 0 behind) ≡ overlay l at (packed_from s meta v)
    first_stored =
        let x = bit_or r meta in
        ap (λ (o : List ℕ). overlay o (at + 1) (packed_from s 0 behind)) (sym (overlay_one l at x (omega (arith, place_fits))))
        ∙ overlay_overlay l at (x ∷ []) (packed_from s 0 behind) (at + 1) (omega arith) (omega (arith, place_fits))
        ∙ ap (overlay l at) (sym (packed_cons r fits told))

    pub only_stored : first ≡ length v → set l at (bit_or r meta) ≡ overlay l at (packed_from s meta v)
    only_stored only = sym (overlay_nil (set l at (bit_or r meta)) (at + 1)) ∙ ap (overlay (set l at (bit_or r meta)) (at + 1)) (sym (no_rest only)) ∙ first_stored

    compared : same (part at (len_of (length v) s) l) (packed_from s meta v) ≡ eqb (get_or l at 0) (bit_or r meta) && same (part (at + 1) (len_of (length behind) s) l) (packed_from s 0 behind)
    unfolding same part
    compared =
        ap₂ (λ (n : ℕ) (q : List ℕ). same (take n (drop at l)) q) behind_size (packed_cons r fits told)
        ∙ ap (λ (q : List ℕ). same (take (suc (len_of (length behind) s)) q) (bit_or r meta ∷ packed_from s 0 behind)) (drop-cons l at 0 (omega (arith, place_fits)))
        ∙ ap (λ (n : ℕ). eqb (get_or l at 0) (bit_or r meta) && same (take (len_of (length behind) s) (drop n l)) (packed_from s 0 behind)) (sym (add-one at))

    -- where the first byte is another, where it is equal, and where it is the only one
    pub first_differs : (get_or l at 0 ≡ bit_or r meta → ⊥) → false ≡ same (part at (len_of (length v) s) l) (packed_from s meta v)
    first_differs h = sym (compared ∙ rw (ne_eqb _ _ h))

    pub behind_compared : get_or l at 0 ≡ bit_or r meta
        → same (part (at + 1) (len_of (length behind) s) l) (packed_from s 0 behind) ≡ same (part at (len_of (length v) s) l) (packed_from s meta v)
    behind_compared h = sym (compared ∙ rw (eq-eqb _ _ h))

    pub only_compared : get_or l at 0 ≡ bit_or r meta → first ≡ length v → true ≡ same (part at (len_of (length v) s) l) (packed_from s meta v)
    unfolding same part
    only_compared h only = sym (ap₂ (λ (n : ℕ) (q : List ℕ). same (take n (drop (at + 1) l)) q) (none_behind only) (no_rest only)) ∙ behind_compared h
