-- Codes byte by byte: those of a byte stand behind those of the bytes before it.
-- Assumes nothing.
use mathlib.Core.Path.{◌≡◌, refl, sym, ap, ap₂, ◌∙◌}
use mathlib.Core.Bool.{Bool, false, ◌||◌}
use mathlib.Core.List.{List, [], ◌∷◌, ◌++◌, map-append}
use Prim.Native.Nat.{ℕ, suc, ◌+◌, ◌-◌, ◌*◌, ◌/◌, ◌%◌, ◌^◌, ◌≤◌, ◌<◌, zero-le}
use native.Mathlib.Nat.{mul_comm, mul-zero, mul-suc, mul-le-mul_left}
use native.Mathlib.Numerals.{add-one}
use native.Mathlib.Omega.{arith}
use borrow.Author.Tests.{lt-ltb}
use lib.Bits.{bit_and, bit_or, and_mask, or_zero_l, or_add_and, and_le_r}
use lib.Dec.{ltb, leb}
use lib.ListN.{length, take, drop, get_or, length-map, length-drop, take-append-drop}
use lib.Pow.{pow_pos}
use lib.Seq.{take-suc, take_all, length-take-le}
use Rattle.value.specs.declared.States.{States}
use Rattle.value.specs.declared.States.TheVariants.{Two, Four, Nine}
use Rattle.value.specs.Digits.{number, digits, Below}
use Rattle.value.specs.Slice.{any, overlay}
use Rattle.value.specs.Level.{bits_of, len_of, letter_of, is_no_code, has_no_code, text_of}
use Rattle.value.proofs.Classes.{same_tests}
use Rattle.value.proofs.Digits.{below_at, below_drop, pow_pow, number_append, number_lt, number_more, digits_length, digits_append}
use Rattle.value.proofs.Slices.{any_append, any_snoc, overlay_nil, overlay_length, overlay_overlay}
use Rattle.value.proofs.Tests.{by_eq}
use Rattle.signal.specs.Decode.{codes_at}
use Rattle.signal.specs.Parts.{Levels, is_bad_byte}

-- ---- one byte

-- how many codes a byte holds
abbrev pub per_byte : States → ℕ
per_byte S = 8 / bits_of S

byte_base : (S : States) → (2 ^ bits_of S) ^ per_byte S ≡ 256
byte_base Two = refl
byte_base Four = refl
byte_base Nine = refl

pub per_some : (S : States) → (0 < per_byte S) × (per_byte S ≤ 8)
per_some Two = (omega arith, omega arith)
per_some Four = (omega arith, omega arith)
per_some Nine = (omega arith, omega arith)

-- the bits behind a level lie in its byte
pub shift_small : (S : States) (n i b : ℕ) → b ≡ bits_of S → i < n → n * bits_of S ≤ 8 → (n - 1 - i) * b < 8
shift_small S n i b e h k = rw e (go S k)
  where
    go : (S : States) → n * bits_of S ≤ 8 → (n - 1 - i) * bits_of S < 8
    go Two k = omega arith
    go Four k = omega arith
    go Nine k = omega arith

-- the level that j follow
pub level_shifted : (S : States) (x j b m : ℕ) → b ≡ bits_of S → m ≡ 2 ^ bits_of S - 1 → bit_and (x / 2 ^ (j * b)) m ≡ x / (2 ^ bits_of S) ^ j % 2 ^ bits_of S
level_shifted S x j b m e f =
    rw (e, f) (and_mask (x / 2 ^ (j * bits_of S)) (bits_of S) ∙ ap (λ (p : ℕ). x / p % 2 ^ bits_of S) (sym (pow_pow 2 (bits_of S) j)))

-- a first byte that is not full
module _ (S : States) (n : ℕ) (h : n * bits_of S ≤ 8) where
  pub first_none : n ≡ 0 → 0 ≡ len_of n S
  first_none e = go S
    where
      go : (S : States) → 0 ≡ len_of n S
      go Two = omega arith
      go Four = omega arith
      go Nine = omega arith

pub number_one : (v : List ℕ) → 0 < length v → get_or v 0 0 ≡ number 256 (take 1 v)
unfolding number
number_one [] h = absurd (omega arith)
number_one (x ∷ v) h = omega arith

-- one byte more
byte_more : (S : States) (v : List ℕ) (i k : ℕ) → k < length v → Below 256 v
    → digits (2 ^ bits_of S) (i + per_byte S) (number 256 (take (k + 1) v)) ≡ digits (2 ^ bits_of S) i (number 256 (take k v)) ++ digits (2 ^ bits_of S) (per_byte S) (get_or v k 0)
byte_more S v i k h b =
    let B = 2 ^ bits_of S in
    let n = number 256 (take k v) in
    let x = get_or v k 0 in
    ap (digits B (i + per_byte S)) (number_more 256 v k 0 h ∙ ap (λ (p : ℕ). n * p + x) (sym (byte_base S)))
    ∙ digits_append B (pow_pos (bits_of S)) i (per_byte S) n x (rw (byte_base S) (below_at 256 v b k 0 h))

-- ---- an entry: the first byte where that is not full, and the full ones

-- what the first byte has leaves full bytes
pub record Split (w : ℕ) (S : States) (levels : List ℕ) (i k : ℕ) : Type 0 where
  pub small : i * bits_of S ≤ 8
  pub within : k ≤ length levels
  pub rest : i + per_byte S * (length levels - k) ≡ w

module _ {w : ℕ} {levels : List ℕ} where
  split_first : (S : States) → Levels w S levels → Split w S levels (w % per_byte S) (len_of (w % per_byte S) S)
  split_first Two h = record { small = omega arith; within = omega (arith, h.long); rest = omega (arith, h.long) }
  split_first Four h = record { small = omega arith; within = omega (arith, h.long); rest = omega (arith, h.long) }
  split_first Nine h = record { small = omega arith; within = omega (arith, h.long); rest = omega (arith, h.long) }

  -- by numbers that are these
  pub split_told : {S : States} {p k : ℕ} → Levels w S levels → p ≡ per_byte S → k ≡ len_of (w % p) S → Split w S levels (w % p) k
  split_told {S} h e f = rw (f, e) (split_first S h)

-- the first i codes, which k bytes hold, and the others
pub codes_split : (w : ℕ) (S : States) (levels : List ℕ) (i k : ℕ) → i + per_byte S * (length levels - k) ≡ w → Below 256 levels
    → codes_at w S levels ≡ digits (2 ^ bits_of S) i (number 256 (take k levels)) ++ digits (2 ^ bits_of S) (per_byte S * length (drop k levels)) (number 256 (drop k levels))
codes_split w S levels i k h b =
    let B = 2 ^ bits_of S in
    let xs = take k levels in
    let ys = drop k levels in
    let n = per_byte S * length ys in
    let e : w ≡ i + n = sym h ∙ ap (λ (l : ℕ). i + per_byte S * l) (sym (length-drop k levels)) in
    let p : 256 ^ length ys ≡ B ^ n =
    ap (λ (x : ℕ). x ^ length ys) (sym (byte_base S)) ∙ pow_pow B (per_byte S) (length ys) ∙ ap (λ (x : ℕ). B ^ x) (mul_comm (length ys) (per_byte S)) in
    let f : number 256 levels ≡ number 256 xs * B ^ n + number 256 ys =
    ap (number 256) (sym (take-append-drop k levels)) ∙ number_append 256 xs ys ∙ ap (λ (q : ℕ). number 256 xs * q + number 256 ys) p in
    ap₂ (digits B) e f
    ∙ digits_append B (pow_pos (bits_of S)) i n (number 256 xs) (number 256 ys) (rw (← p) (number_lt 256 ys (below_drop 256 levels b k)))

-- ---- characters stored behind characters

-- those of one more list of codes
text_append : (out xs ys : List ℕ) (at i : ℕ) → at + length xs ≡ i → i ≤ length out
    → overlay (overlay out at (text_of xs)) i (text_of ys) ≡ overlay out at (text_of (xs ++ ys))
text_append out xs ys at i e h =
    let l : at + length (text_of xs) ≡ i = rw (length-map xs letter_of) e in
    overlay_overlay out at (text_of xs) (text_of ys) i l h ∙ ap (overlay out at) (sym (map-append letter_of xs ys))

text_length : (B i n : ℕ) → length (text_of (digits B i n)) ≡ i
text_length B i n = length-map (digits B i n) letter_of ∙ digits_length B i n

-- one byte more
per_more : (S : States) (k : ℕ) → per_byte S * (k + 1) ≡ per_byte S * k + per_byte S
per_more S k = rw (add-one) (mul-suc (per_byte S) k)

-- after k full bytes, stored from a place on
pub record Stored (S : States) (levels first : List ℕ) (at i k : ℕ) (out : List ℕ) : Type 0 where
  pub within : k ≤ length levels
  pub place : i ≡ at + per_byte S * k
  pub text : out ≡ overlay first at (text_of (digits (2 ^ bits_of S) (per_byte S * k) (number 256 (take k levels))))
  pub long : length out ≡ length first

module _ {S : States} {levels first : List ℕ} {at : ℕ} where
  pub stored_none : Stored S levels first at at 0 first
  unfolding digits
  stored_none =
      let z : per_byte S * 0 ≡ 0 = mul-zero (per_byte S) in
      record {
        within = zero-le;
        place = omega (arith, z);
        text = sym (overlay_nil first at) ∙ ap (λ (n : ℕ). overlay first at (text_of (digits (2 ^ bits_of S) n (number 256 (take 0 levels))))) (sym z);
        long = refl;
      }

  module _ (room : at + per_byte S * length levels ≤ length first) {i k : ℕ} {out : List ℕ} (h : Stored S levels first at i k out) (l : k < length levels) where
    pub stored_room : i + per_byte S ≤ length first
    stored_room = omega (arith, h.place, per_more S k, mul-le-mul_left (per_byte S) l)

    pub stored_on : Below 256 levels → {p : ℕ} {next : List ℕ} → p ≡ per_byte S
        → next ≡ overlay out i (text_of (digits (2 ^ bits_of S) (per_byte S) (get_or levels k 0))) → Stored S levels first at (i + p) (k + 1) next
    stored_on b e f =
        let B = 2 ^ bits_of S in
        let xs = digits B (per_byte S * k) (number 256 (take k levels)) in
        let ys = digits B (per_byte S) (get_or levels k 0) in
        let n : at + length xs ≡ i = ap (λ (m : ℕ). at + m) (digits_length B (per_byte S * k) (number 256 (take k levels))) ∙ sym h.place in
        record {
          within = omega arith;
          place = omega (arith, h.place, per_more S k);
          text =
              f
              ∙ ap (λ (o : List ℕ). overlay o i (text_of ys)) h.text
              ∙ text_append first xs ys at i n (omega (arith, stored_room))
              ∙ ap (λ (cs : List ℕ). overlay first at (text_of cs))
              (sym (byte_more S levels (per_byte S * k) k l b) ∙ ap (λ (m : ℕ). digits B m (number 256 (take (k + 1) levels))) (sym (per_more S k)));
          long =
              ap length f
              ∙ overlay_length out (text_of ys) i (rw (text_length B (per_byte S) (get_or levels k 0), h.long) stored_room)
              ∙ h.long;
        }

  pub stored_end : {i k : ℕ} {out : List ℕ} → Stored S levels first at i k out → length levels ≤ k
      → out ≡ overlay first at (text_of (digits (2 ^ bits_of S) (per_byte S * length levels) (number 256 levels)))
  stored_end {i} {k} {out} h l =
      let e : k ≡ length levels = omega (arith, h.within) in
      h.text
      ∙ ap₂ (λ (n : ℕ) (v : List ℕ). overlay first at (text_of (digits (2 ^ bits_of S) (per_byte S * n) (number 256 v)))) e (take_all k levels l)

-- the first byte's, and those of the full bytes
module _ {w : ℕ} {S : States} {levels : List ℕ} {i k j : ℕ} {first : List ℕ} (h : Split w S levels i k) (out : List ℕ) (r : w ≤ length out)
    (d : k ≡ j) (e : first ≡ overlay out 0 (text_of (digits (2 ^ bits_of S) i (number 256 (take j levels))))) where
  full : take (length levels - k) (drop k levels) ≡ drop k levels
  full = take_all (length levels - k) (drop k levels) (rw length-drop (omega arith))

  pub text_whole : Below 256 levels → {last : List ℕ}
      → last ≡ overlay first i (text_of (digits (2 ^ bits_of S) (per_byte S * length (take (length levels - k) (drop k levels))) (number 256 (take (length levels - k) (drop k levels)))))
      → last ≡ overlay out 0 (text_of (codes_at w S levels))
  text_whole b f =
      let B = 2 ^ bits_of S in
      let xs = digits B i (number 256 (take k levels)) in
      let ys = digits B (per_byte S * length (drop k levels)) (number 256 (drop k levels)) in
      let n : 0 + length xs ≡ i = rw (digits_length B i (number 256 (take k levels))) (omega arith) in
      f
      ∙ ap₂ (λ (o v : List ℕ). overlay o i (text_of (digits B (per_byte S * length v) (number 256 v))))
      (e ∙ ap (λ (m : ℕ). overlay out 0 (text_of (digits B i (number 256 (take m levels))))) (sym d)) full
      ∙ text_append out xs ys 0 i n (omega (arith, h.rest))
      ∙ ap (λ (cs : List ℕ). overlay out 0 (text_of cs)) (sym (codes_split w S levels i k h.rest b))

-- ---- codes 9 to 15

pub nine_bits : (S : States) → 4 ≤ bits_of S → S ≡ Nine
nine_bits Two h = absurd (omega arith)
nine_bits Four h = absurd (omega arith)
nine_bits Nine h = refl

pub bad_byte : (x : ℕ) → x < 256 → ltb 0 (bit_and (bit_and (bit_and x 119 + 119) x) 136) ≡ is_bad_byte x
unfolding digits any
bad_byte x h = same_tests (λ (n : ℕ). ltb 0 (bit_and (bit_and (bit_and n 119 + 119) n) 136)) is_bad_byte tt x h

or_some : (a b : ℕ) → ltb 0 (bit_or a b) ≡ ltb 0 a || ltb 0 b
or_some a b =
    by_eq a 0 (λ e. rw (e, or_zero_l b))
    (λ e.
    let s : bit_or a b + bit_and a b ≡ a + b = or_add_and a b in
    let l : bit_and a b ≤ b = and_le_r a b in
    let p : 0 < a = omega arith in
    rw (lt-ltb 0 a p, lt-ltb 0 (bit_or a b) (omega arith)))

pub bad_more : (v : List ℕ) (i u k : ℕ) → i < length v → ltb 0 u ≡ any is_bad_byte (take i v) → ltb 0 k ≡ is_bad_byte (get_or v i 0)
    → ltb 0 (bit_or u k) ≡ any is_bad_byte (take (i + 1) v)
bad_more v i u k h e f =
    rw (add-one, take-suc v i 0 h) (or_some u k ∙ ap₂ (λ (s t : Bool). s || t) e f ∙ sym (any_snoc is_bad_byte (take i v) (get_or v i 0)))

-- the codes of full bytes are those of each
bad_bytes : (v : List ℕ) → Below 256 v → any is_bad_byte v ≡ has_no_code (digits 16 (2 * length v) (number 256 v))
unfolding any digits number
bad_bytes [] b = refl
bad_bytes (x ∷ v) b =
    let n = number 256 v in
    let m : 2 * suc (length v) ≡ 2 + 2 * length v = omega arith in
    let p : 256 ^ length v ≡ 16 ^ (2 * length v) = pow_pow 16 2 (length v) ∙ ap (λ (k : ℕ). 16 ^ k) (mul_comm (length v) 2) in
    ap (λ (t : Bool). is_bad_byte x || t) (bad_bytes v b.1)
    ∙ sym (any_append is_no_code (digits 16 2 x) (digits 16 (2 * length v) n))
    ∙ ap (λ (cs : List ℕ). has_no_code cs)
    (sym (digits_append 16 (omega arith) 2 (2 * length v) x n (rw (← p) (number_lt 256 v b.1))) ∙ ap₂ (λ (k q : ℕ). digits 16 k (x * q + n)) (sym m) (sym p))

-- the code of a first byte that has but one, and none
pub bad_one : (v : List ℕ) → length v ≡ 1 → leb 9 (bit_and (get_or v 0 0) 15) ≡ has_no_code (digits 16 (length v) (number 256 v))
unfolding digits any
bad_one v h =
    let n = number 256 v in
    let e : n ≡ n / 1 = omega arith in
    let k : get_or v 0 0 ≡ n = number_one v (omega arith) ∙ ap (number 256) (take_all 1 v (omega arith)) in
    rw h (ap (leb 9) (and_mask (get_or v 0 0) 4 ∙ ap (λ (y : ℕ). y % 16) (k ∙ e)) ∙ sym (any_snoc is_no_code [] (n / 1 % 16)))

pub bad_none : (v : List ℕ) → length v < 1 → false ≡ has_no_code (digits 16 (length v) (number 256 v))
unfolding digits any
bad_none v h = let e : length v ≡ 0 = omega arith in rw e

-- the codes of the first byte where it has but one, and of the full ones
pub bad_whole : {w : ℕ} {S : States} {levels : List ℕ} → S ≡ Nine → Levels w S levels → Below 256 levels → {p q : Bool}
    → p ≡ has_no_code (digits 16 (length (take (w % 2) levels)) (number 256 (take (w % 2) levels))) → q ≡ any is_bad_byte (drop (w % 2) levels) → p || q ≡ has_no_code (codes_at w S levels)
bad_whole {w} {S} {levels} n h b e f =
    let z : len_of (w % 2) Nine ≡ w % 2 = omega arith in
    let s : Split w Nine levels (w % 2) (w % 2) = rw z at (split_first Nine (rw n at h)) in
    let ys = drop (w % 2) levels in
    let l : length (take (w % 2) levels) ≡ w % 2 = length-take-le (w % 2) levels s.within in
    rw n
    (ap₂ (λ (s t : Bool). s || t) (rw l at e) (f ∙ bad_bytes ys (below_drop 256 levels b (w % 2)))
    ∙ sym (any_append is_no_code (digits 16 (w % 2) (number 256 (take (w % 2) levels))) (digits 16 (2 * length ys) (number 256 ys)))
    ∙ ap (λ (cs : List ℕ). has_no_code cs) (sym (codes_split w Nine levels (w % 2) (w % 2) s.rest b)))
