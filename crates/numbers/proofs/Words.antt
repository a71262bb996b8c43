-- Levels as bits, a word at a time: which are 0 and 1, and their number.
-- Assumes nothing.
use mathlib.Core.Path.{◌≡◌, refl, sym, ap, ap₂, ◌∙◌}
use mathlib.Core.Bool.{Bool, true, false, cond, ◌||◌}
use mathlib.Core.List.{List, [], ◌∷◌, ◌++◌, map}
use Prim.Native.Nat.{ℕ, zero, suc, ◌+◌, ◌-◌, ◌*◌, ◌/◌, ◌%◌, ◌^◌, ◌≤◌, ◌<◌}
use native.Mathlib.Nat.{le_refl, mod-lt, mod-eq_of_lt, div-add-mod', add_comm, add-zero, mul-zero, mul-suc, zero-add, zero-mul, suc-mul}
use native.Mathlib.Omega.{arith}
use borrow.Author.Tests.{lt-ltb}
use lib.Bits.{bit_and, bit_or, and_mask, or_shifted}
use lib.Dec.{T, leb, ltb}
use lib.ListN.{length, get_or, take, drop, replicate, length-drop}
use lib.Pow.{pow_pos, high, ones_lt, ones_split, shl_exact}
use lib.Seq.{take_all, drop-drop, length-take-le}
use native.Mathlib.Numerals.{add-one}
use Rattle.std.specs.Simd.{first_chunks}
use Rattle.wavemem.proofs.Parts.{chunk_at}
use Rattle.value.specs.declared.States.{States}
use Rattle.value.specs.declared.States.TheVariants.{Two, Four, Nine}
use Rattle.value.specs.Digits.{number, digits, Below}
use Rattle.value.specs.Slice.{any, part}
use Rattle.value.specs.Level.{bits_of, len_of}
use Rattle.value.proofs.Digits.{pow_pow, number_lt, number_append, number_digits, digits_length, digits_below, digits_high, digits_append, digits_zeros, base_pos}
use Rattle.value.proofs.Lists.{none_from, below_none}
use Rattle.value.proofs.Slices.{any_append, part_add, part_length}
use Rattle.value.proofs.Backward.{below_part}
use Rattle.value.proofs.Tests.{both, both_same, all_below, at_below, from_t, or_both}
use Rattle.wavemem.proofs.Lanes.{itself, kept, in_lanes}
use Rattle.signal.specs.Decode.{codes_at}
use Rattle.signal.proofs.CodesOfBytes.{per_byte, codes_split}
use Rattle.std.specs.Prelude.{Option, Some, None}
use Rattle.numbers.specs.Number.{has_other}
use Rattle.numbers.specs.Parts.{bits_of_levels, Few}

-- ---- levels that are 0 and 1

-- levels of which none is another, and their number
pub record Known (ds : List ℕ) (n : ℕ) : Type 0 where
  pub clear : has_other ds ≡ false
  pub is : n ≡ number 2 ds

pub known_below : {ds : List ℕ} {n : ℕ} → Below 2 ds → n ≡ number 2 ds → Known ds n
known_below {ds} h e = record { clear = below_none 2 ds h; is = e }

pub known_lt : {ds : List ℕ} {n : ℕ} → Known ds n → n < 2 ^ length ds
known_lt {ds} k = rw k.is (number_lt 2 ds (none_from 2 ds k.clear))

pub bits_known : {ds : List ℕ} {n : ℕ} → Known ds n → Some n ≡ bits_of_levels ds
unfolding bits_of_levels
bits_known k = rw (k.clear, k.is)

module _ (ds : List ℕ) where
  pub bits_other : has_other ds ≡ true → None ≡ bits_of_levels ds
  unfolding bits_of_levels
  bits_other e = rw e

  pub known_bits : {n : ℕ} → bits_of_levels ds ≡ Some n → Known ds n
  unfolding bits_of_levels
  known_bits {n} = go (has_other ds) refl
    where
      go : (b : Bool) → has_other ds ≡ b → cond b None (Some (number 2 ds)) ≡ Some n → Known ds n
      go true h e = cc
      go false h e = record { clear = h; is = cc }

  pub other_bits : bits_of_levels ds ≡ None → has_other ds ≡ true
  unfolding bits_of_levels
  other_bits = go (has_other ds)
    where
      go : (b : Bool) → cond b None (Some (number 2 ds)) ≡ None → b ≡ true
      go true e = refl
      go false e = cc

-- levels 0 in front change nothing
zeros_number : (a : ℕ) (ds : List ℕ) → number 2 (replicate a 0 ++ ds) ≡ number 2 ds
unfolding number
zeros_number zero ds = refl
zeros_number (suc a) ds = rw zero-mul (zero-add _ ∙ zeros_number a ds)

zeros_other : (a : ℕ) (ds : List ℕ) → has_other (replicate a 0 ++ ds) ≡ has_other ds
unfolding any
zeros_other zero ds = refl
zeros_other (suc a) ds = zeros_other a ds

bits_zeros : (a : ℕ) (ds : List ℕ) → bits_of_levels (replicate a 0 ++ ds) ≡ bits_of_levels ds
unfolding bits_of_levels
bits_zeros a ds = rw (zeros_other a ds, zeros_number a ds)

-- ---- one word

-- so many bits 1
pub ones_are : (c : ℕ) → c ≤ 64 → 18446744073709551615 / 2 ^ (64 - c) ≡ 2 ^ c - 1
ones_are c h =
    let e : c + (64 - c) ≡ 64 = omega arith in
    ap (λ (n : ℕ). (2 ^ n - 1) / 2 ^ (64 - c)) (sym e)
    ∙ ap (λ (n : ℕ). n / 2 ^ (64 - c)) (ones_split c (64 - c))
    ∙ high (2 ^ c - 1) (64 - c) (ones_lt (64 - c))

-- the bits of a digit of L bits that a 0 and a 1 have not
abbrev rest : ℕ → ℕ → ℕ
rest L d = bit_and d (2 ^ L - 2) % 2 ^ L

-- in every lane
abbrev pub others : ℕ → ℕ → ℕ → ℕ
others L n x = bit_and x (number (2 ^ L) (replicate n (2 ^ L - 2)))

some_sum : (a p m : ℕ) → 0 < p → ltb 0 (a * p + m) ≡ ltb 0 a || ltb 0 m
some_sum zero p m h = rw (zero-mul, zero-add)
some_sum (suc a) p m h =
    let k : p ≤ suc a * p = rw suc-mul (omega arith) in
    lt-ltb 0 (suc a * p + m) (omega arith) ∙ ap (λ (b : Bool). b || ltb 0 m) (sym (lt-ltb 0 (suc a) (omega arith)))

module _ (L : ℕ) (computed : T (all_below (λ (d : ℕ). both (ltb 0 (rest L d)) (leb 2 d)) (2 ^ L))) where
  rest_some : (d : ℕ) → d < 2 ^ L → ltb 0 (rest L d) ≡ leb 2 d
  rest_some d h = both_same (ltb 0 (rest L d)) (leb 2 d) (from_t _ (at_below (λ (d : ℕ). both (ltb 0 (rest L d)) (leb 2 d)) (2 ^ L) computed d h))

  any_rest : (ds : List ℕ) → Below (2 ^ L) ds → ltb 0 (number (2 ^ L) (map (rest L) ds)) ≡ has_other ds
  unfolding number any
  any_rest [] h = refl
  any_rest (d ∷ ds) h =
      some_sum (rest L d) ((2 ^ L) ^ length (map (rest L) ds)) (number (2 ^ L) (map (rest L) ds)) (base_pos (2 ^ L) (pow_pos L) (length (map (rest L) ds)))
      ∙ ap₂ (λ (s t : Bool). s || t) (rest_some d h.0) (any_rest ds h.1)

  pub any_other : (n x : ℕ) → x < 2 ^ (n * L) → 2 ^ L - 2 < 2 ^ L → ltb 0 (others L n x) ≡ has_other (digits (2 ^ L) n x)
  any_other n x h m =
      ap (ltb 0) (in_lanes (kept {j = L} (2 ^ L - 2) (le_refl L) m (itself h)))
      ∙ any_rest (digits (2 ^ L) n x) (digits_below (2 ^ L) (pow_pos L) n x)

-- the digits of a word, for each set
pub other_four : (x : ℕ) → x < 2 ^ 64 → has_other (digits 4 32 x) ≡ ltb 0 (bit_and x 12297829382473034410)
unfolding number
other_four x h = sym (any_other 2 tt 32 x h (omega arith))

pub other_nine : (x : ℕ) → x < 2 ^ 64 → has_other (digits 16 16 x) ≡ ltb 0 (bit_and x 17216961135462248174)
unfolding number
other_nine x h = sym (any_other 4 tt 16 x h (omega arith))

pub bits_two : (x : ℕ) → x < 2 ^ 64 → Some x ≡ bits_of_levels (digits 2 64 x)
bits_two x h =
    bits_known (known_below (digits_below 2 (omega arith) 64 x) (sym (number_digits 2 (omega arith) 64 x ∙ mod-eq_of_lt h)))

-- ---- the first levels

-- how many levels a word holds
abbrev pub per_word : States → ℕ
per_word S = 64 / bits_of S

pub word_base : (S : States) → (2 ^ bits_of S) ^ per_word S ≡ 2 ^ 64
word_base Two = refl
word_base Four = refl
word_base Nine = refl

-- n levels that a word holds
module _ (n : ℕ) where
  pub first_some : (S : States) → 1 ≤ n → 1 ≤ n * bits_of S
  first_some Two h = omega arith
  first_some Four h = omega arith
  first_some Nine h = omega arith

-- those below a place
pub low_bits : (x n : ℕ) → bit_and x (2 ^ n - 1) ≡ x % 2 ^ n
low_bits = and_mask

-- the bits of n levels of a number, the bits above them left out, are those of a word
pub first_bits : (S : States) (n x : ℕ) → n ≤ per_word S → bits_of_levels (digits (2 ^ bits_of S) (per_word S) (x % 2 ^ (n * bits_of S))) ≡ bits_of_levels (digits (2 ^ bits_of S) n x)
first_bits S n x h =
    let B = 2 ^ bits_of S in
    let e : 2 ^ (n * bits_of S) ≡ B ^ n = sym (pow_pow 2 (bits_of S) n) in
    let m = x % B ^ n in
    let s : m + x / B ^ n * B ^ n ≡ x = add_comm m (x / B ^ n * B ^ n) ∙ div-add-mod' x (B ^ n) in
    let f : per_word S - n + n ≡ per_word S = omega arith in
    ap (λ (p : ℕ). bits_of_levels (digits B (per_word S) (x % p))) e
    ∙ ap (λ (k : ℕ). bits_of_levels (digits B k m)) (sym f)
    ∙ ap bits_of_levels (digits_zeros B (pow_pos (bits_of S)) (per_word S - n) n m (mod-lt x (base_pos B (pow_pos (bits_of S)) n)))
    ∙ bits_zeros (per_word S - n) (digits B n m)
    ∙ ap bits_of_levels (sym (digits_high B (pow_pos (bits_of S)) n m (x / B ^ n)) ∙ ap (digits B n) s)

-- ---- the levels so far: i of them, in k bytes

pub record Begun (w : ℕ) (S : States) (levels : List ℕ) (i k : ℕ) : Type 0 where
  pub some : 1 ≤ i
  pub within : k ≤ length levels
  pub rest : i + per_byte S * (length levels - k) ≡ w
  pub whole : (length levels - k) % 8 ≡ 0

abbrev pub codes_so_far : States → List ℕ → ℕ → ℕ → List ℕ
codes_so_far S levels i k = digits (2 ^ bits_of S) i (number 256 (take k levels))

-- what the first word tells of them
pub first_told : (S : States) (levels : List ℕ) {i k x : ℕ} {b : Option ℕ} → i ≤ per_word S → k ≡ len_of i S → x ≡ number 256 (take (len_of i S) levels) % 2 ^ (i * bits_of S)
    → b ≡ bits_of_levels (digits (2 ^ bits_of S) (per_word S) x) → bits_of_levels (codes_so_far S levels i k) ≡ b
first_told S levels {i} h e f g =
    ap (λ (k : ℕ). bits_of_levels (codes_so_far S levels i k)) e
    ∙ sym (first_bits S i (number 256 (take (len_of i S) levels)) h)
    ∙ ap (λ (y : ℕ). bits_of_levels (digits (2 ^ bits_of S) (per_word S) y)) (sym f)
    ∙ sym g

-- levels that are no more than one word holds
pub one_word : (w : ℕ) (S : States) (levels : List ℕ) → w * bits_of S ≤ 64
    → bits_of_levels (codes_at w S levels) ≡ bits_of_levels (digits (2 ^ bits_of S) (per_word S) (number 256 levels % 2 ^ (w * bits_of S)))
one_word w S levels r = sym (first_bits S w (number 256 levels) (go S r))
  where
    go : (S : States) → w * bits_of S ≤ 64 → w ≤ per_word S
    go Two r = omega arith
    go Four r = omega arith
    go Nine r = omega arith

per_some : (S : States) → 0 < per_word S
per_some Two = omega arith
per_some Four = omega arith
per_some Nine = omega arith

pub per_small : (S : States) → per_word S ≤ 64
per_small Two = omega arith
per_small Four = omega arith
per_small Nine = omega arith

pub few_bytes : {w : ℕ} {levels : List ℕ} (S : States) → Few w S levels → length levels ≤ 32
few_bytes Two h = omega (arith, h.long, h.few)
few_bytes Four h = omega (arith, h.long, h.few)
few_bytes Nine h = omega (arith, h.long, h.few)

module _ (S : States) {p : ℕ} (e : p ≡ per_word S) where
  pub word_some : 0 < p
  word_some = rw e (per_some S)

  -- a count of levels from 1 on that a word holds
  pub word_holds : (n : ℕ) → (1 ≤ n % p + 1) × (n % p + 1 ≤ per_word S)
  word_holds n = let h : n % p < p = mod-lt n word_some in (omega arith, omega (arith, e))

module _ {w : ℕ} {S : States} {levels : List ℕ} where
  pub first_begun : {p i k : ℕ} → Few w S levels → p ≡ per_word S → i ≡ (w - 1) % p + 1 → k ≡ len_of i S → Begun w S levels i k
  first_begun {p} {i} {k} h e f g = rw (g, f, e) (go S h)
    where
      go : (S : States) → Few w S levels → Begun w S levels ((w - 1) % per_word S + 1) (len_of ((w - 1) % per_word S + 1) S)
      go Two h = record { some = omega arith; within = omega (arith, h.long, h.some); rest = omega (arith, h.long, h.some); whole = omega (arith, h.long, h.some) }
      go Four h = record { some = omega arith; within = omega (arith, h.long, h.some); rest = omega (arith, h.long, h.some); whole = omega (arith, h.long, h.some) }
      go Nine h = record { some = omega arith; within = omega (arith, h.long, h.some); rest = omega (arith, h.long, h.some); whole = omega (arith, h.long, h.some) }

-- what one word more finds
pub record More (w : ℕ) (S : States) (levels : List ℕ) (i k : ℕ) : Type 0 where
  pub bytes : k + 8 ≤ length levels
  pub room : i + per_word S ≤ w
  pub next : Begun w S levels (i + per_word S) (k + 8)

module _ {w : ℕ} {levels : List ℕ} {i k : ℕ} where
  pub more : (S : States) → Begun w S levels i k → i < w → More w S levels i k
  more Two b l = record { bytes = omega (arith, b.rest, b.whole); room = omega (arith, b.rest, b.whole); next = record { some = omega arith; within = omega (arith, b.rest, b.whole); rest = omega (arith, b.rest, b.whole); whole = omega (arith, b.rest, b.whole) } }
  more Four b l = record { bytes = omega (arith, b.rest, b.whole); room = omega (arith, b.rest, b.whole); next = record { some = omega arith; within = omega (arith, b.rest, b.whole); rest = omega (arith, b.rest, b.whole); whole = omega (arith, b.rest, b.whole) } }
  more Nine b l = record { bytes = omega (arith, b.rest, b.whole); room = omega (arith, b.rest, b.whole); next = record { some = omega arith; within = omega (arith, b.rest, b.whole); rest = omega (arith, b.rest, b.whole); whole = omega (arith, b.rest, b.whole) } }

  -- bytes that are left hold levels that are left
  pub left_begun : (S : States) → Begun w S levels i k → k < length levels → i < w
  left_begun Two b l = omega (arith, b.rest)
  left_begun Four b l = omega (arith, b.rest)
  left_begun Nine b l = omega (arith, b.rest)

  pub all_begun : (S : States) → Begun w S levels i k → length levels ≤ k → codes_so_far S levels i k ≡ codes_at w S levels
  all_begun S b l = ap₂ (λ (n : ℕ) (v : List ℕ). digits (2 ^ bits_of S) n (number 256 v)) (go S b) (take_all k levels l)
    where
      go : (S : States) → Begun w S levels i k → i ≡ w
      go Two b = omega (arith, b.rest)
      go Four b = omega (arith, b.rest)
      go Nine b = omega (arith, b.rest)

-- no word, and one word more
pub word_none : (S : States) (i : ℕ) → i + per_word S * 0 ≡ i
word_none S i = rw mul-zero (add-zero i)

pub word_more : (S : States) (i n : ℕ) → i + per_word S * (n + 1) ≡ i + per_word S * n + per_word S
word_more S i n = rw (add-one, mul-suc (per_word S) n) (omega arith)

-- whether a word is left behind k bytes and i words
module _ (levels : List ℕ) (k i : ℕ) (h : k ≤ length levels) where
  rest_long : length (take (length levels - k) (drop k levels)) ≡ length levels - k
  rest_long = length-take-le (length levels - k) (drop k levels) (rw length-drop (omega arith))

  pub word_left : i < length (take (length levels - k) (drop k levels)) / 8 → k + i * 8 < length levels
  word_left l = omega (arith, rest_long)

  pub word_end : length (take (length levels - k) (drop k levels)) / 8 ≤ i → (length levels - (k + i * 8)) % 8 ≡ 0 → length levels ≤ k + i * 8
  word_end l e = omega (arith, rest_long)

-- the words behind k bytes
pub word_is : (levels : List ℕ) (k i : ℕ) {words : List (List ℕ)} → k ≤ length levels
    → let v = take (length levels - k) (drop k levels) in
    words ≡ first_chunks 8 (length v / 8) v → i < length v / 8 → get_or words i [] ≡ part (k + i * 8) 8 levels
unfolding part
word_is levels k i h e l =
    let v = take (length levels - k) (drop k levels) in
    let r : v ≡ drop k levels = take_all (length levels - k) (drop k levels) (rw length-drop (omega arith)) in
    ap (λ (ws : List (List ℕ)). get_or ws i []) e
    ∙ chunk_at 8 (length v / 8) i v [] l
    ∙ ap (λ (u : List ℕ). take 8 (drop (i * 8) u)) r
    ∙ ap (take 8) (drop-drop (i * 8) k levels)

or_true : (b : Bool) → b || true ≡ true
or_true true = refl
or_true false = refl

-- another level among the first is one of all
pub other_begun : {w : ℕ} {S : States} {levels : List ℕ} {i k : ℕ} → Begun w S levels i k → Below 256 levels
    → has_other (codes_so_far S levels i k) ≡ true → has_other (codes_at w S levels) ≡ true
other_begun {w} {S} {levels} {i} {k} h b e =
    ap has_other (codes_split w S levels i k h.rest b)
    ∙ any_append (leb 2) (codes_so_far S levels i k) _
    ∙ ap (λ (t : Bool). t || has_other (digits (2 ^ bits_of S) (per_byte S * length (drop k levels)) (number 256 (drop k levels)))) e

module _ {w : ℕ} {S : States} {levels : List ℕ} {i k : ℕ} (h : More w S levels i k) (below : Below 256 levels) (few : w ≤ 64) where
  codes_more : codes_so_far S levels (i + per_word S) (k + 8) ≡ codes_so_far S levels i k ++ digits (2 ^ bits_of S) (per_word S) (number 256 (part k 8 levels))
  unfolding part
  codes_more =
      let B = 2 ^ bits_of S in
      let N = number 256 (take k levels) in
      let x = number 256 (part k 8 levels) in
      let l : length (part k 8 levels) ≡ 8 = part_length levels k 8 h.bytes in
      let e : number 256 (take (k + 8) levels) ≡ N * B ^ per_word S + x
      = ap (number 256) (part_add levels 0 k 8 ∙ ap (λ (j : ℕ). take k levels ++ part j 8 levels) (zero-add k))
      ∙ number_append 256 (take k levels) (part k 8 levels)
      ∙ ap (λ (p : ℕ). N * p + x) (ap (λ (n : ℕ). 256 ^ n) l ∙ sym (word_base S)) in
      let m : x < B ^ per_word S = rw (word_base S) (rw l at (number_lt 256 (part k 8 levels) (below_part 256 levels below k 8))) in
      ap (digits B (i + per_word S)) e ∙ digits_append B (pow_pos (bits_of S)) i (per_word S) N x m

  pub known_more : {n m x : ℕ} → Known (codes_so_far S levels i k) n → x ≡ number 256 (part k 8 levels) → Known (digits (2 ^ bits_of S) (per_word S) x) m
      → Known (codes_so_far S levels (i + per_word S) (k + 8)) (bit_or (n * 2 ^ per_word S % 2 ^ 64) m)
  known_more {n} {m} {x} a e b =
      let B = 2 ^ bits_of S in
      let xs = codes_so_far S levels i k in
      let ys = digits B (per_word S) x in
      let c : codes_so_far S levels (i + per_word S) (k + 8) ≡ xs ++ ys = rw e codes_more in
      let li : length xs ≡ i = digits_length B i (number 256 (take k levels)) in
      let ly : length ys ≡ per_word S = digits_length B (per_word S) x in
      let small : n < 2 ^ i = rw li at (known_lt a) in
      let low : m < 2 ^ per_word S = rw ly at (known_lt b) in
      record {
        clear = rw c (any_append (leb 2) xs ys ∙ or_both (has_other xs) (has_other ys) a.clear b.clear);
        is =
            ap (λ (y : ℕ). bit_or y m) (shl_exact {a = n} i (per_word S) 64 small (omega (arith, h.room)))
            ∙ or_shifted n (per_word S) m low
            ∙ ap₂ (λ (y z : ℕ). y * 2 ^ per_word S + z) a.is b.is
            ∙ ap (λ (p : ℕ). number 2 xs * 2 ^ p + number 2 ys) (sym ly)
            ∙ sym (number_append 2 xs ys)
            ∙ ap (number 2) (sym c);
      }

  -- another level in a word is one of all
  pub other_more : has_other (digits (2 ^ bits_of S) (per_word S) (number 256 (part k 8 levels))) ≡ true → has_other (codes_at w S levels) ≡ true
  other_more e =
      let xs = codes_so_far S levels i k in
      other_begun h.next below
      (ap has_other codes_more ∙ any_append (leb 2) xs _ ∙ ap (λ (b : Bool). has_other xs || b) e ∙ or_true (has_other xs))
