-- The laws of an entry: its size and bytes, what it says of its own set and levels, and that widening writes it under the larger set.
-- Assumes nothing.
use mathlib.Core.Path.{◌≡◌, refl, sym, ap, ap₂, ◌∙◌}
use Prim.Native.Nat.{ℕ, suc, ◌+◌, ◌-◌, ◌*◌, ◌^◌, ◌/◌, ◌%◌, ◌≤◌, ◌<◌}
use native.Mathlib.Nat.{zero-mul, zero-add, add-zero, add_comm, mul_assoc, mul_comm, mul-le-mul_left, lt_of_lt_of_le, div-eq_of_lt, div-lt_iff_lt-mul, pow-suc, add-mul-div_right, mod-eq_of_lt, pow-le-pow_right}
use native.Mathlib.Omega.{arith}
use mathlib.Core.Bool.{Bool, true, false}
use mathlib.Core.List.{List, ◌∷◌, ◌++◌}
use lib.Arith.{digits_lt, digits_div, digits_mod}
use lib.Pow.{pow-add, pow_mono}
use lib.ListN.{length, drop, get_or, replicate}
use Rattle.value.specs.declared.States.{States}
use Rattle.value.specs.declared.States.TheVariants.{Two, Four, Nine}
use Rattle.value.specs.Digits.{number, digits, Below}
use Rattle.value.specs.Level.{mark_of, bits_of, len_of}
use Rattle.value.proofs.Tests.{by_eq, by_le}
use Rattle.value.proofs.Levels.{mark_inj, mark_small, bits_up, len_room}
use Rattle.value.proofs.Digits.{pow_pow, number_lt, number_inj, digits_length, base_pos, digits_below, number_digits, digits_inj, digits_high, digits_zeros}
use Rattle.layout.specs.Entry.{has_meta, entry_size, entry_of, mark_byte, unmarked, level_bytes, widen_entry}
use Rattle.layout.proofs.Sizes.{Marked, size_by, size_pos, len_pos, len_le, mark_bits_lem, mark_room, widen_same, widen_moved}
use Rattle.layout.proofs.EntryLaws.{Coded, EntryLaws}

pos256 : (n : ℕ) → 0 < 256 ^ n
pos256 n = base_pos 256 (omega arith) n

bytes_pow : (n : ℕ) → 256 ^ n ≡ 2 ^ (8 * n)
bytes_pow n = pow_pow 2 8 n ∙ rw (mul_comm n 8)

-- the weight of the lower of a first byte's two top bits, which n bytes follow
mark_weight : (n : ℕ) → 2 ^ (8 * suc n - 2) ≡ 64 * 256 ^ n
mark_weight n =
    let e : 8 * suc n - 2 ≡ 6 + 8 * n = omega arith in
    rw (e, pow-add 2 6 (8 * n), ← bytes_pow n)

-- ---- a mark over a number that leaves the two top bits free

module _ (n m v : ℕ) (small : m ≤ 2) (free : v < 64 * 256 ^ n) where
  head_free : v / 256 ^ n < 64
  head_free = (div-lt_iff_lt-mul (pos256 n)).1 free

  pub marked_digits : digits 256 (suc n) (m * (64 * 256 ^ n) + v) ≡ (m * 64 + v / 256 ^ n) ∷ digits 256 n v
  unfolding digits
  marked_digits =
      let e : m * (64 * 256 ^ n) + v ≡ v + m * 64 * 256 ^ n
      = add_comm (m * (64 * 256 ^ n)) v ∙ rw (← mul_assoc m 64 (256 ^ n)) in
      let h : v / 256 ^ n < 64 = head_free in
      let f : v / 256 ^ n + m * 64 < 256 = omega arith in
      rw (e, add-mul-div_right v (m * 64) (pos256 n), digits_high 256 (omega arith) n v (m * 64), mod-eq_of_lt f, add_comm (v / 256 ^ n) (m * 64))

  marked_lt : m * (64 * 256 ^ n) + v < 256 ^ suc n
  marked_lt = omega (arith, digits_lt {q = m} {m = 3} {r = v} {c = 64 * 256 ^ n} (omega arith) free, pow-suc 256 n)

marked_inj : (n m k u v : ℕ) → m ≤ 2 → k ≤ 2 → u < 64 * 256 ^ n → v < 64 * 256 ^ n
    → digits 256 (suc n) (m * (64 * 256 ^ n) + u) ≡ digits 256 (suc n) (k * (64 * 256 ^ n) + v) → (m ≡ k) × (u ≡ v)
marked_inj n m k u v hm hk hu hv e =
    let B : ℕ = 64 * 256 ^ n in
    let q : m * B + u ≡ k * B + v = digits_inj 256 (omega arith) (suc n) (marked_lt n m u hm hu) (marked_lt n k v hk hv) e in (
      sym (digits_div m hu) ∙ ap (λ (t : ℕ). t / B) q ∙ digits_div k hv,
      sym (digits_mod m hu) ∙ ap (λ (t : ℕ). t % B) q ∙ digits_mod k hv,
    )

-- ---- the levels of an entry as a number

-- of any number of bits
pub value_lt : {w : ℕ} {own : States} {cs : List ℕ} (M : States) → Coded w own cs → mark_of own ≤ mark_of M
    → (k : ℕ) → w * bits_of M ≤ k → number (2 ^ bits_of own) cs < 2 ^ k
value_lt {w} {own} {cs} M c h k r =
    let b : ℕ = bits_of own in
    let f : length cs * b ≤ k = rw c.long (omega (arith, mul-le-mul_left w (bits_up own M h))) in
    lt_of_lt_of_le (rw (pow_pow 2 b (length cs)) at (number_lt (2 ^ b) cs c.below)) (pow_mono f)

value_inj : {w : ℕ} {m k : States} {cs ds : List ℕ} → Coded w m cs → Coded w k ds → m ≡ k
    → number (2 ^ bits_of m) cs ≡ number (2 ^ bits_of k) ds → cs ≡ ds
value_inj {m = m} {k} {cs} {ds} c d e q =
    number_inj (2 ^ bits_of k) cs ds (c.long ∙ sym d.long) (rw e at c.below) d.below
    (ap (λ (s : States). number (2 ^ bits_of s) cs) (sym e) ∙ q)

module _ (w : ℕ) (pos : 0 < w) where
  pub sized : (M own : States) (cs : List ℕ) → length (entry_of w M own cs) ≡ entry_size w M
  unfolding entry_of
  sized M own cs = digits_length 256 (entry_size w M) _

  pub bytes : (M own : States) (cs : List ℕ) → Below 256 (entry_of w M own cs)
  unfolding entry_of
  bytes M own cs = digits_below 256 (omega arith) (entry_size w M) _

  -- an entry is its mark over its levels
  entry_at_lem : (M own : States) (cs : List ℕ) (n : ℕ) → entry_size w M ≡ suc n
      → entry_of w M own cs ≡ digits 256 (suc n) (mark_of own * (64 * 256 ^ n) + number (2 ^ bits_of own) cs)
  unfolding entry_of
  entry_at_lem M own cs n e = rw (e, mark_weight n)

  entry_plain : (M own : States) (cs : List ℕ) → mark_of own ≡ 0 → entry_of w M own cs ≡ digits 256 (entry_size w M) (number (2 ^ bits_of own) cs)
  unfolding entry_of
  entry_plain M own cs e = rw (e, zero-mul, zero-add)

  value_bytes : {own : States} {cs : List ℕ} (M : States) → Coded w own cs → mark_of own ≤ mark_of M → number (2 ^ bits_of own) cs < 256 ^ len_of w M
  value_bytes M c h = rw (bytes_pow (len_of w M)) (value_lt M c h (8 * len_of w M) (len_room w M))

  value_free : {own : States} {cs : List ℕ} (M : States) → Marked M → (n : ℕ) → entry_size w M ≡ suc n → Coded w own cs → mark_of own ≤ mark_of M
      → number (2 ^ bits_of own) cs < 64 * 256 ^ n
  value_free M m n e c h = rw (← mark_weight n) (value_lt M c h (8 * suc n - 2) (omega (arith, mark_bits_lem w pos M m)))

  -- the number of an entry
  entry_lt : {own : States} {cs : List ℕ} (M : States) → Coded w own cs → mark_of own ≤ mark_of M
      → mark_of own * 2 ^ (8 * entry_size w M - 2) + number (2 ^ bits_of own) cs < 256 ^ entry_size w M
  entry_lt {own} {cs} M c h =
      let N = number (2 ^ bits_of own) cs in
      let n = entry_size w M - 1 in
      let s : entry_size w M ≡ suc n = omega (arith, size_pos w pos M) in
      by_le 1 (mark_of own)
      (λ m. rw (s, mark_weight n) (marked_lt n (mark_of own) N (mark_small own) (value_free M (omega arith) n s c h)))
      (λ m.
      let z : mark_of own ≡ 0 = omega arith in
      rw (z, zero-mul, zero-add) (lt_of_lt_of_le (value_bytes M c h) (pow-le-pow_right (omega arith) (len_le w M))))

  pub entry_number_lem : {own : States} {cs : List ℕ} (M : States) → Coded w own cs → mark_of own ≤ mark_of M
      → number 256 (entry_of w M own cs) ≡ mark_of own * 2 ^ (8 * entry_size w M - 2) + number (2 ^ bits_of own) cs
  unfolding entry_of
  entry_number_lem M c h = number_digits 256 (omega arith) (entry_size w M) _ ∙ mod-eq_of_lt (entry_lt M c h)

  -- ---- an entry says its own set and its levels

  distinct_marked : {m k : States} {cs ds : List ℕ} (M : States) → Marked M → Coded w m cs → Coded w k ds → mark_of m ≤ mark_of M → mark_of k ≤ mark_of M
      → entry_of w M m cs ≡ entry_of w M k ds → (m ≡ k) × (cs ≡ ds)
  distinct_marked {m} {k} {cs} {ds} M o c d hm hk e =
      let n : ℕ = entry_size w M - 1 in
      let s : entry_size w M ≡ suc n = omega (arith, size_pos w pos M) in
      let p = marked_inj n (mark_of m) (mark_of k) (number (2 ^ bits_of m) cs) (number (2 ^ bits_of k) ds) (mark_small m) (mark_small k)
      (value_free M o n s c hm) (value_free M o n s d hk)
      (sym (entry_at_lem M m cs n s) ∙ e ∙ entry_at_lem M k ds n s) in
      let q = mark_inj m k p.0 in
      (q, value_inj c d q p.1)

  pub distinct : (M m k : States) (cs ds : List ℕ) → Coded w m cs → Coded w k ds → mark_of m ≤ mark_of M → mark_of k ≤ mark_of M
      → entry_of w M m cs ≡ entry_of w M k ds → (m ≡ k) × (cs ≡ ds)
  distinct Two m k cs ds c d hm hk e =
      let q = mark_inj m k (omega arith) in
      let s : entry_size w Two ≡ len_of w Two = size_by w Two false refl in (
        q,
        value_inj c d q
            (digits_inj 256 (omega arith) (entry_size w Two) (rw s (value_bytes Two c hm)) (rw s (value_bytes Two d hk))
            (sym (entry_plain Two m cs (omega arith)) ∙ e ∙ entry_plain Two k ds (omega arith))),
      )
  distinct Four m k cs ds c d hm hk e = distinct_marked Four (omega arith) c d hm hk e
  distinct Nine m k cs ds c d hm hk e = distinct_marked Nine (omega arith) c d hm hk e

  -- ---- widening

  -- an entry with room before its levels: the mark, zeros, the levels
  wide : (M own : States) (cs : List ℕ) (k n : ℕ) → entry_size w M ≡ suc (k + n) → number (2 ^ bits_of own) cs < 256 ^ n
      → entry_of w M own cs ≡ mark_of own * 64 ∷ (replicate k 0 ++ digits 256 n (number (2 ^ bits_of own) cs))
  wide M own cs k n e h =
      let y : ℕ = number (2 ^ bits_of own) cs in
      let g : y < 256 ^ (k + n) = lt_of_lt_of_le h (pow-le-pow_right (omega arith) (omega arith)) in
      entry_at_lem M own cs (k + n) e
      ∙ marked_digits (k + n) (mark_of own) y (mark_small own) (omega arith)
      ∙ rw (div-eq_of_lt g, add-zero, digits_zeros 256 (omega arith) k n y h)

  -- what widening reads off an entry
  pub record Parts (from own : States) (cs : List ℕ) : Type 0 where
    pub mark : mark_byte from (entry_of w from own cs) ≡ mark_of own * 64
    pub levels : level_bytes w from (entry_of w from own cs) ≡ digits 256 (len_of w from) (number (2 ^ bits_of own) cs)

  marked_byte : (from : States) → Marked from → (v : List ℕ) → mark_byte from v ≡ get_or v 0 0 / 64 * 64
  unfolding mark_byte
  marked_byte Two m v = absurd (omega arith)
  marked_byte Four m v = refl
  marked_byte Nine m v = refl

  marked_rest : (from : States) → Marked from → (v : List ℕ) → unmarked from v ≡ get_or v 0 0 % 64 ∷ drop 1 v
  unfolding unmarked
  marked_rest Two m v = absurd (omega arith)
  marked_rest Four m v = refl
  marked_rest Nine m v = refl

  parts_marked : {own : States} {cs : List ℕ} (from : States) → Marked from → Coded w own cs → mark_of own ≤ mark_of from → Parts from own cs
  unfolding level_bytes digits
  parts_marked {own} {cs} from o c h = go (has_meta w from) refl
    where
      go : (x : Bool) → has_meta w from ≡ x → Parts from own cs
      go true e =
          let v : ℕ = number (2 ^ bits_of own) cs in
          let l : ℕ = len_of w from in
          let q : entry_of w from own cs ≡ mark_of own * 64 ∷ digits 256 l v
          = wide from own cs 0 l (size_by w from true e ∙ omega arith) (value_bytes from c h) in
          record {
            mark = marked_byte from o (entry_of w from own cs) ∙ rw q (omega arith);
            levels = rw (e, q);
          }
      go false e =
          let v : ℕ = number (2 ^ bits_of own) cs in
          let n : ℕ = len_of w from - 1 in
          let l : len_of w from ≡ suc n = omega (arith, len_pos w pos from) in
          let s : entry_size w from ≡ suc n = size_by w from false e ∙ l in
          let f : v < 64 * 256 ^ n = value_free from o n s c h in
          let g : v / 256 ^ n < 64 = head_free n (mark_of own) v (mark_small own) f in
          let q : entry_of w from own cs ≡ (mark_of own * 64 + v / 256 ^ n) ∷ digits 256 n v
          = entry_at_lem from own cs n s ∙ marked_digits n (mark_of own) v (mark_small own) f in
          let z : (mark_of own * 64 + v / 256 ^ n) % 64 ≡ v / 256 ^ n % 256 = omega arith in
          record {
            mark = marked_byte from o (entry_of w from own cs) ∙ rw q (omega arith);
            levels = rw (e, marked_rest from o (entry_of w from own cs), q, z) (ap (λ (k : ℕ). digits 256 k v) (sym l));
          }

  parts : {own : States} {cs : List ℕ} (from : States) → Coded w own cs → mark_of own ≤ mark_of from → Parts from own cs
  unfolding mark_byte level_bytes unmarked
  parts {own} {cs} Two c h =
      let z : mark_of own ≡ 0 = omega arith in
      record { mark = rw z; levels = entry_plain Two own cs z ∙ rw (size_by w Two false refl) }
  parts Four c h = parts_marked Four (omega arith) c h
  parts Nine c h = parts_marked Nine (omega arith) c h

  pub widened : (from to own : States) (cs : List ℕ) → Coded w own cs → mark_of own ≤ mark_of from → mark_of from ≤ mark_of to
      → widen_entry w from to (entry_of w from own cs) ≡ entry_of w to own cs
  unfolding entry_of
  widened from to own cs c h k =
      by_eq (entry_size w from) (entry_size w to) (λ e. widen_same w from to (entry_of w from own cs) e ∙ rw e)
      (λ n.
      let p = parts from c h in
      let z : ℕ = entry_size w to - 1 - len_of w from in
      widen_moved w from to (entry_of w from own cs) n
      ∙ ap₂ (λ (b : ℕ) (l : List ℕ). b ∷ (replicate z 0 ++ l)) p.mark p.levels
      ∙ sym (wide to own cs z (len_of w from) (omega (arith, mark_room w from to k n)) (value_bytes from c h)))

  -- so widening twice is widening once
  pub widened_twice : (from mid to own : States) (cs : List ℕ) → Coded w own cs
      → mark_of own ≤ mark_of from → mark_of from ≤ mark_of mid → mark_of mid ≤ mark_of to
      → widen_entry w mid to (widen_entry w from mid (entry_of w from own cs)) ≡ widen_entry w from to (entry_of w from own cs)
  widened_twice from mid to own cs c h j k =
      ap (widen_entry w mid to) (widened from mid own cs c h j)
      ∙ widened mid to own cs c (omega arith) k
      ∙ sym (widened from to own cs c h (omega arith))

  pub laws : EntryLaws w
  laws = record { sized = sized; bytes = bytes; distinct = distinct; widened = widened }
