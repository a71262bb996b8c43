-- A wide string that is packed part by part: two parts that fill bytes, and turns of so many characters.
-- Assumes nothing.
use mathlib.Core.Path.{◌≡◌, refl, sym, ap, ap₂, ◌∙◌}
use mathlib.Core.Bool.{Bool, true, false, ◌&&◌}
use mathlib.Core.List.{List, [], ◌++◌}
use Prim.Native.Nat.{◌/◌, ℕ, zero, suc, ◌+◌, ◌-◌, ◌*◌, ◌%◌, ◌≤◌, ◌<◌}
use native.Mathlib.Nat.{sub-zero, zero-mul, suc-mul, add_comm, mul_comm, mul-le-mul_left, mul-le-mul_right, mod-add-div, mod-lt, add-mul, mul_assoc, mul-lt-mul_of_pos_right, mul-div_left, mul-mod_left, mod-eq_of_lt, add-mod_right}
use native.Mathlib.Omega.{arith}
use borrow.Rule.Slice.PartMut.{put_mid}
use Rattle.std.proofs.lemmas.Nat.{mod-mul-add}
use lib.ListN.{length, get_or, take, drop, length-drop, take-append-drop}
use lib.Seq.{drop-length, drop-drop, length-take-le, take-add, take_all}
use Rattle.std.specs.Simd.{first_chunks}
use Rattle.value.specs.declared.States.{States}
use Rattle.value.specs.declared.States.TheVariants.{Two, Four, Nine}
use Rattle.value.specs.Digits.{digits}
use Rattle.value.specs.Slice.{part, overlay, same}
use Rattle.value.specs.Level.{fold_all, codes_of, len_of}
use Rattle.value.proofs.Tests.{by_le}
use Rattle.value.proofs.Slices.{part_nil, part_length, part_add, overlay_length, overlay_nil, overlay_overlay}
use Rattle.wavemem.specs.Packed.{packed_with, packed_from, Codes, Fills, WholeBytes}
use Rattle.wavemem.proofs.Compare.{same_append}
use Rattle.wavemem.proofs.Packing.{per_byte, per_pos, len_none, len_full, drop_codes, take_codes, packed_from_length, packed_parts}

-- ---- a string that is packed part by part

-- bytes that w levels fill, and of them those that n levels fill
split : (s : States) (w n : ℕ) → len_of w s * per_byte s ≡ w → n ≤ w → len_of n s * per_byte s ≡ n
    → (len_of n s + len_of (w - n) s ≡ len_of w s) × (len_of (w - n) s * per_byte s ≡ w - n)
split Two w n f h g = omega arith
split Four w n f h g = omega arith
split Nine w n f h g = omega arith

-- the characters before a place are packed, and their bytes end before another; the others fill turns of n characters
pub record Passed (s : States) (w at n from to : ℕ) : Type 0 where
  pub within : from ≤ w
  pub turns : (w - from) % n ≡ 0
  pub full : len_of from s * per_byte s ≡ from
  pub place : to ≡ at + len_of from s

-- whether bytes from a place on are those of a string
abbrev pub agree : States → List ℕ → ℕ → List ℕ → Bool
agree s bytes at v = same (part at (len_of (length v) s) bytes) (packed_from s 0 v)

-- a string that fills whole bytes, in two that do
module _ {s : States} {v : List ℕ} {room at n from to : ℕ} (ok : WholeBytes s v room at) (p : Passed s (length v) at n from to) where
  pub front_length : length (take from v) ≡ from
  front_length = length-take-le from v p.within

  pub front_packed : length (packed_from s 0 (take from v)) ≡ len_of from s
  front_packed = packed_from_length s 0 (take from v) ∙ rw front_length

  sizes : (len_of from s + len_of (length v - from) s ≡ len_of (length v) s) × (len_of (length v - from) s * per_byte s ≡ length v - from)
  sizes = split s (length v) from ok.full p.within p.full

  pub front_whole : WholeBytes s (take from v) room at
  front_whole =
      record {
        codes = take_codes from v ok.codes;
        short = rw front_length (omega (arith, ok.short, p.within));
        fits = rw front_length (omega (arith, ok.fits, sizes.0));
        full = rw front_length p.full;
      }

  pub back_whole : WholeBytes s (drop from v) room to
  back_whole =
      record {
        codes = drop_codes from v ok.codes;
        short = rw length-drop (omega (arith, ok.short));
        fits = rw length-drop (omega (arith, ok.fits, p.place, sizes.0));
        full = rw length-drop sizes.1;
      }

  -- the part of the string that is lent
  pub back_is : take (length v - from) (drop from v) ≡ drop from v
  back_is = take_all (length v - from) (drop from v) (rw (length-drop from v) (omega arith))

  pub back_lent : WholeBytes s (take (length v - from) (drop from v)) room to × (length (take (length v - from) (drop from v)) % n ≡ 0)
  back_lent = rw back_is (back_whole, rw length-drop p.turns)

  pub both_sizes : to + len_of (length (drop from v)) s ≡ at + len_of (length v) s
  both_sizes = rw length-drop (omega (arith, p.place, sizes.0))

  pub both_packed : packed_from s 0 (take from v) ++ packed_from s 0 (drop from v) ≡ packed_from s 0 v
  both_packed = sym (packed_parts s 0 (take from v) (drop from v) back_whole.codes.below back_whole.full (λ h. absurd (omega arith))) ∙ ap (packed_from s 0) (take-append-drop from v)

  -- bytes stored behind those of the front
  pub behind_stored : (d new : List ℕ) {out : List ℕ} → length d ≡ room → out ≡ overlay d at (packed_from s 0 (take from v))
      → overlay out to new ≡ overlay d at (packed_from s 0 (take from v) ++ new)
  behind_stored d new e so_far =
      ap (λ (o : List ℕ). overlay o to new) so_far
      ∙ overlay_overlay d at (packed_from s 0 (take from v)) new to (rw front_packed (sym p.place)) (omega (arith, back_whole.fits))

  -- stores do not alter the length
  pub front_stored : (d : List ℕ) {out : List ℕ} → length d ≡ room → out ≡ overlay d at (packed_from s 0 (take from v)) → length out ≡ length d
  front_stored d e so_far = ap length so_far ∙ overlay_length d _ at (rw front_packed (omega (arith, p.place, back_whole.fits)))

  pub both_compared : (bytes : List ℕ) → length bytes ≡ room → agree s bytes at v ≡ agree s bytes at (take from v) && agree s bytes to (drop from v)
  both_compared bytes e =
      let a = len_of from s in
      let b = len_of (length (drop from v)) s in
      let m : part at (len_of (length v) s) bytes ≡ part at a bytes ++ part to b bytes =
      ap (λ (k : ℕ). part at k bytes) (omega (arith, both_sizes, p.place)) ∙ part_add bytes at a b ∙ ap (λ (k : ℕ). part at a bytes ++ part k b bytes) (sym p.place) in
      ap₂ same m (sym both_packed)
      ∙ same_append (part at a bytes) (part to b bytes) (packed_from s 0 (take from v)) (packed_from s 0 (drop from v))
      (part_length bytes at a (omega (arith, p.place, back_whole.fits)) ∙ sym front_packed)
      ∙ ap (λ (k : ℕ). same (part at (len_of k s) bytes) (packed_from s 0 (take from v)) && same (part to b bytes) (packed_from s 0 (drop from v))) (sym front_length)

-- ---- turns of so many characters

passed_start : (s : States) {w at n to : ℕ} → w % n ≡ 0 → to ≡ at → Passed s w at n 0 to
passed_start s e f = record { within = omega arith; turns = rw sub-zero e; full = rw (len_none s) (zero-mul (per_byte s)); place = rw (len_none s) (omega arith) }

pub packed_none : (s : States) → packed_from s 0 [] ≡ []
unfolding packed_with digits
packed_none Two = refl
packed_none Four = refl
packed_none Nine = refl

len_add : (s : States) (a n : ℕ) → len_of a s * per_byte s ≡ a → len_of n s * per_byte s ≡ n
    → (len_of (a + n) s ≡ len_of a s + len_of n s) × (len_of (a + n) s * per_byte s ≡ a + n)
len_add Two a n f g = omega arith
len_add Four a n f g = omega arith
len_add Nine a n f g = omega arith

module _ {s : States} {v : List ℕ} {room at : ℕ} (ok : WholeBytes s v room at) {n from to : ℕ} (p : Passed s (length v) at n from to)
    (full : len_of n s * per_byte s ≡ n) (more : from < length v) where
  pub turn_within : from + n ≤ length v
  turn_within =
      by_le n (length v - from) (λ h. omega arith)
      (λ h.
      let e : (length v - from) % n ≡ length v - from = mod-eq_of_lt h in
      absurd (omega (arith, p.turns)))

  pub turn_fits : to + len_of n s ≤ room
  turn_fits =
      let a = len_add s from n p.full full in
      omega (arith, p.place, ok.fits, (split s (length v) (from + n) ok.full turn_within a.1).0)

  pub turn_passed : {next : ℕ} → next ≡ to + len_of n s → Passed s (length v) at n (from + n) next
  turn_passed q =
      let a = len_add s from n p.full full in
      let e : length v - from ≡ length v - (from + n) + n = omega (arith, turn_within) in
      record {
        within = turn_within;
        turns = sym (add-mod_right (length v - (from + n)) n) ∙ ap (λ (k : ℕ). k % n) (sym e) ∙ p.turns;
        full = a.1;
        place = omega (arith, p.place, a.0);
      }

  pub turn_size : length (packed_from s 0 (part from n v)) ≡ len_of n s
  turn_size = packed_from_length s 0 (part from n v) ∙ ap (λ (k : ℕ). len_of k s) (part_length v from n turn_within)

  pub turn_codes : Codes s (codes_of (fold_all (part from n v)))
  unfolding part
  turn_codes = take_codes n (drop from v) (drop_codes from v ok.codes)

  pub turn_packed : packed_from s 0 (take from v) ++ packed_from s 0 (part from n v) ≡ packed_from s 0 (take (from + n) v)
  unfolding part
  turn_packed =
      let l : length (part from n v) ≡ n = part_length v from n turn_within in
      sym (packed_parts s 0 (take from v) (part from n v) turn_codes.below (rw l full) (λ h. absurd (omega arith))) ∙ ap (packed_from s 0) (sym (take-add from n v))

  pub turn_stored : (d : List ℕ) {out : List ℕ} → length d ≡ room → out ≡ overlay d at (packed_from s 0 (take from v))
      → overlay out to (packed_from s 0 (part from n v)) ≡ overlay d at (packed_from s 0 (take (from + n) v))
  turn_stored d e so_far = behind_stored ok p d (packed_from s 0 (part from n v)) e so_far ∙ ap (overlay d at) turn_packed

  -- what is left, as a turn of it and the rest
  turn_left : Passed s (length (drop from v)) to n n (to + len_of n s)
  turn_left =
      let e : length v - from - n ≡ length v - (from + n) = omega arith in
      record { within = rw length-drop (omega (arith, turn_within)); turns = rw (length-drop, e) (turn_passed refl).turns; full = full; place = refl }

  pub turn_compared : (bytes : List ℕ) → length bytes ≡ room
      → agree s bytes to (drop from v) ≡ same (part to (len_of n s) bytes) (packed_from s 0 (part from n v)) && agree s bytes (to + len_of n s) (drop (from + n) v)
  unfolding part
  turn_compared bytes e =
      both_compared (back_whole ok p) turn_left bytes e
      ∙ ap₂ (λ (k : ℕ) (u : List ℕ). same (part to (len_of k s) bytes) (packed_from s 0 (take n (drop from v))) && agree s bytes (to + len_of n s) u)
      (front_length (back_whole ok p) turn_left) (drop-drop n from v)

-- ---- a walk by turns that stores

-- the bytes of the characters before a place are stored
pub record Stored (s : States) (v d : List ℕ) (at n : ℕ) (out : List ℕ) (from to : ℕ) : Type 0 where
  pub passed : Passed s (length v) at n from to
  pub bytes : out ≡ overlay d at (packed_from s 0 (take from v))

pub stored_start : (s : States) {v d : List ℕ} {at n : ℕ} → length v % n ≡ 0 → Stored s v d at n d (0 * n) at
stored_start s {d = d} {at} e = rw zero-mul (record { passed = passed_start s e refl; bytes = rw packed_none (sym (overlay_nil d at)) })

module _ {s : States} {v d : List ℕ} {at n : ℕ} (ok : WholeBytes s v (length d) at) {out : List ℕ} {from to : ℕ} (h : Stored s v d at n out from to) where
  pub stored_long : length out ≡ length d
  stored_long = front_stored ok h.passed d refl h.bytes

  pub stored_on : len_of n s * per_byte s ≡ n → from < length v → {next : ℕ} {new : List ℕ} → next ≡ to + len_of n s
      → new ≡ overlay out to (packed_from s 0 (part from n v)) → Stored s v d at n new (from + n) next
  stored_on full more q e =
      record { passed = turn_passed ok h.passed full more q; bytes = e ∙ turn_stored ok h.passed full more d refl h.bytes }

  pub stored_end : length v ≤ from → (to ≡ at + len_of (length v) s) × (out ≡ overlay d at (packed_from s 0 v))
  stored_end left =
      let e : from ≡ length v = omega (arith, h.passed.within) in
      (rw e at h.passed.place, h.bytes ∙ ap (λ (l : List ℕ). overlay d at (packed_from s 0 l)) (take_all from v left))

-- ---- a walk by turns that compares

-- the bytes of the characters before a place are equal: those of the others decide
pub record Agrees (s : States) (v bytes : List ℕ) (at n from to : ℕ) : Type 0 where
  pub passed : Passed s (length v) at n from to
  pub left : agree s bytes to (drop from v) ≡ agree s bytes at v

pub agrees_end : {s : States} {v bytes : List ℕ} {at n from to : ℕ} → Agrees s v bytes at n from to → length v ≤ from → true ≡ agree s bytes at v
unfolding same
agrees_end {s} {v} {bytes} {from = from} h k =
    let e : from ≡ length v = omega (arith, h.passed.within) in
    sym (rw (e, drop-length v, len_none s, packed_none s, part_nil)) ∙ h.left

module _ {s : States} {v bytes : List ℕ} {at n : ℕ} (ok : WholeBytes s v (length bytes) at) {from to : ℕ} (h : Agrees s v bytes at n from to)
    (full : len_of n s * per_byte s ≡ n) (more : from < length v) where
  -- the next turn's bytes
  abbrev next_same : Bool
  next_same = same (part to (len_of n s) bytes) (packed_from s 0 (part from n v))

  pub agrees_on : {next : ℕ} → next ≡ to + len_of n s → next_same ≡ true → Agrees s v bytes at n (from + n) next
  agrees_on q t =
      record { passed = turn_passed ok h.passed full more q; left = rw q (sym (sym h.left ∙ turn_compared ok h.passed full more bytes refl ∙ rw t)) }

  pub agrees_not : next_same ≡ false → false ≡ agree s bytes at v
  agrees_not t = sym (sym h.left ∙ turn_compared ok h.passed full more bytes refl ∙ rw t)

-- ---- the turns of a walk, one after the other

-- a part that is written behind a borrow
pub put_is : (l new : List ℕ) (at n : ℕ) → length new ≡ n → put_mid at (at + n - at) l new ≡ overlay l at new
unfolding overlay
put_is l new at n e =
    ap (λ (r : List ℕ). take at l ++ (new ++ r)) (drop-drop (at + n - at) at l ∙ ap (λ (k : ℕ). drop k l) (omega (arith, e)))

pub chunk_at : {A : Type 0} (n k i : ℕ) (l : List A) (d : List A) → i < k → get_or (first_chunks n k l) i d ≡ part (i * n) n l
unfolding part
chunk_at n zero i l d h = absurd (omega arith)
chunk_at n (suc k) zero l d h = rw zero-mul refl
chunk_at n (suc k) (suc i) l d h =
    chunk_at n k i (drop n l) d (omega arith) ∙ ap (take n) (drop-drop (i * n) n l) ∙ ap (λ (j : ℕ). take n (drop j l)) (add_comm n (i * n) ∙ sym (suc-mul i n))

module _ {s : States} {n m : ℕ} (f : Fills s n m) where
  pub fills_len : len_of n s ≡ m
  fills_len = ap (λ (k : ℕ). len_of k s) (sym f.full) ∙ len_full m s

  pub fills_full : len_of n s * per_byte s ≡ n
  fills_full = rw fills_len f.full

  pub fills_few : m ≤ 4096
  fills_few = omega (arith, f.few, f.full, mul-le-mul_left m (per_pos s))

  -- turns of w characters
  pub turn_more : {w i : ℕ} → i < w / n → i * n < w
  turn_more {w} {i} h = omega (arith, mul-le-mul_right n h, suc-mul i n, mod-add-div w n, mul_comm n (w / n), f.some)

  pub turn_last : {w i : ℕ} → w % n ≡ 0 → w / n ≤ i → w ≤ i * n
  turn_last {w} {i} e h = omega (arith, mul-le-mul_right n h, mod-add-div w n, mul_comm n (w / n))

  -- the turns behind as many characters in front as they leave
  pub turn_lead : {v : List ℕ} {room at to : ℕ} → WholeBytes s v room at → to ≡ at + len_of (length v % n) s → Passed s (length v) at n (length v % n) to
  turn_lead {v} ok e =
      let w = length v in
      let k = per_byte s in
      let big : ℕ = len_of w s in
      let r : ℕ = big % m in
      let some : 0 < m = by_le 1 m (λ h. h) (λ h. let z : m ≡ 0 = omega arith in absurd (omega (arith, f.some, f.full, ap (λ (x : ℕ). x * k) z, zero-mul k))) in
      let parts : big ≡ big / m * m + r = omega (arith, mod-add-div big m, mul_comm m (big / m)) in
      let whole : w ≡ big / m * n + r * k =
      sym ok.full ∙ ap (λ (x : ℕ). x * k) parts ∙ add-mul (big / m * m) r k ∙ ap (λ (x : ℕ). x + r * k) (mul_assoc (big / m) m k ∙ ap (λ (x : ℕ). big / m * x) f.full) in
      let below : r * k < m * k = mul-lt-mul_of_pos_right (mod-lt big some) (per_pos s) in
      let left : w % n ≡ r * k = ap (λ (x : ℕ). x % n) whole ∙ mod-mul-add (big / m) n (r * k) (rw f.full at below) in
      record {
        within = omega (arith, mod-add-div w n);
        turns = let z : w - w % n ≡ w / n * n = omega (arith, mod-add-div w n, mul_comm n (w / n)) in rw z (mul-mod_left (w / n) n);
        full = rw left (ap (λ (x : ℕ). x * k) (len_full r s));
        place = e;
      }

-- whole bytes are turns of one byte
pub turn_one : {s : States} {n : ℕ} → Fills s n 1 → {v : List ℕ} {room at : ℕ} → WholeBytes s v room at → length v % n ≡ 0
turn_one {s} f {v} ok =
    let k = per_byte s in
    let one : 1 * k ≡ k = omega arith in
    ap₂ (λ (a b : ℕ). a % b) (sym ok.full) (sym f.full ∙ one) ∙ mul-mod_left (len_of (length v) s) k

-- how many bytes they are
pub turn_place : {s : States} {n : ℕ} → Fills s n 1 → {from : ℕ} → len_of from s * per_byte s ≡ from → from / n ≡ len_of from s
turn_place {s} f {from} e =
    let k = per_byte s in
    let one : 1 * k ≡ k = omega arith in
    ap₂ (λ (a b : ℕ). a / b) (sym e) (sym f.full ∙ one) ∙ mul-div_left (len_of from s) (per_pos s)
