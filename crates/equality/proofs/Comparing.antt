-- Comparing entries, from what the steps of a comparison say.
-- Assumes nothing.
use mathlib.Core.Path.{◌≡◌, refl, sym, ap, ap₂, ◌∙◌, subst}
use mathlib.Core.Bool.{Bool, true, false, cond, ◌&&◌}
use mathlib.Core.List.{List, [], ◌∷◌, ◌++◌, reverse}
use Prim.Native.Nat.{ℕ, min, ◌+◌, ◌≤◌, ◌<◌}
use native.Mathlib.Numerals.{add-one}
use native.Mathlib.Omega.{arith}
use lib.Dec.{T, eqb, eqb→eq}
use lib.Bits.{bit_or, bit_xor, or_add_and, xor_add_and, xor_self, and_le_l, and_le_r}
use borrow.Author.Tests.{eq-eqb, ne_eqb}
use lib.ListN.{length, get_or, take}
use lib.Seq.{take-suc, take-take, take_all, get_or-take}
use Rattle.value.specs.declared.States.{States}
use Rattle.std.specs.Int.{w64, from_le_bytes}
use Rattle.std.specs.Float.Ieee.{eq, of_bits}
use Rattle.std.specs.Float.{binary64}
use Rattle.value.specs.Digits.{number}
use Rattle.value.specs.Slice.{any, same}
use Rattle.value.specs.Level.{text_of}
use Rattle.value.proofs.Levels.{text_inj, all_below_lem}
use Rattle.value.proofs.Slices.{same_sound, same_refl, same_by}
use Rattle.value.proofs.Tests.{to_t, from_t, both_ways, by_eq, by_le}
use Rattle.fst.specs.declared.Encoding.{Encoding}
use Rattle.fst.specs.declared.Encoding.TheVariants.{Event, Real, BitVector}
use Rattle.fst.specs.declared.Description.{Description}
use Rattle.fst.specs.Refusal.{Reply, refused, given, ◌⇐◌, tried}
use Rattle.fst.specs.Record.{Lent, is_bad}
use Rattle.fst.proofs.Records.{Standing, standing}
use Rattle.signal.specs.Decode.{Indexed, entry_at, levels_in, has_bad_mark, has_bad_code, codes_at}
use Rattle.signal.specs.Parts.{Unpacked, unpacked}
use Rattle.signal.specs.Parts as levels
use Rattle.signal.proofs.Decoding.{codes_length}
use Rattle.signal.proofs.Reading.{coded_given, codes_are}
use Rattle.signal.proofs.Entries.{HasIndexed, entry_number, rest, rest_more, rest_end}
use Rattle.equality.specs.Compare.{same_real, same_value, agree, walked, compare_records}
use Rattle.equality.specs.Pairs.{Held, codes, held, coded, same_held, pair_of}

-- ---- a real's bits

pub le_number : (v : List ℕ) → length v ≡ 8 → from_le_bytes w64 v ≡ number 256 (reverse v)
unfolding number
le_number (a ∷ b ∷ c ∷ d ∷ e ∷ f ∷ g ∷ h ∷ []) l = omega arith
le_number v l = absurd (omega arith)

-- ---- a loop over two lists

module _ (xs ys : List ℕ) where
  pub alike_at : (i : ℕ) → same xs ys ≡ true → get_or xs i 0 ≡ get_or ys i 0
  alike_at i e = ap (λ (l : List ℕ). get_or l i 0) (same_sound xs ys (to_t (same xs ys) e))

  pub alike_more : (i a b : ℕ) → i < length xs → i < length ys → a ≡ get_or xs i 0 → b ≡ get_or ys i 0 → a ≡ b → take i xs ≡ take i ys → take (i + 1) xs ≡ take (i + 1) ys
  alike_more i a b h k p q e t =
      rw (add-one, take-suc xs i 0 h, take-suc ys i 0 k) (ap₂ (λ (l : List ℕ) (x : ℕ). l ++ (x ∷ [])) t (sym p ∙ e ∙ q))

  pub alike_all : (i : ℕ) → length xs ≤ i → length ys ≤ i → take i xs ≡ take i ys → true ≡ same xs ys
  alike_all i h k t =
      let e : xs ≡ ys = sym (take_all i xs h) ∙ t ∙ take_all i ys k in
      sym (from_t (same xs ys) (rw e (same_refl ys)))

  -- the union of all differences
  pub alike_union : (i u : ℕ) → i < length xs → i < length ys → eqb u 0 ≡ same (take i xs) (take i ys)
      → eqb (bit_or u (bit_xor (get_or xs i 0) (get_or ys i 0))) 0 ≡ same (take (i + 1) xs) (take (i + 1) ys)
  alike_union i u h k e =
      let x = get_or xs i 0 in
      let y = get_or ys i 0 in
      let z = bit_xor x y in
      let n : i ≤ i + 1 = omega arith in
      let l : i < i + 1 = omega arith in
      both_ways (eqb (bit_or u z) 0) (same (take (i + 1) xs) (take (i + 1) ys))
      (λ t.
      let o : bit_or u z ≡ 0 = eqb→eq (bit_or u z) 0 t in
      let p : u ≡ 0 = omega (arith, or_add_and u z, and_le_r u z) in
      let q : z ≡ 0 = omega (arith, or_add_and u z, and_le_l u z) in
      let v : x ≡ y = omega (arith, xor_add_and x y, and_le_l x y, and_le_r x y) in
      let s : take i xs ≡ take i ys = same_sound (take i xs) (take i ys) (subst T e (to_t (eqb u 0) (eq-eqb u 0 p))) in
      rw (alike_more i x y h k refl refl v s) (same_refl (take (i + 1) ys)))
      (λ t.
      let q : take (i + 1) xs ≡ take (i + 1) ys = same_sound (take (i + 1) xs) (take (i + 1) ys) t in
      let s : take i xs ≡ take i ys = sym (take-take i (i + 1) xs n) ∙ ap (take i) q ∙ take-take i (i + 1) ys n in
      let v : x ≡ y = sym (get_or-take (i + 1) xs i 0 l) ∙ ap (λ (m : List ℕ). get_or m i 0) q ∙ get_or-take (i + 1) ys i 0 l in
      let p : u ≡ 0 = eqb→eq u 0 (subst T (sym e) (rw s (same_refl (take i ys)))) in
      to_t (eqb (bit_or u z) 0) (eq-eqb (bit_or u z) 0 (ap₂ bit_or p (ap (bit_xor x) (sym v) ∙ xor_self x))))

-- ---- levels

-- of other widths
pub apart : {w x : ℕ} (S R : States) (v u : List ℕ) → (w ≡ x → ⊥) → false ≡ same (codes_at w S v) (codes_at x R u)
apart {w} {x} S R v u n =
    both_ways false (same (codes_at w S v) (codes_at x R u)) (λ t. absurd t)
    (λ t. absurd (n (sym (codes_length w S v) ∙ ap length (same_sound (codes_at w S v) (codes_at x R u) t) ∙ codes_length x R u)))

-- of equal bytes under equal sets
pub alike : {w x : ℕ} {S R : States} (v u : List ℕ) → w ≡ x → S ≡ R → same v u ≡ true → true ≡ same (codes_at w S v) (codes_at x R u)
alike {w} {x} {S} {R} v u e f g = sym (from_t (same (codes_at w S v) (codes_at x R u)) (rw (e, f, same_sound v u (to_t (same v u) g)) (same_refl (codes_at x R u))))

-- ---- two entries of which nothing is tried

module _ {e f : Encoding} (v u : List ℕ) (i j : ℕ) where
  pub events_told : e ≡ Event → f ≡ Event → given (eqb i j) ≡ pair_of e v i f u j
  unfolding pair_of tried same_value same_real any has_bad_mark levels_in
  events_told p q = rw (p, q) (go (eqb i j))
    where
      go : (b : Bool) → given b ≡ given (b && true)
      go true = refl
      go false = refl

  reals : e ≡ Real → f ≡ Real → given (eqb i j && same_real v u) ≡ pair_of e v i f u j
  unfolding pair_of tried same_value same_real any has_bad_mark levels_in
  reals p q = rw (p, q) refl

  pub reals_told : {b : Bool} {x y : ℕ} → e ≡ Real → f ≡ Real → i ≡ j → x ≡ number 256 (reverse v) → y ≡ number 256 (reverse u)
      → b ≡ eq (of_bits binary64 x) (of_bits binary64 y) → given b ≡ pair_of e v i f u j
  unfolding same_real
  reals_told p q h x y s = rw (← reals p q, eq-eqb i j h) (ap given (s ∙ ap₂ (λ (a b : ℕ). eq (of_bits binary64 a) (of_bits binary64 b)) x y))

  pub reals_apart : e ≡ Real → f ≡ Real → (i ≡ j → ⊥) → given false ≡ pair_of e v i f u j
  reals_apart p q h = rw (← reals p q, ne_eqb i j h) refl

-- ---- two entries

-- an entry that is neither 9 nor 10, by what it is compared by
pub record Sound (e : Encoding) (v : List ℕ) (h : Held) : Type 0 where
  pub mark : has_bad_mark e v ≡ false
  pub code : has_bad_code e v ≡ false
  pub is : h ≡ held e v

module _ (e : Encoding) (v : List ℕ) where
  pub sound : {h : Held} → given h ≡ coded e v → Sound e v h
  unfolding coded tried
  sound {h} = go (has_bad_mark e v) refl (has_bad_code e v) refl
    where
      go : (p : Bool) → has_bad_mark e v ≡ p → (q : Bool) → has_bad_code e v ≡ q → given h ≡ tried (9 ⇐ p ∷ 10 ⇐ q ∷ []) (given (held e v)) → Sound e v h
      go true a q b z = cc
      go false a true b z = cc
      go false a false b z = record { mark = a; code = b; is = cc }

-- those of a bit vector are its levels'
pub coded_refused : {e : Encoding} {w : ℕ} {M : States} (v : List ℕ) {n : ℕ} → e ≡ BitVector w M → refused n ≡ levels.coded w M v → refused n ≡ coded e v
unfolding coded tried
coded_refused {e} {w} {M} v {n} q = rw q (go (has_bad_mark (BitVector w M) v) (has_bad_code (BitVector w M) v))
  where
    go : (b c : Bool) → refused n ≡ tried (9 ⇐ b ∷ 10 ⇐ c ∷ []) (given (unpacked w M v)) → refused n ≡ tried (9 ⇐ b ∷ 10 ⇐ c ∷ []) (given (held (BitVector w M) v))
    go true c z = cc
    go false true z = cc
    go false false z = cc

pub coded_levels : {e : Encoding} {w : ℕ} {M : States} (v : List ℕ) {u : Unpacked} → e ≡ BitVector w M → given u ≡ levels.coded w M v
    → given (codes (codes_at u.width u.set u.part)) ≡ coded e v
unfolding coded tried
coded_levels {e} {w} {M} v q h = let s = coded_given w M v h in rw (q, s.mark, s.code, codes_are w M v s.is)

-- letters differ where codes do
pub same_as_held : (a : Encoding) (x : List ℕ) (b : Encoding) (y : List ℕ) → has_bad_code a x ≡ false → has_bad_code b y ≡ false
    → same_held (held a x) (held b y) ≡ same_value a x b y
unfolding same_held same_value same_real
same_as_held Event x Event y p q = refl
same_as_held Event x Real y p q = refl
same_as_held Event x (BitVector w M) y p q = refl
same_as_held Real x Event y p q = refl
same_as_held Real x Real y p q = refl
same_as_held Real x (BitVector w M) y p q = refl
same_as_held (BitVector w M) x Event y p q = refl
same_as_held (BitVector w M) x Real y p q = refl
same_as_held (BitVector w M) x (BitVector z N) y p q =
    let cs = levels_in (BitVector w M) x in
    let ds = levels_in (BitVector z N) y in
    same_by cs ds (text_of cs) (text_of ds) (ap text_of) (text_inj cs ds (all_below_lem cs p) (all_below_lem ds q))

-- ---- a pair

module _ (a b : Encoding) (x y : List ℕ) (i j : ℕ) {h : Held} (s : given h ≡ coded a x) where
  module _ {k : Held} (t : given k ≡ coded b y) where
    pub pair_told : i ≡ j → {r : Bool} → r ≡ same_held h k → given r ≡ pair_of a x i b y j
    unfolding pair_of tried
    pair_told n e =
        let p = sound a x s in
        let q = sound b y t in
        rw (p.mark, p.code, q.mark, q.code, eq-eqb i j n) (ap given (e ∙ ap₂ same_held p.is q.is ∙ same_as_held a x b y p.code q.code))

-- ---- the walk over the pairs

-- what a pair leaves to reply
unfoldable pub follow : Reply Bool → Reply Bool → Reply Bool
follow (refused n) rest = refused n
follow (given true) rest = rest
follow (given false) rest = given false

walked_step : (p q : Indexed) (l m : List Indexed)
    → walked (p ∷ l) (q ∷ m) ≡ follow (pair_of p.encoding p.bytes p.index q.encoding q.bytes q.index) (walked l m)
unfolding walked pair_of tried follow
walked_step p q l m = go (has_bad_mark p.encoding p.bytes) (has_bad_code p.encoding p.bytes) (has_bad_mark q.encoding q.bytes) (has_bad_code q.encoding q.bytes) (agree p q)
  where
    go : (a b c d e : Bool)
        → tried (9 ⇐ a ∷ 10 ⇐ b ∷ 9 ⇐ c ∷ 10 ⇐ d ∷ []) (cond e (walked l m) (given false))
        ≡ follow (tried (9 ⇐ a ∷ 10 ⇐ b ∷ 9 ⇐ c ∷ 10 ⇐ d ∷ []) (given e)) (walked l m)
    go true b c d e = refl
    go false true c d e = refl
    go false false true d e = refl
    go false false false true e = refl
    go false false false false true = refl
    go false false false false false = refl

-- two records that are not 2, where the pairs before entry k agree
pub record Walked (d : Description) (l : Lent) (e : Description) (m : Lent) (k : ℕ) : Type 0 where
  pub first : Standing d l
  pub second : Standing e m
  pub left : compare_records d l e m ≡ walked (rest d l k) (rest e m k)

pub walk_starts : (d : Description) (l : Lent) (e : Description) (m : Lent) → is_bad d l ≡ false → is_bad e m ≡ false → Walked d l e m 0
unfolding compare_records tried rest
walk_starts d l e m h g = record { first = standing h; second = standing g; left = rw (h, g) }

module _ {d : Description} {l : Lent} {e : Description} {m : Lent} {k : ℕ} (w : Walked d l e m k) where
  has_first : k < d.count → HasIndexed d l k
  has_first p = record { stands = w.first; below = p }

  has_second : k < e.count → HasIndexed e m k
  has_second p = record { stands = w.second; below = p }

  -- the pair of entries k, as it was compared
  pub step : k < d.count → k < e.count → {o : Reply Bool} {f g : Encoding} {x y : List ℕ} {i j : ℕ}
      → f ≡ d.encoding → x ≡ entry_at d.encoding l.byte_start l.bytes k → i ≡ get_or l.indices (l.index_start + k) 0
      → g ≡ e.encoding → y ≡ entry_at e.encoding m.byte_start m.bytes k → j ≡ get_or m.indices (m.index_start + k) 0
      → o ≡ pair_of f x i g y j → compare_records d l e m ≡ follow o (walked (rest d l (k + 1)) (rest e m (k + 1)))
  step p q {o} r a u s b v t =
      let z : o ≡ pair_of d.encoding (entry_at d.encoding l.byte_start l.bytes k) (get_or l.indices (l.index_start + k) 0) e.encoding (entry_at e.encoding m.byte_start m.bytes k) (get_or m.indices (m.index_start + k) 0) = rw (← a, ← u, ← b, ← v, ← r, ← s) t in
      w.left
      ∙ ap₂ walked (rest_more (has_first p)) (rest_more (has_second q))
      ∙ walked_step (entry_number d l k) (entry_number e m k) (rest d l (k + 1)) (rest e m (k + 1))
      ∙ ap (λ (o : Reply Bool). follow o (walked (rest d l (k + 1)) (rest e m (k + 1)))) (sym z)

  pub first_longer : k < d.count → e.count ≤ k → given false ≡ compare_records d l e m
  unfolding walked
  first_longer p q = sym (w.left ∙ ap₂ walked (rest_more (has_first p)) (rest_end w.second k q))

  pub second_longer : d.count ≤ k → k < e.count → given false ≡ compare_records d l e m
  unfolding walked
  second_longer p q = sym (w.left ∙ ap₂ walked (rest_end w.first k p) (rest_more (has_second q)))

  pub both_end : d.count ≤ k → e.count ≤ k → given true ≡ compare_records d l e m
  unfolding walked
  both_end p q = sym (w.left ∙ ap₂ walked (rest_end w.first k p) (rest_end w.second k q))

  -- the shorter record is walked to its end
  pub ended : k ≡ min d.count e.count → given (eqb d.count e.count) ≡ compare_records d l e m
  ended h =
      by_eq d.count e.count
      (λ q. ap given (eq-eqb _ _ q) ∙ both_end (omega arith) (omega arith))
      (λ q. ap given (ne_eqb _ _ q) ∙ by_le d.count e.count (λ r. second_longer (omega arith) (omega arith)) (λ r. first_longer (omega arith) (omega arith)))
