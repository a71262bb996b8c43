-- The replies of reading an entry as a number, step by step.
-- Assumes nothing.
use mathlib.Core.Path.{◌≡◌, refl, sym, ap, ap₂, ◌∙◌}
use mathlib.Core.Bool.{Bool, true, false, ◌||◌, true≢false}
use mathlib.Core.List.{List, [], ◌∷◌, ◌++◌}
use Prim.Native.Nat.{ℕ, suc, ◌/◌, ◌^◌, ◌≤◌, ◌<◌}
use native.Mathlib.Omega.{arith}
use borrow.Author.Tests.{ltb-false, lt-leb}
use lib.Dec.{ltb}
use lib.ListN.{length}
use Rattle.value.specs.declared.States.{States}
use Rattle.value.specs.Digits.{number}
use Rattle.value.specs.Level.{bits_of, has_no_code}
use Rattle.value.proofs.Digits.{below_mono, digits_length}
use Rattle.value.proofs.Levels.{none_foreign}
use Rattle.value.proofs.Lists.{none_from}
use Rattle.fst.specs.declared.Encoding.{Encoding}
use Rattle.fst.specs.declared.Encoding.TheVariants.{Event, Real, BitVector}
use Rattle.fst.specs.declared.Description.{Description}
use Rattle.fst.specs.declared.Refusal.{Refusal}
use Rattle.fst.specs.declared.Refusal.TheVariants.{NotBinary}
use Rattle.fst.specs.Refusal.{Reply, refused, given, Test, ◌⇐◌, tried, refusal_number}
use Rattle.fst.specs.Record.{width_of, width_stands, has_no_text}
use Rattle.fst.proofs.Adding.{width_known}
use Rattle.fst.proofs.Rooms.{stands}
use Rattle.fst.proofs.Refusals.{Passed, passes, Result, through, stopped, result, tried_append, tried_refused}
use Rattle.signal.specs.Decode.{entry_at, set_in, level_part, levels_in, has_bad_mark, codes_at}
use Rattle.signal.specs.Parts.{Whole, Unpacked, marked}
use Rattle.signal.specs.Read.{unreadable}
use Rattle.signal.proofs.Reading.{HasEntry, marked_given, codes_are}
use Rattle.numbers.specs.Number.{unsigned, signed, decimal, signed_of, digits_of, has_part_digit, is_wrong_width, has_other, has_high_digit, read_number}
use Rattle.numbers.specs.Parts.{binary_of, binary_in, signed_by, signed_from, decimal_by, decimal_from}
use Rattle.numbers.proofs.Forms.{signed_unsigned}
use Rattle.numbers.proofs.Words.{Known, known_lt}

-- ---- levels

-- 0 and 1 are codes
pub binary_coded : (levels : List ℕ) → has_other levels ≡ false → has_no_code levels ≡ false
binary_coded levels h = none_foreign levels (below_mono 2 9 levels (omega arith) (none_from 2 levels h))

-- ---- an entry

-- the width of an entry that is one of a bit vector
pub wide : (w : ℕ) (M : States) (v : List ℕ) → Whole (BitVector w M) v → 1 ≤ w
wide w M v h = (width_known M h.width).0

module _ (e : Encoding) (v : List ℕ) where
  pub entry_else : has_bad_mark e v ≡ false → binary_of (width_of e) (levels_in e v) ≡ binary_in e v
  unfolding tried
  entry_else h = rw h

module _ (w : ℕ) (M : States) (v : List ℕ) where
  pub vector_told : {u : Unpacked} → given u ≡ marked w M v → binary_of u.width (codes_at u.width u.set u.part) ≡ binary_in (BitVector w M) v
  vector_told h =
      let g = marked_given w M v h in
      ap₂ binary_of (ap (λ (u : Unpacked). u.width) g.1) (codes_are w M v g.1) ∙ entry_else (BitVector w M) v g.0

-- ---- an entry of a record: the unsigned number

or_false : (b : Bool) → b || false ≡ b
or_false true = refl
or_false false = refl

given_inj : {m n : ℕ} → given m ≡ given n → m ≡ n
given_inj e = cc

-- tests behind others, of which one can't hold
module _ {A : Type 0} (xs : List Test) (w : ℕ) (o : Bool) (a : A) where
  pub plain : tried (xs ++ (16 ⇐ (ltb 64 w || false) ∷ 17 ⇐ o ∷ 18 ⇐ false ∷ [])) (given a) ≡ tried (xs ++ (16 ⇐ ltb 64 w ∷ 17 ⇐ o ∷ [])) (given a)
  unfolding tried
  plain =
      tried_append xs (16 ⇐ (ltb 64 w || false) ∷ 17 ⇐ o ∷ 18 ⇐ false ∷ []) (given a)
      ∙ ap (tried xs) (ap (λ (b : Bool). tried (16 ⇐ b ∷ 17 ⇐ o ∷ 18 ⇐ false ∷ []) (given a)) (or_false (ltb 64 w)) ∙ tried_append (16 ⇐ ltb 64 w ∷ 17 ⇐ o ∷ []) (18 ⇐ false ∷ []) (given a))
      ∙ sym (tried_append xs (16 ⇐ ltb 64 w ∷ 17 ⇐ o ∷ []) (given a))

pub read_on_lem : {d : Description} {bytes : List ℕ} {start k : ℕ} → HasEntry d bytes start k → {w : ℕ} {M : States} → d.encoding ≡ BitVector w M
    → {v : List ℕ} → v ≡ entry_at d.encoding start bytes k → binary_in (BitVector w M) v ≡ read_number unsigned d bytes start k
unfolding read_number tried has_no_text binary_of
read_on_lem {d} {bytes} {start} {k} h {w} {M} e q =
    let b = BitVector w M in
    let v = entry_at b start bytes k in
    let cs = levels_in b v in
    rw (q, h.sound, e, lt-leb d.count k h.below)
    (sym
    (plain (9 ⇐ has_bad_mark b v ∷ 10 ⇐ has_no_code cs ∷ []) w (has_other cs) (number 2 cs)
    ∙ tried_append (9 ⇐ has_bad_mark b v ∷ []) (10 ⇐ has_no_code cs ∷ 16 ⇐ ltb 64 w ∷ 17 ⇐ has_other cs ∷ []) (given (number 2 cs))))

-- ---- the other forms by the unsigned number

-- the levels of an entry are as many as the width
pub levels_long : (e : Encoding) (v : List ℕ) → length (levels_in e v) ≡ width_of e
unfolding levels_in
levels_long Event v = refl
levels_long Real v = refl
levels_long (BitVector w M) v = digits_length (2 ^ bits_of (set_in (BitVector w M) v)) w (number 256 (level_part (BitVector w M) v))

width_some : (e : Encoding) → width_stands e ≡ true → has_no_text e ≡ false → 1 ≤ width_of e
unfolding has_no_text
width_some Event s h = absurd (true≢false h)
width_some Real s h = absurd (true≢false h)
width_some (BitVector w M) s h = (width_known M s).0

-- what is known where there is a number
pub record Told (e : Encoding) (levels : List ℕ) (n : ℕ) : Type 0 where
  pub some : 1 ≤ width_of e
  pub few : width_of e ≤ 64
  pub long : length levels ≡ width_of e
  pub known : Known levels n

-- 16 is tried of two tests
two_tests : {A : Type 0} (n : ℕ) (p q : Bool) (l : List Test) (r : Reply A) → tried (n ⇐ (p || q) ∷ l) r ≡ tried (n ⇐ p ∷ n ⇐ q ∷ l) r
unfolding tried
two_tests n true q l r = refl
two_tests n false q l r = refl

-- a change of replies that leaves the numbers of tests as they are
abbrev Leaves : (Reply ℕ → Reply ℕ) → List Test → Type 0
Leaves f [] = Unit
Leaves f ((n ⇐ b) ∷ l) = (f (refused n) ≡ refused n) × Leaves f l

left_tried : (f : Reply ℕ → Reply ℕ) (l : List Test) (r : Reply ℕ) → Leaves f l → f (tried l r) ≡ tried l (f r)
unfolding tried
left_tried f [] r h = refl
left_tried f ((n ⇐ true) ∷ l) r h = h.0
left_tried f ((n ⇐ false) ∷ l) r h = left_tried f l r h.1

module _ (d : Description) (bytes : List ℕ) (start k : ℕ) where
  abbrev w : ℕ
  w = width_of d.encoding

  abbrev levels : List ℕ
  levels = levels_in d.encoding (entry_at d.encoding start bytes k)

  -- what is tried alike for every form, and what is tried for an unsigned or a signed number
  abbrev common : List Test
  common = unreadable d bytes start k ++ (16 ⇐ ltb 64 w ∷ [])

  abbrev tests : List Test
  tests = common ++ (17 ⇐ has_other levels ∷ [])

  unsigned_on : read_number unsigned d bytes start k ≡ tried tests (given (number 2 levels))
  unfolding read_number
  unsigned_on = plain (unreadable d bytes start k) w (has_other levels) (number 2 levels)

  signed_on : read_number signed d bytes start k ≡ tried tests (given (signed_of levels))
  unfolding read_number
  signed_on = plain (unreadable d bytes start k) w (has_other levels) (signed_of levels)

  decimal_on : read_number decimal d bytes start k ≡ tried common (tried (16 ⇐ has_part_digit w ∷ 17 ⇐ has_other levels ∷ 18 ⇐ has_high_digit decimal levels ∷ []) (given (number 10 (digits_of levels))))
  unfolding read_number
  decimal_on =
      let rest = 17 ⇐ has_other levels ∷ 18 ⇐ has_high_digit decimal levels ∷ [] in
      let r : Reply ℕ = given (number 10 (digits_of levels)) in
      tried_append (unreadable d bytes start k) (16 ⇐ is_wrong_width decimal w ∷ rest) r
      ∙ ap (tried (unreadable d bytes start k)) (two_tests 16 (ltb 64 w) (has_part_digit w) rest r)
      ∙ sym (tried_append (unreadable d bytes start k) (16 ⇐ ltb 64 w ∷ 16 ⇐ has_part_digit w ∷ rest) r)
      ∙ tried_append common (16 ⇐ has_part_digit w ∷ rest) r

  told : Passed tests → Told d.encoding levels (number 2 levels)
  told p =
      record {
        some = width_some d.encoding (stands d start bytes p.0).width p.1.0;
        few = ltb-false 64 w p.1.1.1.1.1.0;
        long = levels_long d.encoding (entry_at d.encoding start bytes k);
        known = record { clear = p.1.1.1.1.1.1.0; is = refl };
      }

  -- the unsigned reply: a number of so many bits, or a refusal
  pub data Unsigned : Type 0 where
    number_is : (n : ℕ) → read_number unsigned d bytes start k ≡ given n → Told d.encoding levels n → read_number signed d bytes start k ≡ given (signed_of levels) → Unsigned
    refusal_is : (n : ℕ) → read_number unsigned d bytes start k ≡ refused (suc n) → read_number signed d bytes start k ≡ refused (suc n) → Unsigned

  pub unsigned_is : Unsigned
  unsigned_is = go (result (given (number 2 levels)) tests tt)
    where
      go : Result (given (number 2 levels)) tests → Unsigned
      go (through p e) = number_is (number 2 levels) (unsigned_on ∙ e) (told p) (signed_on ∙ passes (given (signed_of levels)) tests p)
      go (stopped n e) = refusal_is n (unsigned_on ∙ e) (signed_on ∙ tried_refused tests (number 2 levels) (given (signed_of levels)) e)

  -- "as two's complement signed"
  pub signed_from_lem : read_number signed d bytes start k ≡ signed_from w (read_number unsigned d bytes start k)
  signed_from_lem = sym (go unsigned_is)
    where
      go : Unsigned → signed_from w (read_number unsigned d bytes start k) ≡ read_number signed d bytes start k
      go (number_is n e t f) =
          ap (signed_from w) e
          ∙ ap given (sym (signed_unsigned levels (none_from 2 levels t.known.clear) (rw t.long t.some) ∙ ap₂ signed_by t.long (sym t.known.is)))
          ∙ sym f
      go (refusal_is n e f) = ap (signed_from w) e ∙ sym f

  -- "as packed decimal"
  pub decimal_from_lem : read_number decimal d bytes start k ≡ decimal_from w (read_number unsigned d bytes start k)
  unfolding tried
  decimal_from_lem =
      sym
      (ap (decimal_from w) (unsigned_on ∙ tried_append common (17 ⇐ has_other levels ∷ []) (given (number 2 levels)))
      ∙ left_tried (decimal_from w) common (tried (17 ⇐ has_other levels ∷ []) (given (number 2 levels))) (refl, (refl, (refl, (refl, (refl, (refl, tt))))))
      ∙ ap (tried common) (behind (has_other levels))
      ∙ sym decimal_on)
    where
      by_digits : decimal_by (w / 4) (number 2 levels) ≡ tried (18 ⇐ has_high_digit decimal levels ∷ []) (given (number 10 (digits_of levels)))
      by_digits = ap (λ (x : ℕ). decimal_by (x / 4) (number 2 levels)) (sym (levels_long d.encoding (entry_at d.encoding start bytes k)))

      behind : (o : Bool) → decimal_from w (tried (17 ⇐ o ∷ []) (given (number 2 levels)))
          ≡ tried (16 ⇐ has_part_digit w ∷ 17 ⇐ o ∷ 18 ⇐ has_high_digit decimal levels ∷ []) (given (number 10 (digits_of levels)))
      behind true = sym (tried_append (16 ⇐ has_part_digit w ∷ []) (17 ⇐ true ∷ 18 ⇐ has_high_digit decimal levels ∷ []) (given (number 10 (digits_of levels))))
      behind false =
          ap (tried (16 ⇐ has_part_digit w ∷ [])) by_digits
          ∙ sym (tried_append (16 ⇐ has_part_digit w ∷ []) (17 ⇐ false ∷ 18 ⇐ has_high_digit decimal levels ∷ []) (given (number 10 (digits_of levels))))

  -- by an unsigned answer
  pub sized : {n : ℕ} → given n ≡ read_number unsigned d bytes start k → (1 ≤ w) × (w ≤ 64) × (n < 2 ^ w)
  sized {n} q = go unsigned_is
    where
      go : Unsigned → (1 ≤ w) × (w ≤ 64) × (n < 2 ^ w)
      go (number_is m e t f) = let i : n ≡ m = given_inj (q ∙ e) in (t.some, t.few, rw i (rw t.long at (known_lt t.known)))
      go (refusal_is m e f) = let z : given n ≡ refused (suc m) = q ∙ e in cc

-- only 17 has its number
pub not_other : (r : Refusal) → (r ≡ NotBinary → ⊥) → refusal_number r ≡ 17 → ⊥
not_other NotBinary o h = o refl
not_other r o h = absurd (omega arith)
