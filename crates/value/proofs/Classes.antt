-- The least set of a string by tests of whole strings: the smallest set that holds every character.
-- Assumes nothing.
use mathlib.Core.Path.{◌≡◌, refl, sym, ap, ap₂, ◌∙◌}
use mathlib.Core.Bool.{Bool, true, false, not, cond, ◌&&◌, ◌||◌, true≢false}
use mathlib.Core.List.{List, [], ◌∷◌}
use Prim.Native.Nat.{ℕ, ◌+◌, ◌≤◌, ◌<◌, min}
use native.Mathlib.Omega.{arith}
use borrow.Author.Tests.{eqb-true, leb-true, leb-false, lt-ltb, eq-eqb, ne_eqb}
use lib.Dec.{T, eqb, leb, ltb}
use lib.Bits.{bit_or, bit_and, bit_xor, or_add_and, or_zero_l, and_le_r}
use lib.ListN.{length, get_or, take}
use lib.Seq.{take_all}
use Rattle.value.specs.declared.States.{States}
use Rattle.value.specs.declared.States.TheVariants.{Two, Four, Nine}
use Rattle.std.specs.Prelude.{Option, Some, None}
use Rattle.value.specs.Slice.{any}
use Rattle.value.specs.Level.{code_of, fold, fold_all, codes_of, place_in, mark_of, codes_in, has_no_code, set_of, least_of, join_all}
use Rattle.value.specs.Answer.{least_states, holds_one, holds_all}
use Rattle.value.proofs.Tests.{or_left, or_right, by_eq, all_below, at_below, implies, implied, both, both_same}
use Rattle.value.proofs.Slices.{any_snoc}
use Rattle.value.specs.Digits.{Below}
use Rattle.value.proofs.Levels.{mark_inj, mark_join, mark_small, set_two, set_four, set_nine, by_set, codes_more, least_states_lem}
use Rattle.value.proofs.Digits.{below_mono}

-- ---- one character

not_true : (t : Bool) → true ≡ not t → t ≡ false
not_true true e = absurd (true≢false e)
not_true false e = refl

not_false : (t : Bool) → false ≡ not t → t ≡ true
not_false true e = refl
not_false false e = absurd (true≢false (sym e))

-- a rule of bytes under a condition, computed at each of them
pub each_byte : (when rule : ℕ → Bool) → T (all_below (λ (n : ℕ). implies (when n) (rule n)) 256) → (c : ℕ) → c < 256 → when c ≡ true → rule c ≡ true
each_byte when rule t c h e = implied (when c) (rule c) (at_below (λ (n : ℕ). implies (when n) (rule n)) 256 t c h) e

-- is F the code of a character whose code is below N
abbrev pub tells : ℕ → (ℕ → ℕ) → ℕ → Bool
tells N F c = implies (ltb (code_of (fold c)) N) (eqb (F c) (code_of (fold c)))

pub code_by : (N : ℕ) (F : ℕ → ℕ) → T (all_below (tells N F) 256) → (c : ℕ) → c < 256 → code_of (fold c) < N → F c ≡ code_of (fold c)
code_by N F t c h k =
    eqb-true (F c) (code_of (fold c))
    (each_byte (λ (n : ℕ). ltb (code_of (fold n)) N) (λ (n : ℕ). eqb (F n) (code_of (fold n))) t c h (lt-ltb (code_of (fold c)) N k))

-- 0 and 1
pub binary_bit : (c : ℕ) → c < 256 → code_of (fold c) < 2 → bit_and c 1 ≡ code_of (fold c)
unfolding code_of place_in fold
binary_bit = code_by 2 (λ (n : ℕ). bit_and n 1) tt

-- two tests of a byte, computed at each
pub same_tests : (f g : ℕ → Bool) → T (all_below (λ (n : ℕ). implies true (both (f n) (g n))) 256) → (c : ℕ) → c < 256 → f c ≡ g c
same_tests f g t c h = both_same (f c) (g c) (each_byte (λ (n : ℕ). true) (λ (n : ℕ). both (f n) (g n)) t c h refl)

-- the smaller of two numbers is 0 where one of them is
pub min_zero : (a b : ℕ) → eqb (min a b) 0 ≡ eqb a 0 || eqb b 0
min_zero a b =
    by_eq a 0 (λ (z : a ≡ 0). rw (eq-eqb (min a b) 0 (omega arith), eq-eqb a 0 z))
    (λ n. rw (ne_eqb a 0 n) (by_eq b 0 (λ (z : b ≡ 0). rw (eq-eqb (min a b) 0 (omega arith), eq-eqb b 0 z)) (λ m. rw (ne_eqb (min a b) 0 (λ z. omega arith), ne_eqb b 0 m))))

-- the tests of a byte by its bits, computed at each: 0 1, then x z, then u w h l -
pub two_told : (c : ℕ) → c < 256 → eqb (bit_and (bit_xor c 48) 254) 0 ≡ holds_one 2 c
unfolding holds_one code_of place_in fold
two_told = same_tests (λ (n : ℕ). eqb (bit_and (bit_xor n 48) 254) 0) (holds_one 2) tt

pub four_told : (c : ℕ) → c < 256 → holds_one 4 c ≡ holds_one 2 c || eqb (bit_xor (bit_and (bit_or c 32) 253) 120) 0
unfolding holds_one code_of place_in fold
four_told = same_tests (holds_one 4) (λ (n : ℕ). holds_one 2 n || eqb (bit_xor (bit_and (bit_or n 32) 253) 120) 0) tt

abbrev small_letter : ℕ → Bool
small_letter c = eqb (bit_xor (bit_and (bit_or c 32) 253) 117) 0 || eqb (bit_xor (bit_and (bit_or c 32) 251) 104) 0

pub nine_told : (c : ℕ) → c < 256 → holds_one 9 c ≡ holds_one 4 c || (small_letter c || eqb (bit_xor c 45) 0)
unfolding holds_one code_of place_in fold
nine_told = same_tests (holds_one 9) (λ (n : ℕ). holds_one 4 n || (small_letter n || eqb (bit_xor n 45) 0)) tt

-- ---- a string

or_none : (a b : ℕ) → eqb (bit_or a b) 0 ≡ eqb a 0 && eqb b 0
or_none a b =
    by_eq a 0 (λ e. rw (e, or_zero_l b))
    (λ e.
    let s : bit_or a b + bit_and a b ≡ a + b = or_add_and a b in
    let l : bit_and a b ≤ b = and_le_r a b in
    rw (ne_eqb a 0 e, ne_eqb (bit_or a b) 0 (λ z. e (omega arith))))

pub not_or : (a b : Bool) → not (a || b) ≡ not a && not b
not_or true b = refl
not_or false b = refl

pub holds_none : (s : States) → true ≡ holds_all s []
unfolding holds_all any
holds_none s = refl

-- one character more
pub holds_more : (s : States) (v : List ℕ) (i u k : ℕ) → i < length v → eqb u 0 ≡ holds_all s (take i v) → eqb k 0 ≡ holds_one (codes_in s) (get_or v i 0)
    → eqb (bit_or u k) 0 ≡ holds_all s (take (i + 1) v)
unfolding holds_all holds_one
holds_more s v i u k h e f =
    let cs : List ℕ = codes_of (fold_all (take i v)) in
    let c : ℕ = code_of (fold (get_or v i 0)) in
    or_none u k
    ∙ ap₂ (λ (a b : Bool). a && b) e f
    ∙ sym (not_or (any (leb (codes_in s)) cs) (leb (codes_in s) c))
    ∙ ap not (sym (any_snoc (leb (codes_in s)) cs c) ∙ ap (λ (l : List ℕ). any (leb (codes_in s)) l) (sym (codes_more v i h)))

-- all characters
pub holds_whole : (s : States) (v : List ℕ) (i : ℕ) → length v ≤ i → holds_all s (take i v) ≡ holds_all s v
holds_whole s v i h = ap (holds_all s) (take_all i v h)

-- ---- the least set

below_any : (n : ℕ) (cs : List ℕ) → any (leb n) cs ≡ false → Below n cs
unfolding any
below_any n [] e = tt
below_any n (c ∷ cs) e = (leb-false n c (or_left (leb n c) (any (leb n) cs) e), below_any n cs (or_right (leb n c) (any (leb n) cs) e))

-- a smaller bound of digits is a bound
set_within : (N : States) (c : ℕ) → c < codes_in N → mark_of (set_of c) ≤ mark_of N
set_within Two c h = rw (set_two c h) (omega arith)
set_within Four c h = by_set c (λ l. rw (set_two c l) (omega arith)) (λ l m. rw (set_four c l m) (omega arith)) (λ l. absurd (omega arith))
set_within Nine c h = mark_small (set_of c)

set_beyond : (N : States) (c : ℕ) → mark_of N < 2 → codes_in N ≤ c → mark_of N < mark_of (set_of c)
set_beyond Two c n h = by_set c (λ l. absurd (omega arith)) (λ l m. rw (set_four c l m) (omega arith)) (λ l. rw (set_nine c l) (omega arith))
set_beyond Four c n h = rw (set_nine c h) (omega arith)
set_beyond Nine c n h = absurd (omega arith)

least_within : (N : States) (cs : List ℕ) → Below (codes_in N) cs → mark_of (least_of cs) ≤ mark_of N
unfolding join_all
least_within N [] b = omega arith
least_within N (c ∷ cs) b =
    omega (arith, mark_join (set_of c) (least_of cs), set_within N c b.0, least_within N cs b.1)

least_beyond : (N : States) (cs : List ℕ) → mark_of N < 2 → any (leb (codes_in N)) cs ≡ true → mark_of N < mark_of (least_of cs)
unfolding join_all any
least_beyond N [] n e = absurd (true≢false (sym e))
least_beyond N (c ∷ cs) n e = go (leb (codes_in N) c) refl e (least_beyond N cs n)
  where
    go : (t : Bool) → leb (codes_in N) c ≡ t → t || any (leb (codes_in N)) cs ≡ true → (any (leb (codes_in N)) cs ≡ true → mark_of N < mark_of (least_of cs))
        → mark_of N < mark_of (least_of (c ∷ cs))
    go true p q ih = omega (arith, mark_join (set_of c) (least_of cs), set_beyond N c n (leb-true (codes_in N) c p))
    go false p q ih = omega (arith, mark_join (set_of c) (least_of cs), ih q)

module _ (v : List ℕ) where
  abbrev codes : List ℕ
  codes = codes_of (fold_all v)

  pub within : (N : States) → true ≡ holds_all N v → Below (codes_in N) codes
  unfolding holds_all
  within N e = below_any (codes_in N) codes (not_true (any (leb (codes_in N)) codes) e)

  beyond : (N : States) → false ≡ holds_all N v → any (leb (codes_in N)) codes ≡ true
  unfolding holds_all
  beyond N e = not_false (any (leb (codes_in N)) codes) e

  is : (N : States) → codes_in N ≤ 9 → true ≡ holds_all N v → mark_of (least_of codes) ≡ mark_of N → least_states v ≡ Some N
  is N h e m = least_states_lem v (below_mono (codes_in N) 9 codes h (within N e)) ∙ ap Some (mark_inj (least_of codes) N m)

  pub is_two : true ≡ holds_all Two v → least_states v ≡ Some Two
  is_two e = is Two (omega arith) e (omega (arith, least_within Two codes (within Two e)))

  pub is_four : false ≡ holds_all Two v → true ≡ holds_all Four v → least_states v ≡ Some Four
  is_four d e = is Four (omega arith) e (omega (arith, least_within Four codes (within Four e), least_beyond Two codes (omega arith) (beyond Two d)))

  pub is_nine : false ≡ holds_all Four v → true ≡ holds_all Nine v → least_states v ≡ Some Nine
  is_nine d e = is Nine (omega arith) e (omega (arith, mark_small (least_of codes), least_beyond Four codes (omega arith) (beyond Four d)))

  pub is_foreign_lem : false ≡ holds_all Nine v → least_states v ≡ None
  unfolding least_states
  is_foreign_lem e = rw (beyond Nine e)

-- ---- what the least set of a string says

told : (s : List ℕ) (a : Option States) → least_states s ≡ a
    → (b : Bool) → has_no_code (codes_of (fold_all s)) ≡ b → cond b None (Some (least_of (codes_of (fold_all s)))) ≡ a
unfolding least_states
told s a e b h = rw (← h) e

pub foreign_told : (s : List ℕ) → least_states s ≡ None → has_no_code (codes_of (fold_all s)) ≡ true
foreign_told s e = go (has_no_code (codes_of (fold_all s))) refl
  where
    go : (b : Bool) → has_no_code (codes_of (fold_all s)) ≡ b → has_no_code (codes_of (fold_all s)) ≡ true
    go true h = h
    go false h =
        let q = told s None e false h in
        let z : ◌≡◌ {A = ℕ} 0 1 = cc in
        absurd (omega arith)

pub least_told : (s : List ℕ) (own : States) → least_states s ≡ Some own
    → (has_no_code (codes_of (fold_all s)) ≡ false) × (own ≡ least_of (codes_of (fold_all s)))
least_told s own e = go (has_no_code (codes_of (fold_all s))) refl
  where
    go : (b : Bool) → has_no_code (codes_of (fold_all s)) ≡ b → (has_no_code (codes_of (fold_all s)) ≡ false) × (own ≡ least_of (codes_of (fold_all s)))
    go true h =
        let q = told s (Some own) e true h in
        let z : ◌≡◌ {A = ℕ} 0 1 = cc in
        absurd (omega arith)
    go false h = let q = told s (Some own) e false h in (h, cc)
