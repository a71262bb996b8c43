-- Laws of levels: marks and bits of the sets, codes and letters, the least set of codes, the bytes that levels take.
-- Assumes nothing.
use mathlib.Core.Path.{◌≡◌, refl, sym, ap, ap₂, ◌∙◌}
use mathlib.Core.Bool.{Bool, true, false, cond}
use mathlib.Core.List.{List, [], ◌∷◌, ◌++◌, map-append}
use Prim.Native.Nat.{ℕ, zero, suc, ◌+◌, ◌*◌, ◌/◌, ◌^◌, ◌≤◌, ◌<◌, max}
use native.Mathlib.Nat.{suc-ne-zero, suc_inj, le_of_suc-le-suc, not-suc-le-zero, lt_of_lt_of_le}
use native.Mathlib.Numerals.{add-one}
use native.Mathlib.Omega.{arith}
use borrow.Author.Tests.{eqb-true, lt-ltb, le-ltb, le-leb, lt-leb}
use lib.Dec.{eqb, eqb→eq}
use lib.Pow.{pow_mono}
use lib.ListN.{length, get_or, take}
use lib.Seq.{take-suc}
use Rattle.value.specs.declared.States.{States}
use Rattle.value.specs.declared.States.TheVariants.{Two, Four, Nine}
use Rattle.std.specs.Prelude.{Some}
use Rattle.value.specs.Level.{letters, place_in, code_of, letter_of, fold, fold_all, codes_of, text_of, mark_of, bits_of, has_no_code, set_at, join, set_of, least_of, len_of, join_all}
use Rattle.value.specs.Answer.{least_states}
use Rattle.value.proofs.Tests.{by_le, at_below}
use Rattle.value.proofs.Lists.{none_from, below_none}
use Rattle.value.specs.Digits.{Below}

-- ---- marks

-- the set of a mark above 1
pub set_rest : (m : ℕ) → (m ≡ 0 → ⊥) → (m ≡ 1 → ⊥) → Nine ≡ set_at m
set_rest zero a b = absurd (a refl)
set_rest (suc zero) a b = absurd (b refl)
set_rest (suc (suc m)) a b = refl

pub mark_inj : (a b : States) → mark_of a ≡ mark_of b → a ≡ b
mark_inj Two Two e = refl
mark_inj Two Four e = absurd (omega arith)
mark_inj Two Nine e = absurd (omega arith)
mark_inj Four Two e = absurd (omega arith)
mark_inj Four Four e = refl
mark_inj Four Nine e = absurd (omega arith)
mark_inj Nine Two e = absurd (omega arith)
mark_inj Nine Four e = absurd (omega arith)
mark_inj Nine Nine e = refl

pub mark_join : (a b : States) → mark_of (join a b) ≡ max (mark_of a) (mark_of b)
mark_join Two Two = refl
mark_join Two Four = refl
mark_join Two Nine = refl
mark_join Four Two = refl
mark_join Four Four = refl
mark_join Four Nine = refl
mark_join Nine Two = refl
mark_join Nine Four = refl
mark_join Nine Nine = refl

pub mark_small : (a : States) → mark_of a ≤ 2
mark_small Two = omega arith
mark_small Four = omega arith
mark_small Nine = omega arith

pub set_mark : (a : States) → set_at (mark_of a) ≡ a
set_mark Two = refl
set_mark Four = refl
set_mark Nine = refl

pub mark_set : (m : ℕ) → m ≤ 2 → mark_of (set_at m) ≡ m
mark_set zero h = refl
mark_set (suc zero) h = refl
mark_set (suc (suc zero)) h = refl
mark_set (suc (suc (suc m))) h = absurd (omega arith)

-- ---- bits

pub bits_mark : (a : States) → bits_of a ≡ 2 ^ mark_of a
bits_mark Two = refl
bits_mark Four = refl
bits_mark Nine = refl

-- a larger mark is of a set with no fewer bits
pub bits_up : (a b : States) → mark_of a ≤ mark_of b → bits_of a ≤ bits_of b
bits_up a b h = rw (bits_mark a, bits_mark b) (pow_mono h)

pub bits_pos : (a : States) → 1 ≤ bits_of a
bits_pos Two = omega arith
bits_pos Four = omega arith
bits_pos Nine = omega arith

pub bits_small : (a : States) → bits_of a ≤ 4
bits_small Two = omega arith
bits_small Four = omega arith
bits_small Nine = omega arith

-- ---- bytes

pub len_bits : (w : ℕ) (S : States) → len_of w S ≡ (w * bits_of S + 7) / 8
len_bits w Two = omega arith
len_bits w Four = omega arith
len_bits w Nine = omega arith

pub len_room : (w : ℕ) (S : States) → w * bits_of S ≤ 8 * len_of w S
len_room w Two = omega arith
len_room w Four = omega arith
len_room w Nine = omega arith

pub len_up : (w : ℕ) (a b : States) → mark_of a ≤ mark_of b → len_of w a ≤ len_of w b
len_up w Two Two h = omega arith
len_up w Two Four h = omega arith
len_up w Two Nine h = omega arith
len_up w Four Two h = absurd (omega arith)
len_up w Four Four h = omega arith
len_up w Four Nine h = omega arith
len_up w Nine Two h = absurd (omega arith)
len_up w Nine Four h = absurd (omega arith)
len_up w Nine Nine h = omega arith

-- ---- codes of letters

place_inj : (ls : List ℕ) (c d : ℕ) → place_in ls c ≡ place_in ls d → place_in ls c < length ls → c ≡ d
unfolding place_in
place_inj [] c d e h = absurd (not-suc-le-zero h)
place_inj (l ∷ ls) c d e h = go (eqb l c) (eqb l d) refl refl e h (place_inj ls c d)
  where
    go : (x y : Bool) → eqb l c ≡ x → eqb l d ≡ y
        → cond x 0 (suc (place_in ls c)) ≡ cond y 0 (suc (place_in ls d))
        → cond x 0 (suc (place_in ls c)) < suc (length ls)
        → (place_in ls c ≡ place_in ls d → place_in ls c < length ls → c ≡ d) → c ≡ d
    go true true p q e h ih = sym (eqb-true l c p) ∙ eqb-true l d q
    go true false p q e h ih = absurd (suc-ne-zero (place_in ls d) (sym e))
    go false true p q e h ih = absurd (suc-ne-zero (place_in ls c) e)
    go false false p q e h ih = ih (suc_inj e) (le_of_suc-le-suc h)

-- what stands at the place of c is c
at_place : (ls : List ℕ) (c d : ℕ) → place_in ls c < length ls → get_or ls (place_in ls c) d ≡ c
unfolding place_in
at_place [] c d h = absurd (not-suc-le-zero h)
at_place (l ∷ ls) c d h = go (eqb l c) refl h (at_place ls c d)
  where
    go : (x : Bool) → eqb l c ≡ x → cond x 0 (suc (place_in ls c)) < suc (length ls) → (place_in ls c < length ls → get_or ls (place_in ls c) d ≡ c)
        → get_or (l ∷ ls) (cond x 0 (suc (place_in ls c))) d ≡ c
    go true e h ih = eqb-true l c e
    go false e h ih = ih (le_of_suc-le-suc h)

pub code_inj : (c d : ℕ) → code_of c ≡ code_of d → code_of c < 9 → c ≡ d
unfolding code_of
code_inj c d e h = place_inj letters c d e h

pub letter_code : (c : ℕ) → code_of c < 9 → letter_of (code_of c) ≡ c
unfolding code_of letter_of
letter_code c h = at_place letters c 0 h

pub code_letter : (n : ℕ) → n < 9 → code_of (letter_of n) ≡ n
unfolding code_of letter_of place_in
code_letter n h = eqb→eq (code_of (letter_of n)) n (at_below (λ (k : ℕ). eqb (code_of (letter_of k)) k) 9 tt n h)

pub codes_inj : (s t : List ℕ) → Below 9 (codes_of s) → codes_of s ≡ codes_of t → s ≡ t
codes_inj [] [] b e = refl
codes_inj [] (d ∷ t) b e = let z : ◌≡◌ {A = ℕ} 0 1 = cc in absurd (omega arith)
codes_inj (c ∷ s) [] b e = let z : ◌≡◌ {A = ℕ} 0 1 = cc in absurd (omega arith)
codes_inj (c ∷ s) (d ∷ t) b e =
    let p : code_of c ≡ code_of d = cc in
    let q : codes_of s ≡ codes_of t = cc in
    ap₂ (λ (x : ℕ) (xs : List ℕ). x ∷ xs) (code_inj c d p b.0) (codes_inj s t b.1 q)

pub text_codes : (s : List ℕ) → Below 9 (codes_of s) → text_of (codes_of s) ≡ s
text_codes [] b = refl
text_codes (c ∷ s) b = ap₂ (λ (x : ℕ) (xs : List ℕ). x ∷ xs) (letter_code c b.0) (text_codes s b.1)

pub codes_text : (cs : List ℕ) → Below 9 cs → codes_of (text_of cs) ≡ cs
codes_text [] b = refl
codes_text (c ∷ cs) b = ap₂ (λ (x : ℕ) (xs : List ℕ). x ∷ xs) (code_letter c b.0) (codes_text cs b.1)

pub text_inj : (cs ds : List ℕ) → Below 9 cs → Below 9 ds → text_of cs ≡ text_of ds → cs ≡ ds
text_inj cs ds b d e = sym (codes_text cs b) ∙ ap (λ (s : List ℕ). codes_of s) e ∙ codes_text ds d

-- ---- foreign bytes

pub all_below_lem : (cs : List ℕ) → has_no_code cs ≡ false → Below 9 cs
all_below_lem cs = none_from 9 cs

pub none_foreign : (cs : List ℕ) → Below 9 cs → has_no_code cs ≡ false
none_foreign cs = below_none 9 cs

-- ---- small letters

pub fold_low : (c : ℕ) → c < 65 → fold c ≡ c
unfolding fold
fold_low c h = simp (lt-leb 65 c h)

pub fold_high : (c : ℕ) → 90 < c → fold c ≡ c
unfolding fold
fold_high c h = simp (le-leb 65 c (omega arith), lt-leb c 90 h)

pub fold_capital : (c : ℕ) → 65 ≤ c → c ≤ 90 → fold c ≡ c + 32
unfolding fold
fold_capital c h k = simp (le-leb 65 c h, le-leb c 90 k)

pub fold_fold : (c : ℕ) → fold (fold c) ≡ fold c
fold_fold c =
    by_le 65 c
    (λ lo. by_le c 90 (λ hi. rw (fold_capital c lo hi) (fold_high (c + 32) (omega arith))) (λ hi. rw (fold_high c hi) (fold_high c hi)))
    (λ lo. rw (fold_low c lo) (fold_low c lo))

-- a letter is small
pub fold_letter : (n : ℕ) → n < 9 → fold (letter_of n) ≡ letter_of n
unfolding letter_of fold
fold_letter n h = eqb→eq (fold (letter_of n)) (letter_of n) (at_below (λ (k : ℕ). eqb (fold (letter_of k)) (letter_of k)) 9 tt n h)

pub fold_text : (cs : List ℕ) → Below 9 cs → fold_all (text_of cs) ≡ text_of cs
fold_text [] b = refl
fold_text (c ∷ cs) b = ap₂ (λ (x : ℕ) (xs : List ℕ). x ∷ xs) (fold_letter c b.0) (fold_text cs b.1)

-- ---- the set of a code, and the least set of codes

pub set_two : (c : ℕ) → c < 2 → set_of c ≡ Two
unfolding set_of
set_two c h = simp (lt-ltb c 2 h)

pub set_four : (c : ℕ) → 2 ≤ c → c < 4 → set_of c ≡ Four
unfolding set_of
set_four c h k = simp (le-ltb c 2 h, lt-ltb c 4 k)

pub set_nine : (c : ℕ) → 4 ≤ c → set_of c ≡ Nine
unfolding set_of
set_nine c h = simp (le-ltb c 2 (omega arith), le-ltb c 4 h)

-- a number by its set
pub by_set : {P : Type 0} (c : ℕ) → (c < 2 → P) → (2 ≤ c → c < 4 → P) → (4 ≤ c → P) → P
by_set c f g k = by_le 4 c k (λ h. by_le 2 c (λ l. g l h) f)

-- a code lies within its set
pub set_holds : (c : ℕ) → c < 9 → c < 2 ^ bits_of (set_of c)
set_holds c h =
    by_set c (λ l. rw (set_two c l) (omega arith)) (λ l m. rw (set_four c l m) (omega arith)) (λ l. rw (set_nine c l) (omega arith))

-- so do codes within every set that is no smaller than their least
pub under_by : (N : States) (cs : List ℕ) → Below 9 cs → mark_of (least_of cs) ≤ mark_of N → Below (2 ^ bits_of N) cs
unfolding join_all
under_by N [] b h = tt
under_by N (c ∷ cs) b h = (
  lt_of_lt_of_le (set_holds c b.0) (pow_mono (bits_up (set_of c) N (omega (arith, mark_join (set_of c) (least_of cs))))),
  under_by N cs b.1 (omega (arith, mark_join (set_of c) (least_of cs))),
)

pub under : (cs : List ℕ) → Below 9 cs → Below (2 ^ bits_of (least_of cs)) cs
under cs b = under_by (least_of cs) cs b (omega arith)

-- ---- the characters of a string, one after the other

-- the codes of a string, one more
pub codes_more : (s : List ℕ) (i : ℕ) → i < length s
    → codes_of (fold_all (take (i + 1) s)) ≡ codes_of (fold_all (take i s)) ++ (code_of (fold (get_or s i 0)) ∷ [])
codes_more s i h =
    rw (add-one, take-suc s i 0)
    (ap (λ (l : List ℕ). codes_of l) (map-append fold (take i s) (get_or s i 0 ∷ []))
    ∙ map-append code_of (fold_all (take i s)) (fold (get_or s i 0) ∷ []))

pub least_states_lem : (s : List ℕ) → Below 9 (codes_of (fold_all s)) → least_states s ≡ Some (least_of (codes_of (fold_all s)))
unfolding least_states
least_states_lem s b = rw (none_foreign (codes_of (fold_all s)) b)
