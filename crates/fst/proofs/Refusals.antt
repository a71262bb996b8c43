-- What `tried` replies: the reply behind the tests where each passes, or else a number.
-- Assumes nothing.
use mathlib.Core.Path.{◌≡◌, refl, sym, subst}
use Prim.Native.Nat.{ℕ, zero, suc, ◌<◌}
use native.Mathlib.Omega.{arith}
use mathlib.Core.Bool.{Bool, true, false, true≢false, ◌&&◌}
use mathlib.Core.Logic.{inl, inr}
use mathlib.Core.List.{List, [], ◌∷◌, ◌++◌}
use lib.Dec.{T, ltb, ltb→lt}
use denote.Enum.Declared.{Choice}
use denote.Struct.Field.{Field}
use Rattle.value.proofs.Tests.{and_left, and_right}
use Rattle.fst.specs.declared.Refusal.{Refusal}
use Rattle.fst.specs.Refusal.{refusal_number, Reply, refused, given, Test, ◌⇐◌, tried, outcome}
use Rattle.fst.specs.contracts.Refusal.{the_parts as parts, as_values, the_make as make, the_eta as eta}

-- ---- no refusal has number 0

-- a test of each variant of an enum, where no variant holds anything
abbrev every : (fs : List (List Field)) → (Choice fs → Bool) → Bool
every [] f = true
every ([] ∷ fs) f = f (inl tt) && every fs (λ c. f (inr c))
every ((x ∷ xs) ∷ fs) f = false

every_holds : (fs : List (List Field)) (f : Choice fs → Bool) → T (every fs f) → (c : Choice fs) → T (f c)
every_holds [] f t c = absurd c
every_holds ([] ∷ fs) f t (inl v) = and_left (f (inl tt)) (every fs (λ c. f (inr c))) t
every_holds ([] ∷ fs) f t (inr c) = every_holds fs (λ c. f (inr c)) (and_right (f (inl tt)) (every fs (λ c. f (inr c))) t) c
every_holds ((x ∷ xs) ∷ fs) f t c = absurd t

pub number_some : (r : Refusal) → 0 < refusal_number r
number_some r =
    subst (λ (r : Refusal). 0 < refusal_number r) (eta r)
    (ltb→lt 0 (refusal_number (make (as_values r))) (every_holds parts (λ c. ltb 0 (refusal_number (make c))) tt (as_values r)))

-- ---- what is tried

-- no test holds
abbrev pub Passed : List Test → Type 0
Passed [] = Unit
Passed ((n ⇐ b) ∷ l) = (b ≡ false) × Passed l

-- no number is 0, which stands for none
abbrev pub FromOne : List Test → Type 0
FromOne [] = Unit
FromOne ((zero ⇐ b) ∷ l) = ⊥
FromOne ((suc n ⇐ b) ∷ l) = FromOne l

module _ {A : Type 0} (r : Reply A) where
  -- either way, with the tests that passed or the number
  pub data Result (l : List Test) : Type 0 where
    through : Passed l → tried l r ≡ r → Result l
    stopped : (n : ℕ) → tried l r ≡ refused (suc n) → Result l

  pub result : (l : List Test) → FromOne l → Result l
  unfolding tried
  result [] u = through tt refl
  result ((zero ⇐ b) ∷ l) u = absurd u
  result ((suc n ⇐ true) ∷ l) u = stopped n refl
  result ((suc n ⇐ false) ∷ l) u = go (result l u)
    where
      go : Result l → Result ((suc n ⇐ false) ∷ l)
      go (through p e) = through (refl, p) e
      go (stopped m e) = stopped m e

  pub passes : (l : List Test) → Passed l → tried l r ≡ r
  unfolding tried
  passes [] p = refl
  passes ((n ⇐ true) ∷ l) p = absurd (true≢false p.0)
  passes ((n ⇐ false) ∷ l) p = passes l p.1

-- tests behind tests
pub tried_append : {A : Type 0} (xs ys : List Test) (r : Reply A) → tried (xs ++ ys) r ≡ tried xs (tried ys r)
unfolding tried
tried_append [] ys r = refl
tried_append ((n ⇐ true) ∷ xs) ys r = refl
tried_append ((n ⇐ false) ∷ xs) ys r = tried_append xs ys r

-- a refusal does not depend on what is behind the tests
pub tried_refused : {A B : Type 0} (l : List Test) (a : A) (r : Reply B) {n : ℕ} → tried l (given a) ≡ refused n → tried l r ≡ refused n
unfolding tried
tried_refused [] a r e = let z : ◌≡◌ {A = ℕ} 0 1 = cc in absurd (omega arith)
tried_refused ((m ⇐ true) ∷ l) a r {n} e = let z : m ≡ n = cc in rw z
tried_refused ((m ⇐ false) ∷ l) a r e = tried_refused l a r e

-- "On every refusal .. recorder, derivation and slices are unchanged"
pub refused_old : {A : Type 0} (l : List Test) → FromOne l → (old new : A) (n : ℕ)
    → (outcome old (tried l (given new))).refused ≡ suc n → (outcome old (tried l (given new))).left ≡ old
refused_old {A} l u old new n = go (result (given new) l u)
  where
    Stays : Reply A → Type 0
    Stays r = (outcome old r).refused ≡ suc n → (outcome old r).left ≡ old

    go : Result (given new) l → Stays (tried l (given new))
    go (through ps e) = subst Stays (sym e) (λ z. absurd (omega arith))
    go (stopped m e) = subst Stays (sym e) (λ z. refl)
