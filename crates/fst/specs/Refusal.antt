-- The numbers of documents 01 and 02, and "In each operation the numbers are tried in the order written".
-- Assumes nothing.
use Rattle.std.specs.Prelude.{ℕ, Bool, true, false, List, [], ◌∷◌, Result, Ok, Err}
use Rattle.fst.specs.declared.Refusal.{Refusal}
use Rattle.fst.specs.declared.Refusal.TheVariants as refusal

abbrev pub refusal_number : Refusal → ℕ
refusal_number refusal.WidthTooLarge = 1
refusal_number refusal.BadRecord = 2
refusal_number refusal.WrongKind = 3
refusal_number refusal.WrongLength = 4
refusal_number refusal.ForeignCharacter = 5
refusal_number refusal.IndexBelowLast = 6
refusal_number refusal.NoRoom = 7
refusal_number refusal.NoSuchEntry = 8
refusal_number refusal.BadMark = 9
refusal_number refusal.BadCode = 10
refusal_number refusal.IndexFalls = 11
refusal_number refusal.BadRange = 12
refusal_number refusal.DerivationFull = 13
refusal_number refusal.BadDerivation = 14
refusal_number refusal.LateInput = 15
refusal_number refusal.WrongWidth = 16
refusal_number refusal.NotBinary = 17
refusal_number refusal.NotDecimal = 18

-- 0 is no refusal
abbrev pub number_of : Result Unit Refusal → ℕ
number_of (Ok _) = 0
number_of (Err r) = refusal_number r

-- a reply: the number of a refusal, or what was asked for
pub data Reply (A : Type 0) : Type 0 where
  refused : ℕ → Reply A
  given : A → Reply A

-- a number and the test for it
infix 80 ◌⇐◌
pub data Test : Type 0 where
  ◌⇐◌ : ℕ → Bool → Test

-- the first number whose test holds, or else the reply behind the tests
unfoldable pub tried : {A : Type 0} → List Test → Reply A → Reply A
tried [] r = r
tried ((n ⇐ true) ∷ tests) r = refused n
tried ((n ⇐ false) ∷ tests) r = tried tests r

-- what a call leaves: its number, 0 where it is accepted, and the state
pub record Outcome (A : Type 0) : Type 0 where
  pub refused : ℕ
  pub left : A

-- "On every refusal the number comes back, .. and recorder, derivation and slices are unchanged"
abbrev pub outcome : {A : Type 0} → A → Reply A → Outcome A
outcome old (refused n) = record { refused = n; left = old }
outcome old (given new) = record { refused = 0; left = new }

-- the answer of a call, by number and by what a function makes of the value
abbrev pub told_by : {A B : Type 0} → (A → B) → Result A Refusal → Reply B
told_by f (Ok v) = given (f v)
told_by f (Err r) = refused (refusal_number r)

-- by number and value
abbrev pub told : {A : Type 0} → Result A Refusal → Reply A
told r = told_by (λ v. v) r
