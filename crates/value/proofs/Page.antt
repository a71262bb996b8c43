-- The page gives each byte its code.
-- Assumes nothing.
use mathlib.Core.Path.{◌≡◌, refl, sym}
use mathlib.Core.List.{List, [], ◌∷◌}
use Prim.Native.Nat.{ℕ, ◌<◌}
use Prim.Native.Char.{code}
use borrow.Author.Tests.{eqb-true, ne_eqb}
use lib.Dec.{eqb}
use Rattle.std.specs.Prelude.{None}
use Rattle.value.specs.Level.{code_of, fold, place_in}
use Rattle.value.specs.Page.{Line, ◌is◌, page, code_on}
use Rattle.value.specs.Answer.{char_code}
use Rattle.value.proofs.Tests.{from_t, at_below}

-- "The same bytes get the same codes", computed at each of them
pub same_codes : (c : ℕ) → c < 256 → code_on page c ≡ code_of (fold c)
unfolding code_on code_of place_in fold
same_codes c h = eqb-true (code_on page c) (code_of (fold c)) (from_t _ (at_below (λ (n : ℕ). eqb (code_on page n) (code_of (fold n))) 256 tt c h))

-- no line has the byte: what a match with an arm for each line leaves to its last arm
abbrev NoneIn : Type 0 → List Line → ℕ → Type 0
NoneIn N [] c = N
NoneIn N (l is n ∷ lines) c = NoneIn (N × (c ≡ code l → ⊥)) lines c

off : {N : Type 0} (c : ℕ) (lines : List Line) → NoneIn N lines c → N × (code_on lines c ≡ 9)
unfolding code_on
off c [] none = (none, refl)
off c (l is n ∷ lines) none = let (before, rest) = off c lines none in (before.0, rw (ne_eqb (code l) c (λ e. before.1 (sym e))) rest)

pub off_page : (c : ℕ) → c < 256 → NoneIn Unit page c → None ≡ char_code c
unfolding char_code
off_page c h none = rw (← same_codes c h, (off c page none).1)
