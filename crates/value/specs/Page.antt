-- Document 02, "Letters in the order of the page": "the order of the standard's own list, U X 0 1 Z W L H -, then the small letters".
-- Assumes nothing.
use Rattle.std.specs.Prelude.{ℕ, cond, List, [], ◌∷◌, eqb}
use Prim.Native.Char.{Char, code}

-- a letter and its code
infix 80 ◌is◌
pub data Line : Type 0 where
  ◌is◌ : Char → ℕ → Line

abbrev pub page : List Line
page =
    "U" is 5 ∷ "X" is 2 ∷ "0" is 0 ∷ "1" is 1 ∷ "Z" is 3 ∷ "W" is 6 ∷ "L" is 7 ∷ "H" is 4 ∷ "-" is 8
    ∷ "u" is 5 ∷ "x" is 2 ∷ "z" is 3 ∷ "w" is 6 ∷ "l" is 7 ∷ "h" is 4 ∷ []

-- the code of a byte by some lines, that of the first one with its letter; 9, which is no code, where none has it
unfoldable pub code_on : List Line → ℕ → ℕ
code_on [] c = 9
code_on (l is n ∷ lines) c = cond (eqb (code l) c) n (code_on lines c)
