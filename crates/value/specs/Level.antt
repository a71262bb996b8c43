-- Document 01, "A level", and L of "An entry".
-- Assumes nothing.
use Rattle.std.specs.Prelude.{ℕ, zero, suc, ◌+◌, ◌/◌, Bool, cond, ◌&&◌, List, [], ◌∷◌, map, eqb, leb, ltb, get_or}
use Rattle.value.specs.declared.States.{States}
use Rattle.value.specs.declared.States.TheVariants.{Two, Four, Nine}
use Rattle.value.specs.Text.{chars}
use Rattle.value.specs.Slice.{any}

-- "Codes 0 to 8 are 0 1 x z h u w l -"
abbrev pub letters : List ℕ
letters = chars "01xzhuwl-"

-- the first place of a number in a list, and the list's length where it has none
unfoldable pub place_in : List ℕ → ℕ → ℕ
place_in [] c = 0
place_in (l ∷ ls) c = cond (eqb l c) 0 (suc (place_in ls c))

-- the code of a small letter; "Other bytes are foreign", and have none below 9
unfoldable pub code_of : ℕ → ℕ
code_of c = place_in letters c

-- the letter of a code
unfoldable pub letter_of : ℕ → ℕ
letter_of n = get_or letters n 0

-- "Capital letters fold to small"
unfoldable pub fold : ℕ → ℕ
fold c = cond (leb 65 c && leb c 90) (c + 32) c

-- a string in small letters, its codes, and the string of codes
abbrev pub fold_all : List ℕ → List ℕ
fold_all s = map fold s

abbrev pub codes_of : List ℕ → List ℕ
codes_of s = map code_of s

abbrev pub text_of : List ℕ → List ℕ
text_of cs = map letter_of cs

-- "Two (mark 0, 1 bit a level, codes 0-1), Four (mark 1, 2 bits, codes 0-3), Nine (mark 2, 4 bits, codes 0-8)"
abbrev pub mark_of : States → ℕ
mark_of Two = 0
mark_of Four = 1
mark_of Nine = 2

abbrev pub bits_of : States → ℕ
bits_of Two = 1
bits_of Four = 2
bits_of Nine = 4

abbrev pub codes_in : States → ℕ
codes_in Two = 2
codes_in Four = 4
codes_in Nine = 9

-- does a number stand for no level, and does a list have such a number
abbrev pub is_no_code : ℕ → Bool
is_no_code n = leb (codes_in Nine) n

abbrev pub has_no_code : List ℕ → Bool
has_no_code cs = any is_no_code cs

-- the set of a mark; 3 is none's
abbrev pub set_at : ℕ → States
set_at zero = Two
set_at (suc zero) = Four
set_at (suc (suc m)) = Nine

-- the larger of two sets
abbrev pub join : States → States → States
join Two b = b
join Four Two = Four
join Four Four = Four
join Four Nine = Nine
join Nine b = Nine

-- the smallest set that holds a code
unfoldable pub set_of : ℕ → States
set_of c = cond (ltb c (codes_in Two)) Two (cond (ltb c (codes_in Four)) Four Nine)

-- the largest of some sets, and Two of none
unfoldable pub join_all : List States → States
join_all [] = Two
join_all (s ∷ l) = join s (join_all l)

-- "A string's least set is the smallest that holds all its codes"
abbrev pub least_of : List ℕ → States
least_of cs = join_all (map set_of cs)

-- "For width w a set needs L bytes: (w+7)/8, (w+3)/4 or (w+1)/2, rounded down"
abbrev pub len_of : ℕ → States → ℕ
len_of w Two = (w + 7) / 8
len_of w Four = (w + 3) / 4
len_of w Nine = (w + 1) / 2
