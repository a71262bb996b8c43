-- The codes, the letters, the sets and their bytes, by computation over the definitions.
-- Assumes nothing.
use Prim.Native.Nat.{ℕ}
use Prim.Native.Char.{code}
use mathlib.Core.Path.{◌≡◌, refl}
use mathlib.Core.List.{[], ◌∷◌, map}
use Rattle.value.specs.declared.States.TheVariants.{Two, Four, Nine}
use Rattle.value.specs.Text.{chars}
use Rattle.value.specs.Page.{Line, ◌is◌, page, code_on}
use Rattle.value.specs.Digits.{number}
use Rattle.value.specs.Answer.{level_at}
use Rattle.value.specs.Level.{place_in, code_of, letter_of, fold, fold_all, codes_of, text_of, set_of, least_of, len_of, join_all}

-- every letter of the two standards, small and capital, and bytes beside them that are foreign
codes :
    (codes_of (fold_all (chars "01xzhuwl-")) ≡ 0 ∷ 1 ∷ 2 ∷ 3 ∷ 4 ∷ 5 ∷ 6 ∷ 7 ∷ 8 ∷ [])
    × (codes_of (fold_all (chars "XZHUWL")) ≡ 2 ∷ 3 ∷ 4 ∷ 5 ∷ 6 ∷ 7 ∷ [])
    × (codes_of (fold_all (chars "/2ay_@[`{")) ≡ 9 ∷ 9 ∷ 9 ∷ 9 ∷ 9 ∷ 9 ∷ 9 ∷ 9 ∷ 9 ∷ [])
    × (text_of (0 ∷ 1 ∷ 2 ∷ 3 ∷ 4 ∷ 5 ∷ 6 ∷ 7 ∷ 8 ∷ []) ≡ chars "01xzhuwl-")
unfolding place_in code_of letter_of fold
codes = (refl, refl, refl, refl)

letter_in : Line → ℕ
letter_in (l is n) = code l

code_in : Line → ℕ
code_in (l is n) = n

-- the letters of the page in their order, what their codes stand for, and bytes that are not on it
page_read :
    (map letter_in page ≡ chars "UX01ZWLH-uxzwlh")
    × (text_of (map code_in page) ≡ chars "ux01zwlh-uxzwlh")
    × (map (code_on page) (chars "UX01ZWLH-") ≡ 5 ∷ 2 ∷ 0 ∷ 1 ∷ 3 ∷ 6 ∷ 7 ∷ 4 ∷ 8 ∷ [])
    × (map (code_on page) (chars "/2ay_@[`{") ≡ 9 ∷ 9 ∷ 9 ∷ 9 ∷ 9 ∷ 9 ∷ 9 ∷ 9 ∷ 9 ∷ [])
unfolding code_on letter_of letter_in code_in
page_read = (refl, refl, refl, refl)

sets :
    (least_of (codes_of (chars "0110")) ≡ Two)
    × (least_of (codes_of (chars "01x0")) ≡ Four)
    × (least_of (codes_of (chars "z")) ≡ Four)
    × (least_of (codes_of (chars "01h0x")) ≡ Nine)
    × (least_of [] ≡ Two)
unfolding place_in code_of set_of join_all
sets = (refl, refl, refl, refl, refl)

lengths : (len_of 9 Two ≡ 2) × (len_of 9 Four ≡ 3) × (len_of 9 Nine ≡ 5) × (len_of 8 Two ≡ 1) × (len_of 8 Four ≡ 2) × (len_of 8 Nine ≡ 4)
lengths = (refl, refl, refl, refl, refl, refl)

-- a level read, the first of eight, of four and of two in a byte
levels : (level_at 1 7 (128 ∷ []) ≡ 1) × (level_at 2 3 (128 ∷ []) ≡ 2) × (level_at 4 1 (128 ∷ 248 ∷ []) ≡ 15) × (level_at 1 9 (2 ∷ 0 ∷ []) ≡ 1)
unfolding number
levels = (refl, refl, refl, refl)
