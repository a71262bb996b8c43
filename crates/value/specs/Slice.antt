-- Lent slices as lists: a part of one, one with other elements in a part, tests over all elements.
-- Assumes nothing.
use Rattle.std.specs.Prelude.{ℕ, ◌+◌, Bool, true, false, ◌&&◌, ◌||◌, List, [], ◌∷◌, ◌++◌, eqb, length, take, drop}

-- n elements from a start
unfoldable pub part : {A : Type 0} → ℕ → ℕ → List A → List A
part start n l = take n (drop start l)

-- a list with other elements from a start on, and nothing else altered
unfoldable pub overlay : {A : Type 0} → List A → ℕ → List A → List A
overlay l start new = take start l ++ (new ++ drop (start + length new) l)

-- equal elements in equal number
unfoldable pub same : List ℕ → List ℕ → Bool
same [] [] = true
same [] (y ∷ ys) = false
same (x ∷ xs) [] = false
same (x ∷ xs) (y ∷ ys) = eqb x y && same xs ys

-- a test that holds of an element
unfoldable pub any : {A : Type 0} → (A → Bool) → List A → Bool
any test [] = false
any test (x ∷ xs) = test x || any test xs

unfoldable pub sum : List ℕ → ℕ
sum [] = 0
sum (x ∷ xs) = x + sum xs
