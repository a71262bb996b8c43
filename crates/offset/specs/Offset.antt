-- Document 01, "Look up (get_offset)", with document 02's E2.
-- Assumes nothing.
use Rattle.std.specs.Prelude.{ℕ, suc, ◌+◌, max, Bool, false, cond, ◌||◌, List, [], ◌∷◌, eqb, leb, ltb, length, drop, Option, Some, None}
use Rattle.value.specs.Level.{place_in}
use Rattle.fst.specs.Refusal.{Reply, given, ◌⇐◌, tried}
use Rattle.fst.specs.Record.{maximum}
use Rattle.offset.specs.declared.DataOffset.{DataOffset}

-- "11: an index falls"
unfoldable pub falls : List ℕ → Bool
falls [] = false
falls (i ∷ []) = false
falls (i ∷ j ∷ l) = ltb j i || falls (j ∷ l)

-- "the greatest index not above it"
unfoldable pub greatest : ℕ → List ℕ → ℕ
greatest sought [] = 0
greatest sought (i ∷ l) = cond (leb i sought) (max i (greatest sought l)) (greatest sought l)

-- "the number of entries from there on that carry the same time index"
unfoldable pub run_of : ℕ → List ℕ → ℕ
run_of i [] = 0
run_of i (j ∷ l) = cond (eqb i j) (suc (run_of i l)) 0

-- "the next greater index, or absent": the index behind the run
abbrev pub head_of : List ℕ → Option ℕ
head_of [] = None
head_of (i ∷ l) = Some i

-- for the greatest index not above the sought one: "start, its first entry; the number of entries ..; whether it equals the sought one; the
-- next greater index, or absent"; E2: "The number of entries in a lookup answer .. is the true count"
unfoldable pub place_of : ℕ → List ℕ → DataOffset
place_of sought l =
    let i = greatest sought l in
    let start = place_in l i in
    let n = run_of i (drop start l) in
    record { start = start; elements = n; time_match = eqb i sought; next_index = head_of (drop (start + n) l) }

-- "The answer is none exactly when the list is empty or its first index exceeds the sought one"
unfoldable pub place : ℕ → List ℕ → Option DataOffset
place sought [] = None
place sought (i ∷ l) = cond (ltb sought i) None (Some (place_of sought (i ∷ l)))

-- "2: list above the maximum. 11: an index falls"
unfoldable pub look_up : List ℕ → ℕ → Reply (Option DataOffset)
look_up indices sought = tried (2 ⇐ ltb maximum (length indices) ∷ 11 ⇐ falls indices ∷ []) (given (place sought indices))
