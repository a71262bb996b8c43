-- Search: Look up in a list that is known not to fall. Quartering, which is halving twice at once, finds something in every list, and this is
-- what.
-- Assumes nothing.
use Rattle.std.specs.Prelude.{ℕ, zero, suc, ◌+◌, ◌-◌, ◌*◌, ◌/◌, cond, ◌&&◌, List, [], ◌∷◌, eqb, leb, ltb, length, get_or, drop, Option, Some, None}
use Rattle.value.specs.Slice.{part}
use Rattle.fst.specs.Refusal.{Reply, given, ◌⇐◌, tried}
use Rattle.fst.specs.Record.{maximum}
use Rattle.offset.specs.declared.DataOffset.{DataOffset}
use Rattle.offset.specs.Offset.{head_of}

-- how many indices are not above a sought one
unfoldable pub not_above : ℕ → List ℕ → ℕ
not_above s [] = 0
not_above s (i ∷ l) = cond (leb i s) (suc (not_above s l)) (not_above s l)

-- the last indices of a list's first three quarters, each rounded down
abbrev pub ends : List ℕ → List ℕ
ends l =
    let quarter = length l / 4 in
    get_or l (quarter - 1) 0 ∷ get_or l (2 * quarter - 1) 0 ∷ get_or l (3 * quarter - 1) 0 ∷ []

-- how many are not above, by at most n quarterings: up to 16 indices are counted; of more, as many quarters are passed as have an end that is
-- not above, and so many indices are looked at as three quarters leave
unfoldable pub quartered : ℕ → ℕ → List ℕ → ℕ
quartered zero s l = not_above s l
quartered (suc n) s l =
    let quarter = length l / 4 in
    let passed = not_above s (ends l) * quarter in
    cond (leb (length l) 16) (not_above s l) (passed + quartered n s (part passed (length l - 3 * quarter) l))

-- by as many as it takes
unfoldable pub rank : ℕ → List ℕ → ℕ
rank s l = quartered (length l) s l

-- in how many indices the run of i is looked for that ends at a place: n, or 8 times as many, and so on, at most k times, until another index
-- or none stands in front of so many
unfoldable pub reach_of : ℕ → ℕ → ℕ → List ℕ → ℕ → ℕ
reach_of zero n i l end = n
reach_of (suc k) n i l end = cond (ltb n end && eqb (get_or l (end - (n + 1)) 0) i) (reach_of k (n * 8) i l end) n

-- where that run begins: behind the smaller ones of so many indices, of which 0 has none. Those behind the run's end are no smaller, unless
-- one falls.
unfoldable pub start_of : ℕ → List ℕ → ℕ → ℕ
start_of zero l end = 0
start_of (suc i) l end =
    let n = reach_of end 1 (suc i) l end in
    end - n + rank i (part (end - n) n l)

-- the answer of a rank: none, or the run that ends there
unfoldable pub run_up_to : ℕ → List ℕ → ℕ → Option DataOffset
run_up_to s l zero = None
run_up_to s l (suc last) =
    let i = get_or l last 0 in
    let end = suc last in
    let start = start_of i l end in
    Some (record { start = start; elements = end - start; time_match = eqb i s; next_index = head_of (drop end l) })

-- "2: list above the maximum". No index is tried for 11.
unfoldable pub search : List ℕ → ℕ → Reply (Option DataOffset)
search indices sought = tried (2 ⇐ ltb maximum (length indices) ∷ []) (given (run_up_to sought indices (rank sought indices)))
