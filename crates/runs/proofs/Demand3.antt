-- Demand 3, for every width of a bit-vector record.
-- Assumes nothing.
use mathlib.Core.Path.{◌≡◌}
use mathlib.Core.Logic.{◌↔◌}
use Prim.Native.Nat.{ℕ, zero, suc, ◌≤◌}
use native.Mathlib.Omega.{arith}
use mathlib.Core.List.{List}
use lib.ListN.{length}
use borrow.Author.Tests.{le-ltb}
use Rattle.fst.specs.Refusal.{given}
use Rattle.fst.specs.Record.{max_width, kept_of, empty, encoding_for, fresh}
use Rattle.runs.specs.Runs.{by_value, Call, Run, fresh_held, after, fed, history_of, history_laid_out, Same}
use Rattle.fst.proofs.Refusals.{passes}
use Rattle.layout.proofs.Entries.{laws}
use Rattle.runs.proofs.Runs as runs

-- "A run starts with the description that Fresh gives for a width of 1 to 4,096"
pub fresh_gives : (w : ℕ) → 1 ≤ w → w ≤ max_width → fresh w ≡ given (fresh_held w).description
unfolding fresh
fresh_gives zero a b = absurd (omega arith)
fresh_gives (suc w) a b = passes (given (empty (encoding_for (suc w)))) _ (le-ltb max_width (suc w) b, tt)

-- "After every run the record is its history laid out"
pub run_is_laid_out : (w : ℕ) → 1 ≤ w → (calls : List Call) → Run by_value (fresh_held w) calls
    → kept_of (after by_value (fresh_held w) calls) ≡ history_laid_out w (history_of (fed by_value (fresh_held w) calls))
run_is_laid_out w h calls r = runs.layout w (laws w h) calls r

-- "The count is the number of pairs"
pub run_counts : (w : ℕ) → 1 ≤ w → (calls : List Call) → Run by_value (fresh_held w) calls
    → (after by_value (fresh_held w) calls).description.count ≡ length (history_of (fed by_value (fresh_held w) calls))
run_counts w h calls r = runs.counts w (laws w h) calls r

-- two runs of one width leave equal records just where their histories are equal
pub demand_3 : (w : ℕ) → 1 ≤ w → (xs ys : List Call) → Run by_value (fresh_held w) xs → Run by_value (fresh_held w) ys
    → Same by_value (after by_value (fresh_held w) xs) (after by_value (fresh_held w) ys) ↔ (history_of (fed by_value (fresh_held w) xs) ≡ history_of (fed by_value (fresh_held w) ys))
demand_3 w h xs ys r q = runs.demand3 w (laws w h) xs ys r q
