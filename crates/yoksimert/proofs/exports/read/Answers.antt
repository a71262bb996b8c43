-- `yoksimert::exports::read` meets its contract.
-- Assumes nothing.
use mathlib.Core.Path.{sym, ap, ◌∙◌}
use Prim.Native.Nat.{◌+◌, ◌*◌, ◌≤◌}
use native.Mathlib.Omega.{arith}
use lib.ListN.{length}
use Rattle.fst.specs.Refusal.{told_by}
use Rattle.signal.specs.Read.{is_entry}
use Rattle.yoksimert.proofs.Places.{placed}
use Rattle.yoksimert.proofs.exports.read.Goals.{In_ok-answer}
use Rattle.yoksimert.proofs.exports.read.Goals as goal

-- the entry lies within the bytes, and its part is no longer than it
at : (c : In_ok-answer) → (let a = c.args in
    let z = c.size-size.result in
    (a.byte_start + (a.entry * z + z) ≤ length a.bytes.now) × (length c.in_ok-answer.answer.part.now ≤ z))
at c =
    let a = c.args in
    let p = placed _ a.bytes.now a.byte_start a.entry _ (sym c.read_entry.ensures ∙ ap (told_by is_entry) c.in_ok-answer.was) in
    rw c.size-size.ensures (p.inside, p.short)

pub overflow_mul-end : goal.overflow_mul-end
overflow_mul-end c = omega (arith, (at (goal.at.overflow_mul-end c).In_ok-answer).0)

pub overflow_add-end : goal.overflow_add-end
overflow_add-end c = omega (arith, (at (goal.at.overflow_add-end c).In_ok-answer).0)

pub overflow_add-end-2 : goal.overflow_add-end-2
overflow_add-end-2 c = omega (arith, (at (goal.at.overflow_add-end-2 c).In_ok-answer).0)

pub overflow_sub-result : goal.overflow_sub-result
overflow_sub-result c =
    let past = at (goal.at.overflow_sub-result c).In_ok-answer in
    omega (arith, past.0, past.1)
