-- The room that entries need, from facts on numbers.
-- Assumes nothing.
use Prim.Native.Nat.{◌*◌, ◌<◌, ◌≤◌, ℕ}
use borrow.Author.Tests.{le-leb, lt-leb}
use lib.Dec.{leb, leb→le}
use mathlib.Core.Bool.{Bool, ◌&&◌, and-false, false, true}
use mathlib.Core.Path.{◌≡◌}
use native.Mathlib.Nat.{mul-le-mul_right}
use native.Mathlib.Omega.{arith}
use Rattle.value.proofs.Tests.{and_left, and_right, to_t}
use Rattle.fst.specs.Record.{maximum}
use Rattle.steps.specs.Room.{room_for}

module _ (count size bytes indices : ℕ) where
  abbrev pub room : Bool
  room = room_for count size bytes indices

  pub many : maximum < count → false ≡ room
  many h = rw (lt-leb count maximum h)

  pub past_bytes : bytes < count * size → false ≡ room
  past_bytes h = rw (lt-leb (count * size) bytes h, and-false (leb count maximum))

  pub roomy : count ≤ maximum → count * size ≤ bytes → leb count indices ≡ room
  roomy a b = rw (le-leb count maximum a, le-leb (count * size) bytes b)

-- room for more is room for fewer
pub room_fewer : (n m size bytes indices : ℕ) → n ≤ m → room_for m size bytes indices ≡ true → room_for n size bytes indices ≡ true
room_fewer n m size bytes indices h e =
    let both = to_t _ e in
    let first = and_left (leb m maximum && leb (m * size) bytes) _ both in
    let a = leb→le m maximum (and_left (leb m maximum) _ first) in
    let b = leb→le (m * size) bytes (and_right (leb m maximum) _ first) in
    let c = leb→le m indices (and_right (leb m maximum && leb (m * size) bytes) _ both) in
    let p : n * size ≤ m * size = mul-le-mul_right size h in
    rw (le-leb n maximum (omega arith), le-leb (n * size) bytes (omega arith), le-leb n indices (omega arith))
