-- What an input shows: its own set, the bytes of its levels, the levels that a piece picks.
-- Assumes nothing.
use Prim.Native.Nat.{◌^◌, ◌≤◌, ℕ}
use borrow.Author.Tests.{ltb-false}
use lib.ListN.{length}
use mathlib.Core.Bool.{false, true≢false}
use mathlib.Core.List.{List}
use mathlib.Core.Path.{◌≡◌, refl}
use native.Mathlib.Omega.{arith}
use Rattle.value.specs.Digits.{Below}
use Rattle.value.specs.Level.{bits_of, mark_of, set_at}
use Rattle.value.proofs.Digits.{digits_length}
use Rattle.value.proofs.Levels.{mark_set, mark_small}
use Rattle.fst.specs.Record.{has_no_text, largest_in, width_of}
use Rattle.fst.specs.declared.Encoding.{Encoding}
use Rattle.fst.specs.declared.Encoding.TheVariants.{BitVector, Event, Real}
use Rattle.signal.specs.Decode.{has_bad_mark, levels_in, mark_in, set_in}
use Rattle.signal.proofs.Decoding.{codes_below}

pub levels_length : (e : Encoding) (v : List ℕ) → length (levels_in e v) ≡ width_of e
unfolding levels_in
levels_length Event v = refl
levels_length Real v = refl
levels_length (BitVector w M) v = digits_length _ w _

-- an entry's levels are its set's
pub levels_below : (e : Encoding) (v : List ℕ) → Below (2 ^ bits_of (set_in e v)) (levels_in e v)
unfolding levels_in set_in
levels_below Event v = tt
levels_below Real v = tt
levels_below (BitVector w M) v = codes_below w (set_at (mark_in M v)) _

-- the set of an entry whose mark is a set's is within the largest
pub mark_within : (x : Encoding) (v : List ℕ) → has_bad_mark x v ≡ false → mark_of (set_in x v) ≤ mark_of (largest_in x)
unfolding has_bad_mark set_in
mark_within Event v h = omega arith
mark_within Real v h = omega arith
mark_within (BitVector w M) v h =
    let m : mark_in M v ≤ mark_of M = ltb-false (mark_of M) (mark_in M v) h in
    omega (arith, mark_set (mark_in M v) (omega (arith, mark_small M)))

-- the encoding of a bit vector by its width and its largest set
pub vector_is : (e : Encoding) → has_no_text e ≡ false → e ≡ BitVector (width_of e) (largest_in e)
unfolding has_no_text
vector_is Event t = absurd (true≢false t)
vector_is Real t = absurd (true≢false t)
vector_is (BitVector w M) t = refl
