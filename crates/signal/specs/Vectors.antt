-- Inner: an entry of a bit vector by its encoding and its bytes.
-- Assumes nothing.
use Rattle.std.specs.Prelude.{List, ℕ}
use Rattle.fst.specs.declared.Encoding.{Encoding}
use Rattle.fst.specs.declared.Encoding.TheVariants.{BitVector}
use Rattle.signal.specs.declared.decode.Vector.{Vector}

abbrev pub is_vector : Vector → Encoding × List ℕ
is_vector v = (BitVector v.width v.max_states, v.bytes.now)
