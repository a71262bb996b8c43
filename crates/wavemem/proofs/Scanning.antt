-- What the least set of a string says of its characters.
-- Assumes nothing.
use mathlib.Core.Path.{◌≡◌}
use mathlib.Core.List.{List}
use Prim.Native.Nat.{ℕ}
use Rattle.value.specs.declared.States.{States}
use Rattle.std.specs.Prelude.{Some}
use Rattle.value.specs.Level.{fold_all, codes_of}
use Rattle.value.specs.Answer.{least_states}
use Rattle.value.proofs.Classes.{least_told}
use Rattle.value.proofs.Levels.{all_below_lem}
use Rattle.value.proofs.Levels as levels
use Rattle.wavemem.specs.Packed.{Codes}

-- none is foreign, and each is of the set
pub codes_told : (v : List ℕ) (own : States) → least_states v ≡ Some own → Codes own (codes_of (fold_all v))
codes_told v own e =
    let t = least_told v own e in
    let b = all_below_lem (codes_of (fold_all v)) t.0 in
    record { known = b; below = rw t.1 (levels.under (codes_of (fold_all v)) b) }
