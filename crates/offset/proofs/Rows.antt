-- Rows 9 to 11 of document 01, by computation over the definitions.
-- Assumes nothing.
use mathlib.Core.Path.{◌≡◌, refl}
use Prim.Native.Nat.{ℕ}
use mathlib.Core.Bool.{Bool, true, false}
use mathlib.Core.List.{List, [], ◌∷◌}
use Rattle.value.specs.Level.{place_in}
use Rattle.fst.specs.Refusal.{given, tried}
use Rattle.std.specs.Prelude.{Option, Some, None}
use Rattle.offset.specs.declared.DataOffset.{DataOffset}
use Rattle.offset.specs.Offset.{falls, greatest, run_of, place_of, place, look_up}

-- a list, a sought index and the answer
pub record Sought : Type 0 where
  pub indices : List ℕ
  pub index : ℕ
  pub found : Option DataOffset

unfoldable pub Finds : Sought → Type 0
Finds s = look_up s.indices s.index ≡ given s.found

unfoldable pub AllFind : List Sought → Type 0
AllFind [] = Unit
AllFind (s ∷ l) = Finds s × AllFind l

abbrev place_at : ℕ → ℕ → Bool → Option ℕ → Option DataOffset
place_at start n equal next = Some (record { start = start; elements = n; time_match = equal; next_index = next })

abbrev pub rows : List Sought
rows =
    -- 9. indices 0 5 5 9, seek 6: start 1, two, unequal, next 9
    record { indices = 0 ∷ 5 ∷ 5 ∷ 9 ∷ []; index = 6; found = place_at 1 2 false (Some 9) }
    -- 10. seek 9: start 3, one, equal, absent
    ∷ record { indices = 0 ∷ 5 ∷ 5 ∷ 9 ∷ []; index = 9; found = place_at 3 1 true None }
    -- 11. index 3 alone, seek 2: none
    ∷ record { indices = 3 ∷ []; index = 2; found = None }
    ∷ []

pub rows_hold : AllFind rows
unfolding Finds AllFind tried place_in falls greatest run_of place_of place look_up
rows_hold = (refl, (refl, (refl, tt)))
