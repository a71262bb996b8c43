-- Characters as the numbers of their bytes.
-- Assumes nothing.
use Rattle.std.specs.Prelude.{ℕ, List, [], ◌∷◌}
use Prim.Native.Char.{code}
use Prim.Native.String.{String, [] as none, ◌∷◌ as ◌then◌}

abbrev pub chars : String → List ℕ
chars none = []
chars (c then s) = code c ∷ chars s
