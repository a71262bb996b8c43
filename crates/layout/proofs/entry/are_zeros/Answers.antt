-- `layout::entry::are_zeros` meets its contract. Assumes nothing.
use mathlib.Core.Path.{◌≡◌, refl, ap, ◌∙◌}
use mathlib.Core.Bool.{Bool, ◌&&◌}
use mathlib.Core.List.{List, [], ◌∷◌}
use Prim.Native.Nat.{ℕ}
use lib.Dec.{eqb}
use lib.ListN.{length, replicate}
use Rattle.std.proofs.Common.{rules}
use Rattle.std.specs.List.{list_all}
use Rattle.std.proofs.lemmas.Iterator.{YieldsList-from_slice}
use Rattle.std.proofs.lemmas.Iterator.Search.{all_from_yields_List}
use Rattle.value.specs.Slice.{part, same}
use Rattle.value.proofs.Slices.{part_length}
use Rattle.layout.proofs.Blocks.{part_borrowed}
use Rattle.layout.proofs.entry.are_zeros.Goals as goal

zeros_same : (l : List ℕ) → list_all (λ x. eqb x 0) l ≡ same l (replicate (length l) 0)
unfolding same
zeros_same [] = refl
zeros_same (x ∷ l) = ap (λ (b : Bool). eqb x 0 && b) (zeros_same l)

pub returns : goal.returns
returns c =
    let x = c.args in
    let p = part x.from x.count x.bytes.now in
    all_from_yields_List (λ b. eqb b 0) _ _ _ c.all.ensures.ran (YieldsList-from_slice p (c.iter.ensures.rest ∙ part_borrowed x.bytes.now x.from x.count)) (λ b r q h. search rules)
    ∙ zeros_same p
    ∙ ap (λ (n : ℕ). same p (replicate n 0)) (part_length x.bytes.now x.from x.count c.requires)
