-- Laws of a comparison that goes byte by byte.
-- Assumes nothing.
use mathlib.Core.Path.{◌≡◌, refl, sym, ap, ◌∙◌}
use mathlib.Core.Bool.{Bool, true, false, ◌&&◌}
use mathlib.Core.List.{List, [], ◌∷◌, ◌++◌}
use Prim.Native.Nat.{ℕ}
use native.Mathlib.Nat.{suc_inj, suc-ne-zero}
use lib.Dec.{eqb}
use lib.Pointwise.{pointwise}
use lib.ListN.{length}
use Rattle.value.specs.Slice.{same}
use Rattle.value.proofs.Tests.{from_t, both_ways}
use Rattle.value.proofs.Slices.{same_sound, same_refl}

pub same_not : (a b : List ℕ) → (a ≡ b → ⊥) → same a b ≡ false
same_not a b f = both_ways (same a b) false (λ t. absurd (f (same_sound a b t))) (λ t. absurd t)

pub same_is : (a b : List ℕ) → a ≡ b → same a b ≡ true
same_is a b e = from_t (same a b) (rw e (same_refl b))

-- fronts that are as long, and then the rest
pub same_append : (a b c d : List ℕ) → length a ≡ length c → same (a ++ b) (c ++ d) ≡ same a c && same b d
unfolding same
same_append [] b [] d e = refl
same_append [] b (y ∷ c) d e = absurd (suc-ne-zero (length c) (sym e))
same_append (x ∷ a) b [] d e = absurd (suc-ne-zero (length a) e)
same_append (x ∷ a) b (y ∷ c) d e = ap (λ (t : Bool). eqb x y && t) (same_append a b c d (suc_inj e)) ∙ sym (assoc (eqb x y) (same a c) (same b d))
  where
    assoc : (p q r : Bool) → (p && q) && r ≡ p && (q && r)
    assoc true q r = refl
    assoc false q r = refl

-- the comparison of slices by std
pub pointwise_same : (a b : List ℕ) → pointwise eqb a b ≡ same a b
unfolding same
pointwise_same [] [] = refl
pointwise_same [] (y ∷ b) = refl
pointwise_same (x ∷ a) [] = refl
pointwise_same (x ∷ a) (y ∷ b) = ap (λ (t : Bool). eqb x y && t) (pointwise_same a b)
