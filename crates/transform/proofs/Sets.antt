-- The largest set of some inputs, taken one after another.
-- Assumes nothing.
use mathlib.Core.List.{List, [], ◌∷◌}
use mathlib.Core.Path.{◌∙◌, ◌≡◌, refl, sym}
use Rattle.std.specs.List.{fold}
use Rattle.value.specs.Level.{join, join_all}
use Rattle.value.specs.declared.States.{States}
use Rattle.value.specs.declared.States.TheVariants.{Four, Nine, Two}

join_join : (a b c : States) → join (join a b) c ≡ join a (join b c)
join_join Two b c = refl
join_join Four Two c = refl
join_join Four Four Two = refl
join_join Four Four Four = refl
join_join Four Four Nine = refl
join_join Four Nine c = refl
join_join Nine b c = refl

join_two : (a : States) → join a Two ≡ a
join_two Two = refl
join_two Four = refl
join_two Nine = refl

from : (a : States) (l : List States) → fold join a l ≡ join a (join_all l)
unfolding join_all
from a [] = sym (join_two a)
from a (x ∷ l) = from (join a x) l ∙ join_join a x (join_all l)

pub fold_sets : (l : List States) → fold join Two l ≡ join_all l
fold_sets l = from Two l
