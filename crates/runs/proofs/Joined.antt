-- Lists whose end is looked at and added to: what they end in, what joins them.
-- Assumes nothing.
use mathlib.Core.Path.{◌≡◌, refl, sym, ap, ◌∙◌}
use mathlib.Core.Bool.{Bool, true, false, cond}
use mathlib.Core.List.{List, [], ◌∷◌, ◌++◌, map, append-nil, map-append}
use Rattle.runs.specs.All.{All}
use Rattle.runs.specs.Runs.{ends_like, joined}
use Rattle.runs.proofs.All.{all_snoc}

-- ---- what a list ends in

pub ends_map : {A B : Type 0} (f : A → B) (like : B → B → Bool) (l : List A) (x : A)
    → ends_like like (map f l) (f x) ≡ ends_like (λ p q. like (f p) (f q)) l x
unfolding ends_like
ends_map f like [] x = refl
ends_map f like (p ∷ []) x = refl
ends_map f like (p ∷ q ∷ l) x = ends_map f like (q ∷ l) x

-- the same by two tests that agree on each element
pub ends_by : {A : Type 0} {P : A → Type 0} (like alike : A → A → Bool) (l : List A) (x : A) → All P l
    → ((p : A) → P p → like p x ≡ alike p x) → ends_like like l x ≡ ends_like alike l x
unfolding ends_like
ends_by like alike [] x ps f = refl
ends_by like alike (p ∷ []) x ps f = f p ps.0
ends_by like alike (p ∷ q ∷ l) x ps f = ends_by like alike (q ∷ l) x ps.1 f

pub ends_snoc : {A : Type 0} (like : A → A → Bool) (l : List A) (s x : A) → ends_like like (l ++ (s ∷ [])) x ≡ like s x
unfolding ends_like
ends_snoc like [] s x = refl
ends_snoc like (p ∷ []) s x = refl
ends_snoc like (p ∷ q ∷ l) s x = ends_snoc like (q ∷ l) s x

-- ---- what joins a list

-- it grows at its end, and nowhere else
pub joined_grows : {A : Type 0} (like : A → A → Bool) (l : List A) (x : A) → (t : List A) × (joined like l x ≡ l ++ t)
unfolding joined
joined_grows {A} like l x = go (ends_like like l x)
  where
    go : (b : Bool) → (t : List A) × (cond b l (l ++ (x ∷ [])) ≡ l ++ t)
    go true = ([], sym (append-nil l))
    go false = (x ∷ [], refl)

-- and then ends in what joined it
pub joined_ends : {A : Type 0} (like : A → A → Bool) (l : List A) (x : A) → like x x ≡ true → ends_like like (joined like l x) x ≡ true
unfolding joined
joined_ends like l x r = go (ends_like like l x) refl
  where
    go : (b : Bool) → ends_like like l x ≡ b → ends_like like (cond b l (l ++ (x ∷ []))) x ≡ true
    go true e = e
    go false e = ends_snoc like l x x ∙ r

pub joined_map : {A B : Type 0} (f : A → B) (like : B → B → Bool) (l : List A) (x : A)
    → joined like (map f l) (f x) ≡ map f (joined (λ p q. like (f p) (f q)) l x)
unfolding joined
joined_map f like l x =
    ap (λ (b : Bool). cond b (map f l) (map f l ++ (f x ∷ []))) (ends_map f like l x) ∙ go (ends_like (λ p q. like (f p) (f q)) l x)
  where
    go : (b : Bool) → cond b (map f l) (map f l ++ (f x ∷ [])) ≡ map f (cond b l (l ++ (x ∷ [])))
    go true = refl
    go false = sym (map-append f l (x ∷ []))

pub joined_by : {A : Type 0} {P : A → Type 0} (like alike : A → A → Bool) (l : List A) (x : A) → All P l
    → ((p : A) → P p → like p x ≡ alike p x) → joined like l x ≡ joined alike l x
unfolding joined
joined_by like alike l x ps f = ap (λ (b : Bool). cond b l (l ++ (x ∷ []))) (ends_by like alike l x ps f)

pub joined_all : {A : Type 0} (P : A → Type 0) (like : A → A → Bool) (l : List A) (x : A) → All P l → P x → All P (joined like l x)
unfolding joined
joined_all {A} P like l x ps p = go (ends_like like l x)
  where
    go : (b : Bool) → All P (cond b l (l ++ (x ∷ [])))
    go true = ps
    go false = all_snoc P l x ps p
