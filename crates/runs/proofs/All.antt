-- Lists of which each element has a property.
-- Assumes nothing.
use Prim.Native.Nat.{ℕ, zero, suc, ◌<◌}
use mathlib.Core.List.{List, [], ◌∷◌, ◌++◌, map}
use native.Mathlib.Omega.{arith}
use lib.ListN.{length, get_or}
use Rattle.runs.specs.All.{All}

pub all_of : {A : Type 0} (P Q : A → Type 0) → ((x : A) → P x → Q x) → (l : List A) → All P l → All Q l
all_of P Q f [] ps = tt
all_of P Q f (x ∷ l) ps = (f x ps.0, all_of P Q f l ps.1)

pub all_both : {A : Type 0} (P Q R : A → Type 0) → ((x : A) → P x → Q x → R x) → (l : List A) → All P l → All Q l → All R l
all_both P Q R f [] ps qs = tt
all_both P Q R f (x ∷ l) ps qs = (f x ps.0 qs.0, all_both P Q R f l ps.1 qs.1)

pub all_map : {A B : Type 0} (P : A → Type 0) (Q : B → Type 0) (f : A → B) (l : List A) → ((x : A) → P x → Q (f x)) → All P l → All Q (map f l)
all_map P Q f [] g ps = tt
all_map P Q f (x ∷ l) g ps = (g x ps.0, all_map P Q f l g ps.1)

pub all_snoc : {A : Type 0} (P : A → Type 0) (l : List A) (x : A) → All P l → P x → All P (l ++ (x ∷ []))
all_snoc P [] x ps p = (p, tt)
all_snoc P (y ∷ l) x ps p = (ps.0, all_snoc P l x ps.1 p)

-- by place
pub all_at : {A : Type 0} (P : A → Type 0) (l : List A) → All P l → (i : ℕ) (d : A) → i < length l → P (get_or l i d)
all_at P [] ps i d h = absurd (omega arith)
all_at P (x ∷ l) ps zero d h = ps.0
all_at P (x ∷ l) ps (suc i) d h = all_at P l ps.1 i d (omega arith)

pub all_by : {A : Type 0} (P : A → Type 0) (l : List A) (d : A) → ((i : ℕ) → i < length l → P (get_or l i d)) → All P l
all_by P [] d f = tt
all_by P (x ∷ l) d f = (f zero (omega arith), all_by P l d (λ i h. f (suc i) (omega arith)))
