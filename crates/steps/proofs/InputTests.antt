-- An input that is not refused with 2, and a test over the inputs in their slots.
-- Assumes nothing.
use Prim.Native.Nat.{◌+◌, ◌<◌, ◌≤◌, suc, zero, ℕ}
use borrow.Author.Tests.{le-leb, ne_eqb}
use lib.Dec.{eqb}
use lib.ListN.{get_or, length, length-map}
use mathlib.Core.Bool.{false, not, true}
use mathlib.Core.List.{List, [], ◌∷◌, map}
use mathlib.Core.Path.{◌∙◌, ◌≡◌, ap, refl}
use native.Mathlib.Omega.{arith}
use Rattle.std.proofs.lemmas.List.{get_or-map}
use Rattle.value.specs.Slice.{part}
use Rattle.fst.specs.Record.{Kept, Lent, fits_bytes, is_bad_bytes, maximum, used_size, empty}
use Rattle.fst.specs.declared.Description.{Description}
use Rattle.fst.specs.declared.Encoding.TheVariants.{Event}
use Rattle.fst.proofs.Records.{Standing, bytes_used, standing}
use Rattle.steps.specs.Inputs.{input_kept, is_bad_input, is_late, lent_to}
use Rattle.steps.specs.declared.Input.{Input}

-- ---- an input that is not 2

-- its used parts lie within the lent slices
pub bytes_reach : (bytes indices : List ℕ) (i : Input) → is_bad_input bytes indices i ≡ false → i.byte_start + used_size i.description ≤ length bytes
bytes_reach bytes indices i h = (standing h).room.bytes

pub indices_reach : (bytes indices : List ℕ) (i : Input) → is_bad_input bytes indices i ≡ false → i.index_start + i.description.count ≤ length indices
indices_reach bytes indices i h = (standing h).room.indices

abbrev pub Stands : List ℕ → List ℕ → Input → Type 0
Stands bytes indices i = Standing i.description (lent_to bytes indices i)

-- its used bytes by themselves
pub used_stands : {d : Description} {l : Lent} → Standing d l → is_bad_bytes d 0 (part l.byte_start (used_size d) l.bytes) ≡ false
unfolding is_bad_bytes fits_bytes
used_stands {d} s = rw (s.width, le-leb d.count maximum s.room.count, bytes_used s, le-leb (0 + used_size d) (used_size d) (omega arith))

pub late_first : (l : List ℕ) → 0 < length l → not (eqb (get_or l 0 0) 0) ≡ is_late l
late_first [] h = absurd (omega arith)
late_first (zero ∷ l) h = refl
late_first (suc i ∷ l) h = rw (ne_eqb (suc i) 0 (λ z. omega arith))

pub late_none : (l : List ℕ) → length l ≡ 0 → true ≡ is_late l
late_none [] h = refl
late_none (x ∷ l) h = absurd (omega arith)

-- ---- the record of an input

-- what is told of input number s
pub kept_at : {B : Type 0} (bytes indices : List ℕ) (is : List Input) (f : Kept → B) (z : B) (s : ℕ) (x : Input) → s < length is
    → get_or (map f (map (input_kept bytes indices) is)) s z ≡ f (input_kept bytes indices (get_or is s x))
kept_at bytes indices is f z s x h =
    get_or-map f (map (input_kept bytes indices) is) s (input_kept bytes indices x) z (rw (length-map is (input_kept bytes indices)) h)
    ∙ ap f (get_or-map (input_kept bytes indices) is s x (input_kept bytes indices x) h)

-- what stands for no input
abbrev pub no_input : Input
no_input = record { description = empty Event; byte_start = 0; index_start = 0 }
