-- The size of an entry, and of what widening makes of any bytes.
-- Assumes nothing.
use mathlib.Core.Path.{◌≡◌, refl, sym, ap, ap₂, ◌∙◌}
use Prim.Native.Nat.{ℕ, zero, suc, ◌+◌, ◌-◌, ◌*◌, ◌/◌, ◌%◌, ◌≤◌, ◌<◌}
use native.Mathlib.Nat.{zero-mul, suc-mul}
use native.Mathlib.Omega.{arith}
use mathlib.Core.Bool.{Bool, true, false, cond, true≢false}
use mathlib.Core.List.{List, [], ◌∷◌, ◌++◌}
use borrow.Author.Tests.{eqb-true, eqb-false, eq-eqb, ne_eqb}
use lib.Dec.{eqb}
use lib.ListN.{length, take, drop, replicate, length-append, length-drop, length-replicate, take-append-drop}
use lib.Seq.{length-take-le}
use Rattle.value.specs.declared.States.{States}
use Rattle.value.specs.declared.States.TheVariants.{Two, Four, Nine}
use Rattle.value.specs.Level.{mark_of, bits_of, len_of}
use Rattle.value.proofs.Tests.{by_eq}
use Rattle.value.proofs.Levels.{len_up}
use Rattle.layout.specs.Entry.{has_meta, entry_size, mark_byte, unmarked, level_bytes, widen_entry, widen_all}

-- the set of a stored mark
abbrev pub Marked : States → Type 0
Marked M = 0 < mark_of M

abbrev pub size_plain : ℕ → States → ℕ
size_plain w Two = (w + 7) / 8
size_plain w Four = (w + 4) / 4
size_plain w Nine = (w + 2) / 2

-- an entry is never longer than this
pub size_small : (w : ℕ) (M : States) → w ≤ 4096 → entry_size w M ≤ 2049
unfolding entry_size
size_small w Two h = omega arith
size_small w Four h = go (eqb (w % 4) 0)
  where
    go : (b : Bool) → cond b ((w + 3) / 4 + 1) ((w + 3) / 4) ≤ 2049
    go true = omega arith
    go false = omega arith
size_small w Nine h = go (eqb (w % 2) 0)
  where
    go : (b : Bool) → cond b ((w + 1) / 2 + 1) ((w + 1) / 2) ≤ 2049
    go true = omega arith
    go false = omega arith

module _ (w : ℕ) where
  -- a larger set that has no meta byte: the smaller has none
  pub meta_down : (from to : States) → mark_of from ≤ mark_of to → has_meta w to ≡ false → has_meta w from ≡ false
  meta_down Two to h e = refl
  meta_down Four Two h e = absurd (omega arith)
  meta_down Four Four h e = e
  meta_down Four Nine h e =
      let n : w % 2 ≡ 0 → ⊥ = eqb-false (w % 2) 0 e in
      ne_eqb (w % 4) 0 (λ q. n (omega arith))
  meta_down Nine Two h e = absurd (omega arith)
  meta_down Nine Four h e = absurd (omega arith)
  meta_down Nine Nine h e = e

  pub size_by : (M : States) (x : Bool) → has_meta w M ≡ x → entry_size w M ≡ cond x (len_of w M + 1) (len_of w M)
  unfolding entry_size
  size_by M x e = ap (λ (b : Bool). cond b (len_of w M + 1) (len_of w M)) e

  -- the size without a test
  pub size_plain_lem : (M : States) → entry_size w M ≡ size_plain w M
  size_plain_lem Two = size_by Two false refl
  size_plain_lem Four = go (has_meta w Four) refl
    where
      go : (x : Bool) → has_meta w Four ≡ x → entry_size w Four ≡ (w + 4) / 4
      go true e = let z : w % 4 ≡ 0 = eqb-true (w % 4) 0 e in omega (arith, size_by Four true e)
      go false e = let n : w % 4 ≡ 0 → ⊥ = eqb-false (w % 4) 0 e in omega (arith, size_by Four false e)
  size_plain_lem Nine = go (has_meta w Nine) refl
    where
      go : (x : Bool) → has_meta w Nine ≡ x → entry_size w Nine ≡ (w + 2) / 2
      go true e = let z : w % 2 ≡ 0 = eqb-true (w % 2) 0 e in omega (arith, size_by Nine true e)
      go false e = let n : w % 2 ≡ 0 → ⊥ = eqb-false (w % 2) 0 e in omega (arith, size_by Nine false e)

  pub len_le : (M : States) → len_of w M ≤ entry_size w M
  len_le Two = omega (arith, size_plain_lem Two)
  len_le Four = omega (arith, size_plain_lem Four)
  len_le Nine = omega (arith, size_plain_lem Nine)

  -- the size says the length and the meta byte
  pub same_size : (from to : States) → mark_of from ≤ mark_of to → entry_size w from ≡ entry_size w to
      → (len_of w from ≡ len_of w to) × (has_meta w from ≡ has_meta w to)
  same_size from to h e = go (has_meta w from) (has_meta w to) refl refl
    where
      go : (x y : Bool) → has_meta w from ≡ x → has_meta w to ≡ y → (len_of w from ≡ len_of w to) × (has_meta w from ≡ has_meta w to)
      go true true p q = (omega (arith, size_by from true p, size_by to true q), p ∙ sym q)
      go true false p q = absurd (true≢false (sym p ∙ meta_down from to h q))
      go false true p q = absurd (omega (arith, size_by from false p, size_by to true q, len_up w from to h))
      go false false p q = (omega (arith, size_by from false p, size_by to false q), p ∙ sym q)

  pub size_same : (from to : States) → len_of w from ≡ len_of w to → has_meta w from ≡ has_meta w to → entry_size w from ≡ entry_size w to
  size_same from to l m = size_by from (has_meta w to) m ∙ rw l (sym (size_by to (has_meta w to) refl))

  pub size_up : (from to : States) → mark_of from ≤ mark_of to → entry_size w from ≤ entry_size w to
  size_up from to h = go (has_meta w from) (has_meta w to) refl refl
    where
      go : (x y : Bool) → has_meta w from ≡ x → has_meta w to ≡ y → entry_size w from ≤ entry_size w to
      go true true p q = omega (arith, size_by from true p, size_by to true q, len_up w from to h)
      go true false p q = absurd (true≢false (sym p ∙ meta_down from to h q))
      go false true p q = omega (arith, size_by from false p, size_by to true q, len_up w from to h)
      go false false p q = omega (arith, size_by from false p, size_by to false q, len_up w from to h)

  -- where the size grows there is a byte for the mark in front of the levels
  pub mark_room : (from to : States) → mark_of from ≤ mark_of to → (entry_size w from ≡ entry_size w to → ⊥) → len_of w from + 1 ≤ entry_size w to
  mark_room from to h n = omega (arith, n, len_le from, size_up from to h)

  -- ---- what widening makes of any bytes, by whether the size stays

  pub widen_same : (from to : States) (v : List ℕ) → entry_size w from ≡ entry_size w to → widen_entry w from to v ≡ v
  unfolding widen_entry
  widen_same from to v e = rw (eq-eqb (entry_size w from) (entry_size w to) e)

  pub widen_moved : (from to : States) (v : List ℕ) → (entry_size w from ≡ entry_size w to → ⊥)
      → widen_entry w from to v ≡ mark_byte from v ∷ (replicate (entry_size w to - 1 - len_of w from) 0 ++ level_bytes w from v)
  unfolding widen_entry
  widen_moved from to v n = rw (ne_eqb (entry_size w from) (entry_size w to) n)

  pub widen_all_same : (from to : States) → entry_size w from ≡ entry_size w to → (n : ℕ) (bytes : List ℕ) → length bytes ≡ n * entry_size w from
      → widen_all w from to n bytes ≡ bytes
  unfolding widen_all
  widen_all_same from to e zero [] l = refl
  widen_all_same from to e zero (x ∷ bytes) l = absurd (omega (arith, zero-mul (entry_size w from)))
  widen_all_same from to e (suc n) bytes l =
      let s : ℕ = entry_size w from in
      let r : length bytes ≡ n * s + s = l ∙ suc-mul n s in
      ap₂ (λ (x y : List ℕ). x ++ y) (widen_same from to (take s bytes) e)
      (widen_all_same from to e n (drop s bytes) (rw length-drop (omega arith)))
      ∙ take-append-drop s bytes

module _ (w : ℕ) (pos : 0 < w) where
  pub len_pos : (M : States) → 0 < len_of w M
  len_pos Two = omega arith
  len_pos Four = omega arith
  len_pos Nine = omega arith

  pub size_pos : (M : States) → 0 < entry_size w M
  size_pos M = omega (arith, len_pos M, len_le w M)

  -- the levels leave two bits where a mark is stored
  pub mark_bits_lem : (M : States) → Marked M → w * bits_of M + 2 ≤ 8 * entry_size w M
  mark_bits_lem Two m = absurd (omega arith)
  mark_bits_lem Four m = omega (arith, size_plain_lem w Four)
  mark_bits_lem Nine m = omega (arith, size_plain_lem w Nine)

  unmarked_length : (from : States) (v : List ℕ) → 0 < length v → length (unmarked from v) ≡ length v
  unfolding unmarked
  unmarked_length Two v h = refl
  unmarked_length Four v h = rw length-drop (omega arith)
  unmarked_length Nine v h = rw length-drop (omega arith)

  pub level_length_lem : (from : States) (v : List ℕ) → length v ≡ entry_size w from → length (level_bytes w from v) ≡ len_of w from
  unfolding level_bytes
  level_length_lem from v l = go (has_meta w from) refl
    where
      go : (x : Bool) → has_meta w from ≡ x → length (cond x (drop 1 v) (unmarked from v)) ≡ len_of w from
      go true e = rw length-drop (omega (arith, size_by w from true e))
      go false e = unmarked_length from v (omega (arith, size_pos from)) ∙ l ∙ size_by w from false e

  pub widen_length : (from to : States) (v : List ℕ) → mark_of from ≤ mark_of to → length v ≡ entry_size w from
      → length (widen_entry w from to v) ≡ entry_size w to
  widen_length from to v h l =
      by_eq (entry_size w from) (entry_size w to) (λ e. rw (widen_same w from to v e) (l ∙ e))
      (λ n.
      rw (widen_moved w from to v n, length-append, length-replicate, level_length_lem from v l) (omega (arith, mark_room w from to h n)))

  pub widen_all_length : (from to : States) → mark_of from ≤ mark_of to → (n : ℕ) (bytes : List ℕ) → n * entry_size w from ≤ length bytes
      → length (widen_all w from to n bytes) ≡ n * entry_size w to
  unfolding widen_all
  widen_all_length from to h zero bytes r = sym (zero-mul (entry_size w to))
  widen_all_length from to h (suc n) bytes r =
      let s : ℕ = entry_size w from in
      let r' : n * s + s ≤ length bytes = rw suc-mul at r in
      rw (
        length-append,
        widen_length from to (take s bytes) h (length-take-le s bytes (omega arith)),
        widen_all_length from to h n (drop s bytes) (rw length-drop (omega arith)),
        suc-mul,
      ) (omega arith)
