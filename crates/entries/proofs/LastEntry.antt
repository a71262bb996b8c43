-- The last of entries laid out anew is the last one laid out anew, so that a repeat is told before anything is stored.
-- Assumes nothing.
use mathlib.Core.Path.{◌≡◌, refl, sym, ap, ◌∙◌}
use mathlib.Core.Bool.{false}
use mathlib.Core.List.{List, ◌++◌, append-nil}
use Prim.Native.Nat.{ℕ, zero, suc, ◌+◌, ◌-◌, ◌*◌, ◌≤◌, ◌<◌, zero-le}
use native.Mathlib.Nat.{zero-mul, one-mul, suc-mul, add_comm}
use native.Mathlib.Omega.{arith}
use lib.ListN.{length, take, drop, length-drop}
use lib.Seq.{take_at, drop-append-add, drop-drop, length-take-le}
use Rattle.value.specs.declared.States.{States}
use Rattle.value.specs.Slice.{part, overlay, same}
use Rattle.value.specs.Level.{mark_of}
use Rattle.value.proofs.Slices.{part_length, part_all, part_part, part_overlay}
use Rattle.layout.specs.Entry.{entry_size, widen_entry, widen_all}
use Rattle.entries.specs.Repeats.{repeats}
use Rattle.entries.specs.Repeatable.{Wider, Widens, size_before, equals_widened, repeats_widened}
use Rattle.layout.proofs.Sizes.{widen_length, widen_same}

-- ---- the last of n entries of one size

-- there is none to repeat
pub none_repeated : (size n : ℕ) (bytes new : List ℕ) → n ≡ 0 → false ≡ repeats size n bytes new
unfolding repeats
none_repeated size n bytes new e = rw e

-- is it repeated
pub repeats_plain_lem : (size n start : ℕ) (bytes new : List ℕ) → (n ≡ 0 → ⊥)
    → same (part (start + (n - 1) * size) size bytes) new ≡ repeats size n (part start (n * size) bytes) new
unfolding repeats
repeats_plain_lem size zero start bytes new h = absurd (h refl)
repeats_plain_lem size (suc m) start bytes new h =
    let e : suc m - 1 ≡ m = omega arith in
    rw e (ap (λ (x : List ℕ). same x new) (sym (part_part bytes start (suc m * size) (m * size) size (omega (arith, suc-mul m size)))))

module _ (w : ℕ) (pos : 1 ≤ w) (from to : States) (up : mark_of from ≤ mark_of to) where
  -- entry m of those laid out anew
  pub widened_at : (m n : ℕ) (bytes : List ℕ) → m < n → n * entry_size w from ≤ length bytes
      → part (m * entry_size w to) (entry_size w to) (widen_all w from to n bytes) ≡ widen_entry w from to (part (m * entry_size w from) (entry_size w from) bytes)
  unfolding part widen_all
  widened_at m zero bytes h r = absurd (omega arith)
  widened_at zero (suc n) bytes h r =
      let s = entry_size w from in
      let r' : n * s + s ≤ length bytes = rw suc-mul at r in
      let e = widen_length w pos from to (take s bytes) up (length-take-le s bytes (omega arith)) in
      ap (λ (k : ℕ). take (entry_size w to) (drop k (widen_entry w from to (take s bytes) ++ widen_all w from to n (drop s bytes)))) (zero-mul (entry_size w to))
      ∙ take_at (widen_entry w from to (take s bytes)) (widen_all w from to n (drop s bytes)) (entry_size w to) e
      ∙ ap (λ (k : ℕ). widen_entry w from to (take s (drop k bytes))) (sym (zero-mul s))
  widened_at (suc m) (suc n) bytes h r =
      let s = entry_size w from in
      let t = entry_size w to in
      let r' : n * s + s ≤ length bytes = rw suc-mul at r in
      let head = widen_entry w from to (take s bytes) in
      let e = widen_length w pos from to (take s bytes) up (length-take-le s bytes (omega arith)) in
      let f : suc m * t ≡ length head + m * t = suc-mul m t ∙ (omega arith) in
      let g : s + m * s ≡ suc m * s = sym (suc-mul m s ∙ add_comm (m * s) s) in
      ap (λ (k : ℕ). take t (drop k (head ++ widen_all w from to n (drop s bytes)))) f
      ∙ ap (take t) (drop-append-add head (widen_all w from to n (drop s bytes)) (m * t))
      ∙ widened_at m n (drop s bytes) (omega arith) (rw length-drop (omega arith))
      ∙ ap (λ (x : List ℕ). widen_entry w from to (take s x)) (drop-drop (m * s) s bytes ∙ ap (λ (k : ℕ). drop k bytes) g)

  -- does an entry repeat the last of those laid out anew
  pub repeats_last_lem : (m start : ℕ) (bytes new : List ℕ) → start + suc m * entry_size w from ≤ length bytes
      → repeats (entry_size w to) (suc m) (widen_all w from to (suc m) (part start (suc m * entry_size w from) bytes)) new
      ≡ same (widen_entry w from to (part (start + m * entry_size w from) (entry_size w from) bytes)) new
  unfolding repeats
  repeats_last_lem m start bytes new h =
      let s = entry_size w from in
      let e : suc m * s ≡ m * s + s = suc-mul m s in
      let g : length (part start (suc m * s) bytes) ≡ suc m * s = part_length bytes start (suc m * s) h in
      ap (λ (x : List ℕ). same x new)
      (widened_at m (suc m) (part start (suc m * s) bytes) (omega arith) (omega arith)
      ∙ ap (widen_entry w from to) (part_part bytes start (suc m * s) (m * s) s (omega arith)))

  pub repeats_widened_lem : (n start : ℕ) (bytes new : List ℕ) → (n ≡ 0 → ⊥) → start + n * entry_size w from ≤ length bytes
      → same (widen_entry w from to (part (start + (n - 1) * entry_size w from) (entry_size w from) bytes)) new
      ≡ repeats (entry_size w to) n (widen_all w from to n (part start (n * entry_size w from) bytes)) new
  repeats_widened_lem zero start bytes new h r = absurd (h refl)
  repeats_widened_lem (suc m) start bytes new h r =
      let e : suc m - 1 ≡ m = omega arith in
      rw e (sym (repeats_last_lem m start bytes new r))

  -- one entry laid out anew, in a copy
  one_widened : (v : List ℕ) → length v ≡ entry_size w from → widen_all w from to 1 v ≡ widen_entry w from to v
  unfolding widen_all part
  one_widened v l = append-nil (widen_entry w from to (take (entry_size w from) v)) ∙ ap (widen_entry w from to) (rw (← l) (part_all v))

  pub copy_widened : (room copy moved v : List ℕ) → length v ≡ entry_size w from → copy ≡ overlay room 0 v
      → moved ≡ overlay copy 0 (widen_all w from to 1 (part 0 (1 * entry_size w from) copy))
      → part 0 (entry_size w to) moved ≡ widen_entry w from to v
  copy_widened room copy moved v l e f =
      let s = entry_size w from in
      let a : part 0 (1 * s) copy ≡ v = rw (one-mul, e) (part_overlay room v 0 s zero-le l) in
      let b : widen_all w from to 1 (part 0 (1 * s) copy) ≡ widen_entry w from to v = ap (widen_all w from to 1) a ∙ one_widened v l in
      rw (f, b) (part_overlay copy (widen_entry w from to v) 0 (entry_size w to) zero-le (widen_length w pos from to v up l))

-- ---- the last of the entries before a wider one, of which a method sees the fields

module _ {e x : Wider} (seen : e ≡ x) (k : Widens e.from e.to e.bits (length e.entry)) where
  pub widens : Widens x.from x.to x.bits (length x.entry)
  widens = rw (← seen) k

  module _ (start : ℕ) {n size : ℕ} (sized : size ≡ size_before e) (bytes : List ℕ) (room : start + n * size_before x ≤ length bytes) (some : n ≡ 0 → ⊥) where
    -- is it repeated, laid out anew
    pub last_widened : equals_widened x (start + (n - 1) * size) bytes ≡ repeats_widened x start n bytes
    last_widened =
        rw (sized, seen) (repeats_widened_lem x.bits widens.wide x.from x.to widens.up n start bytes x.entry some room)

    -- or as it stands
    pub last_as_is : size ≡ length e.entry → same (part (start + (n - 1) * size) (length e.entry) bytes) e.entry ≡ repeats_widened x start n bytes
    last_as_is z =
        ap (λ (j : ℕ). same (part (start + (n - 1) * size) j bytes) e.entry) (sym z ∙ sized)
        ∙ ap (λ (l : List ℕ). same l e.entry) (sym (widen_same e.bits e.from e.to _ (sym sized ∙ z ∙ k.sized)))
        ∙ ap (λ (y : Wider). equals_widened y (start + (n - 1) * size) bytes) seen
        ∙ last_widened
