-- Laws of entries that are laid out anew in place: one entry's move, the entries from the last to the first, and that this is widening.
-- Assumes nothing.
use mathlib.Core.Path.{◌≡◌, refl, sym, ap, ap₂, ◌∙◌}
use Prim.Native.Nat.{ℕ, zero, suc, ◌+◌, ◌-◌, ◌*◌, ◌≤◌, ◌<◌}
use native.Mathlib.Nat.{suc-mul, add-zero, add_assoc, mul-le-mul_left, mul-le-mul_right, sub_self, mod-eq_of_lt}
use native.Mathlib.Numerals.{add-one}
use native.Mathlib.Omega.{arith}
use mathlib.Core.Bool.{Bool, true, false, cond}
use mathlib.Core.List.{List, ◌∷◌, ◌++◌}
use lib.Bits.{bit_and, and_zero_r, and_mask, and_high}
use lib.ListN.{length, take, drop, get_or, set, replicate, length-append, length-drop, length-replicate}
use lib.Seq.{drop-cons, length-take-le}
use Rattle.value.specs.declared.States.{States}
use Rattle.value.specs.declared.States.TheVariants.{Two, Four, Nine}
use Rattle.value.specs.Slice.{part, overlay}
use Rattle.value.specs.Level.{mark_of, len_of}
use Rattle.value.specs.Digits.{Below}
use Rattle.value.proofs.Digits.{below_at, below_take, below_drop}
use Rattle.value.proofs.Slices.{part_length, part_at, overlay_nil}
use Rattle.value.proofs.Backward.{part_cons, take_part, drop_part, part_before, overlay_front, store_front, store_first}
use Rattle.layout.specs.Entry.{has_meta, entry_size, mark_byte, unmarked, level_bytes, widen_entry, widen_all}
use Rattle.layout.specs.Expand.{mark_bits, level_bits, widening_of, levels_moved, moved_entry, moved_entries, Move, Grows, to_size}
use Rattle.layout.specs.declared.expand.Widening.TheInside.{Inside}
use Rattle.layout.proofs.Sizes.{size_by, size_up, len_le, len_pos, mark_room, widen_moved}

-- ---- one entry

-- the move that a `Widening` is, by its fields
abbrev pub seen : Inside → Move
seen w = record { from_size = w.from_size; len = w.len; zeros = w.zeros; mark_bits = w.mark_bits; level_bits = w.level_bits }

module _ (m : Move) (grows : Grows m.from_size m.len m.zeros) where
  pub moved_length : (v : List ℕ) → length v ≡ m.from_size → length (moved_entry m v) ≡ to_size m
  unfolding moved_entry levels_moved
  moved_length v l = rw (length-append, length-replicate, length-drop) (omega arith)

  levels_part : (d : List ℕ) (p : ℕ) → p + m.from_size ≤ length d
      → levels_moved m (part p m.from_size d)
      ≡ bit_and (get_or d (p + (m.from_size - m.len)) 0) m.level_bits ∷ part (p + (m.from_size - m.len) + 1) (m.len - 1) d
  unfolding levels_moved
  levels_part d p h =
      let F : ℕ = m.from_size in
      let i : ℕ = F - m.len in
      let e : F ≡ (i + 1) + (m.len - 1) = omega arith in
      ap₂ (λ (x : ℕ) (l : List ℕ). bit_and x m.level_bits ∷ l) (part_at d p F i 0 (omega arith))
      (ap (λ (n : ℕ). drop (i + 1) (part p n d)) e ∙ drop_part d p (i + 1) (m.len - 1) (omega arith)
      ∙ ap (λ (n : ℕ). part n (m.len - 1) d) (sym (add_assoc p i 1)))

  -- the level bytes, the first of them, the zeros, the mark, in this order
  pub entry_moved : (d d₁ d₂ : List ℕ) (p q : ℕ) → p ≤ q → q + to_size m ≤ length d
      → d₁ ≡ overlay d (q + (m.zeros + 1)) (part (p + (m.from_size - m.len)) m.len d)
      → d₂ ≡ overlay (set d₁ (q + (m.zeros + 1)) (bit_and (get_or d (p + (m.from_size - m.len)) 0) m.level_bits)) (q + 1) (replicate (m.zeros) 0)
      → set d₂ q (bit_and (get_or d p 0) m.mark_bits) ≡ overlay d q (moved_entry m (part p m.from_size d))
  unfolding moved_entry
  entry_moved d d₁ d₂ p q o r e₁ e₂ =
      let F : ℕ = m.from_size in
      let i : ℕ = p + (F - m.len) in
      let j : ℕ = q + (m.zeros + 1) in
      let z : ℕ = m.zeros in
      let x : ℕ = bit_and (get_or d i 0) m.level_bits in
      let y : ℕ = bit_and (get_or d p 0) m.mark_bits in
      let l : List ℕ = part (i + 1) (m.len - 1) d in
      let s : length l ≡ m.len - 1 = part_length d (i + 1) (m.len - 1) (omega arith) in
      let t : length (replicate z 0 ++ (x ∷ l)) ≡ z + suc (length l) = rw (length-append, length-replicate) in
      let n : m.len ≡ suc (m.len - 1) = omega arith in
      let a : set d₁ j x ≡ overlay d j (x ∷ l)
      = ap (λ (u : List ℕ). set u j x) (e₁ ∙ ap (overlay d j) (ap (λ (k : ℕ). part i k d) n ∙ part_cons d i (m.len - 1) 0 (omega arith)))
      ∙ store_first d l j (get_or d i 0) x (omega arith) in
      let b : d₂ ≡ overlay d (q + 1) (replicate z 0 ++ (x ∷ l))
      = e₂ ∙ ap (λ (u : List ℕ). overlay u (q + 1) (replicate z 0)) a
      ∙ overlay_front d (q + 1) (replicate z 0) (x ∷ l) j (rw length-replicate (omega arith)) (omega arith) in
      let f : y ≡ bit_and (get_or (part p F d) 0 0) m.mark_bits
      = ap (λ (u : ℕ). bit_and u m.mark_bits) (ap (λ (n : ℕ). get_or d n 0) (sym (add-zero p)) ∙ sym (part_at d p F 0 0 (omega arith))) in
      ap (λ (u : List ℕ). set u q y) b
      ∙ store_front d (replicate z 0 ++ (x ∷ l)) q (q + 1) y refl (omega arith)
      ∙ ap₂ (λ (u : ℕ) (v : List ℕ). overlay d q (u ∷ (replicate z 0 ++ v))) f (sym (levels_part d p (omega arith)))

-- ---- entries from the last to the first

-- n entries of which all but the first k are laid out anew
abbrev pub expanded : Move → List ℕ → ℕ → ℕ → ℕ → List ℕ
expanded m d start n k =
    overlay d (start + k * to_size m) (moved_entries m (n - k) (part (start + k * m.from_size) ((n - k) * m.from_size) d))

module _ (m : Move) (grows : Grows m.from_size m.len m.zeros) (d : List ℕ) (start n : ℕ) (room : start + n * to_size m ≤ length d) where
  pub none_expanded : expanded m d start n n ≡ d
  unfolding moved_entries
  none_expanded = rw sub_self (overlay_nil d (start + n * to_size m))

  -- the places of entry k within the slice
  pub old_place_lem : (k : ℕ) → k < n → start + k * m.from_size ≤ start + k * to_size m
  old_place_lem k h = omega (arith, mul-le-mul_left k grows.wider)

  pub new_place : (k : ℕ) → k < n → start + k * to_size m + to_size m ≤ length d
  new_place k h = omega (arith, suc-mul k (to_size m), mul-le-mul_right (to_size m) h)

  pub more_expanded : (k : ℕ) → k < n
      → overlay (expanded m d start n (k + 1)) (start + k * to_size m) (moved_entry m (part (start + k * m.from_size) m.from_size (expanded m d start n (k + 1))))
      ≡ expanded m d start n k
  unfolding moved_entries
  more_expanded k h =
      let F : ℕ = m.from_size in
      let T : ℕ = to_size m in
      let p : ℕ = start + k * F in
      let j : ℕ = n - (k + 1) in
      let e : n - k ≡ suc j = omega arith in
      let a : start + (k + 1) * F ≡ p + F = rw (add-one, suc-mul) (omega arith) in
      let b : start + (k + 1) * T ≡ start + k * T + T = rw (add-one, suc-mul) (omega arith) in
      let old = old_place_lem k h in
      let new = new_place k h in
      let rest : List ℕ = moved_entries m j (part (start + (k + 1) * F) (j * F) d) in
      let u : part p F (expanded m d start n (k + 1)) ≡ part p F d
      = part_before d rest (start + (k + 1) * T) p F (rw b (omega (arith, grows.wider))) (rw b new) in
      let s : length (moved_entry m (part p F d)) ≡ T = moved_length m grows (part p F d) (part_length d p F (omega (arith, grows.wider))) in
      let c : suc j * F ≡ F + j * F = rw suc-mul (omega arith) in
      let t : moved_entry m (part p F d) ++ rest ≡ moved_entries m (n - k) (part p ((n - k) * F) d)
      = rw (e, c, take_part d p F (j * F) (omega (arith, grows.wider)), drop_part d p F (j * F) (omega (arith, grows.wider)), a) in
      ap (λ (v : List ℕ). overlay (expanded m d start n (k + 1)) (start + k * T) (moved_entry m v)) u
      ∙ overlay_front d (start + k * T) (moved_entry m (part p F d)) rest (start + (k + 1) * T) (rw (s, b)) (rw b new)
      ∙ ap (overlay d (start + k * T)) t

-- ---- an entry's move is widening

byte_mark : (from : States) (v : List ℕ) → get_or v 0 0 < 256 → bit_and (get_or v 0 0) (mark_bits from) ≡ mark_byte from v
unfolding mark_byte
byte_mark Two v h = and_zero_r (get_or v 0 0)
byte_mark Four v h = and_high (get_or v 0 0) 2 6 ∙ omega arith
byte_mark Nine v h = and_high (get_or v 0 0) 2 6 ∙ omega arith

byte_levels : (from : States) (v : List ℕ) → get_or v 0 0 < 256 → 0 < length v
    → ◌≡◌ {A = List ℕ} (bit_and (get_or v 0 0) (255 - mark_bits from) ∷ drop 1 v) (unmarked from v)
unfolding unmarked
byte_levels Two v h l = rw (and_mask (get_or v 0 0) 8, mod-eq_of_lt h) (sym (drop-cons v 0 0 l))
byte_levels Four v h l = rw (and_mask (get_or v 0 0) 6)
byte_levels Nine v h l = rw (and_mask (get_or v 0 0) 6)

module _ (w : ℕ) (pos : 0 < w) (from to : States) (up : mark_of from ≤ mark_of to) (grown : entry_size w from ≡ entry_size w to → ⊥) where
  pub widening_grows :
      let m = widening_of w from to in
      Grows m.from_size m.len m.zeros
  unfolding widening_of
  widening_grows =
      record {
        some = len_pos w pos from;
        held = len_le w from;
        wider = omega (arith, size_up w from to up, mark_room w from to up grown);
      }

  pub widening_size : to_size (widening_of w from to) ≡ entry_size w to
  unfolding widening_of
  widening_size = omega (arith, mark_room w from to up grown)

  levels_widen : (v : List ℕ) → length v ≡ entry_size w from → Below 256 v → levels_moved (widening_of w from to) v ≡ level_bytes w from v
  unfolding levels_moved level_bytes widening_of
  levels_widen v l b = go (has_meta w from) refl
    where
      go : (x : Bool) → has_meta w from ≡ x
          → ◌≡◌ {A = List ℕ} (bit_and (get_or v (entry_size w from - len_of w from) 0) (level_bits (has_meta w from) from) ∷ drop (entry_size w from - len_of w from + 1) v)
          (cond (has_meta w from) (drop 1 v) (unmarked from v))
      go true e =
          let i : entry_size w from - len_of w from ≡ 1 = omega (arith, size_by w from true e) in
          let n : 1 < length v = omega (arith, len_pos w pos from, size_by w from true e) in
          rw (i, e, and_mask (get_or v 1 0) 8, mod-eq_of_lt (below_at 256 v b 1 0 n)) (sym (drop-cons v 1 0 n))
      go false e =
          let i : entry_size w from - len_of w from ≡ 0 = omega (arith, size_by w from false e) in
          let n : 0 < length v = omega (arith, len_pos w pos from, size_by w from false e) in
          rw (i, e) (byte_levels from v (below_at 256 v b 0 0 n) n)

  pub moved_widens : (v : List ℕ) → length v ≡ entry_size w from → Below 256 v → moved_entry (widening_of w from to) v ≡ widen_entry w from to v
  unfolding moved_entry widening_of
  moved_widens v l b =
      let n : 0 < length v = omega (arith, len_pos w pos from, len_le w from) in
      ap₂ (λ (x : ℕ) (u : List ℕ). x ∷ (replicate (entry_size w to - 1 - len_of w from) 0 ++ u)) (byte_mark from v (below_at 256 v b 0 0 n)) (levels_widen v l b)
      ∙ sym (widen_moved w from to v grown)

  pub all_widen : (n : ℕ) (bytes : List ℕ) → n * entry_size w from ≤ length bytes → Below 256 bytes
      → moved_entries (widening_of w from to) n bytes ≡ widen_all w from to n bytes
  unfolding moved_entries widen_all widening_of
  all_widen zero bytes r b = refl
  all_widen (suc n) bytes r b =
      let s : ℕ = entry_size w from in
      let q : n * s + s ≤ length bytes = rw suc-mul at r in
      ap₂ (λ (x y : List ℕ). x ++ y)
      (moved_widens (take s bytes) (length-take-le s bytes (omega arith)) (below_take 256 bytes b s))
      (all_widen n (drop s bytes) (rw length-drop (omega arith)) (below_drop 256 bytes b s))
