-- The two ways to store an entry and to compare one: what each asks, and that it is the whole entry.
-- Assumes nothing.
use mathlib.Core.Path.{◌≡◌, refl, sym, ap, ap₂, ◌∙◌}
use mathlib.Core.Bool.{Bool, true, false, cond, ◌&&◌}
use mathlib.Core.List.{List, ◌∷◌, ◌++◌}
use Prim.Native.Nat.{ℕ, suc, ◌+◌, ◌-◌, ◌*◌, ◌%◌, ◌≤◌}
use native.Mathlib.Nat.{mul-le-mul_left}
use native.Mathlib.Omega.{arith}
use lib.Dec.{eqb}
use lib.ListN.{length, get_or, replicate, length-replicate}
use borrow.Author.Tests.{eq-eqb, ne_eqb}
use Rattle.value.specs.declared.States.{States}
use Rattle.value.specs.Slice.{part, overlay, same}
use Rattle.value.specs.Level.{fold_all, codes_of, mark_of, len_of}
use Rattle.value.proofs.Tests.{by_eq}
use Rattle.value.proofs.Levels.{bits_up}
use Rattle.value.proofs.Backward.{part_cons}
use Rattle.value.proofs.Slices.{part_length, part_add, overlay_overlay}
use Rattle.wavemem.specs.Packed.{packed_from, Packable}
use Rattle.wavemem.proofs.Packing.{length_codes}
use Rattle.wavemem.proofs.Compare.{same_append}
use Rattle.layout.specs.Entry.{entry_size}
use Rattle.layout.specs.Writable.{Writable, LaidOut, mark_in_front, entry_from}
use Rattle.layout.proofs.Sizes.{mark_bits_lem}
use Rattle.layout.proofs.EntryParts.{entry_one, entry_apart}

-- what stands in front of the level bytes, compared
pub front_same : (b : List ℕ) (at front mark : ℕ) → (front ≡ 0 → ⊥) → at + front ≤ length b
    → same (part at front b) (mark_in_front front mark) ≡ eqb (get_or b at 0) mark && same (part (at + 1) (front - 1) b) (replicate (front - 1) 0)
unfolding same mark_in_front
front_same b at front mark n r =
    let e : part at front b ≡ get_or b at 0 ∷ part (at + 1) (front - 1) b
    = ap (λ (k : ℕ). part at k b) (omega arith) ∙ part_cons b at (front - 1) 0 (omega arith) in
    rw (e, ne_eqb front 0 n)

module _ {M own : States} {v : List ℕ} {room at : ℕ} (ok : Writable M own v room at) where
  -- the mark beside the levels

  pub one_packable : (m : ℕ) → m % 64 ≡ 0 → m ≤ mark_of own * 64 → len_of (length v) own ≡ entry_size (length v) M → Packable own v room at m
  one_packable m top few h =
      record {
        codes = ok.codes;
        short = ok.short;
        fits = omega (arith, ok.fits);
        marked = top;
        free =
            λ p.
            omega
            (arith, mark_bits_lem (length v) ok.wide M (omega (arith, ok.under)), mul-le-mul_left (length v) (bits_up own M ok.under));
      }

  pub one_entry : (m : ℕ) → m ≡ mark_of own * 64 → len_of (length v) own ≡ entry_size (length v) M → packed_from own m v ≡ entry_from M own v
  one_entry m e h =
      let l = length_codes v in
      rw e (sym (rw l at (entry_one M own (codes_of (fold_all v)) (rw l h))))

  -- the mark in a byte of its own, and zeros between

  pub apart_packable : {n from : ℕ} → from + len_of (length v) own ≤ n → Packable own v n from 0
  apart_packable h = record { codes = ok.codes; short = ok.short; fits = h; marked = refl; free = λ p. omega arith }

  module _ (z : ℕ) (apart : entry_size (length v) M ≡ suc (z + len_of (length v) own)) where
    apart_entry : entry_from M own v ≡ mark_of own * 64 ∷ (replicate z 0 ++ packed_from own 0 v)
    apart_entry =
        let l = length_codes v in
        rw l at (entry_apart M own (codes_of (fold_all v)) z ok.codes.below (rw l apart))

  -- ---- by what stands in front of the level bytes

  module _ {front mark : ℕ} (lay : LaidOut M own (length v) front mark) where
    -- the mark's byte for the first level byte
    abbrev first : ℕ
    first = cond (eqb front 0) mark 0

    pub front_length : length (mark_in_front front mark) ≡ front
    unfolding mark_in_front
    front_length =
        by_eq front 0 (λ q. rw (eq-eqb front 0 q) (sym q)) (λ n. rw (ne_eqb front 0 n) (omega (arith, n, length-replicate {A = ℕ} (front - 1) 0)))

    entry_parts : mark_in_front front mark ++ packed_from own first v ≡ entry_from M own v
    unfolding mark_in_front
    entry_parts =
        by_eq front 0
        (λ q. rw (eq-eqb front 0 q) (one_entry mark lay.marked (omega (arith, lay.sized))))
        (λ n. rw (ne_eqb front 0 n, lay.marked) (sym (apart_entry (front - 1) (omega (arith, n, lay.sized)))))

    pub first_top : first % 64 ≡ 0
    first_top = by_eq front 0 (λ q. rw (eq-eqb front 0 q) (omega (arith, lay.marked))) (λ q. rw (ne_eqb front 0 q))

    -- no more of a mark than the first level byte has
    pub levels_packable : (n from m : ℕ) → n ≡ room → from ≡ at + front → m % 64 ≡ 0 → m ≤ first → Packable own v n from m
    levels_packable n from m r f top few =
        by_eq front 0
        (λ q.
        let z : from ≡ at = omega arith in
        let k : m ≤ mark = rw (eq-eqb front 0 q) at few in
        rw (r, z) (one_packable m top (omega (arith, lay.marked)) (omega (arith, lay.sized))))
        (λ q.
        let k : m ≤ 0 = rw (ne_eqb front 0 q) at few in
        let z : m ≡ 0 = omega arith in
        rw z (apart_packable (omega (arith, ok.fits, lay.sized))))

    pub entry_stored : (d : List ℕ) (from : ℕ) → room ≡ length d → from ≡ at + front
        → overlay (overlay d at (mark_in_front front mark)) from (packed_from own first v) ≡ overlay d at (entry_from M own v)
    entry_stored d from r f =
        overlay_overlay d at (mark_in_front front mark) (packed_from own first v) from (omega (arith, front_length)) (omega (arith, ok.fits, lay.sized))
        ∙ ap (overlay d at) entry_parts

    module _ (bytes : List ℕ) (l : length bytes ≡ room) where
      abbrev levels_same : Bool
      levels_same = same (part (at + front) (len_of (length v) own) bytes) (packed_from own first v)

      entry_same : same (part at front bytes) (mark_in_front front mark) && levels_same ≡ same (part at (entry_size (length v) M) bytes) (entry_from M own v)
      entry_same =
          let n = len_of (length v) own in
          let e : part at (entry_size (length v) M) bytes ≡ part at front bytes ++ part (at + front) n bytes
          = ap (λ (k : ℕ). part at k bytes) (sym lay.sized) ∙ part_add bytes at front n in
          sym (same_append (part at front bytes) (part (at + front) n bytes) (mark_in_front front mark) (packed_from own first v)
          (part_length bytes at front (omega (arith, ok.fits, lay.sized)) ∙ sym front_length))
          ∙ ap₂ same (sym e) entry_parts

      pub levels_left : true ≡ same (part at front bytes) (mark_in_front front mark) → levels_same ≡ same (part at (entry_size (length v) M) bytes) (entry_from M own v)
      levels_left h = ap (λ (b : Bool). b && levels_same) h ∙ entry_same

      pub other_front : false ≡ same (part at front bytes) (mark_in_front front mark) → false ≡ same (part at (entry_size (length v) M) bytes) (entry_from M own v)
      other_front h = ap (λ (b : Bool). b && levels_same) h ∙ entry_same
