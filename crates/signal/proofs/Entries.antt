-- The entries of a record by their number, a test over them, and a walk over them.
-- Assumes nothing.
use mathlib.Core.Path.{◌≡◌, refl, sym, ap, ◌∙◌}
use mathlib.Core.Bool.{Bool, false}
use mathlib.Core.List.{List, [], ◌∷◌}
use Prim.Native.Nat.{ℕ, zero, suc, ◌+◌, ◌≤◌, ◌<◌}
use native.Mathlib.Nat.{zero-add, add-zero}
use native.Mathlib.Numerals.{add-one}
use native.Mathlib.Omega.{arith}
use borrow.Author.Tests.{le-leb}
use lib.ListN.{length, get_or, drop, drop_of_length-le}
use lib.Seq.{drop-cons}
use Rattle.value.specs.Slice.{part, any}
use Rattle.value.proofs.Slices.{part_at, any_none}
use Rattle.value.proofs.Lists.{any_each}
use Rattle.fst.specs.declared.Description.{Description}
use Rattle.fst.specs.Record.{Kept, Lent, kept_in, fits_bytes, is_bad_bytes}
use Rattle.fst.proofs.Records.{Standing, indices_used}
use Rattle.signal.specs.Decode.{Indexed, entry_at, indexed_by, entries_from, entries_in}
use Rattle.signal.proofs.Reading.{HasEntry, entry_within}

-- entry k
abbrev pub indexed : Kept → ℕ → Indexed
indexed r k = indexed_by r k (get_or r.indices k 0)

entries_length : (k : ℕ) (r : Kept) (l : List ℕ) → length (entries_from k r l) ≡ length l
unfolding entries_from
entries_length k r [] = refl
entries_length k r (i ∷ l) = ap suc (entries_length (suc k) r l)

from_at : (k : ℕ) (r : Kept) (l : List ℕ) (i : ℕ) (x : Indexed) → i < length l → get_or (entries_from k r l) i x ≡ indexed_by r (k + i) (get_or l i 0)
unfolding entries_from
from_at k r [] i x h = absurd (omega arith)
from_at k r (j ∷ l) zero x h = rw (add-zero k)
from_at k r (j ∷ l) (suc i) x h =
    let e : suc k + i ≡ k + suc i = omega arith in
    from_at (suc k) r l i x (omega arith) ∙ ap (λ (n : ℕ). indexed_by r n (get_or l i 0)) e

pub entries_count : (r : Kept) → length (entries_in r) ≡ length r.indices
entries_count r = entries_length 0 r r.indices

pub entry_is : (r : Kept) (k : ℕ) (x : Indexed) → k < length r.indices → get_or (entries_in r) k x ≡ indexed r k
entry_is r k x h = from_at 0 r r.indices k x h ∙ ap (λ (n : ℕ). indexed_by r n (get_or r.indices k 0)) (zero-add k)

pub entries_none : (r : Kept) (test : Indexed → Bool) → ((k : ℕ) → k < length r.indices → test (indexed r k) ≡ false) → any test (entries_in r) ≡ false
entries_none r test f =
    any_each test (entries_in r) (indexed r 0) (λ k h. let p : k < length r.indices = rw (entries_count r) at h in ap test (entry_is r k (indexed r 0) p) ∙ f k p)

pub entries_each : (r : Kept) (test : Indexed → Bool) → any test (entries_in r) ≡ false → (k : ℕ) → k < length r.indices → test (indexed r k) ≡ false
entries_each r test e k h = sym (ap test (entry_is r k (indexed r 0) h)) ∙ any_none test (entries_in r) e k (indexed r 0) (rw (entries_count r) h)

-- ---- the entries of a record that is not 2, from number k on

-- a record that is not 2, and has an entry k
pub record HasIndexed (d : Description) (l : Lent) (k : ℕ) : Type 0 where
  pub stands : Standing d l
  pub below : k < d.count

-- entry k where it stands in the slices
abbrev pub entry_number : Description → Lent → ℕ → Indexed
entry_number d l k = record { index = get_or l.indices (l.index_start + k) 0; encoding = d.encoding; bytes = entry_at d.encoding l.byte_start l.bytes k }

unfoldable pub rest : Description → Lent → ℕ → List Indexed
rest d l k = entries_from k (kept_in d l) (drop k (kept_in d l).indices)

pub rest_end : {d : Description} {l : Lent} → Standing d l → (k : ℕ) → d.count ≤ k → rest d l k ≡ []
unfolding rest kept_in entries_from
rest_end {d} {l} s k p = rw (drop_of_length-le (part l.index_start d.count l.indices) {i = k} (rw (indices_used s) p))

module _ {d : Description} {l : Lent} {k : ℕ} (h : HasIndexed d l k) where
  pub has_entry : HasEntry d l.bytes l.byte_start k
  unfolding is_bad_bytes fits_bytes
  has_entry =
      let s = h.stands in
      record { sound = rw (s.width, le-leb _ _ s.room.count, le-leb _ _ s.room.bytes); below = h.below }

  pub has_index : l.index_start + k < length l.indices
  has_index = omega (arith, h.below, h.stands.room.indices)

  pub rest_more : rest d l k ≡ entry_number d l k ∷ rest d l (k + 1)
  unfolding rest kept_in entries_from
  rest_more =
      let is = part l.index_start d.count l.indices in
      let e : get_or is k 0 ≡ get_or l.indices (l.index_start + k) 0 = part_at l.indices l.index_start d.count k 0 h.below in
      rw (drop-cons is k 0 (rw (indices_used h.stands) h.below), e, entry_within d l.bytes l.byte_start k h.below, add-one)
