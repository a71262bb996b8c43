-- The steps that are kept, stored a stride apart: at the size of an entry they are a record's, at 0 the last one is there.
-- Assumes nothing.
use Prim.Native.Nat.{◌*◌, ◌+◌, ◌-◌, ◌<◌, ◌≤◌, ℕ}
use borrow.Author.Tests.{le-ltb, lt-ltb}
use lib.Dec.{ltb}
use lib.ListN.{length-append, length, length-map, set}
use mathlib.Core.Bool.{Bool, cond, false, true}
use mathlib.Core.List.{List, [], ◌++◌, ◌∷◌, map, map-append}
use mathlib.Core.Path.{◌∙◌, ◌≡◌, ap, ap₂, refl, sym}
use native.Mathlib.Nat.{zero-add}
use native.Mathlib.Numerals.{add-one}
use native.Mathlib.Omega.{arith}
use Rattle.value.specs.Level.{codes_of}
use Rattle.value.specs.Slice.{overlay, part, same}
use Rattle.value.specs.declared.States.{States}
use Rattle.value.proofs.Slices.{overlay_length, overlay_nil, overlay_overlay, overlay_store, part_overlay}
use Rattle.layout.specs.Entry.{entry_size}
use Rattle.layout.proofs.EntryLaws.{EntryLaws}
use Rattle.runs.specs.Runs.{Step, ends_like, entries_of, index_of, joined}
use Rattle.runs.proofs.Joined.{ends_snoc}
use Rattle.runs.proofs.Laid.{entries_length, entries_snoc, entry_for, same_entry}
use Rattle.steps.specs.Storing.{Appendable, Appended, Roomy, Wrote, last_at, repeats_last}

repeats_more : (n : ℕ) (last entry : List ℕ) → repeats_last (n + 1) last entry ≡ same last entry
unfolding repeats_last
repeats_more n last entry = rw (add-one n)

-- of at most `all` steps, whose entries have the largest set M
pub record Storing (w : ℕ) (M : States) (stride all : ℕ) (out_bytes out_indices : List ℕ) (kept : List Step) (count : ℕ) (bytes indices : List ℕ) : Type 0 where
  pub counted : count ≡ length kept
  pub ended : (x : Step) → ends_like (same_entry w M) kept x ≡ repeats_last count (last_at (entry_size w M) stride count bytes) (entry_for w M x)
  pub long : length bytes ≡ length out_bytes
  pub stored : stride ≡ entry_size w M → bytes ≡ overlay out_bytes 0 (entries_of w M kept)
  pub indexed : all ≤ length out_indices → indices ≡ overlay out_indices 0 (map index_of kept)

pub storing_none : {w : ℕ} {M : States} {stride all : ℕ} {out_bytes out_indices : List ℕ} → Storing w M stride all out_bytes out_indices [] 0 out_bytes out_indices
unfolding entries_of ends_like repeats_last
storing_none {out_bytes = out_bytes} {out_indices = out_indices} =
    record { counted = refl; ended = λ x. refl; long = refl; stored = λ f. sym (overlay_nil out_bytes 0); indexed = λ g. sym (overlay_nil out_indices 0) }

module _ {w : ℕ} {M : States} {stride all : ℕ} {out_bytes out_indices : List ℕ} {kept : List Step} {count : ℕ} {bytes indices : List ℕ}
    (t : Storing w M stride all out_bytes out_indices kept count bytes indices) where
  abbrev size : ℕ
  size = entry_size w M

  -- where all are stored
  pub storing_done : {steps : List Step} → all ≡ length steps → kept ≡ steps → Wrote w M stride steps out_bytes out_indices count bytes indices
  storing_done {steps} a z =
      record {
        counted = t.counted ∙ ap length z;
        stored =
            λ f g.
            record {
              entries = t.stored f ∙ ap (λ (l : List Step). overlay out_bytes 0 (entries_of w M l)) z;
              times = t.indexed (rw a g) ∙ ap (λ (l : List Step). overlay out_indices 0 (map index_of l)) z;
            };
      }

  module _ (L : EntryLaws w) (room : Roomy all size stride out_bytes) (s : Step) (entry : List ℕ) (is : entry ≡ entry_for w M s)
      (few : count ≤ all) (new_few : ends_like (same_entry w M) kept s ≡ false → count < all) where
    abbrev again : Bool
    again = repeats_last count (last_at size stride count bytes) entry

    again_is : ends_like (same_entry w M) kept s ≡ again
    again_is = t.ended s ∙ ap (repeats_last count (last_at size stride count bytes)) (sym is)

    entry_long : length entry ≡ size
    entry_long = ap length is ∙ L.sized M s.set (codes_of s.string)

    new_fits : again ≡ false → count * stride + size ≤ length bytes
    new_fits h = rw t.long (room count (new_few (again_is ∙ h)))

    pub appendable : {e : List ℕ} → e ≡ entry → count ≤ 8388608 → Appendable e stride count bytes
    appendable {e} q most =
        rw q
        (record {
          few = most;
          last = λ h. rw (entry_long, t.long) (room (count - 1) (omega arith));
          room = λ h. rw entry_long (new_fits (rw entry_long at h));
        })

    module _ {r : ℕ} {newBytes newIndices : List ℕ} (a : Appended entry stride count bytes r newBytes)
        (y : newIndices ≡ cond (ltb count r) (set indices count s.index) indices) where
      repeated : again ≡ true → Storing w M stride all out_bytes out_indices (joined (same_entry w M) kept s) r newBytes newIndices
      unfolding joined
      repeated h =
          let n : r ≡ count = a.counted ∙ rw (entry_long, h) in
          let m : newBytes ≡ bytes = a.stored ∙ rw (entry_long, h) in
          rw (again_is ∙ h)
          (record {
            counted = n ∙ t.counted;
            ended = λ o. rw (n, m) (t.ended o);
            long = ap length m ∙ t.long;
            stored = λ f. m ∙ t.stored f;
            indexed = λ g. y ∙ rw (n, le-ltb count count (omega arith)) (t.indexed g);
          })

      appended : again ≡ false → Storing w M stride all out_bytes out_indices (joined (same_entry w M) kept s) r newBytes newIndices
      unfolding joined
      appended h =
          let n : r ≡ count + 1 = a.counted ∙ rw (entry_long, h) in
          let m : newBytes ≡ overlay bytes (count * stride) entry = a.stored ∙ rw (entry_long, h) in
          let k : count + 1 - 1 ≡ count = omega arith in
          let f : count * stride + size ≤ length bytes = new_fits h in
          let there : last_at size stride (count + 1) (overlay bytes (count * stride) entry) ≡ entry =
          ap (λ (j : ℕ). part (j * stride) size (overlay bytes (count * stride) entry)) k ∙ part_overlay bytes entry (count * stride) size (omega arith) entry_long in
          rw (again_is ∙ h)
          (record {
            counted = n ∙ rw (length-append kept (s ∷ [])) (omega (arith, t.counted));
            ended =
                λ o.
                rw (n, m)
                (ends_snoc (same_entry w M) kept s o
                ∙ ap (λ (l : List ℕ). same l (entry_for w M o)) (sym (there ∙ is))
                ∙ sym (repeats_more count (last_at size stride (count + 1) (overlay bytes (count * stride) entry)) (entry_for w M o)));
            long = ap length m ∙ overlay_length bytes entry (count * stride) (rw entry_long f) ∙ t.long;
            stored =
                λ v.
                let E = entries_of w M kept in
                let f' : count * size + size ≤ length bytes = rw v at f in
                let E-fits : count * size ≤ length out_bytes = omega (arith, t.long) in
                let E-long : length E ≡ count * size = entries_length w L M kept ∙ ap (λ (z : ℕ). z * size) (sym t.counted) in
                m
                ∙ ap₂ (λ (l : List ℕ) (z : ℕ). overlay l (count * z) entry) (t.stored v) v
                ∙ overlay_overlay out_bytes 0 E entry (count * size) (rw (zero-add, E-long)) E-fits
                ∙ ap (overlay out_bytes 0) (ap (λ (z : List ℕ). E ++ z) is ∙ sym (entries_snoc w M kept s));
            indexed =
                λ g.
                y ∙ ap (λ (m : ℕ). cond (ltb count m) (set indices count s.index) indices) n
                ∙ ap (λ (o : Bool). cond o (set indices count s.index) indices) (lt-ltb count (count + 1) (omega arith))
                ∙ ap (λ (l : List ℕ). set l count s.index) (t.indexed g)
                ∙ overlay_store out_indices 0 (map index_of kept) count s.index (rw (zero-add, length-map kept index_of) (sym t.counted)) (omega (arith, new_few (again_is ∙ h)))
                ∙ ap (overlay out_indices 0) (sym (map-append index_of kept (s ∷ [])));
          })

      pub storing_on : Storing w M stride all out_bytes out_indices (joined (same_entry w M) kept s) r newBytes newIndices
      storing_on = go again refl
        where
          go : (o : Bool) → again ≡ o → Storing w M stride all out_bytes out_indices (joined (same_entry w M) kept s) r newBytes newIndices
          go true h = repeated h
          go false h = appended h
