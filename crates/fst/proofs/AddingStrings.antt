-- What Add a change leaves of a string for a bit vector.
-- Assumes nothing.
use mathlib.Core.Path.{◌≡◌, refl, sym, ap, ◌∙◌}
use mathlib.Core.Bool.{Bool, true, false, not, cond}
use mathlib.Core.List.{List, [], ◌∷◌, ◌++◌}
use Prim.Native.Nat.{ℕ, suc, ◌+◌, ◌*◌, ◌≤◌}
use native.Mathlib.Nat.{suc-mul, mul-le-mul_right}
use native.Mathlib.Numerals.{add-one}
use native.Mathlib.Omega.{arith}
use borrow.Author.Tests.{not-false, eq-eqb, ne_eqb}
use lib.ListN.{length, set}
use Rattle.value.specs.declared.States.{States}
use Rattle.std.specs.Prelude.{None, Some}
use Rattle.value.specs.Slice.{part, overlay}
use Rattle.value.specs.Level.{mark_of, codes_of, fold_all, has_no_code, join}
use Rattle.value.specs.Answer.{least_states}
use Rattle.value.proofs.Levels.{mark_inj, mark_join, all_below_lem}
use Rattle.value.proofs.Levels as levels
use Rattle.value.proofs.Classes.{foreign_told, least_told}
use Rattle.value.proofs.Slices.{part_length}
use Rattle.wavemem.specs.Packed.{Codes}
use Rattle.fst.specs.declared.Encoding.{Encoding}
use Rattle.fst.specs.declared.Encoding.TheVariants.{BitVector}
use Rattle.fst.specs.declared.Description.{Description}
use Rattle.layout.specs.Entry.{entry_size, widen_all}
use Rattle.layout.specs.Writable.{Writable, entry_from}
use Rattle.fst.specs.Record.{Lent, Kept, Recorder, size_of, kept_in, width_stands, fits, described}
use Rattle.fst.specs.Change.{text, is_other_kind, is_other_length, is_foreign, appended, changed, with_change, lacks_room, add_change}
use Rattle.fst.specs.Adding.{Admitted, AdmittedString, Adds}
use Rattle.entries.specs.Repeatable.{wider, repeats_plain, repeats_widened}
use Rattle.layout.proofs.Sizes.{widen_all_same, widen_all_length}
use Rattle.layout.proofs.Entries.{sized}
use Rattle.fst.proofs.Records.{Fits, fits_room, Standing, standing, indices_used}
use Rattle.fst.proofs.AddingPlain.{Roomier}
use Rattle.fst.proofs.Adding.{width_known, width_any, refused_with, accepted_with, Suited, gives_4, gives_5, gives_7, accepted, indices_kept, stored_same, count_more, stored_more}

-- ---- numbers 4 to 6

module _ {d : Description} {l : Lent} (st : Standing d l) {w : ℕ} {M : States} (vector : d.encoding ≡ BitVector w M) (i : ℕ) (s : List ℕ) where
  string_kind : is_other_kind d.encoding (text s) ≡ false
  unfolding is_other_kind
  string_kind = rw vector

  pub string_gives_4 : (length s ≡ w → ⊥) → refused_with d l 4 ≡ add_change d l i (text s)
  unfolding is_other_length
  string_gives_4 h = gives_4 st i (text s) string_kind (rw (vector, ne_eqb (length s) w h))

  module _ (long : length s ≡ w) where
    string_long : is_other_length d.encoding (text s) ≡ false
    unfolding is_other_length
    string_long = rw (vector, eq-eqb (length s) w long)

    pub string_gives_5 : least_states s ≡ None → refused_with d l 5 ≡ add_change d l i (text s)
    unfolding is_foreign
    string_gives_5 e = gives_5 st i (text s) string_kind string_long (rw vector (foreign_told s e))

    module _ {own : States} (least : least_states s ≡ Some own) where
      pub string_suited : Suited d l (text s)
      unfolding is_foreign
      string_suited = record { standing = st; kind = string_kind; long = string_long; known = rw vector (least_told s own least).0 }

      pub string_levels : Admitted d l i (text s) → AdmittedString d l i M own s
      string_levels a =
          record {
            admitted = a;
            vector = vector ∙ ap (λ (k : ℕ). BitVector k M) (sym long);
            least = (least_told s own least).1;
          }

-- ---- a string's levels, for a record of w levels under M, which J joins with the string's own set

-- the earlier entries under the set that is then the largest
abbrev pub widened : Description → Lent → List ℕ → States → States → List ℕ
widened d l s M J = widen_all (length s) M J d.count (part l.byte_start (d.count * entry_size (length s) M) l.bytes)

-- what is left of them, and with an entry and an index more
abbrev pub left_wide : Description → Lent → List ℕ → States → States → ℕ → Recorder Description
left_wide d l s M J n =
    record { description = described (BitVector (length s) J) n; bytes = overlay l.bytes l.byte_start (widened d l s M J); indices = l.indices }

abbrev pub left_wider : Description → Lent → ℕ → List ℕ → States → States → States → ℕ → Recorder Description
left_wider d l i s M own J n =
    record {
      description = described (BitVector (length s) J) n;
      bytes = overlay (overlay l.bytes l.byte_start (widened d l s M J)) (l.byte_start + d.count * entry_size (length s) J) (entry_from J own s);
      indices = set l.indices (l.index_start + d.count) i;
    }

module _ {d : Description} {l : Lent} {i : ℕ} {s : List ℕ} {M own : States} (v : AdmittedString d l i M own s) where
  pub string_standing : Standing d l
  string_standing = standing v.admitted.sound

  width_here : width_stands (BitVector (length s) M) ≡ true
  width_here = ap width_stands (sym v.vector) ∙ string_standing.width

  pub room_here : l.byte_start + d.count * entry_size (length s) M ≤ length l.bytes
  room_here = rw v.vector at string_standing.room.bytes

  codes : Codes own (codes_of (fold_all s))
  unfolding is_foreign
  codes =
      let k : has_no_code (codes_of (fold_all s)) ≡ false = ap (λ (e : Encoding). is_foreign e (text s)) (sym v.vector) ∙ v.admitted.known in
      let b = all_below_lem (codes_of (fold_all s)) k in
      record { known = b; below = rw v.least (levels.under (codes_of (fold_all s)) b) }

  module _ {J : States} (j : J ≡ join M own) where
    abbrev w : ℕ
    w = length s

    abbrev n : ℕ
    n = d.count

    -- the record with the change
    abbrev kept : Bool → Kept
    kept r =
        cond r
        (record { encoding = BitVector w J; bytes = widened d l s M J; indices = indices_kept l n })
        (record { encoding = BitVector w J; bytes = widened d l s M J ++ entry_from J own s; indices = indices_kept l n ++ (i ∷ []) })

    with_levels : (r : Bool) → r ≡ repeats_widened (wider M J own s) l.byte_start n l.bytes → with_change (kept_in d l) i (text s) ≡ kept r
    unfolding kept_in changed appended
    with_levels r e = rw (v.vector, indices_used string_standing, ← v.least, ← j, ← e)

    pub up : mark_of M ≤ mark_of J
    up = omega (arith, ap mark_of j, mark_join M own)

    under_joint : mark_of own ≤ mark_of J
    under_joint = omega (arith, ap mark_of j, mark_join M own)

    pub width_then : width_stands (BitVector w J) ≡ true
    width_then = width_any w M J width_here

    -- the string's entry under it
    pub joint_writable : Writable J own s (entry_size w J) 0
    joint_writable =
        let p = width_known M width_here in
        record { under = under_joint; codes = codes; wide = p.0; short = p.1; fits = omega arith }

    module _ {r : Bool} (told : r ≡ repeats_widened (wider M J own s) l.byte_start n l.bytes) {total : ℕ} (counted : total ≡ cond r n (n + 1)) where
      room_told : lacks_room (kept r) l ≡ not (fits (BitVector w J) total l)
      room_told = go r counted
        where
          go : (r : Bool) → total ≡ cond r n (n + 1) → lacks_room (kept r) l ≡ not (fits (BitVector w J) total l)
          go true c = ap (λ (m : ℕ). not (fits (BitVector w J) m l)) (indices_used string_standing ∙ sym c)
          go false c = ap (λ (m : ℕ). not (fits (BitVector w J) m l)) (count_more l (BitVector w J) n i string_standing.room.indices ∙ sym c)

      pub levels_full : not (fits (BitVector w J) total l) ≡ true → refused_with d l 7 ≡ add_change d l i (text s)
      levels_full h = gives_7 v.admitted (with_levels r told) (room_told ∙ h)

      module _ (roomy : not (fits (BitVector w J) total l) ≡ false) where
        fit : Fits (BitVector w J) total l
        fit = fits_room (not-false _ roomy)

        not_less : n ≤ total
        not_less = go r counted
          where
            go : (r : Bool) → total ≡ cond r n (n + 1) → n ≤ total
            go true e = omega arith
            go false e = omega arith

        pub widenable : (n ≤ 1048576) × (l.byte_start + n * entry_size w J ≤ length l.bytes)
        widenable = (string_standing.room.count, omega (arith, fit.bytes, mul-le-mul_right (entry_size w J) not_less))

        -- room for one entry more
        pub wider_room : r ≡ false → Roomier d l (entry_size w J)
        wider_room e =
            let z : total ≡ suc n = counted ∙ rw e (add-one n) in
            let b : total * entry_size w J ≡ n * entry_size w J + entry_size w J = ap (λ (k : ℕ). k * entry_size w J) z ∙ suc-mul n (entry_size w J) in
            record { bytes = omega (arith, fit.bytes); index = omega (arith, fit.indices) }

        pub levels_stay : r ≡ true → accepted_with (left_wide d l s M J total) ≡ add_change d l i (text s)
        levels_stay e =
            let z : total ≡ n = counted ∙ rw e in
            ap (λ (m : ℕ). accepted_with (left_wide d l s M J m)) z
            ∙ accepted v.admitted (with_levels r told) (rw e (stored_same l (BitVector w J) n (widened d l s M J) string_standing.room.indices)) (room_told ∙ roomy)

        pub levels_grow : r ≡ false → accepted_with (left_wider d l i s M own J total) ≡ add_change d l i (text s)
        levels_grow e =
            let p = width_known M width_here in
            let u : List ℕ = part l.byte_start (n * entry_size w M) l.bytes in
            let z : length u ≡ n * entry_size w M = part_length l.bytes l.byte_start (n * entry_size w M) room_here in
            let x : length (widened d l s M J) ≡ n * entry_size w J = widen_all_length w p.0 M J up n u (omega arith) in
            let b : l.byte_start + n * entry_size w J ≤ length l.bytes = omega (arith, (wider_room e).bytes) in
            let t : total ≡ n + 1 = counted ∙ rw e in
            ap (λ (m : ℕ). accepted_with (left_wider d l i s M own J m)) t
            ∙ accepted v.admitted (with_levels r told)
            (rw e (stored_more l (BitVector w J) n (n * entry_size w J) i (widened d l s M J) (entry_from J own s) x b (wider_room e).index))
            (room_told ∙ roomy)

  -- ---- a string that raises no set

  module _ (low : mark_of own ≤ mark_of M) where
    joined : M ≡ join M own
    joined = mark_inj M (join M own) (omega (arith, mark_join M own))

    same_writable : Writable M own s (entry_size (length s) M) 0
    same_writable = joint_writable joined

    pub size_here : {size : ℕ} → size ≡ entry_size (length s) M → size_of d.encoding ≡ size
    size_here e = ap size_of v.vector ∙ sym e

    -- the string's entry has the record's size
    pub entry_long : {new : List ℕ} → new ≡ entry_from M own s → length new ≡ size_of d.encoding
    entry_long e = ap length e ∙ sized (length s) same_writable.wide M own (codes_of (fold_all s)) ∙ sym (ap size_of v.vector)

    -- and is stored as such
    pub new_writable : {size : ℕ} → size ≡ entry_size (length s) M → Writable M own s size 0
    new_writable e = rw e same_writable

    -- the bytes as they are
    abbrev kept_bytes : List ℕ
    kept_bytes = part l.byte_start (d.count * entry_size (length s) M) l.bytes

    stay : widen_all (length s) M M d.count kept_bytes ≡ kept_bytes
    stay = widen_all_same (length s) M M refl d.count kept_bytes (part_length l.bytes l.byte_start _ room_here)

    pub text_adds : {new : List ℕ} → new ≡ entry_from M own s → Adds d l i (text s) new (repeats_plain new l.byte_start d.count l.bytes)
    unfolding kept_in changed appended
    text_adds e =
        let z = entry_long e in
        record {
          admitted = v.admitted;
          sized = z;
          is = rw (z, e, v.vector, indices_used string_standing, ← v.least, ← joined, stay);
        }
