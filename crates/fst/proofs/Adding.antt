-- What Add a change leaves, from the outcome of each of its tests.
-- Assumes nothing.
use mathlib.Core.Path.{◌≡◌, refl, sym, ap, ◌∙◌}
use mathlib.Core.Bool.{Bool, true, false, ◌&&◌}
use mathlib.Core.List.{List, [], ◌∷◌, ◌++◌}
use Prim.Native.Nat.{ℕ, zero, suc, ◌+◌, ◌-◌, ◌≤◌, ◌<◌}
use native.Mathlib.Omega.{arith}
use lib.Dec.{leb, ltb, leb→le}
use lib.ListN.{length, get_or, set, length-append}
use Rattle.value.specs.declared.States.{States}
use Rattle.value.specs.Slice.{part, overlay}
use Rattle.value.proofs.Tests.{to_t, and_left, and_right}
use Rattle.value.proofs.Slices.{part_length, part_at, overlay_part, overlay_snoc, overlay_overlay}
use Rattle.fst.specs.declared.Encoding.{Encoding}
use Rattle.fst.specs.declared.Encoding.TheVariants.{BitVector}
use Rattle.fst.specs.declared.Description.{Description}
use Rattle.std.specs.Prelude.{None, Some}
use Rattle.fst.specs.Refusal.{tried, Outcome}
use Rattle.fst.specs.Record.{Lent, Kept, Recorder, kept_in, width_stands, is_bad, described}
use Rattle.fst.specs.Change.{Change, is_other_kind, is_other_length, is_foreign, is_below_last, with_change, lacks_room, refusals, in_hand, stored, add_change}
use Rattle.fst.specs.Adding.{Admitted, Adds, added, last_in, left_with}
use Rattle.fst.proofs.Records.{Standing}

-- ---- a width

pub width_known : {w : ℕ} (M : States) → width_stands (BitVector w M) ≡ true → (1 ≤ w) × (w ≤ 4096)
unfolding width_stands
width_known {w} M h =
    let t = to_t (leb 1 w && leb w 4096) h in
    (leb→le 1 w (and_left (leb 1 w) (leb w 4096) t), leb→le w 4096 (and_right (leb 1 w) (leb w 4096) t))

-- it says nothing of the set
pub width_any : (w : ℕ) (M N : States) → width_stands (BitVector w M) ≡ true → width_stands (BitVector w N) ≡ true
unfolding width_stands
width_any w M N h = h

-- ---- a refusal, and an acceptance

-- refused with a number, and everything as it was
abbrev pub refused_with : Description → Lent → ℕ → Outcome (Recorder Description)
refused_with d l n = record { refused = n; left = in_hand d l }

-- accepted, with what is left
abbrev pub accepted_with : Recorder Description → Outcome (Recorder Description)
accepted_with r = record { refused = 0; left = r }

-- numbers 2 to 5 are none
pub record Suited (d : Description) (l : Lent) (c : Change) : Type 0 where
  pub standing : Standing d l
  pub kind : is_other_kind d.encoding c ≡ false
  pub long : is_other_length d.encoding c ≡ false
  pub known : is_foreign d.encoding c ≡ false

-- is an index below the last kept
abbrev pub below : Description → Lent → ℕ → Bool
below d l i = is_below_last i d.count (part l.index_start d.count l.indices)

pub gives_2 : (d : Description) (l : Lent) (i : ℕ) (c : Change) → is_bad d l ≡ true → refused_with d l 2 ≡ add_change d l i c
unfolding add_change refusals tried
gives_2 d l i c h = rw h

module _ {d : Description} {l : Lent} (s : Standing d l) (i : ℕ) (c : Change) where
  pub gives_3 : is_other_kind d.encoding c ≡ true → refused_with d l 3 ≡ add_change d l i c
  unfolding add_change refusals tried
  gives_3 h = rw (s.sound, h)

  module _ (kind : is_other_kind d.encoding c ≡ false) where
    pub gives_4 : is_other_length d.encoding c ≡ true → refused_with d l 4 ≡ add_change d l i c
    unfolding add_change refusals tried
    gives_4 h = rw (s.sound, kind, h)

    pub gives_5 : is_other_length d.encoding c ≡ false → is_foreign d.encoding c ≡ true → refused_with d l 5 ≡ add_change d l i c
    unfolding add_change refusals tried
    gives_5 long h = rw (s.sound, kind, long, h)

module _ {d : Description} {l : Lent} {c : Change} (u : Suited d l c) (i : ℕ) where
  pub gives_6 : true ≡ below d l i → refused_with d l 6 ≡ add_change d l i c
  unfolding add_change refusals tried kept_in
  gives_6 h = rw (u.standing.sound, u.kind, u.long, u.known, ← h)

  pub admits : false ≡ below d l i → Admitted d l i c
  unfolding kept_in
  admits h = record { sound = u.standing.sound; kind = u.kind; long = u.long; known = u.known; rises = sym h }

-- the record with the change, and whether it has room
module _ {d : Description} {l : Lent} {i : ℕ} {c : Change} (a : Admitted d l i c) {k : Kept} (e : with_change (kept_in d l) i c ≡ k) where
  pub gives_7 : lacks_room k l ≡ true → refused_with d l 7 ≡ add_change d l i c
  unfolding add_change refusals tried
  gives_7 h = rw (a.sound, a.kind, a.long, a.known, a.rises, e, h)

  pub left_change : left_with d l k ≡ add_change d l i c
  unfolding left_with add_change refusals tried
  left_change = rw (a.sound, a.kind, a.long, a.known, a.rises, e)

  pub accepted : {r : Recorder Description} → stored l k ≡ r → lacks_room k l ≡ false → accepted_with r ≡ add_change d l i c
  unfolding add_change refusals tried
  accepted s h = rw (a.sound, a.kind, a.long, a.known, a.rises, e, h, s)

pub left_added : {d : Description} {l : Lent} {i : ℕ} {c : Change} {new : List ℕ} {again : Bool} → Adds d l i c new again → left_with d l (added d l i new again) ≡ add_change d l i c
left_added a = left_change a.admitted a.is

-- ---- the last index kept

pub last_none : (n : ℕ) (l : List ℕ) → (1 ≤ n → ⊥) → None ≡ last_in n l
unfolding last_in
last_none zero l h = refl
last_none (suc n) l h = absurd (h (omega arith))

pub last_some : (n : ℕ) (l : List ℕ) (start : ℕ) → 1 ≤ n → Some (get_or l (start + (n - 1)) 0) ≡ last_in n (part start n l)
unfolding last_in
last_some zero l start h = absurd (omega arith)
last_some (suc m) l start h =
    let e : start + (suc m - 1) ≡ start + m = omega arith in
    ap Some (ap (λ (k : ℕ). get_or l k 0) e ∙ sym (part_at l start (suc m) m 0 (let h : m < suc m = omega arith in h)))

pub below_none : (i n : ℕ) (l : List ℕ) → last_in n l ≡ None → false ≡ is_below_last i n l
unfolding last_in is_below_last
below_none i zero l e = refl
below_none i (suc n) l e = let z : ◌≡◌ {A = ℕ} 0 1 = cc in absurd (omega arith)

pub below_some : (i n : ℕ) (l : List ℕ) (last : ℕ) → last_in n l ≡ Some last → ltb i last ≡ is_below_last i n l
unfolding last_in is_below_last
below_some i zero l last e = let z : ◌≡◌ {A = ℕ} 0 1 = cc in absurd (omega arith)
below_some i (suc n) l last e = let z : get_or l n 0 ≡ last = cc in rw z

-- ---- what a record leaves in the slices

abbrev pub indices_kept : Lent → ℕ → List ℕ
indices_kept l n = part l.index_start n l.indices

module _ (l : Lent) (e : Encoding) (n : ℕ) where
  -- no index more
  pub stored_same : (bytes : List ℕ) → l.index_start + n ≤ length l.indices
      → stored l (record { encoding = e; bytes = bytes; indices = indices_kept l n })
      ≡ record { description = described e n; bytes = overlay l.bytes l.byte_start bytes; indices = l.indices }
  unfolding stored
  stored_same bytes h = rw (overlay_part l.indices l.index_start n h, part_length l.indices l.index_start n h)

  pub count_more : (i : ℕ) → l.index_start + n ≤ length l.indices → length (indices_kept l n ++ (i ∷ [])) ≡ n + 1
  count_more i h = length-append (indices_kept l n) (i ∷ []) ∙ ap (λ (k : ℕ). k + 1) (part_length l.indices l.index_start n h)

  -- an entry and an index behind m bytes and n indices
  pub stored_more : (m i : ℕ) (bytes new : List ℕ) → length bytes ≡ m → l.byte_start + m ≤ length l.bytes → l.index_start + n < length l.indices
      → stored l (record { encoding = e; bytes = bytes ++ new; indices = indices_kept l n ++ (i ∷ []) })
      ≡ record {
        description = described e (n + 1);
        bytes = overlay (overlay l.bytes l.byte_start bytes) (l.byte_start + m) new;
        indices = set l.indices (l.index_start + n) i;
      }
  unfolding stored
  stored_more m i bytes new z hb hi =
      let g : l.byte_start + length bytes ≡ l.byte_start + m = ap (λ (k : ℕ). l.byte_start + k) z in
      rw (
        overlay_snoc l.indices l.index_start n i hi,
        ← overlay_overlay l.bytes l.byte_start bytes new (l.byte_start + m) g hb,
        count_more i (omega arith),
      )

  -- behind the bytes that stood there
  pub stored_behind : (m i : ℕ) (new : List ℕ) → l.byte_start + m ≤ length l.bytes → l.index_start + n < length l.indices
      → stored l (record { encoding = e; bytes = part l.byte_start m l.bytes ++ new; indices = indices_kept l n ++ (i ∷ []) })
      ≡ record { description = described e (n + 1); bytes = overlay l.bytes (l.byte_start + m) new; indices = set l.indices (l.index_start + n) i }
  stored_behind m i new hb hi =
      stored_more m i (part l.byte_start m l.bytes) new (part_length l.bytes l.byte_start m hb) hb hi ∙ rw (overlay_part l.bytes l.byte_start m hb)
