-- Reading an entry and its text, from what its decoding steps say.
-- Assumes nothing.
use mathlib.Core.Path.{◌≡◌, refl, sym, ap, ◌∙◌, subst}
use mathlib.Core.Bool.{Bool, true, false, cond}
use mathlib.Core.List.{List, [], ◌∷◌}
use lib.Dec.{ltb, leb}
use Rattle.std.specs.Prelude.{Ok, Err}
use Prim.Native.Nat.{ℕ, suc, ◌+◌, ◌-◌, ◌*◌, ◌≤◌, ◌<◌}
use native.Mathlib.Nat.{mul-le-mul_right, suc-mul}
use native.Mathlib.Omega.{arith}
use lib.ListN.{length, drop, length-drop}
use borrow.Author.Tests.{ltb-false, lt-leb, leb-false}
use Rattle.value.specs.declared.States.{States}
use Rattle.value.specs.Slice.{part}
use Rattle.value.specs.Level.{mark_of, set_at, len_of}
use Rattle.value.proofs.Levels.{mark_set, mark_small}
use Rattle.value.proofs.Slices.{part_length, part_part}
use Rattle.fst.specs.declared.Encoding.{Encoding}
use Rattle.fst.specs.declared.Encoding.TheVariants.{Event, Real, BitVector}
use Rattle.fst.specs.declared.Description.{Description}
use Rattle.fst.specs.Refusal.{Reply, refused, given, ◌⇐◌, tried}
use Rattle.layout.specs.Entry.{entry_size}
use Rattle.fst.specs.Record.{size_of, has_no_text, used_size, is_bad_bytes}
use Rattle.layout.proofs.Sizes.{size_pos}
use Rattle.layout.proofs.EntryParts.{len_fits}
use Rattle.fst.proofs.Adding.{width_known}
use Rattle.fst.proofs.Rooms.{stands}
use Rattle.signal.specs.Decode.{entry_at, mark_in, set_in, level_part, levels_in, has_bad_mark, has_bad_code, codes_at}
use Rattle.fst.specs.declared.Refusal.TheVariants.{BadMark}
use Rattle.signal.specs.Read.{read_entry, read_text}
use Rattle.signal.specs.Parts.{own_states, Levels, Whole, Inside, Unpacked, unpacked, marked, coded, vector_in, answer_in, text_stored}

-- ---- one entry of a bit vector

pub vector : {e : Encoding} {w : ℕ} {M : States} {v : List ℕ} → e ≡ BitVector w M → Whole e v → Whole (BitVector w M) v
vector q h = rw q at h

-- what is known of an entry whose own set is told
pub record Owned (w : ℕ) (M : States) (v : List ℕ) (S : States) : Type 0 where
  pub sound : has_bad_mark (BitVector w M) v ≡ false
  pub set : set_in (BitVector w M) v ≡ S
  pub within : len_of w S ≤ length v
  pub part : drop (length v - len_of w S) v ≡ level_part (BitVector w M) v
  pub levels : Levels w S (level_part (BitVector w M) v)
  pub codes : codes_at w S (level_part (BitVector w M) v) ≡ levels_in (BitVector w M) v

-- an entry that is neither 9 nor 10, and its levels
pub record Sound (w : ℕ) (M : States) (v : List ℕ) (u : Unpacked) : Type 0 where
  pub mark : has_bad_mark (BitVector w M) v ≡ false
  pub code : has_bad_code (BitVector w M) v ≡ false
  pub is : u ≡ unpacked w M v

-- ---- the own set

module _ (w : ℕ) (M : States) (v : List ℕ) where
  pub own_set : {S : States} → own_states M v ≡ Ok S → (has_bad_mark (BitVector w M) v ≡ false) × (set_in (BitVector w M) v ≡ S)
  unfolding own_states has_bad_mark set_in
  own_set {S} h = go (ltb (mark_of M) (mark_in M v)) h
    where
      go : (b : Bool) → cond b (Err BadMark) (Ok (set_at (mark_in M v))) ≡ Ok S → (b ≡ false) × (set_at (mark_in M v) ≡ S)
      go true h = cc
      go false h = (refl, cc)

  pub set_own : has_bad_mark (BitVector w M) v ≡ false → {S : States} → S ≡ set_at (mark_in M v) → own_states M v ≡ Ok S
  unfolding own_states has_bad_mark
  set_own h e = rw (h, e)

  -- ---- the levels, or 9, and or 10

  pub marked_given : {u : Unpacked} → given u ≡ marked w M v → (has_bad_mark (BitVector w M) v ≡ false) × (u ≡ unpacked w M v)
  unfolding tried
  marked_given {u} = go (has_bad_mark (BitVector w M) v)
    where
      go : (b : Bool) → given u ≡ tried (9 ⇐ b ∷ []) (given (unpacked w M v)) → (b ≡ false) × (u ≡ unpacked w M v)
      go true e = cc
      go false e = (refl, cc)

  pub coded_refused : {n : ℕ} → refused n ≡ marked w M v → refused n ≡ coded w M v
  unfolding tried
  coded_refused {n} = go (has_bad_mark (BitVector w M) v) (has_bad_code (BitVector w M) v)
    where
      go : (b c : Bool) → refused n ≡ tried (9 ⇐ b ∷ []) (given (unpacked w M v)) → refused n ≡ tried (9 ⇐ b ∷ 10 ⇐ c ∷ []) (given (unpacked w M v))
      go true c e = e
      go false c e = cc

  pub codes_are : {u : Unpacked} → u ≡ unpacked w M v → codes_at u.width u.set u.part ≡ levels_in (BitVector w M) v
  unfolding levels_in
  codes_are e = rw e

  -- an entry that is neither 9 nor 10
  pub coded_given : {u : Unpacked} → given u ≡ coded w M v → Sound w M v u
  unfolding tried
  coded_given {u} = go (has_bad_mark (BitVector w M) v) refl (has_bad_code (BitVector w M) v) refl
    where
      go : (b : Bool) → has_bad_mark (BitVector w M) v ≡ b → (c : Bool) → has_bad_code (BitVector w M) v ≡ c
          → given u ≡ tried (9 ⇐ b ∷ 10 ⇐ c ∷ []) (given (unpacked w M v)) → Sound w M v u
      go true p c q e = cc
      go false p true q e = cc
      go false p false q e = record { mark = p; code = q; is = cc }

module _ {w : ℕ} {M : States} {v : List ℕ} (h : Whole (BitVector w M) v) where
  pub some : 0 < length v
  some = rw h.long (size_pos w (width_known M h.width).0 M)

  pub owned : {S : States} → own_states M v ≡ Ok S → Owned w M v S
  unfolding has_bad_mark set_in level_part levels_in
  owned {S} e =
      let t = own_set w M v e in
      let m : mark_in M v ≤ mark_of M = ltb-false _ _ t.0 in
      let k : mark_of S ≡ mark_in M v = ap mark_of (sym t.1) ∙ mark_set (mark_in M v) (omega (arith, mark_small M)) in
      let f : len_of w S ≤ entry_size w M = len_fits w S M (omega arith) in
      let l = h.long in
      record {
        sound = t.0;
        set = t.1;
        within = omega arith;
        part = rw (t.1, h.long);
        levels = record { short = (width_known M h.width).1; long = rw (t.1, length-drop) (omega arith) };
        codes = rw t.1;
      }

-- ---- Read

-- an entry within a record's used part
pub entry_within : (d : Description) (bytes : List ℕ) (start k : ℕ) → k < d.count
    → entry_at d.encoding 0 (part start (used_size d) bytes) k ≡ entry_at d.encoding start bytes k
unfolding entry_at
entry_within d bytes start k h =
    let z = size_of d.encoding in
    let a : k * z + z ≤ used_size d = subst (λ (n : ℕ). n ≤ used_size d) (suc-mul k z) (mul-le-mul_right z h) in
    part_part bytes start (used_size d) (0 + k * z) z (omega arith) ∙ ap (λ (n : ℕ). part n z bytes) (omega arith)

-- a record whose bytes are not 2, and that has an entry k
pub record HasEntry (d : Description) (bytes : List ℕ) (start k : ℕ) : Type 0 where
  pub sound : is_bad_bytes d start bytes ≡ false
  pub below : k < d.count

module _ {d : Description} {bytes : List ℕ} {start k : ℕ} (h : HasEntry d bytes start k) where
  pub read_on_lem : read_entry d bytes start k ≡ answer_in d.encoding (entry_at d.encoding start bytes k)
  unfolding read_entry tried answer_in
  read_on_lem = rw (h.sound, lt-leb d.count k h.below)

  pub inside : Inside d.encoding start bytes k
  inside =
      let z = size_of d.encoding in
      let a : suc k * z ≤ d.count * z = mul-le-mul_right z h.below in
      let b : suc k * z ≡ k * z + z = suc-mul k z in
      omega (arith, (stands d start bytes h.sound).room)

  pub whole : Whole d.encoding (entry_at d.encoding start bytes k)
  unfolding entry_at
  whole =
      let i = inside in
      record { width = (stands d start bytes h.sound).width; long = part_length bytes _ _ (omega arith) }

-- ---- Text

-- neither of an encoding's first two variants has a text
pub no_text : (e : Encoding) → ((w : ℕ) (M : States) → e ≡ BitVector w M → ⊥) → has_no_text e ≡ true
unfolding has_no_text
no_text Event o = refl
no_text Real o = refl
no_text (BitVector w M) o = absurd (o w M refl)

-- an entry of a bit vector, found in a record
pub record Found (d : Description) (bytes : List ℕ) (start k : ℕ) (e : Encoding) (v : List ℕ) : Type 0 where
  pub has : HasEntry d bytes start k
  pub encoding : d.encoding ≡ e
  pub part : v ≡ entry_at d.encoding start bytes k

module _ (d : Description) (bytes : List ℕ) (start k : ℕ) where
  pub vector_given : {e : Encoding} {v : List ℕ} → ◌≡◌ {A = Reply (Encoding × List ℕ)} (given (e, v)) (vector_in d bytes start k) → Found d bytes start k e v
  unfolding vector_in tried
  vector_given {e} {v} = go (is_bad_bytes d start bytes) refl (has_no_text d.encoding) (leb d.count k) refl
    where
      go : (a : Bool) → is_bad_bytes d start bytes ≡ a → (b c : Bool) → leb d.count k ≡ c
          → ◌≡◌ {A = Reply (Encoding × List ℕ)} (given (e, v)) (tried (2 ⇐ a ∷ 3 ⇐ b ∷ 8 ⇐ c ∷ []) (given (d.encoding, entry_at d.encoding start bytes k))) → Found d bytes start k e v
      go true p b c r h = cc
      go false p true c r h = cc
      go false p false true r h = cc
      go false p false false r h =
          let i : ◌≡◌ {A = Encoding × List ℕ} (e, v) (d.encoding, entry_at d.encoding start bytes k) = cc in
          record { has = record { sound = p; below = leb-false _ _ r }; encoding = sym (ap (λ (x : Encoding × List ℕ). x.0) i); part = ap (λ (x : Encoding × List ℕ). x.1) i }

pub text_on : {d : Description} {bytes : List ℕ} {start k : ℕ} → HasEntry d bytes start k → {w : ℕ} {M : States} → d.encoding ≡ BitVector w M
    → {v : List ℕ} → v ≡ entry_at d.encoding start bytes k → (out : List ℕ) → text_stored w M v out ≡ read_text d bytes start k out
unfolding read_text tried has_no_text text_stored
text_on {d} {k} h e q out = rw (q, h.sound, e, lt-leb d.count k h.below)
