-- "a repeat that raises no set is never refused so", by 7: of any record, also one that no writer made.
-- Assumes nothing.
use mathlib.Core.Path.{◌≡◌, refl, sym, ap, ◌∙◌}
use Prim.Native.Nat.{ℕ, ◌*◌}
use native.Mathlib.Omega.{arith}
use mathlib.Core.Bool.{Bool, true, false, true≢false}
use mathlib.Core.List.{List, [], ◌∷◌, reverse}
use lib.ListN.{length}
use Rattle.value.specs.Digits.{digits}
use Rattle.value.specs.Level.{fold_all, codes_of, least_of, join}
use Rattle.fst.specs.declared.Encoding.{Encoding}
use Rattle.fst.specs.declared.Encoding.TheVariants.{Event, Real, BitVector}
use Rattle.fst.specs.declared.Description.{Description}
use Rattle.fst.specs.Refusal.{given, ◌⇐◌, tried, outcome}
use Rattle.layout.specs.Entry.{entry_size, entry_of}
use Rattle.fst.specs.Record.{Lent, Kept, Recorder, size_of, kept_in, is_bad}
use Rattle.fst.specs.Change.{Change, text, real, is_other_kind, is_other_length, is_foreign, is_below_last, appended, changed, with_change, lacks_room, refusals, in_hand, stored, add_change}
use Rattle.entries.specs.Repeats.{repeats}
use Rattle.fst.specs.Adding.{Admitted}
use Rattle.layout.proofs.Sizes.{widen_all_same}
use Rattle.fst.proofs.Records.{Standing, standing, bytes_used, indices_used}
use Rattle.fst.proofs.Adding.{accepted}
use Rattle.fst.proofs.AddingPlain.{same_room, same_stored}

-- a change whose bytes equal those of the last of n entries, and that raises no set
abbrev pub IsRepeat : Encoding → ℕ → List ℕ → Change → Type 0
IsRepeat Event n bytes c = ⊥
IsRepeat Real n bytes (text s) = ⊥
IsRepeat Real n bytes (real x) = repeats 8 n bytes (reverse (digits 256 8 x)) ≡ true
IsRepeat (BitVector w M) n bytes (text s) =
    let codes = codes_of (fold_all s) in
    (join M (least_of codes) ≡ M) × (repeats (entry_size w M) n bytes (entry_of w M (least_of codes) codes) ≡ true)
IsRepeat (BitVector w M) n bytes (real x) = ⊥

-- ---- a repeat alters nothing

stays : (e : Encoding) (bytes indices : List ℕ) (i : ℕ) (new : List ℕ) → repeats (size_of e) (length indices) bytes new ≡ true
    → appended e bytes indices i new ≡ record { encoding = e; bytes = bytes; indices = indices }
unfolding appended
stays e bytes indices i new r = rw r

unchanged : (e : Encoding) (bytes indices : List ℕ) (i : ℕ) (c : Change) → length bytes ≡ length indices * size_of e → IsRepeat e (length indices) bytes c
    → changed e bytes indices i c ≡ record { encoding = e; bytes = bytes; indices = indices }
unfolding changed
unchanged Event bytes indices i c z r = absurd r
unchanged Real bytes indices i (text s) z r = absurd r
unchanged Real bytes indices i (real x) z r = stays Real bytes indices i (reverse (digits 256 8 x)) r
unchanged (BitVector w M) bytes indices i (real x) z r = absurd r
unchanged (BitVector w M) bytes indices i (text s) z r =
    let codes = codes_of (fold_all s) in
    rw (r.0, widen_all_same w M M refl (length indices) bytes z) (stays (BitVector w M) bytes indices i (entry_of w M (least_of codes) codes) r.1)

module _ (d : Description) (l : Lent) (i : ℕ) (c : Change) (again : IsRepeat d.encoding d.count (kept_in d l).bytes c) where
  repeat_kept : Standing d l → with_change (kept_in d l) i c ≡ kept_in d l
  unfolding kept_in
  repeat_kept s =
      let n = indices_used s in
      unchanged d.encoding (kept_in d l).bytes (kept_in d l).indices i c (rw n (bytes_used s)) (rw n again)

  repeat_fits : Standing d l → lacks_room (with_change (kept_in d l) i c) l ≡ false
  repeat_fits s = ap (λ (k : Kept). lacks_room k l) (repeat_kept s) ∙ same_room s

  -- it is accepted, and everything stays as it was
  pub repeat_accepted : Admitted d l i c → add_change d l i c ≡ record { refused = 0; left = in_hand d l }
  repeat_accepted a =
      let s = standing a.sound in
      sym (accepted a (repeat_kept s) (same_stored s) (same_room s))

  -- whatever else is wrong with the call
  pub never_7 : (add_change d l i c).refused ≡ 7 → ⊥
  unfolding add_change refusals tried
  never_7 =
      go (is_bad d l) (is_other_kind d.encoding c) (is_other_length d.encoding c) (is_foreign d.encoding c)
      (is_below_last i d.count (kept_in d l).indices) (lacks_room (with_change (kept_in d l) i c) l)
      (λ b. repeat_fits (standing b))
    where
      new : Recorder Description
      new = stored l (with_change (kept_in d l) i c)

      go : (b₂ b₃ b₄ b₅ b₆ b₇ : Bool) → (b₂ ≡ false → b₇ ≡ false)
          → (outcome (in_hand d l) (tried (2 ⇐ b₂ ∷ 3 ⇐ b₃ ∷ 4 ⇐ b₄ ∷ 5 ⇐ b₅ ∷ 6 ⇐ b₆ ∷ 7 ⇐ b₇ ∷ []) (given new))).refused ≡ 7 → ⊥
      go true b₃ b₄ b₅ b₆ b₇ f e = omega arith
      go false true b₄ b₅ b₆ b₇ f e = omega arith
      go false false true b₅ b₆ b₇ f e = omega arith
      go false false false true b₆ b₇ f e = omega arith
      go false false false false true b₇ f e = omega arith
      go false false false false false true f e = true≢false (f refl)
      go false false false false false false f e = omega arith
