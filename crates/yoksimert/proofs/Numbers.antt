-- Descriptions as numbers: each comes back from its numbers, and numbers that are a description are that description's.
-- Assumes nothing.
use mathlib.Core.Path.{◌≡◌, refl, sym, ap, ◌∙◌}
use Prim.Native.Nat.{ℕ, ◌≤◌, ◌<◌}
use native.Mathlib.Omega.{arith}
use borrow.Author.Tests.{eq-eqb, ne_eqb, le-leb, lt-leb}
use Rattle.value.specs.declared.States.{States}
use Rattle.value.specs.declared.States.TheVariants.{Two, Four, Nine}
use Rattle.value.specs.Level.{set_at}
use Rattle.value.proofs.Levels.{mark_set}
use Rattle.value.proofs.Tests.{by_le, by_eq}
use Rattle.fst.specs.declared.Encoding.{Encoding}
use Rattle.fst.specs.declared.Encoding.TheVariants.{Event, Real, BitVector}
use Rattle.fst.specs.declared.Description.{Description}
use Rattle.fst.specs.Record.{described}
use Rattle.yoksimert.specs.declared.FlatDescription.{FlatDescription}
use Rattle.std.specs.Prelude.{Ok, Err}
use Rattle.fst.specs.declared.Refusal.TheVariants.{BadRecord}
use Rattle.yoksimert.specs.Flat.{known, decoded, flat_of, encoded}

-- ---- what `decode` finds

module _ (f : FlatDescription) where
  pub vector : f.kind ≡ 2 → f.set ≤ 2 → (M : States) → M ≡ set_at f.set → known (BitVector f.width M) f.count ≡ decoded f
  unfolding decoded
  vector k s M m = rw (eq-eqb f.kind 2 k, le-leb f.set 2 s, m)

  pub no_set : f.kind ≡ 2 → 2 < f.set → Err BadRecord ≡ decoded f
  unfolding decoded
  no_set k s = rw (eq-eqb f.kind 2 k, lt-leb f.set 2 s)

  module _ (k : f.kind ≡ 2 → ⊥) where
    pub some_width : (f.width ≡ 0 → ⊥) → Err BadRecord ≡ decoded f
    unfolding decoded
    some_width w = rw (ne_eqb f.kind 2 k, ne_eqb f.width 0 w)

    module _ (w : f.width ≡ 0) where
      pub some_set : (f.set ≡ 0 → ⊥) → Err BadRecord ≡ decoded f
      unfolding decoded
      some_set s = rw (ne_eqb f.kind 2 k, eq-eqb f.width 0 w, ne_eqb f.set 0 s)

      module _ (s : f.set ≡ 0) where
        pub event : f.kind ≡ 0 → known Event f.count ≡ decoded f
        unfolding decoded
        event e = rw (ne_eqb f.kind 2 k, eq-eqb f.width 0 w, eq-eqb f.set 0 s, eq-eqb f.kind 0 e)

        pub real : (f.kind ≡ 0 → ⊥) → f.kind ≡ 1 → known Real f.count ≡ decoded f
        unfolding decoded
        real n e = rw (ne_eqb f.kind 2 k, eq-eqb f.width 0 w, eq-eqb f.set 0 s, ne_eqb f.kind 0 n, eq-eqb f.kind 1 e)

        pub no_kind : (f.kind ≡ 0 → ⊥) → (f.kind ≡ 1 → ⊥) → Err BadRecord ≡ decoded f
        unfolding decoded
        no_kind n m = rw (ne_eqb f.kind 2 k, eq-eqb f.width 0 w, eq-eqb f.set 0 s, ne_eqb f.kind 0 n, ne_eqb f.kind 1 m)

-- ---- there and back

back_at : (e : Encoding) (n : ℕ) → decoded (flat_of e n) ≡ known e n
unfolding decoded
back_at Event n = refl
back_at Real n = refl
back_at (BitVector w Two) n = refl
back_at (BitVector w Four) n = refl
back_at (BitVector w Nine) n = refl

-- every description comes back from its numbers
pub back : (d : Description) → decoded (encoded d) ≡ Ok d
back d = back_at d.encoding d.count

-- numbers that are a description are that description's
pub forth : (f : FlatDescription) (d : Description) → decoded f ≡ Ok d → encoded d ≡ f
forth f d h =
    by_eq f.kind 2
    (λ k. by_le f.set 2
    (λ s. is (BitVector f.width (set_at f.set)) (vector f k s _ refl) (all (sym k) refl (mark_set f.set s)))
    (λ s. none (no_set f k s)))
    (λ k. by_eq f.width 0
    (λ w. by_eq f.set 0
    (λ s. by_eq f.kind 0
    (λ e. is Event (event f k w s e) (all (sym e) (sym w) (sym s)))
    (λ n. by_eq f.kind 1
    (λ e. is Real (real f k w s n e) (all (sym e) (sym w) (sym s)))
    (λ m. none (no_kind f k w s n m))))
    (λ s. none (some_set f k w s)))
    (λ w. none (some_width f k w)))
  where
    all : {a b c : ℕ} → a ≡ f.kind → b ≡ f.width → c ≡ f.set → ◌≡◌ {A = FlatDescription} (record { kind = a; width = b; set = c; count = f.count }) f
    all p q r = rw (p, q, r)

    is : (e : Encoding) → known e f.count ≡ decoded f → flat_of e f.count ≡ f → encoded d ≡ f
    is e q r =
        let same : Ok d ≡ known e f.count = sym h ∙ sym q in
        let this : d ≡ described e f.count = cc in
        ap encoded this ∙ r

    none : Err BadRecord ≡ decoded f → encoded d ≡ f
    none q =
        let same : Err BadRecord ≡ Ok d = q ∙ h in
        let z : ◌≡◌ {A = ℕ} 0 1 = cc in
        absurd (omega arith)
