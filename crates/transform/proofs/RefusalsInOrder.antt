-- The numbers of Derive in their order: which one is replied, and what is known where none before 7 is.
-- Assumes nothing.
use Prim.Native.Nat.{ℕ}
use mathlib.Core.Bool.{Bool, false, true}
use mathlib.Core.List.{List, [], ◌∷◌}
use mathlib.Core.Path.{◌≡◌, refl}
use native.Mathlib.Omega.{arith}
use Rattle.value.specs.Slice.{any}
use Rattle.fst.specs.Change.{lacks_room}
use Rattle.fst.specs.Record.{Kept, Lent}
use Rattle.fst.specs.Refusal.{Reply, ◌⇐◌, given, refused, tried}
use Rattle.derivation.specs.Piece.{pieces_of}
use Rattle.derivation.specs.declared.DerivedBitVecSignal.{DerivedBitVecSignal}
use Rattle.steps.specs.Inputs.{indices_fall, inputs_of, is_bad_input, kept_all, mark_is_bad, starts_late}
use Rattle.steps.specs.declared.Inputs.{Inputs}
use Rattle.transform.specs.Derive.{code_is_bad, derive_refusals, derived_kept, is_unfit}
use Rattle.transform.specs.Refusals.{Derivable, first_tests}

module _ (d : DerivedBitVecSignal) (inputs : Inputs) (bytes indices : List ℕ) where
  abbrev ks : List Kept
  ks = kept_all bytes indices inputs

  abbrev none : Reply Unit
  none = given tt

  abbrev first : Reply Unit
  first = tried (first_tests d inputs bytes indices) (given tt)

  abbrev bad : Bool
  bad = any (is_bad_input bytes indices) (inputs_of inputs)

  pub first_bad : bad ≡ true → refused 2 ≡ first
  unfolding first_tests tried
  first_bad a = rw a

  pub first_unfit : bad ≡ false → is_unfit d inputs.count ks ≡ true → refused 14 ≡ first
  unfolding first_tests tried
  first_unfit a b = rw (a, b)

  module _ (a : bad ≡ false) (b : is_unfit d inputs.count ks ≡ false) where
    pub first_late : any starts_late ks ≡ true → refused 15 ≡ first
    unfolding first_tests tried
    first_late e = rw (a, b, e)

    pub first_falls : any starts_late ks ≡ false → any indices_fall ks ≡ true → refused 11 ≡ first
    unfolding first_tests tried
    first_falls e f = rw (a, b, e, f)

    pub first_mark : any starts_late ks ≡ false → any indices_fall ks ≡ false → any mark_is_bad ks ≡ true → refused 9 ≡ first
    unfolding first_tests tried
    first_mark e f g = rw (a, b, e, f, g)

    pub first_code : any starts_late ks ≡ false → any indices_fall ks ≡ false → any mark_is_bad ks ≡ false → any (code_is_bad ks) (pieces_of d) ≡ true → refused 10 ≡ first
    unfolding first_tests tried
    first_code e f g h = rw (a, b, e, f, g, h)

  pub first_none : Derivable d inputs bytes indices → given tt ≡ first
  unfolding first_tests tried
  first_none k = rw (k.stand, k.fit, k.begun, k.rising, k.marked, k.coded)

  -- where none of them is replied
  pub derivable : first ≡ given tt → Derivable d inputs bytes indices
  unfolding first_tests tried
  derivable =
      go bad (is_unfit d inputs.count ks) (any starts_late ks) (any indices_fall ks) (any mark_is_bad ks) (any (code_is_bad ks) (pieces_of d)) refl refl refl refl refl refl
    where
      stop : {A : Type 0} (n : ℕ) → ◌≡◌ {A = Reply Unit} (refused n) (given tt) → A
      stop n e = let z : ◌≡◌ {A = ℕ} 0 1 = cc in absurd (omega arith)

      go : (a b e f g h : Bool) → bad ≡ a → is_unfit d inputs.count ks ≡ b → any starts_late ks ≡ e → any indices_fall ks ≡ f → any mark_is_bad ks ≡ g
          → any (code_is_bad ks) (pieces_of d) ≡ h → tried (2 ⇐ a ∷ 14 ⇐ b ∷ 15 ⇐ e ∷ 11 ⇐ f ∷ 9 ⇐ g ∷ 10 ⇐ h ∷ []) none ≡ none → Derivable d inputs bytes indices
      go true b e f g h pa pb pe pf pg ph q = stop 2 q
      go false true e f g h pa pb pe pf pg ph q = stop 14 q
      go false false true f g h pa pb pe pf pg ph q = stop 15 q
      go false false false true g h pa pb pe pf pg ph q = stop 11 q
      go false false false false true h pa pb pe pf pg ph q = stop 9 q
      go false false false false false true pa pb pe pf pg ph q = stop 10 q
      go false false false false false false pa pb pe pf pg ph q =
          record { stand = pa; fit = pb; begun = pe; rising = pf; marked = pg; coded = ph }

  -- what Derive replies by them
  module _ {A : Type 0} (out : Lent) (r : Reply A) where
    pub derive_refused : (n : ℕ) → first ≡ refused n → tried (derive_refusals d inputs bytes indices out) r ≡ refused n
    unfolding first_tests derive_refusals tried
    derive_refused n = go bad (is_unfit d inputs.count ks) (any starts_late ks) (any indices_fall ks) (any mark_is_bad ks) (any (code_is_bad ks) (pieces_of d)) (lacks_room (derived_kept d ks) out)
      where
        alike : (m : ℕ) → ◌≡◌ {A = Reply Unit} (refused m) (refused n) → ◌≡◌ {A = Reply A} (refused m) (refused n)
        alike m e = let z : m ≡ n = cc in rw z

        go : (a b e f g h i : Bool) → tried (2 ⇐ a ∷ 14 ⇐ b ∷ 15 ⇐ e ∷ 11 ⇐ f ∷ 9 ⇐ g ∷ 10 ⇐ h ∷ []) none ≡ refused n
            → tried (2 ⇐ a ∷ 14 ⇐ b ∷ 15 ⇐ e ∷ 11 ⇐ f ∷ 9 ⇐ g ∷ 10 ⇐ h ∷ 7 ⇐ i ∷ []) r ≡ refused n
        go true b e f g h i q = alike 2 q
        go false true e f g h i q = alike 14 q
        go false false true f g h i q = alike 15 q
        go false false false true g h i q = alike 11 q
        go false false false false true h i q = alike 9 q
        go false false false false false true i q = alike 10 q
        go false false false false false false i q = let z : ◌≡◌ {A = ℕ} 0 1 = cc in absurd (omega arith)

    pub derive_room : Derivable d inputs bytes indices → tried (derive_refusals d inputs bytes indices out) r ≡ tried (7 ⇐ lacks_room (derived_kept d ks) out ∷ []) r
    unfolding derive_refusals tried
    derive_room k = rw (k.stand, k.fit, k.begun, k.rising, k.marked, k.coded)
