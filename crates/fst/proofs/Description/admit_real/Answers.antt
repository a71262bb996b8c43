-- `fst::Description::admit_real` meets its contract.
-- Assumes nothing.
use mathlib.Core.Path.{◌≡◌, refl, sym, ◌∙◌}
use mathlib.Core.Bool.{true}
use Prim.Native.Nat.{ℕ}
use Rattle.fst.specs.declared.Encoding.{Encoding}
use Rattle.fst.specs.declared.Encoding.TheVariants.{Event, Real, BitVector}
use Rattle.fst.specs.Change.{real, is_other_kind}
use Rattle.fst.proofs.Records.{standing}
use Rattle.fst.proofs.Adding.{gives_3, admits}
use Rattle.fst.proofs.AddingPlain.{real_suited, real_adds}
use Rattle.fst.proofs.Description.admit_real.Goals as goal

-- an encoding that is not a real's
other : (x : ℕ) (e : Encoding) → (e ≡ Real → ⊥) → is_other_kind e (real x) ≡ true
unfolding is_other_kind
other x Event k = refl
other x Real k = absurd (k refl)
other x (BitVector w M) k = refl

pub returns-in_default : goal.returns-in_default
returns-in_default c = λ x. gives_3 (standing (sym c.is_bad.ensures ∙ c.if-is_bad.false)) _ _ (other x c.args.self.encoding c.in_default.not-Real)

pub returns : goal.returns
returns c =
    λ x.
    let s = standing (sym c.is_bad.ensures ∙ c.if-is_bad.false) in
    real_adds s c.in-Real.is _ x (admits (real_suited s c.in-Real.is c.args.index x) _ c.if-is_below_last.ensures)
