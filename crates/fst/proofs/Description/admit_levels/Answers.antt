-- `fst::Description::admit_levels` meets its contract.
-- Assumes nothing.
use mathlib.Core.Path.{◌≡◌, sym, ap, ◌∙◌}
use mathlib.Core.Bool.{false, true≢false}
use Rattle.value.specs.declared.States.{States}
use Rattle.value.specs.declared.States.TheVariants.{Two, Four, Nine}
use Rattle.value.specs.contracts.StatesPartialOrd.TheImpl.{partial_cmp-value}
use Rattle.std.specs.Ordering.{partial_lt}
use Prim.Native.Nat.{ℕ, ◌≤◌}
use native.Mathlib.Omega.{arith}
use lib.ListN.{length}
use Rattle.layout.specs.Entry.{entry_size}
use Rattle.fst.specs.Record.{lent_in, width_stands}
use Rattle.fst.specs.Change.{text}
use Rattle.fst.specs.Adding.{AdmittedString}
use Rattle.value.specs.Level.{mark_of}
use Rattle.layout.proofs.Numbers.{one_word}
use Rattle.fst.proofs.Records.{Standing, standing}
use Rattle.fst.proofs.Adding.{Suited, width_known, gives_6, below, admits}
use Rattle.fst.proofs.AddingStrings.{string_suited, string_levels, new_writable, text_adds}
use Rattle.fst.proofs.Description.admit_levels.Goals.{After-is_below_last}
use Rattle.fst.proofs.Description.admit_levels.Goals as goal

-- what is known once the string is read
module _ (b : After-is_below_last) where
  stands : Standing b.args.self (lent_in b.args.slices)
  stands = standing (sym b.if-is_bad_vector.ensures)

  suited : Suited b.args.self (lent_in b.args.slices) (text b.args.value.now)
  suited = string_suited stands b.requires b.args.index _ b.if-value-width.false b.in-Some.ensures.least

  levels : false ≡ below b.args.self (lent_in b.args.slices) b.args.index
      → AdmittedString b.args.self (lent_in b.args.slices) b.args.index b.args.max_states b.in-Some.field-0.states b.args.value.now
  levels h = string_levels stands b.requires b.args.index _ b.if-value-width.false b.in-Some.ensures.least (admits suited _ h)

  sized : b.entry_size-size.result ≡ entry_size (length b.args.value.now) b.args.max_states
  sized = b.entry_size-size.ensures ∙ ap (λ (k : ℕ). entry_size k b.args.max_states) (sym b.if-value-width.false)

-- sets in their order
not_above : (M own : States) → false ≡ partial_lt (partial_cmp-value).it M own → mark_of own ≤ mark_of M
not_above Two Two h = omega arith
not_above Two Four h = absurd (true≢false (sym h))
not_above Two Nine h = absurd (true≢false (sym h))
not_above Four Two h = omega arith
not_above Four Four h = omega arith
not_above Four Nine h = absurd (true≢false (sym h))
not_above Nine Two h = omega arith
not_above Nine Four h = omega arith
not_above Nine Nine h = omega arith

pub scan-requires : goal.scan-requires
scan-requires c =
    let w = width_known c.args.max_states (ap width_stands (sym c.requires) ∙ (standing (sym c.if-is_bad_vector.ensures)).width) in
    omega (arith, c.if-value-width.false, w.1)

pub returns-then-is_below_last : goal.returns-then-is_below_last
returns-then-is_below_last c = gives_6 (suited (goal.at.returns-then-is_below_last c).After-is_below_last) _ c.if-is_below_last.ensures

pub returns-then-lt : goal.returns-then-lt
returns-then-lt c = levels (goal.at.returns-then-lt c).After-is_below_last c.if-is_below_last.ensures

pub with_levels-entry-requires : goal.with_levels-entry-requires
with_levels-entry-requires c =
    let b = (goal.at.with_levels-entry-requires c).After-is_below_last in
    let v = levels b c.if-is_below_last.ensures in
    let low = not_above c.args.max_states c.in-Some.field-0.states c.if-lt.ensures in (
      new_writable v low (sized b),
      sized b,
      λ h. c.in-Some.ensures.levels h (one_word (new_writable v low (sized b)) (omega (arith, sized b))).short,
    )

pub returns : goal.returns
returns c =
    let b = (goal.at.returns c).After-is_below_last in
    let low = not_above c.args.max_states c.in-Some.field-0.states c.if-lt.ensures in
    text_adds (levels b c.if-is_below_last.ensures) low c.with_levels-entry.ensures
