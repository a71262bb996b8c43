-- `layout::number::NewEntry::with_levels` meets its contract. Assumes nothing.
use mathlib.Core.Path.{ap, ap₂, ◌∙◌}
use Prim.Native.Nat.{ℕ, ◌-◌, ◌*◌, ◌^◌}
use native.Mathlib.Omega.{arith}
use lib.Bits.{bit_or}
use Rattle.value.specs.Level.{mark_of}
use Rattle.layout.proofs.Numbers.{some, marked_number}
use Rattle.layout.proofs.number.NewEntry.with_levels.Goals.{in-Some, in_default-2, in_default}
use Rattle.layout.proofs.number.NewEntry.with_levels.Goals as goal

pub mark_in-requires : goal.mark_in-requires
mark_in-requires c =
    let few = c.if-size-le8.true in (omega (arith, some c.requires.0 (omega (arith, c.requires.1, few)), c.requires.1), few)

pub invariant_of-result : goal.invariant_of-result
invariant_of-result c =
    record {
      writable = c.requires.0;
      sized = c.requires.1;
      is =
          elim c.match-levels.branch [
            | in-Some w ↦
                let few = w.if-size-le8.true in
                let l = (rw w.in-Some.is at c.requires.2) few in
                rw w.number-is (
                  few,
                  ap (bit_or w.in-Some.levels) w.mark_in.ensures
                      ∙ ap₂ (λ (n s : ℕ). bit_or n (mark_of c.args.states * 2 ^ (8 * s - 2))) l c.requires.1
                      ∙ marked_number c.requires.0 (omega (arith, c.requires.1, few)),
                )
            | in_default-2 w ↦ rw w.number-is tt
            | in_default w ↦ rw w.number-is tt
          ];
    }
