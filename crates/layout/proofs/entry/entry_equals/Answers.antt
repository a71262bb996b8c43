-- `layout::entry::entry_equals` meets its contract. Assumes nothing.
use mathlib.Core.Path.{refl, ap, ◌∙◌}
use Prim.Native.Nat.{ℕ, ◌+◌}
use native.Mathlib.Omega.{arith}
use lib.ListN.{length}
use Rattle.value.specs.Level.{len_of}
use Rattle.value.specs.Slice.{part, same}
use Rattle.wavemem.specs.Packed.{packed_from}
use Rattle.layout.proofs.EntryWriting.{first_top, levels_packable, levels_left, other_front}
use Rattle.layout.proofs.entry.entry_equals.Goals as goal

pub equals_n_state_from_ascii-requires : goal.equals_n_state_from_ascii-requires
equals_n_state_from_ascii-requires c =
    let top = first_top c.requires c.new-layout.ensures in
    let e = c.mark_within.ensures in
    levels_packable c.requires c.new-layout.ensures _ _ _ refl refl (omega (arith, e, top)) (omega (arith, e))

pub returns-then-front_is_at : goal.returns-then-front_is_at
returns-then-front_is_at c =
    let a = c.args in
    c.equals_n_state_from_ascii.ensures
    ∙ ap (λ (m : ℕ). same (part (a.at + c.new-layout.result.front) (len_of (length a.value.now) a.states) a.bytes.now) (packed_from a.states m a.value.now)) c.mark_within.ensures
    ∙ levels_left c.requires c.new-layout.ensures a.bytes.now refl c.if-front_is_at.ensures

pub returns-else-front_is_at : goal.returns-else-front_is_at
returns-else-front_is_at c =
    c.if-front_is_at.false ∙ other_front c.requires c.new-layout.ensures c.args.bytes.now refl c.if-front_is_at.ensures
