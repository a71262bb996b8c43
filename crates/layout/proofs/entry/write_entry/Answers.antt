-- `layout::entry::write_entry` meets its contract. Assumes nothing.
use native.Mathlib.Omega.{arith}
use Rattle.layout.proofs.EntryWriting.{first_top, levels_packable}
use Rattle.layout.proofs.entry.write_entry.Goals as goal

pub write_n_state_from_ascii-requires : goal.write_n_state_from_ascii-requires
write_n_state_from_ascii-requires c =
    let w = c.write_front-from in
    let top = first_top c.requires c.new-layout.ensures in
    let e = c.mark_within.ensures in
    levels_packable c.requires c.new-layout.ensures _ _ _ w.auto.out w.ensures.0 (omega (arith, e, top)) (omega (arith, e))
