-- `transform::picking::write_levels` meets its contract: as many characters stand there as turns were taken.
-- Assumes nothing.
use Prim.Native.Nat.{◌+◌, ℕ}
use lib.ListN.{set}
use lib.Seq.{take_all}
use mathlib.Core.List.{List}
use mathlib.Core.Path.{◌∙◌, ap, sym}
use Rattle.value.specs.Level.{letter_of}
use Rattle.value.specs.Slice.{overlay}
use Rattle.value.proofs.Slices.{overlay_nil}
use Rattle.steps.proofs.Appending.{stored_more}
use Rattle.transform.proofs.Picked.{char_at, chars_length}
use Rattle.transform.proofs.picking.write_levels.Goals as goal

pub loop-j-init : goal.loop-j-init
loop-j-init c = sym (overlay_nil _ _)

pub loop-j-preserved : goal.loop-j-preserved
loop-j-preserved c =
    let a = c.args in
    let p = a.levels.now in
    let n = chars_length p.width p.states p.bytes.now a.first a.count c.requires.0 in
    let h = c.loop-j-test.true in
    ap (λ (o : List ℕ). set o (a.at + c.loop-j.j) c.num_to_bit_char.result) c.loop-j.invariant
    ∙ stored_more a.text.now a.at _ c.loop-j.j _ (rw n h) (rw n c.requires.1)
    (char_at p.width p.states p.bytes.now a.first a.count c.requires.0 c.loop-j.j _ h (c.num_to_bit_char.ensures ∙ ap letter_of c.code_at.ensures))

pub returns : goal.returns
returns c =
    let a = c.args in
    let p = a.levels.now in
    let n = chars_length p.width p.states p.bytes.now a.first a.count c.requires.0 in
    c.loop-j.invariant ∙ ap (overlay a.text.now a.at) (take_all c.loop-j.j _ (rw n c.loop-j-test.false))
