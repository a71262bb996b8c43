-- `transform::picking::write_piece` meets its contract.
-- Assumes nothing.
use Prim.Native.Nat.{ℕ}
use mathlib.Core.List.{List}
use mathlib.Core.Path.{◌∙◌, ◌≡◌, ap, sym}
use Rattle.value.specs.Level.{text_of}
use Rattle.value.specs.Slice.{overlay}
use Rattle.fst.specs.declared.Encoding.{Encoding}
use Rattle.signal.specs.Decode.{codes_at, levels_in}
use Rattle.signal.proofs.Reading.{codes_are}
use Rattle.steps.specs.Stepping.{levels_now, shown_bytes}
use Rattle.steps.proofs.Levels.{vector_is}
use Rattle.transform.proofs.Picked.{picked_is}
use Rattle.transform.proofs.picking.write_piece.Goals.{After-levels-levels}
use Rattle.transform.proofs.picking.write_piece.Goals as goal

-- the codes found
told : (l : After-levels-levels)
    → codes_at l.levels-levels.result.width l.levels-levels.result.states l.levels-levels.result.bytes.now ≡ levels_now l.args.bytes.now l.args.cursor.now
told l =
    codes_are _ _ _ l.levels-levels.ensures
    ∙ ap (λ (e : Encoding). levels_in e (shown_bytes l.args.bytes.now l.args.cursor.now)) (sym (vector_is _ l.requires.shows.vector))

pub returns : goal.returns
returns c =
    let p = c.levels-levels.result in
    let e = c.args.extract in
    c.write_levels_of.ensures
    ∙ ap (λ (x : List ℕ). overlay c.args.text.now c.args.at (text_of x))
    (rw c.from-count.ensures (picked_is p.width p.states p.bytes.now e (levels_now c.args.bytes.now c.args.cursor.now) (told (goal.at.returns c).After-levels-levels)))
