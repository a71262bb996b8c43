-- `transform::picking::write_pieces` meets its contract: the pieces passed are stored, and those that are left make the rest.
-- Assumes nothing.
use lib.ListN.{length}
use mathlib.Core.Path.{◌∙◌, ap, subst, sym}
use Rattle.value.specs.Level.{text_of}
use Rattle.value.specs.Slice.{overlay}
use Rattle.steps.specs.Cursor.{Cursor}
use Rattle.steps.specs.Stepping.{cursor, levels_now}
use Rattle.steps.proofs.InputTests.{no_input}
use Rattle.transform.specs.Derive.{picked_of}
use Rattle.transform.specs.Picking.{Picks}
use Rattle.transform.proofs.Picked.{piece_picks, pieces_more, room_more, signal_in}
use Rattle.transform.proofs.picking.write_pieces.Goals as goal

pub bounds-cursors-extract : goal.bounds-cursors-extract
bounds-cursors-extract c = signal_in c.requires c.loop-piece.piece-index c.loop-piece-test.true c.from-extract.result c.from-extract.ensures (cursor no_input 0)

pub write_piece-requires : goal.write_piece-requires
write_piece-requires c =
    let x = c.index-cursors-extract.result in
    subst (λ (k : Cursor). Picks c.args.bytes.now k c.from-extract.result (length c.loop-piece.text) c.loop-piece.at) (sym c.index-cursors-extract.is)
    (rw c.loop-piece.auto.text (piece_picks c.requires c.loop-piece.piece-index c.loop-piece-test.true c.from-extract.result c.from-extract.ensures x c.loop-piece.at c.loop-piece.invariant.0))

pub loop-piece-preserved : goal.loop-piece-preserved
loop-piece-preserved c =
    let x = c.index-cursors-extract.result in
    let e = c.from-extract.result in (
      room_more c.requires c.loop-piece.piece-index c.loop-piece-test.true e c.from-extract.ensures x c.loop-piece.at c.loop-piece.invariant.0,
      pieces_more c.requires c.loop-piece.piece-index c.loop-piece-test.true e c.from-extract.ensures x c.loop-piece.at c.loop-piece.invariant.0
          c.loop-piece.text _ c.loop-piece.auto.text
          (c.write_piece.ensures ∙ ap (λ (k : Cursor). overlay c.loop-piece.text c.loop-piece.at (text_of (picked_of e (levels_now c.args.bytes.now k)))) c.index-cursors-extract.is)
          ∙ c.loop-piece.invariant.1,
    )
