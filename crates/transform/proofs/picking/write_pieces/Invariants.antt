-- `transform::picking::write_pieces` meets its contract: the pieces passed are stored, and those that are left make the rest.
-- Assumes nothing.
use Prim.Native.Nat.{◌+◌, ◌≤◌}
use lib.ListN.{drop, length}
use mathlib.Core.List.{map}
use mathlib.Core.Path.{◌≡◌}
use Rattle.value.specs.Level.{text_of}
use Rattle.value.specs.Slice.{overlay}
use Rattle.derivation.specs.Piece.{extract_of}
use Rattle.transform.specs.Picking.{picked_now}
use Rattle.transform.proofs.Picked.{widths}
use Rattle.transform.proofs.picking.write_pieces.Given as goal

abbrev pub invariant-loop-piece : goal.invariant-loop-piece
invariant-loop-piece l = (l.at + widths (drop l.piece-index l.pieces) ≤ length l.initial.text)
    × (overlay l.text l.at (text_of (picked_now l.bytes l.cursors (map extract_of (drop l.piece-index l.pieces)))) ≡ overlay l.initial.text 0 (text_of (picked_now l.bytes l.cursors (map extract_of l.pieces))))
