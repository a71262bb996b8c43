-- `fst::Description::append` meets its contract.
-- Assumes nothing.
use mathlib.Core.Path.{◌≡◌, sym, ap, ◌∙◌}
use mathlib.Core.Bool.{false}
use mathlib.Core.List.{List}
use Prim.Native.Nat.{ℕ, ◌+◌}
use lib.ListN.{set}
use Rattle.fst.specs.Record.{Lent, lent_mut, size_of, described}
use Rattle.fst.proofs.Records.{Standing, standing}
use Rattle.fst.proofs.Adding.{accepted_with}
use Rattle.fst.proofs.AddingPlain.{is_full, Roomier, roomier, append_same, append_full, append_more}
use Rattle.fst.proofs.Description.append.Given.{Over}
use Rattle.fst.proofs.Description.append.Goals.{After-lacks_room, Start}
use Rattle.fst.proofs.Description.append.Goals as goal

-- what is known once the room is tried
module _ (g : Over) (z : After-lacks_room g) where
  abbrev here : Lent
  here = lent_mut z.args.slices

  stands : Standing z.args.self here
  stands = standing z.requires.0

  new : g.E.Entry.again z.args.entry.now here.byte_start z.args.self.count here.bytes ≡ false
  new = sym (z.if-repeats.ensures ∙ ap (λ (l : Lent). g.E.Entry.again z.args.entry.now l.byte_start z.args.self.count l.bytes) z.shared-seen.ensures)

  told : z.lacks_room.result ≡ is_full z.args.self here
  told = z.lacks_room.ensures ∙ ap (is_full z.args.self) z.shared-seen.ensures

  size_here : size_of z.args.self.encoding ≡ z.len-size.result
  size_here = sym (z.len-size.ensures ∙ z.requires.1)

  places : z.lacks_room.result ≡ false → Roomier z.args.self here z.len-size.result
  places h = roomier _ size_here (sym told ∙ h)

pub returns-then-repeats : goal.returns-then-repeats
returns-then-repeats g c =
    append_same (standing c.requires.0) _ _
    (sym (c.if-repeats.ensures ∙ ap (λ (l : Lent). g.E.Entry.again c.args.entry.now l.byte_start c.args.self.count l.bytes) c.shared-seen.ensures))

pub returns-then-lacks_room : goal.returns-then-lacks_room
returns-then-lacks_room g c =
    let z = (goal.at.returns-then-lacks_room g c).After-lacks_room in
    append_full (stands g z) _ _ (new g z) (sym (told g z) ∙ c.if-lacks_room.true)

pub write-requires : goal.write-requires
write-requires g c =
    let b = (places g (goal.at.write-requires g c).After-lacks_room c.if-lacks_room.false).bytes in
    rw (← c.len-size.ensures) b

pub bounds-indices-index_start : goal.bounds-indices-index_start
bounds-indices-index_start g c = (places g (goal.at.bounds-indices-index_start g c).After-lacks_room c.if-lacks_room.false).index

pub returns : goal.returns
returns g c =
    let z = (goal.at.returns g c).After-lacks_room in
    let a = c.args in
    ap
    (λ (b : List ℕ).
    accepted_with
    (record { description = described a.self.encoding (a.self.count + 1); bytes = b; indices = set a.slices.indices.now (a.slices.index_start + a.self.count) a.index }))
    c.write.ensures
    ∙ append_more (stands g z) _ _ (new g z) _ (size_here g z) (sym (told g z) ∙ c.if-lacks_room.false)
