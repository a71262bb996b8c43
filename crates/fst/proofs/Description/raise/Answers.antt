-- `fst::Description::raise` meets its contract.
-- Assumes nothing.
use mathlib.Core.Path.{◌≡◌, refl, sym, ap, ap₂, ◌∙◌}
use mathlib.Core.Bool.{false, cond, not}
use mathlib.Core.List.{List}
use Prim.Native.Nat.{ℕ, ◌+◌, ◌*◌}
use lib.ListN.{length, set}
use Rattle.value.specs.declared.States.{States}
use Rattle.value.specs.Slice.{part, overlay}
use Rattle.layout.specs.Entry.{entry_size}
use Rattle.entries.specs.Repeatable.{Wider, wider, size_before, size_after, widened, repeats_widened}
use Rattle.fst.specs.declared.Description.{Description}
use Rattle.fst.specs.declared.Encoding.TheVariants.{BitVector}
use Rattle.fst.specs.Record.{Lent, lent_mut, fits, is_bad}
use Rattle.fst.proofs.Adding.{accepted_with}
use Rattle.fst.proofs.Rooms.{bad_exceeds}
use Rattle.fst.proofs.AddingPlain.{Roomier}
use Rattle.fst.proofs.AddingStrings.{up, joint_writable, width_then, widenable, wider_room, levels_full, levels_stay, levels_grow}
use Rattle.fst.proofs.Description.raise.Goals.{After-is_bad, After-expand, Start}
use Rattle.fst.proofs.Description.raise.Goals as goal

-- an acceptance by its parts
left_by : (indices : List ℕ) {d e : Description} {b c : List ℕ} → d ≡ e → b ≡ c
    → accepted_with (record { description = d; bytes = b; indices = indices }) ≡ accepted_with (record { description = e; bytes = c; indices = indices })
left_by indices p q = ap₂ (λ (d : Description) (b : List ℕ). accepted_with (record { description = d; bytes = b; indices = indices })) p q

-- what is known once the room is tried
module _ (z : After-is_bad) where
  abbrev here : Lent
  here = lent_mut z.args.slices

  abbrev joint : States
  joint = z.join-joint.result

  told : z.repeats_last-repeat.result ≡ repeats_widened (wider z.args.max_states joint z.args.states z.args.value.now) here.byte_start z.args.self.count here.bytes
  told =
      z.repeats_last-repeat.ensures
      ∙ ap₂ (λ (e : Wider) (l : Lent). repeats_widened e l.byte_start z.args.self.count l.bytes) z.new-entry.ensures z.shared-seen.ensures

  exceeded : z.is_bad.result ≡ not (fits (BitVector (length z.args.value.now) joint) (cond z.repeats_last-repeat.result z.args.self.count (z.args.self.count + 1)) here)
  exceeded =
      z.is_bad.ensures
      ∙ ap₂ is_bad z.raised-next.ensures z.shared-seen.ensures
      ∙ bad_exceeds _ here (width_then z.requires z.join-joint.ensures)

  -- room for one entry more
  places : z.is_bad.result ≡ false → z.repeats_last-repeat.result ≡ false → Roomier z.args.self here (entry_size (length z.args.value.now) joint)
  places h e = wider_room z.requires z.join-joint.ensures told refl (sym exceeded ∙ h) e

-- the entries laid out anew
moved : (c : After-expand)
    → c.expand.new.«data»
    ≡ (let e = wider c.args.max_states c.join-joint.result c.args.states c.args.value.now in
    let l = lent_mut c.args.slices in
    overlay l.bytes l.byte_start (widened e c.args.self.count (part l.byte_start (c.args.self.count * size_before e) l.bytes)))
moved c =
    let l = lent_mut c.args.slices in
    c.expand.ensures
    ∙ ap (λ (e : Wider). overlay l.bytes l.byte_start (widened e c.args.self.count (part l.byte_start (c.args.self.count * size_before e) l.bytes))) c.new-entry.ensures

pub new-entry-requires : goal.new-entry-requires
new-entry-requires c = (up c.requires c.join-joint.ensures, joint_writable c.requires c.join-joint.ensures)

pub returns-then-is_bad : goal.returns-then-is_bad
returns-then-is_bad c =
    let z = (goal.at.returns-then-is_bad c).After-is_bad in
    levels_full c.requires c.join-joint.ensures (told z) refl (sym (exceeded z) ∙ c.if-is_bad.true)

pub expand-requires : goal.expand-requires
expand-requires c =
    let z = (goal.at.expand-requires c).After-is_bad in
    rw c.new-entry.ensures (widenable c.requires c.join-joint.ensures (told z) refl (sym (exceeded z) ∙ c.if-is_bad.false))

pub returns-then-repeat : goal.returns-then-repeat
returns-then-repeat c =
    let past = goal.at.returns-then-repeat c in
    let z = past.After-is_bad in
    left_by c.args.slices.indices.now c.raised-next.ensures (moved past.After-expand)
    ∙ levels_stay c.requires c.join-joint.ensures (told z) refl (sym (exceeded z) ∙ c.if-is_bad.false) c.if-repeat.true

pub write_behind-requires : goal.write_behind-requires
write_behind-requires c =
    let p = places (goal.at.write_behind-requires c).After-is_bad c.if-is_bad.false c.if-repeat.false in
    rw (c.new-entry.ensures, c.expand.auto.«data») p.bytes

pub bounds-indices-index_start : goal.bounds-indices-index_start
bounds-indices-index_start c = (places (goal.at.bounds-indices-index_start c).After-is_bad c.if-is_bad.false c.if-repeat.false).index

pub returns : goal.returns
returns c =
    let past = goal.at.returns c in
    let z = past.After-is_bad in
    let a = c.args in
    left_by (set a.slices.indices.now (a.slices.index_start + a.self.count) a.index) c.raised-next.ensures
    (c.write_behind.ensures
    ∙ ap₂ (λ (b : List ℕ) (e : Wider). overlay b (a.slices.byte_start + a.self.count * size_after e) e.entry) (moved past.After-expand) c.new-entry.ensures)
    ∙ levels_grow c.requires c.join-joint.ensures (told z) refl (sym (exceeded z) ∙ c.if-is_bad.false) c.if-repeat.false
