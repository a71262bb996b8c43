-- `transform::Task::write_steps` meets its contract: the steps passed are stored, and with those to come they make the derived list.
-- Assumes nothing.
use Prim.Native.Nat.{ℕ, ◌≤◌}
use lib.ListN.{length, length-map, length-replicate, take}
use lib.Seq.{length-take-le}
use mathlib.Core.List.{List, map}
use mathlib.Core.Path.{◌∙◌, ◌≡◌, ap, sym}
use native.Mathlib.Omega.{arith}
use Rattle.std.specs.Prelude.{Some}
use Rattle.std.proofs.lemmas.List.{take-map}
use Rattle.value.specs.Level.{text_of}
use Rattle.value.specs.Slice.{overlay}
use Rattle.layout.specs.Entry.{entry_size}
use Rattle.derivation.specs.Piece.{extract_of}
use Rattle.steps.specs.Inputs.{kept_all}
use Rattle.steps.specs.Stepping.{at_start, soonest}
use Rattle.transform.specs.Picking.{Pickable, picked_now}
use Rattle.transform.proofs.Deriving.{Ready, Yielded, appendable_on, fewer, pickable_on, reaches, writable_on, writing_done, writing_on, writing_start}
use Rattle.transform.proofs.Given.{narrow}
use Rattle.transform.proofs.PieceTests.{Fit, fit}
use Rattle.transform.proofs.Task.write_steps.Goals.{After-advance, After-pieces-pieces, After-step_states-states, In-Some}
use Rattle.transform.proofs.Task.write_steps.Goals as goal

-- what is known all along
ready : (p : After-pieces-pieces)
    → Ready p.args.self.now.derivation.now p.args.self.now.sources.now.inputs.now p.args.self.now.sources.now.bytes.now p.args.self.now.sources.now.indices.now p.args.max_states
ready p =
    let d = p.args.self.now.derivation.now in
    let s = p.args.self.now.sources.now in
    let f : Fit d s.inputs.now.count (kept_all s.bytes.now s.indices.now s.inputs.now) = fit d s.inputs.now.count _ p.requires.0.derivable.fit in
    record {
      walkable = p.requires.0;
      some = omega (arith, f.pieces, length-map (take d.piece_count d.bits) extract_of, ap length p.pieces-pieces.ensures.value, p.pieces-pieces.ensures.long);
    }

pub loop-index-init : goal.loop-index-init
loop-index-init c =
    let n = c.args.self.now.sources.now.inputs.now.count in
    (writing_start (ready (goal.at.loop-index-init c).After-pieces-pieces) (ap (take n) c.at_start-slots.ensures ∙ take-map at_start n _), length-replicate {A = ℕ} 4096 0)

pub next_index-requires : goal.next_index-requires
next_index-requires c = reaches (ready (goal.at.next_index-requires c).After-pieces-pieces) c.loop-index.invariant.0.derives

-- a step is at hand
next : (k : In-Some) → soonest k.args.self.now.sources.now.indices.now k.loop-index.cursors ≡ Some k.in-Some.index
next k = sym k.next_index.ensures ∙ k.in-Some.is

-- the inputs have moved on
pickable : (a : After-advance) → Ready a.args.self.now.derivation.now a.args.self.now.sources.now.inputs.now a.args.self.now.sources.now.bytes.now a.args.self.now.sources.now.indices.now a.args.max_states
    → soonest a.args.self.now.sources.now.indices.now a.loop-index.cursors ≡ Some a.in-Some.index
    → Pickable a.advance.new.cursors a.args.self.now.sources.now.bytes.now a.pieces-pieces.result.now (length a.loop-index.text)
pickable a r n = pickable_on r a.loop-index.invariant.0 n a.advance.ensures a.pieces-pieces.ensures.value (rw a.loop-index.invariant.1 (narrow r.walkable))

-- its characters and its set are known
yields : (t : After-step_states-states)
    → Yielded t.advance.new.cursors t.args.self.now.sources.now.bytes.now (take t.args.self.now.derivation.now.piece_count t.args.self.now.derivation.now.bits) t.loop-index.text t.step_states-states.result t.write_pieces.new.text
yields t =
    record {
      set = t.step_states-states.ensures;
      stored =
          t.write_pieces.ensures
          ∙ ap (λ (ps : List ℕ). overlay t.loop-index.text 0 (text_of (picked_now t.args.self.now.sources.now.bytes.now t.advance.new.cursors (map extract_of ps)))) t.pieces-pieces.ensures.value;
    }

pub advance-requires : goal.advance-requires
advance-requires c = reaches (ready (goal.at.advance-requires c).After-pieces-pieces) c.loop-index.invariant.0.derives

pub write_pieces-requires : goal.write_pieces-requires
write_pieces-requires c =
    let at = goal.at.write_pieces-requires c in
    pickable at.After-advance (ready at.After-pieces-pieces) (next at.In-Some)

pub step_states-states-requires : goal.step_states-states-requires
step_states-states-requires c =
    let at = goal.at.step_states-states-requires c in
    (pickable at.After-advance (ready at.After-pieces-pieces) (next at.In-Some)).shown

pub slice_bounds-value-end : goal.slice_bounds-value-end
slice_bounds-value-end c =
    let l : c.args.self.now.derivation.now.width ≤ length c.write_pieces.new.text = rw (c.write_pieces.auto.text, c.loop-index.invariant.1) (narrow c.requires.0) in
    sym (length-take-le _ _ l)

pub new-entry-requires : goal.new-entry-requires
new-entry-requires c =
    let at = goal.at.new-entry-requires c in
    let z = writable_on (ready at.After-pieces-pieces) c.loop-index.invariant.0 (next at.In-Some) c.advance.ensures (yields at.After-step_states-states) in
    (rw c.entry_size-size.ensures z.0, c.entry_size-size.ensures ∙ ap (λ (n : ℕ). entry_size n c.args.max_states) (sym z.1))

pub append_step-kept-requires : goal.append_step-kept-requires
append_step-kept-requires c =
    let at = goal.at.append_step-kept-requires c in
    rw c.new-entry.ensures (appendable_on (ready at.After-pieces-pieces) c.loop-index.invariant.0 (next at.In-Some) c.advance.ensures (yields at.After-step_states-states) c.requires.1)

pub loop-index-smaller : goal.loop-index-smaller
loop-index-smaller c =
    let at = goal.at.loop-index-smaller c in
    fewer (ready at.After-pieces-pieces) c.loop-index.invariant.0 (next at.In-Some) c.advance.ensures

pub loop-index-preserved : goal.loop-index-preserved
loop-index-preserved c =
    let at = goal.at.loop-index-preserved c in (
      writing_on (ready at.After-pieces-pieces) c.loop-index.invariant.0 (next at.In-Some) c.advance.ensures (yields at.After-step_states-states) c.requires.1
          (rw c.new-entry.ensures at c.append_step-kept.ensures) c.put_index.ensures,
      c.write_pieces.auto.text ∙ c.loop-index.invariant.1,
    )

pub returns : goal.returns
returns c = writing_done c.loop-index.invariant.0 (sym c.next_index.ensures ∙ c.in_default.is)
