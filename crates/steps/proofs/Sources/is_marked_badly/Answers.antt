-- `steps::Sources::is_marked_badly` meets its contract.
-- Assumes nothing.
use Prim.Native.Nat.{ℕ}
use mathlib.Core.List.{List}
use mathlib.Core.Path.{◌∙◌, ap}
use Rattle.value.specs.Slice.{part}
use Rattle.fst.specs.Record.{kept_in}
use Rattle.fst.proofs.Records.{indices_used, standing}
use Rattle.steps.specs.Inputs.{mark_is_bad}
use Rattle.steps.specs.Refusals.{kept_with}
use Rattle.steps.proofs.InputTests.{used_stands}
use Rattle.steps.proofs.Sources.is_marked_badly.Goals as goal

pub used_bytes-requires : goal.used_bytes-requires
used_bytes-requires c = (standing c.requires).room.bytes

pub any_bad_mark-requires : goal.any_bad_mark-requires
any_bad_mark-requires c = rw c.used_bytes.ensures (used_stands (standing c.requires))

pub returns : goal.returns
unfolding kept_in
returns c =
    let x = c.args.input.now in
    let l = part x.index_start x.description.count c.args.self.now.indices.now in
    c.any_bad_mark.ensures l (indices_used (standing c.requires))
    ∙ ap (λ (u : List ℕ). mark_is_bad (kept_with x.description u l)) c.used_bytes.ensures
