-- Demand 3 of Derive by numbers: an accepted call is an accepted Derive of what its numbers say.
-- Assumes nothing.
use mathlib.Core.Path.{◌≡◌, refl, sym, ap, ◌∙◌}
use mathlib.Core.Logic.Iff
use mathlib.Core.Logic.{◌↔◌}
use mathlib.Core.Bool.{false}
use mathlib.Core.List.{List, [], ◌∷◌}
use Prim.Native.Nat.{suc}
use native.Mathlib.Omega.{arith}
use lib.ListN.{replicate}
use Rattle.value.specs.Digits.{number, digits}
use Rattle.value.specs.Level.{place_in, code_of, letter_of, fold, set_of, join_all}
use Rattle.value.specs.Slice.{part, overlay, same, any, sum}
use Rattle.layout.specs.Entry.{entry_size, entry_of}
use Rattle.fst.specs.declared.Description.{Description}
use Rattle.fst.specs.Refusal.{Reply, Test, given, tried}
use Rattle.fst.specs.Record.{Kept, Lent, has_no_text, kept_in, width_stands, fits_bytes, fits, is_bad}
use Rattle.fst.proofs.Refusals.{Result, through, stopped, result}
use Rattle.runs.specs.Runs.{ends_like, joined, entries_of, laid_out, Same}
use Rattle.signal.specs.Decode.{entry_at, entries_from, mark_in, set_in, level_part, levels_in, has_bad_mark}
use Rattle.offset.specs.Offset.{falls}
use Rattle.derivation.specs.declared.DerivedBitVecSignal.{DerivedBitVecSignal}
use Rattle.derivation.specs.Piece.{extract_of, is_bad_piece, is_bad_derivation}
use Rattle.steps.specs.declared.Inputs.{Inputs}
use Rattle.steps.specs.Steps.{smallest, moved, moments_from, moments_of, kept_steps}
use Rattle.transform.specs.Derive.{picked, largest_among, derived_kept, is_unfit, lent_out, derive_refusals, derived_by, derive}
use Rattle.transform.specs.Accepted.{Accepted, record_of}
use Rattle.transform.proofs.Derived.{demand_3_derived, derived_record_rises}
use Rattle.yoksimert.specs.declared.FlatInput.{FlatInput}
use Rattle.yoksimert.specs.Flat.{decoded, flat_made}
use Rattle.yoksimert.specs.Derivations.{derivation_of, inputs_by, flat_derive}
use Rattle.yoksimert.specs.Recorder.{by_numbers}
use Rattle.yoksimert.specs.Accepted.{FlatAccepted, flat_ks_of, flat_list_of, flat_record_of}
use Rattle.yoksimert.proofs.Runs.{flat_held, kept_by, same_iff}

module _ (a : FlatAccepted) where
  abbrev d : DerivedBitVecSignal
  d = derivation_of a.derivation a.names a.pieces

  abbrev is : Inputs
  is = inputs_by a.inputs

  abbrev out : Lent
  out = lent_out a.out_bytes a.out_indices

  abbrev tests : List Test
  tests = derive_refusals d is a.bytes a.indices out

  abbrev made : Kept
  made = derived_kept d (flat_ks_of a)

  -- a refusal's number is not 0
  answered : (m : Description) × ((derive d is a.bytes a.indices a.out_bytes a.out_indices).answer ≡ given m)
  unfolding derive derive_refusals flat_derive
  answered = go (result (given made) tests tt) a.is
    where
      go : Result (given made) tests → (flat_made (derived_by out (tried tests (given made))).answer).number ≡ 0
          → (m : Description) × ((derived_by out (tried tests (given made))).answer ≡ given m)
      go (through p e) h = (_, ap (λ (r : Reply Kept). (derived_by out r).answer) e)
      go (stopped n e) h =
          let z : suc n ≡ 0 = ap (λ (r : Reply Kept). (flat_made (derived_by out r).answer).number) (sym e) ∙ h in
          absurd (omega arith)

  abbrev accepted : Accepted
  accepted =
      record {
        derivation = d;
        inputs = is;
        bytes = a.bytes;
        indices = a.indices;
        out_bytes = a.out_bytes;
        out_indices = a.out_indices;
        made = answered.0;
        sized = a.sized;
        is = answered.1;
      }

  record_by : flat_record_of a ≡ flat_held (record_of accepted)
  unfolding flat_derive
  record_by = rw answered.1 (kept_by answered.0 _)

  -- no index of the record falls
  pub flat_derived_rises : falls (flat_record_of a).indices ≡ false
  flat_derived_rises = rw record_by (derived_record_rises accepted)

-- two accepted calls of one width leave equal records just where their largest sets and their derived lists are equal
pub flat_demand_3_derived : (a b : FlatAccepted) → a.derivation.width ≡ b.derivation.width
    → Same by_numbers (flat_record_of a) (flat_record_of b) ↔ ((largest_among (flat_ks_of a) ≡ largest_among (flat_ks_of b)) × (flat_list_of a ≡ flat_list_of b))
flat_demand_3_derived a b e =
    rw (record_by a, record_by b)
    (Iff.trans (same_iff (record_of (accepted a)) (record_of (accepted b))) (demand_3_derived (accepted a) (accepted b) e))

-- ---- a call that is accepted

-- one wire, 1 at index 0
wire : FlatInput
wire = record { description = record { kind = 2; width = 1; set = 0; count = 1 }; byte_start = 0; index_start = 0 }

-- all of it, as bit 0 of input 0
pub one_wire : FlatAccepted
unfolding wire flat_derive decoded number digits part overlay same any sum place_in code_of letter_of fold set_of join_all tried entry_size entry_of kept_in width_stands fits_bytes fits is_bad ends_like joined entries_of laid_out entry_at entries_from mark_in set_in level_part levels_in has_bad_mark has_no_text falls extract_of is_bad_piece is_bad_derivation smallest moved moments_from moments_of picked kept_steps is_unfit derive_refusals derive
one_wire =
    record {
      derivation = record { width = 1; input_count = 1; piece_count = 1 };
      names = replicate 8 0;
      pieces = 0x100000000 ∷ replicate 63 0;
      inputs =
          record {
            count = 1;
            inputs = replicate 8 wire;
          };
      bytes = 1 ∷ [];
      indices = 0 ∷ [];
      out_bytes = 0 ∷ [];
      out_indices = 0 ∷ [];
      sized = record { names = refl; bits = refl };
      is = refl;
    }
