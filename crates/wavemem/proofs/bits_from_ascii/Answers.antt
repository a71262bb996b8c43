-- `wavemem::bits_from_ascii` meets its contract: the working number is that of the characters so far.
-- Assumes nothing.
use mathlib.Core.Path.{◌≡◌, ap, ◌∙◌}
use mathlib.Core.List.{List, []}
use Prim.Native.Nat.{ℕ, ◌+◌, ◌*◌, ◌%◌, ◌/◌, ◌≤◌, ◌<◌}
use native.Mathlib.Omega.{arith}
use lib.ListN.{length, get_or, take, drop, length-drop}
use lib.Seq.{length-take-le, drop-drop}
use Rattle.value.specs.Digits.{number, digits}
use Rattle.value.specs.Slice.{part}
use Rattle.value.proofs.Digits.{below_all, below_take, below_drop}
use Rattle.wavemem.proofs.Words.{word_bytes}
use Rattle.wavemem.proofs.Parts.{chunk_at}
use Rattle.wavemem.proofs.bits_from_ascii.Goals.{After-word}
use Rattle.value.specs.Level.{fold_all, codes_of}
use Rattle.wavemem.proofs.Packing.{length_codes, codes_take, codes_drop, take_codes, drop_codes, eight_more}
use Rattle.wavemem.proofs.bits_from_ascii.Goals as goal

pub few_bits-working-requires : goal.few_bits-working-requires
few_bits-working-requires c =
    record {
      codes = rw c.as_rchunks.ensures.front (take_codes (length c.args.value.now % 8) c.args.value.now c.requires.codes);
      short = rw c.as_rchunks.ensures.front_len (omega arith);
    }

pub loop-chars-init : goal.loop-chars-init
loop-chars-init c =
    let v = c.args.value.now in
    c.few_bits-working.ensures
    ∙ ap (λ (u : List ℕ). number 2 (codes_of (fold_all u))) c.as_rchunks.ensures.front
    ∙ ap (number 2) (codes_take (length v % 8) v)
    ∙ ap (λ (k : ℕ). number 2 (take k (codes_of (fold_all v)))) (omega arith)

-- the next eight characters
module _ (c : After-word) where
  abbrev from : ℕ
  from = length c.args.value.now % 8 + c.loop-chars.chars-index * 8

  index : c.loop-chars.chars-index < length c.args.value.now / 8
  index = rw c.as_rchunks.ensures.back_len at c.loop-chars-test.true

  within : from + 8 ≤ length c.args.value.now
  within = omega (arith, index)

  chars : get_or c.as_rchunks.result.1.now c.loop-chars.chars-index [] ≡ take 8 (drop from c.args.value.now)
  unfolding part
  chars =
      let v = c.args.value.now in
      let i = c.loop-chars.chars-index in
      ap (λ (l : List (List ℕ)). get_or l i []) c.as_rchunks.ensures.back
      ∙ chunk_at 8 (length v / 8) i (drop (length v % 8) v) [] index
      ∙ ap (take 8) (drop-drop (i * 8) (length v % 8) v)

  characters : digits 256 8 c.word.result ≡ take 8 (drop from c.args.value.now)
  characters =
      let v = c.args.value.now in
      word_bytes (take 8 (drop from v)) c.word.result (length-take-le 8 (drop from v) (rw length-drop (omega (arith, within))))
      (below_take 256 (drop from v) (below_drop 256 v (below_all 256 v (λ i. omega (arith, c.type_inv.value i))) from) 8)
      (c.word.ensures ∙ ap (number 256) chars)

pub two_of_word-requires : goal.two_of_word-requires
two_of_word-requires c =
    let f = from c in
    rw (characters c) (take_codes 8 (drop f c.args.value.now) (drop_codes f c.args.value.now c.requires.codes)).below

pub loop-chars-preserved : goal.loop-chars-preserved
loop-chars-preserved c =
    let past = (goal.at.loop-chars-preserved c).After-word in
    let v = c.args.value.now in
    let f = from past in
    eight_more (codes_of (fold_all v)) c.requires.codes.below (rw length_codes (omega (arith, c.requires.short))) f c.loop-chars.working _ (rw length_codes (within past)) c.loop-chars.invariant
    (c.two_of_word.ensures ∙ ap (λ (u : List ℕ). number 2 (codes_of (fold_all u))) (characters past) ∙ ap (number 2) (codes_take 8 (drop f v) ∙ ap (take 8) (codes_drop f v)))
    ∙ ap (λ (k : ℕ). number 2 (take k (codes_of (fold_all v)))) (omega arith)
