-- `numbers::bits::bits_of` meets its contract: the bits are those of the levels so far.
-- Assumes nothing.
use mathlib.Core.Path.{◌≡◌, refl, sym, ap, ◌∙◌, subst}
use native.Mathlib.Nat.{add-zero}
use lib.Bits.{bit_or}
use Prim.Native.Nat.{ℕ, ◌+◌, ◌-◌, ◌*◌, ◌/◌, ◌%◌, ◌^◌, ◌≤◌}
use native.Mathlib.Omega.{arith}
use lib.ListN.{length}
use Rattle.value.specs.Digits.{number, digits}
use Rattle.value.specs.Slice.{part}
use Rattle.value.specs.Level.{bits_of}
use Rattle.value.proofs.Digits.{below_all}
use Rattle.numbers.specs.Parts.{bits_of_levels}
use Rattle.numbers.proofs.Words.{per_word, Begun, More, codes_so_far, bits_known, bits_other, known_bits, other_bits, word_holds, first_begun, first_told, more, left_begun, word_none, word_more, word_left, word_end, word_is, Known, known_more, other_begun, other_more, all_begun}
use Rattle.numbers.proofs.bits.bits_of.Goals.{After-bits-per_word, After-bits_of_word, After-bytes_required-k, After-word}
use Rattle.numbers.proofs.bits.bits_of.Goals as goal

per : (c : After-bits-per_word) → 64 / c.bits-per_word.result ≡ per_word c.args.states
per c = ap (λ (b : ℕ). 64 / b) c.bits-per_word.ensures

-- the first levels
begun : (c : After-bytes_required-k) → 64 / c.bits-per_word.result ≡ per_word c.args.states
    → let a = c.args in
    Begun a.width a.states a.levels.now ((a.width - 1) % (64 / c.bits-per_word.result) + 1) c.bytes_required-k.result
begun c e = first_begun c.requires e refl c.bytes_required-k.ensures

told : (c : After-bits_of_word) → 64 / c.bits-per_word.result ≡ per_word c.args.states
    → let a = c.args in
    bits_of_levels (codes_so_far a.states a.levels.now ((a.width - 1) % (64 / c.bits-per_word.result) + 1) c.bytes_required-k.result) ≡ c.bits_of_word.result
told c e =
    let a = c.args in
    first_told a.states a.levels.now (word_holds a.states e (a.width - 1)).1 c.bytes_required-k.ensures c.first_word.ensures c.bits_of_word.ensures

pub returns-in_err-working : goal.returns-in_err-working
returns-in_err-working c =
    let past = goal.at.returns-in_err-working c in
    rw c.from_residual.ensures
    (bits_other _ (other_begun (begun past.After-bytes_required-k (per past.After-bits-per_word)) (below_all 256 c.args.levels.now (λ i. omega (arith, c.type_inv.levels i))) (other_bits _ (told past.After-bits_of_word (per past.After-bits-per_word) ∙ c.in_err-working.was))))

pub loop-bytes-init : goal.loop-bytes-init
loop-bytes-init c =
    let past = goal.at.loop-bytes-init c in
    rw (word_none c.args.states, add-zero)
    (begun past.After-bytes_required-k (per past.After-bits-per_word), known_bits _ (told past.After-bits_of_word (per past.After-bits-per_word) ∙ c.in_ok-working.was))

-- the next word
turn : (c : After-word) → c.bytes_required-k.result ≤ length c.args.levels.now
    → let S = c.args.states in
    let n = c.loop-bytes.bytes-index in
    More c.args.width S c.args.levels.now ((c.args.width - 1) % (64 / c.bits-per_word.result) + 1 + per_word S * n) (c.bytes_required-k.result + n * 8)
turn c k =
    let S = c.args.states in
    let b = c.loop-bytes.invariant.0 in
    more S b (left_begun S b (word_left c.args.levels.now c.bytes_required-k.result c.loop-bytes.bytes-index k (rw c.as_chunks.ensures.front_len at c.loop-bytes-test.true)))

next_word : (c : After-word) → c.bytes_required-k.result ≤ length c.args.levels.now
    → c.word.result ≡ number 256 (part (c.bytes_required-k.result + c.loop-bytes.bytes-index * 8) 8 c.args.levels.now)
next_word c k =
    c.word.ensures
    ∙ ap (number 256) (word_is c.args.levels.now c.bytes_required-k.result c.loop-bytes.bytes-index k c.as_chunks.ensures.front (rw c.as_chunks.ensures.front_len at c.loop-bytes-test.true))

pub returns-in_err-more : goal.returns-in_err-more
returns-in_err-more c =
    let past = goal.at.returns-in_err-more c in
    let S = c.args.states in
    let k = (begun past.After-bytes_required-k (per past.After-bits-per_word)).within in
    rw c.from_residual-in_err-more.ensures
    (bits_other _
    (other_more (turn past.After-word k) (below_all 256 c.args.levels.now (λ i. omega (arith, c.type_inv.levels i))) c.requires.few
    (other_bits _ (ap (λ (x : ℕ). bits_of_levels (digits (2 ^ bits_of S) (per_word S) x)) (sym (next_word past.After-word k)) ∙ sym c.bits_of_word-in-loop-bytes.ensures ∙ c.in_err-more.was))))

pub loop-bytes-preserved : goal.loop-bytes-preserved
loop-bytes-preserved c =
    let past = goal.at.loop-bytes-preserved c in
    let S = c.args.states in
    let n = c.loop-bytes.bytes-index in
    let v = c.args.levels.now in
    let i = (c.args.width - 1) % (64 / c.bits-per_word.result) + 1 in
    let j = c.bytes_required-k.result in
    let k = (begun past.After-bytes_required-k (per past.After-bits-per_word)).within in
    let h = turn past.After-word k in
    let e : j + (n + 1) * 8 ≡ j + n * 8 + 8 = omega arith in
    let m = known_more h (below_all 256 v (λ x. omega (arith, c.type_inv.levels x))) c.requires.few c.loop-bytes.invariant.1 (next_word past.After-word k) (known_bits _ (sym c.bits_of_word-in-loop-bytes.ensures ∙ c.in_ok-more.was)) in
    rw (word_more S i n, e)
    (h.next, subst (λ (p : ℕ). Known (codes_so_far S v (i + per_word S * n + per_word S) (j + n * 8 + 8)) (bit_or (c.loop-bytes.working * 2 ^ p % 2 ^ 64) c.in_ok-more.more)) (sym (per past.After-bits-per_word)) m)

pub returns : goal.returns
returns c =
    let past = goal.at.returns c in
    let k = (begun past.After-bytes_required-k (per past.After-bits-per_word)).within in
    let b = c.loop-bytes.invariant.0 in
    let z = word_end c.args.levels.now c.bytes_required-k.result c.loop-bytes.bytes-index k (rw c.as_chunks.ensures.front_len at c.loop-bytes-test.false) b.whole in
    bits_known (rw (← all_begun c.args.states b z) c.loop-bytes.invariant.1)
