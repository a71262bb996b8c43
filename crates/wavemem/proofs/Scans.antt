-- Strings and their words: characters 0 in front change neither the least set nor the number of levels.
-- Assumes nothing.
use mathlib.Core.Path.{◌≡◌, refl, sym, ap, ap₂, ◌∙◌}
use mathlib.Core.Bool.{Bool, false, cond, ◌||◌}
use mathlib.Core.List.{List, ◌∷◌, ◌++◌}
use Prim.Native.Nat.{ℕ, zero, suc, ◌-◌, ◌^◌, ◌≤◌}
use native.Mathlib.Omega.{arith}
use lib.Dec.{leb}
use lib.ListN.{length, replicate, length-append, length-replicate}
use Rattle.value.specs.declared.States.{States}
use Rattle.std.specs.Prelude.{Option, Some, None}
use Rattle.value.specs.Slice.{any}
use Rattle.value.specs.Digits.{number, digits, Below}
use Rattle.value.specs.Level.{fold, fold_all, code_of, codes_of, place_in, bits_of, has_no_code, least_of, join_all, set_of}
use Rattle.value.specs.Answer.{least_states}
use Rattle.value.proofs.Digits.{below_append}
use Rattle.wavemem.specs.declared.short.Scanned.{Scanned}
use Rattle.wavemem.specs.Short.{padded, Scan}
use Rattle.wavemem.proofs.Lanes.{below_replicate}
use Rattle.wavemem.proofs.Words.{word_bytes}

-- the codes of characters 0 in front
padded_codes : (k : ℕ) (v : List ℕ) → codes_of (fold_all (replicate k 48 ++ v)) ≡ replicate k 0 ++ codes_of (fold_all v)
unfolding code_of place_in fold
padded_codes zero v = refl
padded_codes (suc k) v = ap (λ (cs : List ℕ). 0 ∷ cs) (padded_codes k v)

padded_number : (B k : ℕ) (cs : List ℕ) → number B (replicate k 0 ++ cs) ≡ number B cs
unfolding number
padded_number B zero cs = refl
padded_number B (suc k) cs = rw (padded_number B k cs) (omega arith)

padded_any : (n k : ℕ) (cs : List ℕ) → leb n 0 ≡ false → any (leb n) (replicate k 0 ++ cs) ≡ any (leb n) cs
unfolding any
padded_any n zero cs e = refl
padded_any n (suc k) cs e = ap (λ (t : Bool). t || any (leb n) (replicate k 0 ++ cs)) e ∙ padded_any n k cs e

padded_least : (k : ℕ) (cs : List ℕ) → least_of (replicate k 0 ++ cs) ≡ least_of cs
unfolding join_all set_of
padded_least zero cs = refl
padded_least (suc k) cs = padded_least k cs

padded_states : (k : ℕ) (v : List ℕ) → least_states (replicate k 48 ++ v) ≡ least_states v
unfolding least_states
padded_states k v =
    let cs = codes_of (fold_all v) in
    ap (λ (ds : List ℕ). cond (has_no_code ds) None (Some (least_of ds))) (padded_codes k v)
    ∙ ap₂ (λ (t : Bool) (s : States). cond t None (Some s)) (padded_any 9 k cs refl) (padded_least k cs)

-- what is told of the word's bytes holds of the string
pub padded_scan : (v : List ℕ) (w : ℕ) → length v ≤ 8 → Below 256 v → w ≡ number 256 (padded v) → (r : Option Scanned) → Scan (digits 256 8 w) r → Scan v r
padded_scan v w short b e r p = go r p
  where
    k : ℕ
    k = 8 - length v

    z : List ℕ
    z = replicate k 48

    long : length (padded v) ≡ 8
    long = length-append z v ∙ rw (length-replicate {A = ℕ} k 48) (omega arith)

    bytes : digits 256 8 w ≡ padded v
    bytes = word_bytes (padded v) w long (below_append 256 z v (below_replicate 256 48 k (omega arith)) b) e

    least : least_states v ≡ least_states (digits 256 8 w)
    least = sym (ap least_states bytes ∙ padded_states k v)

    go : (r : Option Scanned) → Scan (digits 256 8 w) r → Scan v r
    go None p = least ∙ p
    go (Some t) p =
        let B = 2 ^ bits_of t.states in
        record {
          least = least ∙ p.least;
          levels =
              p.levels
              ∙ ap (number B) (ap (λ (x : List ℕ). codes_of (fold_all x)) bytes ∙ padded_codes k v)
              ∙ padded_number B k (codes_of (fold_all v));
        }
