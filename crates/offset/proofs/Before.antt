-- Document 02, E2: "Any answer below 65,536 is the old one".
-- Assumes nothing.
use mathlib.Core.Path.{◌≡◌, refl, sym, ap, ◌∙◌}
use mathlib.Core.Bool.{Bool, true, false, cond}
use mathlib.Core.List.{List, [], ◌∷◌}
use Prim.Native.Nat.{ℕ, zero, suc, ◌+◌, ◌%◌, ◌≤◌, ◌<◌}
use native.Mathlib.Nat.{le_refl}
use native.Mathlib.Omega.{arith}
use borrow.Author.Tests.{le-ltb, eq-eqb}
use lib.Dec.{eqb, ltb}
use lib.ListN.{length, get_or, drop, replicate, length-replicate, get_or-replicate}
use Rattle.value.specs.Level.{place_in}
use Rattle.fst.specs.Refusal.{Reply, refused, given, ◌⇐◌, tried}
use Rattle.fst.specs.Record.{maximum}
use Rattle.std.specs.Prelude.{Option, Some, None}
use Rattle.offset.specs.declared.DataOffset.{DataOffset}
use Rattle.offset.specs.Offset.{falls, greatest, run_of, head_of, place_of, place, look_up}
use Rattle.offset.proofs.Search.{greatest_is, start_first, head_past}
use Rattle.offset.proofs.Offsets.{place_found, else_given}

-- ---- document 01's answer

-- "the number of entries from there on that carry the same time index, modulo 65,536"
unfoldable pub old_place_of : ℕ → List ℕ → DataOffset
old_place_of sought l =
    let i = greatest sought l in
    let start = place_in l i in
    let n = run_of i (drop start l) in
    record { start = start; elements = n % 65536; time_match = eqb i sought; next_index = head_of (drop (start + n) l) }

unfoldable pub old_place : ℕ → List ℕ → Option DataOffset
old_place sought [] = None
old_place sought (i ∷ l) = cond (ltb sought i) None (Some (old_place_of sought (i ∷ l)))

unfoldable pub old_look_up : List ℕ → ℕ → Reply (Option DataOffset)
old_look_up indices sought = tried (2 ⇐ ltb maximum (length indices) ∷ 11 ⇐ falls indices ∷ []) (given (old_place sought indices))

-- ---- an answer with its number of entries cut to 16 bits

abbrev pub with_elements : DataOffset → ℕ → DataOffset
with_elements o n = record { start = o.start; elements = n; time_match = o.time_match; next_index = o.next_index }

abbrev pub truncated_place : Option DataOffset → Option DataOffset
truncated_place None = None
truncated_place (Some o) = Some (with_elements o (o.elements % 65536))

abbrev pub truncated_reply : Reply (Option DataOffset) → Reply (Option DataOffset)
truncated_reply (refused n) = refused n
truncated_reply (given p) = given (truncated_place p)

old_place_lem : (s : ℕ) (l : List ℕ) → old_place s l ≡ truncated_place (place s l)
unfolding old_place old_place_of place place_of
old_place_lem s [] = refl
old_place_lem s (i ∷ l) = go (ltb s i)
  where
    go : (b : Bool) → cond b None (Some (old_place_of s (i ∷ l))) ≡ truncated_place (cond b None (Some (place_of s (i ∷ l))))
    go true = refl
    go false = refl

-- whatever the list and the sought index: the old reply is the new one but for the number of entries, which is the new number modulo 65,536
pub old_modulo : (l : List ℕ) (s : ℕ) → old_look_up l s ≡ truncated_reply (look_up l s)
unfolding old_look_up look_up tried
old_modulo l s = go (ltb maximum (length l)) (falls l)
  where
    go : (b c : Bool) → tried (2 ⇐ b ∷ 11 ⇐ c ∷ []) (given (old_place s l)) ≡ truncated_reply (tried (2 ⇐ b ∷ 11 ⇐ c ∷ []) (given (place s l)))
    go true c = refl
    go false true = refl
    go false false = ap given (old_place_lem s l)

-- "Any answer below 65,536 is the old one"
pub below_is_old : (l : List ℕ) (s : ℕ) (o : DataOffset) → look_up l s ≡ given (Some o) → o.elements < 65536 → old_look_up l s ≡ given (Some o)
below_is_old l s o e h =
    let same : o.elements % 65536 ≡ o.elements = omega arith in
    old_modulo l s ∙ ap truncated_reply e ∙ ap (λ (n : ℕ). given (Some (with_elements o n))) same

-- ---- n equal indices

falls_never : (n i : ℕ) → falls (replicate n i) ≡ false
unfolding falls
falls_never zero i = refl
falls_never (suc zero) i = refl
falls_never (suc (suc n)) i = rw (le-ltb i i (le_refl i)) (falls_never (suc n) i)

run_of_all : (n i : ℕ) → n ≡ run_of i (replicate n i)
unfolding run_of
run_of_all zero i = refl
run_of_all (suc n) i = rw (eq-eqb i i refl) (ap suc (run_of_all n i))

-- an answer of all n entries of a list
abbrev pub whole_list : ℕ → Bool → DataOffset
whole_list n equal = record { start = 0; elements = n; time_match = equal; next_index = None }

module _ (n i s : ℕ) (some : 0 < n) (reached : i ≤ s) where
  long : length (replicate n i) ≡ n
  long = length-replicate n i

  first : get_or (replicate n i) 0 0 ≡ i
  first = get_or-replicate n 0 i 0 some

  greatest_of_all : i ≡ greatest s (replicate n i)
  greatest_of_all =
      sym first
      ∙ greatest_is s (replicate n i) 0 (omega (arith, long)) (omega (arith, first))
      (λ j h r. omega (arith, first, get_or-replicate n j i 0 (omega (arith, long))))

  -- every one is counted
  pub equal_indices : n ≤ maximum → look_up (replicate n i) s ≡ given (Some (whole_list n (eqb i s)))
  equal_indices small =
      let l = replicate n i in
      let behind : None ≡ head_of (drop (0 + n) l) = sym (head_past l (0 + n) (omega (arith, long))) in
      let found = place_found s l greatest_of_all (start_first l i (omega (arith, long)) first) (run_of_all n i) behind in
      else_given l s (omega (arith, long)) (falls_never n i) (omega (arith, long)) (omega (arith, first))
      ∙ ap (λ (o : DataOffset). given (Some o)) (sym found)

-- "A chattering contact put 70,000 entries on one index, and the screen showed 4,464"
pub seventy_thousand : look_up (replicate 70000 5) 5 ≡ given (Some (whole_list 70000 true))
seventy_thousand = equal_indices 70000 5 5 (omega arith) (omega arith) (omega arith)

pub old_seventy_thousand : old_look_up (replicate 70000 5) 5 ≡ given (Some (whole_list 4464 true))
old_seventy_thousand = old_modulo (replicate 70000 5) 5 ∙ ap truncated_reply seventy_thousand
