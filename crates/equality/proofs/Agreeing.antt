-- Compare says yes exactly for equal lists of index and value, and of two runs of one width exactly where their histories are equal.
-- Assumes nothing.
use mathlib.Core.Path.{◌≡◌, refl, sym, ap, ap₂, ◌∙◌}
use mathlib.Core.Bool.{Bool, true, false, cond, ◌&&◌}
use mathlib.Core.List.{List, [], ◌∷◌, map}
use mathlib.Core.Logic.{◌↔◌}
use Prim.Native.Nat.{ℕ, ◌≤◌, ◌<◌}
use native.Mathlib.Omega.{arith}
use lib.Dec.{T, eqb, eqb→eq, eqb_refl}
use lib.ListN.{length, length-map, get_or-map}
use lib.Seq.{ext_get_or}
use Rattle.value.specs.declared.States.{States}
use Rattle.value.specs.declared.States.TheVariants.{Two}
use Rattle.value.specs.Slice.{same}
use Rattle.value.proofs.Slices.{same_sound, same_refl}
use Rattle.value.proofs.Tests.{to_t, from_t, and_left, and_right, and_both}
use Rattle.layout.proofs.Entries.{laws}
use Rattle.fst.specs.declared.Encoding.TheVariants.{BitVector}
use Rattle.fst.specs.declared.Description.{Description}
use Rattle.fst.specs.Refusal.{given, ◌⇐◌, tried}
use Rattle.fst.specs.Record.{Lent, Kept, kept_in, kept_of, is_bad}
use Rattle.runs.specs.All.{All}
use Rattle.runs.specs.Runs.{Pair, Step, index_of, laid_out, step_of, largest_of, history_laid_out, by_value, Call, Run, fresh_held, after, fed, history_of}
use Rattle.runs.proofs.Laid.{entry_for, Sound}
use Rattle.runs.proofs.Runs.{steps_sound}
use Rattle.runs.proofs.Runs as runs
use Rattle.runs.proofs.Demand3.{run_is_laid_out}
use Rattle.signal.specs.Decode.{Indexed, entries_in, has_bad_mark, has_bad_code}
use Rattle.signal.proofs.Entries.{entries_count, entry_is}
use Rattle.signal.proofs.ReadBack.{entry_tells, laid_entry}
use Rattle.equality.specs.Compare.{same_value, agree, walked, compare_records}

-- ---- Compare of any two lists of entries

-- neither 9 nor 10
abbrev pub Fair : Indexed → Type 0
Fair a = (has_bad_mark a.encoding a.bytes ≡ false) × (has_bad_code a.encoding a.bytes ≡ false)

-- as many entries, and each agrees in index and value
unfoldable pub agreeing : List Indexed → List Indexed → Bool
agreeing [] [] = true
agreeing [] (b ∷ m) = false
agreeing (a ∷ l) [] = false
agreeing (a ∷ l) (b ∷ m) = agree a b && agreeing l m

-- yes exactly where both lists of index and value agree
pub yes_exactly : (l m : List Indexed) → All Fair l → All Fair m → walked l m ≡ given (agreeing l m)
unfolding walked tried agreeing
yes_exactly [] [] e f = refl
yes_exactly [] (b ∷ m) e f = refl
yes_exactly (a ∷ l) [] e f = refl
yes_exactly (a ∷ l) (b ∷ m) e f = rw (e.0.0, e.0.1, f.0.0, f.0.1, yes_exactly l m e.1 f.1) (go (agree a b))
  where
    go : (t : Bool) → cond t (given (agreeing l m)) (given false) ≡ given (t && agreeing l m)
    go true = refl
    go false = refl

-- and a yes says so of any entries
pub yes_agrees : (l m : List Indexed) → walked l m ≡ given true → T (agreeing l m)
unfolding walked tried agreeing
yes_agrees [] [] y = tt
yes_agrees [] (b ∷ m) y = let z : ◌≡◌ {A = ℕ} 0 1 = cc in absurd (omega arith)
yes_agrees (a ∷ l) [] y = let z : ◌≡◌ {A = ℕ} 0 1 = cc in absurd (omega arith)
yes_agrees (a ∷ l) (b ∷ m) y =
    go (has_bad_mark a.encoding a.bytes) (has_bad_code a.encoding a.bytes) (has_bad_mark b.encoding b.bytes) (has_bad_code b.encoding b.bytes) (agree a b) (λ z. yes_agrees l m z) y
  where
    go : (p q r s t : Bool) → (walked l m ≡ given true → T (agreeing l m)) → tried (9 ⇐ p ∷ 10 ⇐ q ∷ 9 ⇐ r ∷ 10 ⇐ s ∷ []) (cond t (walked l m) (given false)) ≡ given true → T (t && agreeing l m)
    go true q r s t on y = let z : ◌≡◌ {A = ℕ} 0 1 = cc in absurd (omega arith)
    go false true r s t on y = let z : ◌≡◌ {A = ℕ} 0 1 = cc in absurd (omega arith)
    go false false true s t on y = let z : ◌≡◌ {A = ℕ} 0 1 = cc in absurd (omega arith)
    go false false false true t on y = let z : ◌≡◌ {A = ℕ} 0 1 = cc in absurd (omega arith)
    go false false false false true on y = on y
    go false false false false false on y = let z : ◌≡◌ {A = ℕ} 0 1 = cc in absurd (omega arith)

given_inj : {p q : Bool} → given p ≡ given q → p ≡ q
given_inj e = cc

-- ---- steps that agree in index and string

unfoldable pub same_steps : List Step → List Step → Bool
same_steps [] [] = true
same_steps [] (t ∷ m) = false
same_steps (s ∷ l) [] = false
same_steps (s ∷ l) (t ∷ m) = (eqb s.index t.index && same s.string t.string) && same_steps l m

told : (h g : List Pair) → T (same_steps (map step_of h) (map step_of g)) → h ≡ g
unfolding same_steps
told [] [] y = refl
told [] (q ∷ g) y = absurd y
told (p ∷ h) [] y = absurd y
told (p ∷ h) (q ∷ g) y =
    let i = eqb p.index q.index in
    let s = same p.string q.string in
    let r = same_steps (map step_of h) (map step_of g) in
    let x = and_left (i && s) r y in
    ap₂ (λ (z : Pair) (l : List Pair). z ∷ l)
    (ap₂ (λ (n : ℕ) (l : List ℕ). record { index = n; string = l }) (eqb→eq p.index q.index (and_left i s x)) (same_sound p.string q.string (and_right i s x)))
    (told h g (and_right (i && s) r y))

itself : (l : List Step) → T (same_steps l l)
unfolding same_steps
itself [] = tt
itself (s ∷ l) =
    and_both (eqb s.index s.index && same s.string s.string) (same_steps l l)
    (and_both (eqb s.index s.index) (same s.string s.string) (eqb_refl s.index) (same_refl s.string)) (itself l)

-- ---- lists laid out

module _ (w : ℕ) (pos : 1 ≤ w) where
  abbrev shown : States → Step → Indexed
  shown M s = record { index = s.index; encoding = BitVector w M; bytes = entry_for w M s }

  entries_are : (M : States) (l : List Step) → entries_in (laid_out w M l) ≡ map (shown M) l
  unfolding laid_out
  entries_are M l =
      let r = laid_out w M l in
      let d : Step = record { index = 0; set = Two; string = [] } in
      let n : length (entries_in r) ≡ length l = entries_count r ∙ length-map l index_of in
      ext_get_or (shown M d) (entries_in r) (map (shown M) l) (n ∙ sym (length-map l (shown M)))
      (λ k h.
      let p : k < length l = rw n at h in
      entry_is r k (shown M d) (rw (length-map l index_of) p)
      ∙ ap₂ (λ (i : ℕ) (v : List ℕ). record { index = i; encoding = BitVector w M; bytes = v }) (get_or-map index_of l k d) (laid_entry w pos M l k d p)
      ∙ sym (get_or-map (shown M) l k d))

  agreeing_steps : (M N : States) (l m : List Step) → All (Sound w M) l → All (Sound w N) m → agreeing (map (shown M) l) (map (shown N) m) ≡ same_steps l m
  unfolding agreeing same_steps same_value
  agreeing_steps M N [] [] e f = refl
  agreeing_steps M N [] (t ∷ m) e f = refl
  agreeing_steps M N (s ∷ l) [] e f = refl
  agreeing_steps M N (s ∷ l) (t ∷ m) e f =
      ap₂ (λ (b c : Bool). (eqb s.index t.index && b) && c)
      (ap₂ same (entry_tells w pos M s e.0).text (entry_tells w pos N t f.0).text)
      (agreeing_steps M N l m e.1 f.1)

  all_fair : (M : States) (l : List Step) → All (Sound w M) l → All Fair (map (shown M) l)
  all_fair M [] e = tt
  all_fair M (s ∷ l) e = (((entry_tells w pos M s e.0).mark, (entry_tells w pos M s e.0).code), all_fair M l e.1)

  -- two lists laid out at one width: yes exactly where index and string agree, whatever the sets
  pub compare_laid : (M N : States) (l m : List Step) → All (Sound w M) l → All (Sound w N) m
      → walked (entries_in (laid_out w M l)) (entries_in (laid_out w N m)) ≡ given (same_steps l m)
  compare_laid M N l m e f =
      ap₂ walked (entries_are M l) (entries_are N m)
      ∙ yes_exactly (map (shown M) l) (map (shown N) m) (all_fair M l e) (all_fair N m f)
      ∙ ap given (agreeing_steps M N l m e f)

  history_laid : (h g : List Pair) → All (runs.Spelt w) h → All (runs.Spelt w) g
      → walked (entries_in (history_laid_out w h)) (entries_in (history_laid_out w g)) ≡ given (same_steps (map step_of h) (map step_of g))
  unfolding history_laid_out
  history_laid h g a b =
      compare_laid (largest_of (map step_of h)) (largest_of (map step_of g)) (map step_of h) (map step_of g)
      (steps_sound w (largest_of (map step_of h)) h a (omega arith)) (steps_sound w (largest_of (map step_of g)) g b (omega arith))

  -- of two runs of one width Compare says yes exactly where their histories are equal, and else no
  pub compare_runs : (xs ys : List Call) → Run by_value (fresh_held w) xs → Run by_value (fresh_held w) ys → (d e : Description) (l m : Lent) → is_bad d l ≡ false → is_bad e m ≡ false
      → kept_in d l ≡ kept_of (after by_value (fresh_held w) xs) → kept_in e m ≡ kept_of (after by_value (fresh_held w) ys)
      → (compare_records d l e m ≡ given true) ↔ (history_of (fed by_value (fresh_held w) xs) ≡ history_of (fed by_value (fresh_held w) ys))
  unfolding compare_records tried
  compare_runs xs ys r q d e l m a b s t =
      let h = history_of (fed by_value (fresh_held w) xs) in
      let g = history_of (fed by_value (fresh_held w) ys) in
      let z : compare_records d l e m ≡ given (same_steps (map step_of h) (map step_of g)) =
      rw (a, b)
      (ap₂ (λ (x y : Kept). walked (entries_in x) (entries_in y)) (s ∙ run_is_laid_out w pos xs r) (t ∙ run_is_laid_out w pos ys q)
      ∙ history_laid h g (runs.spelt w (laws w pos) xs r) (runs.spelt w (laws w pos) ys q)) in (
        (λ y. told h g (to_t (same_steps (map step_of h) (map step_of g)) (given_inj (sym z ∙ y)))),
        (λ y. z ∙ ap given (from_t (same_steps (map step_of h) (map step_of g)) (rw y (itself (map step_of g))))),
      )
