-- A list laid out: its entries' length, their widening, the last of them, and that they tell the list. The laws of an entry are a parameter.
-- Assumes nothing.
use mathlib.Core.Path.{◌≡◌, refl, sym, ap, ap₂, ◌∙◌}
use Prim.Native.Nat.{ℕ, zero, suc, ◌+◌, ◌*◌, ◌≤◌, ◌<◌}
use native.Mathlib.Nat.{zero-mul, suc-mul, add_comm, le_of_suc-le-suc}
use native.Mathlib.Omega.{arith}
use mathlib.Core.Bool.{Bool, true, false, cond}
use mathlib.Core.List.{List, [], ◌∷◌, ◌++◌, map, append_assoc, append-nil, map-append}
use lib.ListN.{length, get_or, take, drop, length-append, length-map}
use lib.Seq.{take_at, drop_at, drop-append-add}
use Rattle.value.specs.declared.States.{States}
use Rattle.value.specs.Level.{codes_of, mark_of}
use Rattle.value.specs.Slice.{same, part}
use Rattle.value.specs.Digits.{Below}
use Rattle.value.proofs.Levels.{codes_inj}
use Rattle.value.proofs.Slices.{part_overlay}
use Rattle.fst.specs.declared.Encoding.TheVariants.{BitVector}
use Rattle.layout.specs.Entry.{entry_size, entry_of, widen_all}
use Rattle.fst.specs.Record.{Lent, Kept, kept_in, kept_of}
use Rattle.fst.specs.Change.{appended, stored}
use Rattle.entries.specs.Repeats.{repeats}
use Rattle.runs.specs.All.{All}
use Rattle.runs.specs.Runs.{by_value, left_in, Step, index_of, entries_of, laid_out, ends_like, joined, Seen, seen}
use Rattle.layout.proofs.EntryLaws.{Coded, EntryLaws}

-- ---- entries in order

abbrev pub entry_for : ℕ → States → Step → List ℕ
entry_for w M s = entry_of w M s.set (codes_of s.string)

-- do two steps have one entry
abbrev pub same_entry : ℕ → States → Step → Step → Bool
same_entry w M s t = same (entry_for w M s) (entry_for w M t)

-- a step of w levels under its set, in small letters, that a record with the largest set M can hold
pub record Sound (w : ℕ) (M : States) (s : Step) : Type 0 where
  pub codes : Coded w s.set (codes_of s.string)
  pub letters : Below 9 (codes_of s.string)
  pub within : mark_of s.set ≤ mark_of M

pub entries_snoc : (w : ℕ) (M : States) (l : List Step) (s : Step) → entries_of w M (l ++ (s ∷ [])) ≡ entries_of w M l ++ entry_for w M s
unfolding entries_of
entries_snoc w M [] s = append-nil (entry_for w M s)
entries_snoc w M (t ∷ l) s =
    ap (λ (r : List ℕ). entry_for w M t ++ r) (entries_snoc w M l s) ∙ sym (append_assoc (entry_for w M t) (entries_of w M l) (entry_for w M s))

-- the part of one entry, past another
part_skip : (e rest : List ℕ) (n size : ℕ) → length e ≡ size → part (suc n * size) size (e ++ rest) ≡ part (n * size) size rest
unfolding part
part_skip e rest n size l =
    ap (take size)
    (ap (λ (k : ℕ). drop k (e ++ rest)) (suc-mul n size ∙ add_comm (n * size) size ∙ ap (λ (k : ℕ). k + n * size) (sym l))
    ∙ drop-append-add e rest (n * size))

part_first : (e rest : List ℕ) (size : ℕ) → length e ≡ size → part (0 * size) size (e ++ rest) ≡ e
unfolding part
part_first e rest size l = ap (λ (k : ℕ). take size (drop k (e ++ rest))) (zero-mul size) ∙ take_at e rest size l

module _ (w : ℕ) (L : EntryLaws w) where
  long : (M : States) (s : Step) → length (entry_for w M s) ≡ entry_size w M
  long M s = L.sized M s.set (codes_of s.string)

  pub entries_length : (M : States) (l : List Step) → length (entries_of w M l) ≡ length l * entry_size w M
  unfolding entries_of
  entries_length M [] = sym (zero-mul (entry_size w M))
  entries_length M (s ∷ l) =
      length-append (entry_for w M s) (entries_of w M l)
      ∙ (omega (arith, long M s, entries_length M l, suc-mul (length l) (entry_size w M)))

  -- the entry at a place
  pub entry_at_lem : (M : States) (l : List Step) (k : ℕ) (s : Step) → k < length l
      → part (k * entry_size w M) (entry_size w M) (entries_of w M l) ≡ entry_for w M (get_or l k s)
  unfolding entries_of
  entry_at_lem M [] k s h = absurd (omega arith)
  entry_at_lem M (t ∷ l) zero s h = part_first (entry_for w M t) (entries_of w M l) (entry_size w M) (long M t)
  entry_at_lem M (t ∷ l) (suc k) s h =
      part_skip (entry_for w M t) (entries_of w M l) k (entry_size w M) (long M t) ∙ entry_at_lem M l k s (le_of_suc-le-suc h)

  -- entries widened are the entries under the larger set
  pub widen_entries : (from to : States) (l : List Step) → All (Sound w from) l → mark_of from ≤ mark_of to
      → widen_all w from to (length l) (entries_of w from l) ≡ entries_of w to l
  unfolding entries_of widen_all
  widen_entries from to [] g b = refl
  widen_entries from to (s ∷ l) g b =
      let e = entry_for w from s in
      let r = entries_of w from l in
      let size = entry_size w from in
      rw (
        take_at e r size (long from s),
        drop_at e r size (long from s),
        L.widened from to s.set (codes_of s.string) g.0.codes g.0.within b,
        widen_entries from to l g.1 b,
      )

  -- a new entry repeats the last just where the list ends in a step of that entry
  pub repeats_ends : (M : States) (l : List Step) (s : Step)
      → repeats (entry_size w M) (length l) (entries_of w M l) (entry_for w M s) ≡ ends_like (same_entry w M) l s
  unfolding entries_of repeats ends_like
  repeats_ends M [] s = refl
  repeats_ends M (p ∷ []) s = ap (λ (x : List ℕ). same x (entry_for w M s)) (part_first (entry_for w M p) [] (entry_size w M) (long M p))
  repeats_ends M (p ∷ q ∷ l) s =
      ap (λ (x : List ℕ). same x (entry_for w M s)) (part_skip (entry_for w M p) (entries_of w M (q ∷ l)) (length l) (entry_size w M) (long M p))
      ∙ repeats_ends M (q ∷ l) s

  -- an entry tells the set and the string
  pub entry_tells : (M : States) (s t : Step) → Sound w M s → Sound w M t → entry_for w M s ≡ entry_for w M t
      → (s.set ≡ t.set) × (s.string ≡ t.string)
  entry_tells M s t a b e =
      let z = L.distinct M s.set t.set (codes_of s.string) (codes_of t.string) a.codes b.codes a.within b.within e in
      (z.0, codes_inj s.string t.string a.letters z.1)

  -- entries and indices tell the list
  pub told : (M : States) (l m : List Step) → All (Sound w M) l → All (Sound w M) m
      → map index_of l ≡ map index_of m → entries_of w M l ≡ entries_of w M m → l ≡ m
  unfolding entries_of
  told M [] [] a b i e = refl
  told M [] (t ∷ m) a b i e = let z : ◌≡◌ {A = ℕ} 0 1 = cc in absurd (omega arith)
  told M (s ∷ l) [] a b i e = let z : ◌≡◌ {A = ℕ} 0 1 = cc in absurd (omega arith)
  told M (s ∷ l) (t ∷ m) a b i e =
      let size = entry_size w M in
      let i₁ : s.index ≡ t.index = cc in
      let i₂ : map index_of l ≡ map index_of m = cc in
      let head : entry_for w M s ≡ entry_for w M t
      = sym (take_at (entry_for w M s) (entries_of w M l) size (long M s)) ∙ ap (take size) e ∙ take_at (entry_for w M t) (entries_of w M m) size (long M t) in
      let rest : entries_of w M l ≡ entries_of w M m
      = sym (drop_at (entry_for w M s) (entries_of w M l) size (long M s)) ∙ ap (drop size) e ∙ drop_at (entry_for w M t) (entries_of w M m) size (long M t) in
      let both = entry_tells M s t a.0 b.0 head in
      let tail = told M l m a.1 b.1 i₂ rest in
      λ j. record { index = i₁ j; string = both.1 j; set = both.0 j } ∷ tail j

  -- two lists laid out are equal records only where they are equal lists under one set
  pub laid_same : (M N : States) (l m : List Step) → All (Sound w M) l → All (Sound w N) m
      → seen (laid_out w M l) ≡ seen (laid_out w N m) → (M ≡ N) × (l ≡ m)
  unfolding laid_out
  laid_same M N l m a b s =
      let e : M ≡ N = ap (λ (x : Seen States). x.largest) s in (
        e,
        told M l m a (rw e b) (ap (λ (x : Seen States). x.indices) s)
            (ap (λ (x : Seen States). x.bytes) s ∙ ap (λ (K : States). entries_of w K m) (sym e)),
      )

  -- a list laid over two slices is found there
  pub laid_found : (M : States) (l : List Step) (lent : Lent) → lent.byte_start ≤ length lent.bytes → lent.index_start ≤ length lent.indices
      → kept_of (left_in by_value lent (stored lent (laid_out w M l))) ≡ laid_out w M l
  unfolding kept_in laid_out stored
  laid_found M l lent a b =
      rw (length-map l index_of)
      (ap₂ (λ (bytes indices : List ℕ). record { encoding = BitVector w M; bytes = bytes; indices = indices })
      (part_overlay lent.bytes (entries_of w M l) lent.byte_start (length l * entry_size w M) a (entries_length M l))
      (part_overlay lent.indices (map index_of l) lent.index_start (length l) b (length-map l index_of)))

  -- a step joins the record as it joins the list
  pub step_appended : (from to : States) (l : List Step) → All (Sound w from) l → mark_of from ≤ mark_of to → (s : Step)
      → appended (BitVector w to) (widen_all w from to (length (map index_of l)) (entries_of w from l)) (map index_of l) s.index (entry_for w to s)
      ≡ laid_out w to (joined (same_entry w to) l s)
  unfolding laid_out joined appended
  step_appended from to l g up s =
      rw (length-map l index_of, widen_entries from to l g up, repeats_ends to l s) (go (ends_like (same_entry w to) l s))
    where
      grown : Kept
      grown =
          record {
            encoding = BitVector w to;
            bytes = entries_of w to l ++ entry_for w to s;
            indices = map index_of l ++ (s.index ∷ []);
          }

      go : (b : Bool) → cond b (laid_out w to l) grown ≡ laid_out w to (cond b l (l ++ (s ∷ [])))
      go true = refl
      go false =
          let q = entries_snoc w to l s in
          let r = map-append index_of l (s ∷ []) in
          sym (λ t. record { encoding = BitVector w to; bytes = q t; indices = r t })
