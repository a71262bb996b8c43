-- The steps over records: each shows entries of its records, and their indices don't fall.
-- Assumes nothing.
use Rattle.std.specs.Prelude.{Option, None, Some}
use Prim.Native.Nat.{◌<◌, ◌≤◌, suc, zero, ℕ}
use borrow.Author.Tests.{le-ltb, ltb-false}
use lib.Dec.{eqb, ltb}
use lib.ListN.{get_or-map, length, length-map}
use mathlib.Core.Bool.{Bool, cond, false, true}
use mathlib.Core.List.{List, [], ◌++◌, ◌∷◌, append_assoc, append-nil, foldl, map}
use mathlib.Core.Path.{◌∙◌, ◌≡◌, ap, refl, subst, sym}
use native.Mathlib.Omega.{arith}
use Rattle.value.proofs.Tests.{or_both, or_left, or_right}
use Rattle.fst.specs.Record.{Kept}
use Rattle.runs.specs.All.{All}
use Rattle.runs.specs.Runs.{Step, ends_like, index_of, joined}
use Rattle.runs.proofs.All.{all_by}
use Rattle.signal.specs.Decode.{entries_from, entries_in}
use Rattle.offset.specs.Offset.{falls}
use Rattle.offset.specs.Offset.{head_of}
use Rattle.signal.proofs.Entries.{entries_count, entry_is, indexed}
use Rattle.steps.specs.Steps.{Moment, Shown, Track, moments_from, moved, now_of, shown_by, shown_in, shown_index, smaller, smallest}

-- ---- lists in order

-- no element is below the one before it, nor the first below b
abbrev pub Up : {A : Type 0} → (A → ℕ) → ℕ → List A → Type 0
Up f b [] = Unit
Up f b (x ∷ l) = (b ≤ f x) × Up f (f x) l

pub up_from : {A : Type 0} (f : A → ℕ) (a b : ℕ) (l : List A) → a ≤ b → Up f b l → Up f a l
up_from f a b [] h u = tt
up_from f a b (x ∷ l) h u = (omega (arith, u.0), u.1)

pub up_falls : {A : Type 0} (f : A → ℕ) (b : ℕ) (l : List A) → Up f b l → falls (map f l) ≡ false
unfolding falls
up_falls f b [] u = refl
up_falls f b (x ∷ []) u = refl
up_falls f b (x ∷ y ∷ l) u = or_both (ltb (f y) (f x)) (falls (map f (y ∷ l))) (le-ltb (f y) (f x) u.1.0) (up_falls f (f x) (y ∷ l) u.1)

pub up_map : {A B : Type 0} (f : B → ℕ) (g : A → B) (b : ℕ) (l : List A) → Up (λ x. f (g x)) b l → Up f b (map g l)
up_map f g b [] u = tt
up_map f g b (x ∷ l) u = (u.0, up_map f g (f (g x)) l u.1)

pub falls_up : (b : ℕ) (l : List ℕ) → falls (b ∷ l) ≡ false → Up (λ i. i) b l
unfolding falls
falls_up b [] h = tt
falls_up b (j ∷ l) h = (ltb-false j b (or_left (ltb j b) (falls (j ∷ l)) h), falls_up j l (or_right (ltb j b) (falls (j ∷ l)) h))

pub rising_up : (l : List ℕ) → falls l ≡ false → Up (λ i. i) 0 l
rising_up [] h = tt
rising_up (x ∷ l) h = (omega arith, falls_up x l h)

-- ---- what joins a list, one after the other

module _ (like : Step → Step → Bool) (P : Step → Type 0) where
  -- the list grows by some of them, in order
  pub record Grown (acc xs : List Step) (b : ℕ) : Type 0 where
    pub by : List Step
    pub is : foldl (joined like) acc xs ≡ acc ++ by
    pub up : Up index_of b by
    pub every : All P by

  pub grown : (acc xs : List Step) (b : ℕ) → Up index_of b xs → All P xs → Grown acc xs b
  unfolding joined
  grown acc [] b u p = record { by = []; is = sym (append-nil acc); up = tt; every = tt }
  grown acc (x ∷ xs) b u p = go (ends_like like acc x) refl (grown acc xs x.index u.1 p.1) (grown (acc ++ (x ∷ [])) xs x.index u.1 p.1)
    where
      go : (t : Bool) → ends_like like acc x ≡ t → Grown acc xs x.index → Grown (acc ++ (x ∷ [])) xs x.index → Grown acc (x ∷ xs) b
      go true e g h =
          record {
            by = g.by;
            is = ap (λ (t : Bool). foldl (joined like) (cond t acc (acc ++ (x ∷ []))) xs) e ∙ g.is;
            up = up_from index_of b x.index g.by u.0 g.up;
            every = g.every;
          }
      go false e g h =
          record {
            by = x ∷ h.by;
            is = ap (λ (t : Bool). foldl (joined like) (cond t acc (acc ++ (x ∷ []))) xs) e ∙ h.is ∙ append_assoc acc (x ∷ []) h.by;
            up = (u.0, h.up);
            every = (p.0, h.every);
          }

-- ---- an input's entries as it shows them

-- shown of one of a record's entries
pub record From (k : Kept) (s : Shown) : Type 0 where
  pub at : ℕ
  pub inside : at < length k.indices
  pub is : s ≡ shown_by (indexed k at)

pub shown_from : (k : Kept) → All (From k) (shown_in k)
shown_from k =
    all_by (From k) (shown_in k) (shown_by (indexed k 0))
    (λ i h.
    let n : i < length k.indices = rw (length-map (entries_in k) shown_by, entries_count k) at h in
    record { at = i; inside = n; is = get_or-map shown_by (entries_in k) i (indexed k 0) ∙ ap shown_by (entry_is k i (indexed k 0) n) })

pub shown_up : (j b : ℕ) (k : Kept) (l : List ℕ) → Up (λ i. i) b l → Up shown_index b (map shown_by (entries_from j k l))
unfolding entries_from
shown_up j b k [] u = tt
shown_up j b k (i ∷ l) u = (u.0, shown_up (suc j) i k l u.1)

-- ---- tracks and records in step

abbrev pub Each2 : {A B : Type 0} → (A → B → Type 0) → List A → List B → Type 0
Each2 R [] [] = Unit
Each2 R [] (y ∷ ys) = ⊥
Each2 R (x ∷ xs) [] = ⊥
Each2 R (x ∷ xs) (y ∷ ys) = R x y × Each2 R xs ys

-- what is known of an input that has not begun is U
module _ (U : Type 0) where
  -- an input shows one of its entries
  abbrev pub NowFrom : Kept → Option Shown → Type 0
  NowFrom k None = U
  NowFrom k (Some s) = From k s

  abbrev pub Runs : Kept → Track → Type 0
  Runs k t = NowFrom k t.now × All (From k) t.next

  pub moved_runs : (k : Kept) (i : ℕ) (n : Option Shown) (l : List Shown) → NowFrom k n → All (From k) l → Runs k (moved i (record { now = n; next = l }))
  unfolding moved
  moved_runs k i n [] h p = (h, tt)
  moved_runs k i n (s ∷ l) h p = go (eqb s.index i)
    where
      go : (b : Bool) → Runs k (cond b (record { now = Some s; next = l }) (record { now = n; next = s ∷ l }))
      go true = (p.0, p.1)
      go false = (h, p)

  pub runs_all : (ks : List Kept) (ts : List Track) (i : ℕ) → Each2 Runs ks ts → Each2 Runs ks (map (moved i) ts)
  runs_all [] [] i e = tt
  runs_all [] (t ∷ ts) i e = absurd e
  runs_all (k ∷ ks) [] i e = absurd e
  runs_all (k ∷ ks) (t ∷ ts) i e = (moved_runs k i t.now t.next e.0.0 e.0.1, runs_all ks ts i e.1)

  pub shows_all : (ks : List Kept) (ts : List Track) → Each2 Runs ks ts → Each2 NowFrom ks (map now_of ts)
  shows_all [] [] e = tt
  shows_all [] (t ∷ ts) e = absurd e
  shows_all (k ∷ ks) [] e = absurd e
  shows_all (k ∷ ks) (t ∷ ts) e = (e.0.0, shows_all ks ts e.1)

  abbrev pub ShowsEntries : List Kept → Moment → Type 0
  ShowsEntries ks m = Each2 NowFrom ks m.showing

  pub moments_show : (ks : List Kept) (n : ℕ) (i : Option ℕ) (ts : List Track) → Each2 Runs ks ts → All (ShowsEntries ks) (moments_from n i ts)
  unfolding moments_from
  moments_show ks zero i ts r = tt
  moments_show ks (suc n) None ts r = tt
  moments_show ks (suc n) (Some i) ts r =
      let u = runs_all ks ts i r in
      (shows_all ks (map (moved i) ts) u, moments_show ks n (smallest (map (moved i) ts)) (map (moved i) ts) u)

-- ---- the indices of the steps

abbrev pub moment_index : Moment → ℕ
moment_index m = m.index

abbrev pub NextUp : ℕ → Track → Type 0
NextUp b t = Up shown_index b t.next

-- no next entry is below an index
abbrev pub LeastIn : ℕ → List Shown → Type 0
LeastIn i [] = Unit
LeastIn i (s ∷ l) = i ≤ s.index

abbrev pub LeastOf : ℕ → Option ℕ → Type 0
LeastOf i None = Unit
LeastOf i (Some j) = i ≤ j

abbrev pub NextLeast : ℕ → Track → Type 0
NextLeast i t = LeastIn i t.next

pub least_under : (ts : List Track) (i : ℕ) → LeastOf i (smallest ts) → All (NextLeast i) ts
unfolding smallest
least_under [] i h = tt
least_under (t ∷ ts) i h = let z = split t.next (smallest ts) h in (z.0, least_under ts i z.1)
  where
    split : (l : List Shown) (m : Option ℕ) → LeastOf i (smaller (head_of (map shown_index l)) m) → LeastIn i l × LeastOf i m
    split [] m h = (tt, h)
    split (s ∷ l) None h = (h, tt)
    split (s ∷ l) (Some j) h = (omega arith, omega arith)

pub bounded : (ts : List Track) (b : ℕ) → All (NextUp b) ts → LeastOf b (smallest ts)
unfolding smallest
bounded [] b u = tt
bounded (t ∷ ts) b u = merge t.next (smallest ts) u.0 (bounded ts b u.1)
  where
    merge : (l : List Shown) (m : Option ℕ) → Up shown_index b l → LeastOf b m → LeastOf b (smaller (head_of (map shown_index l)) m)
    merge [] m u h = h
    merge (s ∷ l) None u h = u.0
    merge (s ∷ l) (Some j) u h = let k = u.0 in omega arith

pub moved_up : (i b : ℕ) (n : Option Shown) (l : List Shown) → Up shown_index b l → LeastIn i l → Up shown_index i (moved i (record { now = n; next = l })).next
unfolding moved
moved_up i b n [] u h = tt
moved_up i b n (s ∷ l) u h = go (eqb s.index i)
  where
    go : (t : Bool) → NextUp i (cond t (record { now = Some s; next = l }) (record { now = n; next = s ∷ l }))
    go true = up_from shown_index i s.index l h u.1
    go false = (h, u.1)

pub ups : (ts : List Track) (i b : ℕ) → All (NextUp b) ts → All (NextLeast i) ts → All (NextUp i) (map (moved i) ts)
ups [] i b u h = tt
ups (t ∷ ts) i b u h = (moved_up i b t.now t.next u.0 h.0, ups ts i b u.1 h.1)

pub moments_up : (n : ℕ) (m : Option ℕ) (ts : List Track) (b : ℕ) → smallest ts ≡ m → All (NextUp b) ts → Up moment_index b (moments_from n m ts)
unfolding moments_from
moments_up zero m ts b e u = tt
moments_up (suc n) None ts b e u = tt
moments_up (suc n) (Some i) ts b e u =
    let us = map (moved i) ts in
    let self : i ≤ i = omega arith in
    let v = ups ts i b u (least_under ts i (subst (LeastOf i) (sym e) self)) in
    (subst (LeastOf b) e (bounded ts b u), moments_up n (smallest us) us i refl v)
