-- What each part of Add a piece is given and leaves: the number of a name, the piece in its place, the room for it.
-- Assumes nothing.
use mathlib.Core.Path.{◌≡◌, refl, sym, ap, ◌∙◌}
use mathlib.Core.Bool.{Bool, true, false, cond, not, ◌&&◌, ◌||◌, true≢false}
use mathlib.Core.List.{List, [], ◌∷◌, ◌++◌, map, map-append}
use Prim.Native.Nat.{ℕ, zero, suc, ◌+◌, ◌-◌, ◌≤◌, ◌<◌}
use native.Mathlib.Nat.{zero-add}
use native.Mathlib.Numerals.{add-one}
use native.Mathlib.Omega.{arith}
use borrow.Author.Tests.{ltb-false, leb-false, lt-ltb, le-ltb, le-leb, lt-leb}
use lib.Dec.{leb, ltb}
use lib.ListN.{length, take, get_or, set, length-append, length-map, take-append-drop, get_or-map}
use lib.Seq.{length-take-le, take-suc, get_or-take}
use Rattle.value.specs.Slice.{part, overlay, sum}
use Rattle.value.specs.Level.{place_in}
use Rattle.value.proofs.Slices.{overlay_snoc, overlay_part, overlay_length}
use Rattle.value.proofs.Tests.{or_left, or_right, by_le}
use Rattle.fst.specs.Refusal.{Outcome}
use Rattle.derivation.specs.declared.Extract.{Extract}
use Rattle.derivation.specs.declared.DerivedBitVecSignal.{DerivedBitVecSignal}
use Rattle.derivation.specs.declared.Side.{Side}
use Rattle.derivation.specs.declared.Side.TheVariants.{Left, Right}
use Rattle.derivation.specs.Piece.{Sized, add_piece, adjoin, derivation_with, extract_of, is_bad_derivation, is_bad_range, is_overfull, merged, merging, name_added, names_of, packed_of, piece_added, piece_of, piece_width, pieces_of}
use Rattle.derivation.specs.Answer.{merges, has_no_room, Joining, Named, with_pieces, with_names}
use Rattle.derivation.proofs.Pieces.{packed_all, place_le, name_known, name_new, sum_added, Sound, sound, refused_full, accepted}

-- ---- the number of a name

module _ (names : List ℕ) (name : ℕ) where
  -- a ninth name has the number 8
  pub ninth : length names ≤ 8 → ltb 8 (length (name_added name names)) ≡ leb 8 (place_in names name)
  ninth h =
      by_le (length names) (place_in names name)
      (λ g.
      let e : place_in names name ≡ length names = omega (arith, place_le names name) in
      let z : length (name_added name names) ≡ place_in names name + 1 = rw (name_new names name e, length-append) (omega arith) in
      by_le 8 (place_in names name)
      (λ k. lt-ltb 8 (length (name_added name names)) (omega arith) ∙ sym (le-leb 8 (place_in names name) k))
      (λ k. le-ltb 8 (length (name_added name names)) (omega arith) ∙ sym (lt-leb 8 (place_in names name) k)))
      (λ g. rw (name_known names name g) (le-ltb 8 (length names) h ∙ sym (lt-leb 8 (place_in names name) (omega arith))))

-- ---- a piece and its neighbour

width_le : (ps : List Extract) (i : ℕ) (z : Extract) → i < length ps → (get_or ps i z).width ≤ sum (map piece_width ps)
unfolding sum
width_le [] i z h = absurd (omega arith)
width_le (p ∷ ps) zero z h = omega arith
width_le (p ∷ ps) (suc i) z h = omega (arith, width_le ps i z (omega arith))

pub merges_none : (side : Side) (e : Extract) (ps : List Extract) → ps ≡ [] → merges side e ps ≡ false
unfolding merges
merges_none Left e ps h = ap (merges Left e) h
merges_none Right e ps h = ap (merges Right e) h

pub merges_left : (l : List ℕ) (e : Extract) → 1 ≤ length l → merges Left e (map extract_of l) ≡ adjoin e (extract_of (get_or l 0 0))
unfolding merges
merges_left [] e h = absurd (omega arith)
merges_left (x ∷ l) e h = refl

pub merges_right : (l : List ℕ) (e : Extract) → 1 ≤ length l → merges Right e (map extract_of l) ≡ adjoin (extract_of (get_or l (length l - 1) 0)) e
unfolding merges
merges_right [] e h = absurd (omega arith)
merges_right (x ∷ []) e h = refl
merges_right (x ∷ y ∷ l) e h =
    let last : length (x ∷ y ∷ l) - 1 ≡ suc (length (y ∷ l) - 1) = omega arith in
    rw last (merges_right (y ∷ l) e (omega arith))

pub merges_empty : (l : List ℕ) (side : Side) (e : Extract) → length l < 1 → merges side e (map extract_of l) ≡ false
merges_empty [] side e h = merges_none side e [] refl
merges_empty (x ∷ l) side e h = absurd (omega arith)

-- where it merges with no neighbour
pub unmerged_left : (e : Extract) (ps : List Extract) → merges Left e ps ≡ false → piece_added Left e ps ≡ e ∷ ps
unfolding merges piece_added merging
unmerged_left e [] h = refl
unmerged_left e (p ∷ ps) h = rw h

pub unmerged_right : (e : Extract) (ps : List Extract) → merges Right e ps ≡ false → piece_added Right e ps ≡ ps ++ (e ∷ [])
unfolding merges piece_added merging
unmerged_right e [] h = refl
unmerged_right e (p ∷ []) h = rw h
unmerged_right e (p ∷ q ∷ ps) h = ap (λ (l : List Extract). p ∷ l) (unmerged_right e (q ∷ ps) h)

-- where it merges
pub merged_left : (e p : Extract) (ps : List Extract) → merges Left e (p ∷ ps) ≡ true → piece_added Left e (p ∷ ps) ≡ merged e p ∷ ps
unfolding merges piece_added merging
merged_left e p ps h = rw h

pub merged_right : (e : Extract) (ps : List Extract) (p : Extract) → merges Right e (ps ++ (p ∷ [])) ≡ true
    → piece_added Right e (ps ++ (p ∷ [])) ≡ ps ++ (merged p e ∷ [])
unfolding merges piece_added merging
merged_right e [] p h = rw h
merged_right e (q ∷ []) p h = rw h
merged_right e (q ∷ r ∷ ps) p h = ap (λ (l : List Extract). q ∷ l) (merged_right e (r ∷ ps) p h)

pub length_added : (side : Side) (e : Extract) (ps : List Extract) → length (piece_added side e ps) ≡ cond (merges side e ps) (length ps) (suc (length ps))
unfolding merges piece_added merging
length_added Left e [] = refl
length_added Right e [] = refl
length_added Left e (p ∷ ps) = go (adjoin e p)
  where
    go : (b : Bool) → length (cond b (merged e p ∷ []) (e ∷ p ∷ []) ++ ps) ≡ cond b (suc (length ps)) (suc (suc (length ps)))
    go true = refl
    go false = refl
length_added Right e (p ∷ []) = go (adjoin p e)
  where
    go : (b : Bool) → length (cond b (merged p e ∷ []) (p ∷ e ∷ [])) ≡ cond b 1 2
    go true = refl
    go false = refl
length_added Right e (p ∷ q ∷ ps) = ap suc (length_added Right e (q ∷ ps)) ∙ go (merges Right e (q ∷ ps))
  where
    go : (b : Bool) → suc (cond b (suc (length ps)) (suc (suc (length ps)))) ≡ cond b (suc (suc (length ps))) (suc (suc (suc (length ps))))
    go true = refl
    go false = refl

-- ---- pieces in their places

pub put_left_one : (l : List ℕ) (n : ℕ) (e : Extract) → n ≤ length l → merges Left e (map extract_of (take n l)) ≡ true
    → set l 0 (packed_of (merged e (extract_of (get_or l 0 0)))) ≡ overlay l 0 (map packed_of (piece_added Left e (map extract_of (take n l))))
unfolding merges overlay
put_left_one l zero e room h = absurd (true≢false (sym h))
put_left_one [] (suc n) e room h = absurd (omega arith)
put_left_one (x ∷ l) (suc n) e room h =
    rw (merged_left e (extract_of x) (map extract_of (take n l)) h, packed_all (take n l), zero-add, length-take-le n l (omega arith), take-append-drop n l)

module _ (l : List ℕ) (n : ℕ) (room : n ≤ length l) where
  abbrev packed : List Extract
  packed = map extract_of (take n l)

  pub count_is : length packed ≡ n
  count_is = length-map (take n l) extract_of ∙ length-take-le n l room

  pub piece_at : (i : ℕ) → i < n → get_or packed i (extract_of 0) ≡ extract_of (get_or l i 0)
  piece_at i h = get_or-map extract_of (take n l) i 0 ∙ ap extract_of (get_or-take n l i 0 h)

  pub width_at_lem : (i : ℕ) → i < n → (extract_of (get_or l i 0)).width ≤ sum (map piece_width packed)
  width_at_lem i h = rw (← piece_at i h) (width_le packed i (extract_of 0) (rw count_is h))

  last_piece : 0 < n → packed ≡ map extract_of (take (n - 1) l) ++ (extract_of (get_or l (n - 1) 0) ∷ [])
  last_piece h =
      let e : n ≡ suc (n - 1) = omega arith in
      ap (λ (k : ℕ). map extract_of (take k l)) e
      ∙ ap (map extract_of) (take-suc l (n - 1) 0 (omega arith))
      ∙ map-append extract_of (take (n - 1) l) (get_or l (n - 1) 0 ∷ [])

  module _ (e : Extract) where
    pub merges_some : (side : Side) → merges side e packed ≡ true → 0 < n
    merges_some side h =
        by_le n 0
        (λ k.
        let z : n ≡ 0 = omega arith in
        absurd (true≢false (sym h ∙ merges_none side e packed (ap (λ (m : ℕ). map extract_of (take m l)) z))))
        (λ k. k)

    -- the packed numbers with the piece added
    pub put_left_more : merges Left e packed ≡ false → overlay l 0 (packed_of e ∷ take n l) ≡ overlay l 0 (map packed_of (piece_added Left e packed))
    put_left_more h = rw (unmerged_left e packed h, packed_all)

    pub put_right_one : merges Right e packed ≡ true
        → set l (n - 1) (packed_of (merged (extract_of (get_or l (n - 1) 0)) e)) ≡ overlay l 0 (map packed_of (piece_added Right e packed))
    unfolding part
    put_right_one h =
        let z : 0 < n = merges_some Right h in
        let qs = map extract_of (take (n - 1) l) in
        let p = extract_of (get_or l (n - 1) 0) in
        ap (λ (k : ℕ). set l k (packed_of (merged p e))) (sym (zero-add (n - 1)))
        ∙ sym (overlay_snoc l 0 (n - 1) (packed_of (merged p e)) (omega arith))
        ∙ ap (overlay l 0)
        (ap (λ (xs : List ℕ). xs ++ (packed_of (merged p e) ∷ [])) (sym (packed_all (take (n - 1) l)))
        ∙ sym (map-append packed_of qs (merged p e ∷ []))
        ∙ ap (map packed_of) (sym (merged_right e qs p (rw (← last_piece z) h)) ∙ ap (piece_added Right e) (sym (last_piece z))))

    pub put_right_more : merges Right e packed ≡ false → n < length l → set l n (packed_of e) ≡ overlay l 0 (map packed_of (piece_added Right e packed))
    unfolding part
    put_right_more h k =
        ap (λ (i : ℕ). set l i (packed_of e)) (sym (zero-add n))
        ∙ sym (overlay_snoc l 0 n (packed_of e) (omega arith))
        ∙ ap (overlay l 0)
        (ap (λ (xs : List ℕ). xs ++ (packed_of e ∷ [])) (sym (packed_all (take n l)))
        ∙ sym (map-append packed_of packed (e ∷ []))
        ∙ ap (map packed_of) (sym (unmerged_right e packed h)))

-- ---- the parts of Add a piece

module _ {d : DerivedBitVecSignal} {side : Side} {e : Extract} (j : Joining side d e) where
  fitting : d.piece_count ≤ length d.bits
  fitting = omega (arith, j.sized.bits, j.few)

  -- the piece that it merges with, and the two as one, are no wider than all
  pub narrow_at : (i : ℕ) → i < d.piece_count → (extract_of (get_or d.bits i 0)).width + e.width ≤ 4096
  narrow_at i h = omega (arith, width_at_lem d.bits d.piece_count fitting i h, j.whole, j.narrow)

  pub some_piece : merges side e (pieces_of d) ≡ true → 0 < d.piece_count
  some_piece t = merges_some d.bits d.piece_count fitting e side t

  -- a derivation with the piece on a side, by its number of pieces and their packed numbers
  abbrev Put : Side → ℕ → List ℕ → Type 0
  Put s n l =
      ◌≡◌ {A = DerivedBitVecSignal}
      (record { width = d.width + e.width; input_count = d.input_count; inputs = d.inputs; piece_count = n; bits = l })
      (with_pieces d (piece_added s e (pieces_of d)))

  piece_put : (s : Side) (n : ℕ) (l : List ℕ) → n ≡ cond (merges s e (pieces_of d)) d.piece_count (suc d.piece_count)
      → l ≡ overlay d.bits 0 (map packed_of (piece_added s e (pieces_of d))) → Put s n l
  piece_put s n l count q =
      let w : d.width + e.width ≡ sum (map piece_width (piece_added s e (pieces_of d))) = rw (sum_added s e (pieces_of d)) (omega (arith, j.whole)) in
      let z : n ≡ length (piece_added s e (pieces_of d)) =
      count ∙ ap (λ (k : ℕ). cond (merges s e (pieces_of d)) k (suc k)) (sym (count_is d.bits d.piece_count fitting))
      ∙ sym (length_added s e (pieces_of d)) in
      λ i. record { width = w i; input_count = d.input_count; inputs = d.inputs; piece_count = z i; bits = q i }

  -- what is shown of a side is shown of the piece's
  module _ {s : Side} (is : side ≡ s) {b : Bool} (told : merges side e (pieces_of d) ≡ b) where
    abbrev there : merges s e (pieces_of d) ≡ b
    there = ap (λ (t : Side). merges t e (pieces_of d)) (sym is) ∙ told

    put_there : (n : ℕ) (l : List ℕ) → n ≡ cond b d.piece_count (suc d.piece_count)
        → l ≡ overlay d.bits 0 (map packed_of (piece_added s e (pieces_of d))) → Put side n l
    put_there n l count q =
        piece_put s n l (count ∙ ap (λ (t : Bool). cond t d.piece_count (suc d.piece_count)) (sym there)) q
        ∙ ap (λ (t : Side). with_pieces d (piece_added t e (pieces_of d))) (sym is)

  module _ (merging : merges side e (pieces_of d) ≡ true) where
    pub merged_left_put : side ≡ Left → Put side d.piece_count (set d.bits 0 (packed_of (merged e (extract_of (get_or d.bits 0 0)))))
    merged_left_put is = put_there is merging d.piece_count _ refl (put_left_one d.bits d.piece_count e fitting (there is merging))

    pub merged_right_put : side ≡ Right
        → Put side d.piece_count (set d.bits (d.piece_count - 1) (packed_of (merged (extract_of (get_or d.bits (d.piece_count - 1) 0)) e)))
    merged_right_put is = put_there is merging d.piece_count _ refl (put_right_one d.bits d.piece_count fitting e (there is merging))

  module _ (apart : merges side e (pieces_of d) ≡ false) where
    pub left_put : side ≡ Left → Put side (d.piece_count + 1) (overlay d.bits 0 (packed_of e ∷ take d.piece_count d.bits))
    left_put is = put_there is apart (d.piece_count + 1) _ (add-one d.piece_count) (put_left_more d.bits d.piece_count fitting e (there is apart))

    pub right_put : side ≡ Right → Put side (d.piece_count + 1) (set d.bits d.piece_count (packed_of e))
    right_put is =
        put_there is apart (d.piece_count + 1) _ (add-one d.piece_count)
        (put_right_more d.bits d.piece_count fitting e (there is apart) (omega (arith, j.sized.bits, j.unmerged apart)))

module _ {d : DerivedBitVecSignal} {number name : ℕ} (n : Named d number name) where
  names_are : length (names_of d) ≡ d.input_count
  names_are = length-take-le d.input_count d.inputs (omega (arith, n.sized.names, n.few))

  pub name_put : number ≡ d.input_count
      → ◌≡◌ {A = DerivedBitVecSignal}
      (record { width = d.width; input_count = d.input_count + 1; inputs = set d.inputs number name; piece_count = d.piece_count; bits = d.bits })
      (with_names d (name_added name (names_of d)))
  unfolding part
  name_put h =
      let e = name_new (names_of d) name (sym n.place ∙ h ∙ sym names_are) in
      let c : d.input_count + 1 ≡ length (name_added name (names_of d)) = rw (e, length-append) (omega (arith, names_are)) in
      let q : set d.inputs number name ≡ overlay d.inputs 0 (name_added name (names_of d)) =
      ap (λ (i : ℕ). set d.inputs i name) (h ∙ sym (zero-add d.input_count))
      ∙ sym (overlay_snoc d.inputs 0 d.input_count name (omega (arith, n.sized.names, n.low)))
      ∙ ap (overlay d.inputs 0) (sym e) in
      λ i. record { width = d.width; input_count = c i; inputs = q i; piece_count = d.piece_count; bits = d.bits }

  pub name_kept : (number ≡ d.input_count → ⊥) → d ≡ with_names d (name_added name (names_of d))
  unfolding part
  name_kept h =
      let k : place_in (names_of d) name < length (names_of d) = by_le (length (names_of d)) (place_in (names_of d) name) (λ g. absurd (h (omega (arith, place_le (names_of d) name, n.place, names_are)))) (λ g. g) in
      let e = name_known (names_of d) name k in
      let c : d.input_count ≡ length (name_added name (names_of d)) = rw e (sym names_are) in
      let q : d.inputs ≡ overlay d.inputs 0 (name_added name (names_of d)) =
      sym (overlay_part d.inputs 0 d.input_count (omega (arith, n.sized.names, n.few))) ∙ ap (overlay d.inputs 0) (sym e) in
      λ i. record { width = d.width; input_count = c i; inputs = q i; piece_count = d.piece_count; bits = d.bits }

module _ {d : DerivedBitVecSignal} {number name : ℕ} (n : Named d number name) where
  named_sized : Sized (with_names d (name_added name (names_of d)))
  named_sized =
      let fits : length (name_added name (names_of d)) ≤ 8 =
      ltb-false 8 _ (ninth (names_of d) name (omega (arith, names_are n, n.few)) ∙ lt-leb 8 _ (omega (arith, n.place, n.low))) in
      record { names = overlay_length d.inputs (name_added name (names_of d)) 0 (omega (arith, fits, n.sized.names)) ∙ n.sized.names; bits = n.sized.bits }

-- ---- 13

has_room : (d : DerivedBitVecSignal) (side : Side) (e : Extract) → has_no_room d side e ≡ false
    → (e.signal < 8) × (merges side e (pieces_of d) ≡ false → d.piece_count < 64) × (d.width + e.width ≤ 4096)
unfolding has_no_room
has_room d side e h =
    let a = leb 8 e.signal in
    let n = ltb 4096 (d.width + e.width) in
    let b = not (merges side e (pieces_of d)) && leb 64 d.piece_count in
    let k = or_left (a || n) b h in (
      leb-false 8 e.signal (or_left a n k),
      (λ f. leb-false 64 d.piece_count (ap (λ (t : Bool). not t && leb 64 d.piece_count) (sym f) ∙ or_right (a || n) b h)),
      ltb-false 4096 (d.width + e.width) (or_right a n k),
    )

or_swap : (a b c : Bool) → a || b || c ≡ a || c || b
or_swap true b c = refl
or_swap false true true = refl
or_swap false true false = refl
or_swap false false true = refl
or_swap false false false = refl

-- a piece tried: what its tests were given
pub record Tried (d : DerivedBitVecSignal) (side : Side) (name msb lsb : ℕ) (e : Extract) : Type 0 where
  pub sized : Sized d
  pub good : is_bad_derivation d ≡ false
  pub range : is_bad_range msb lsb ≡ false
  pub made : e ≡ piece_of d name msb lsb

module _ {d : DerivedBitVecSignal} {side : Side} {name msb lsb : ℕ} {e : Extract} (t : Tried d side name msb lsb e) where
  abbrev s : Sound d
  s = sound d t.good

  full_is : has_no_room d side e ≡ is_overfull (name_added name (names_of d)) (piece_added side e (pieces_of d))
  unfolding has_no_room is_overfull
  full_is =
      let m = merges side e (pieces_of d) in
      let n : length (names_of d) ≡ d.input_count = length-take-le d.input_count d.inputs (omega (arith, t.sized.names, s.named)) in
      let p : length (pieces_of d) ≡ d.piece_count = count_is d.bits d.piece_count (omega (arith, t.sized.bits, s.few)) in
      let w : d.width + e.width ≡ sum (map piece_width (piece_added side e (pieces_of d))) = rw (sum_added side e (pieces_of d)) (omega (arith, s.whole)) in
      let q : length (piece_added side e (pieces_of d)) ≡ cond m d.piece_count (suc d.piece_count) =
      length_added side e (pieces_of d) ∙ ap (λ (k : ℕ). cond m k (suc k)) p in
      let f : leb 8 e.signal ≡ ltb 8 (length (name_added name (names_of d))) =
      ap (λ (x : Extract). leb 8 x.signal) t.made ∙ sym (ninth (names_of d) name (omega (arith, s.named))) in
      rw (← w, q, ← f)
      (or_swap (leb 8 e.signal) (ltb 4096 (d.width + e.width)) (not m && leb 64 d.piece_count)
      ∙ ap (λ (b : Bool). leb 8 e.signal || b || ltb 4096 (d.width + e.width)) (go m))
    where
      go : (b : Bool) → not b && leb 64 d.piece_count ≡ ltb 64 (cond b d.piece_count (suc d.piece_count))
      go true = sym (le-ltb 64 d.piece_count s.few)
      go false =
          by_le 64 d.piece_count
          (λ k. le-leb 64 d.piece_count k ∙ sym (lt-ltb 64 (suc d.piece_count) (omega arith)))
          (λ k. lt-leb 64 d.piece_count k ∙ sym (le-ltb 64 (suc d.piece_count) k))

  -- 13 is tried of the piece that was made
  room_test : has_no_room d side e ≡ is_overfull (name_added name (names_of d)) (piece_added side (piece_of d name msb lsb) (pieces_of d))
  room_test = full_is ∙ ap (λ (x : Extract). is_overfull (name_added name (names_of d)) (piece_added side x (pieces_of d))) t.made

  pub no_room : has_no_room d side e ≡ true → ◌≡◌ {A = Outcome DerivedBitVecSignal} (record { refused = 13; left = d }) (add_piece d side name msb lsb)
  no_room h = sym (refused_full d side name msb lsb t.good t.range (sym room_test ∙ h))

  module _ (room : has_no_room d side e ≡ false) where
    pub naming : Named d e.signal name
    naming = record { sized = t.sized; few = s.named; place = ap (λ (x : Extract). x.signal) t.made; low = (has_room d side e room).0 }

    -- the derivation with the name, and then with the piece
    module _ (named : DerivedBitVecSignal) (names-put : named ≡ with_names d (name_added name (names_of d))) where
      pub joining : Joining side named e
      joining =
          let r = has_room d side e room in
          rw names-put (record { sized = named_sized naming; few = s.few; whole = s.whole; unmerged = r.1; narrow = r.2 })

      pub joined : (next : DerivedBitVecSignal) → next ≡ with_pieces named (piece_added side e (pieces_of named))
          → ◌≡◌ {A = Outcome DerivedBitVecSignal} (record { refused = 0; left = next }) (add_piece d side name msb lsb)
      unfolding derivation_with
      joined next put =
          ap (λ (n : DerivedBitVecSignal). record { refused = 0; left = n })
          (put
          ∙ ap (λ (n : DerivedBitVecSignal). with_pieces n (piece_added side e (pieces_of n))) names-put
          ∙ ap (λ (x : Extract). derivation_with d (name_added name (names_of d)) (piece_added side x (pieces_of d))) t.made)
          ∙ sym (accepted d side name msb lsb t.good t.range (sym room_test ∙ room))
