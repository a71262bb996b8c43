-- One turn of a walk over a wide string, and two walks one behind the other.
-- Assumes nothing.
use mathlib.Core.Path.{◌≡◌, refl, sym, ap, ap₂, ◌∙◌}
use mathlib.Core.Bool.{Bool, true, false, not, ◌&&◌}
use mathlib.Core.List.{List}
use Prim.Native.Nat.{◌/◌, ℕ, ◌+◌, ◌-◌, ◌*◌, ◌%◌, ◌≤◌, ◌<◌}
use native.Mathlib.Nat.{suc-mul}
use native.Mathlib.Omega.{arith}
use borrow.Rule.Slice.PartMut.{put_mid}
use native.Mathlib.Numerals.{add-one}
use Rattle.std.proofs.lemmas.Bool.{not-true, not-false}
use lib.Dec.{eqb}
use lib.Pointwise.{pointwise}
use lib.ListN.{length, get_or, take, drop}
use Rattle.std.specs.Simd.{first_chunks}
use Rattle.value.specs.declared.States.{States}
use Rattle.value.specs.Slice.{part, overlay, same}
use Rattle.value.specs.Level.{fold_all, codes_of, len_of}
use Rattle.wavemem.specs.Packed.{packed_from, Codes, Fills, WholeBytes}
use Rattle.wavemem.proofs.Compare.{pointwise_same}
use Rattle.wavemem.proofs.Parts.{Passed, agree, Stored, Agrees, front_whole, front_length, front_stored, back_is, back_lent, behind_stored, both_compared, both_sizes, both_packed, turn_fits, turn_codes, turn_size, stored_on, agrees_on, agrees_not, put_is, chunk_at, fills_len, fills_full, turn_more, turn_lead, turn_one, turn_place}

-- ---- one turn of a walk

-- the characters of a turn, of as many turns as a string has
pub record Turn (s : States) (v : List ℕ) (room at n m i to : ℕ) (chars : List ℕ) : Type 0 where
  pub fills : Fills s n m
  pub whole : WholeBytes s v room at
  pub passed : Passed s (length v) at n (i * n) to
  pub more : i * n < length v
  pub here : chars ≡ part (i * n) n v

pub turn_here : {s : States} {v : List ℕ} {room at n m i to : ℕ} {xs : List (List ℕ)} {chars : List ℕ} → Fills s n m → WholeBytes s v room at → Passed s (length v) at n (i * n) to
    → xs ≡ first_chunks n (length v / n) v → length xs ≡ length v / n → i < length xs → chars ≡ get_or xs i chars → Turn s v room at n m i to chars
turn_here {v = v} {n = n} {i = i} {chars = chars} f ok p front len test is =
    let index : i < length v / n = rw len at test in
    record {
      fills = f;
      whole = ok;
      passed = p;
      more = turn_more f index;
      here = is ∙ ap (λ (l : List (List ℕ)). get_or l i chars) front ∙ chunk_at n (length v / n) i v chars index;
    }

module _ {s : States} {v : List ℕ} {room at n m i to : ℕ} {chars : List ℕ} (t : Turn s v room at n m i to chars) where
  pub turn_room : to + m ≤ room
  turn_room = omega (arith, turn_fits t.whole t.passed (fills_full t.fills) t.more, fills_len t.fills)

  pub turn_known : Codes s (codes_of (fold_all chars))
  turn_known = rw t.here (turn_codes t.whole t.passed (fills_full t.fills) t.more)

  turn_next : to + m ≡ to + len_of n s
  turn_next = ap (λ (k : ℕ). to + k) (sym (fills_len t.fills))

-- a turn that stores
pub stored_next : {s : States} {v d : List ℕ} {at n m i to : ℕ} {chars out new : List ℕ} → Turn s v (length d) at n m i to chars → Stored s v d at n out (i * n) to
    → new ≡ packed_from s 0 chars → Stored s v d at n (put_mid to (to + m - to) out new) ((i + 1) * n) (to + m)
stored_next {s} {v} {n = n} {m} {i} {to} {out = out} {new} t h e =
    let f = fills_full t.fills in
    let is : new ≡ packed_from s 0 (part (i * n) n v) = e ∙ ap (packed_from s 0) t.here in
    let size : length new ≡ m = ap length is ∙ turn_size t.whole h.passed f t.more ∙ fills_len t.fills in
    rw (add-one, suc-mul) (stored_on t.whole h f t.more (turn_next t) (put_is out new to m size ∙ ap (overlay out to) is))

-- a turn that compares
module _ {s : States} {v bytes : List ℕ} {at n m i to : ℕ} {chars new : List ℕ} (t : Turn s v (length bytes) at n m i to chars) (h : Agrees s v bytes at n (i * n) to)
    {r : Bool} (told : r ≡ not (pointwise eqb (take (to + m - to) (drop to bytes)) new)) (e : new ≡ packed_from s 0 chars) where
  turn_told : r ≡ not (same (part to (len_of n s) bytes) (packed_from s 0 (part (i * n) n v)))
  unfolding part
  turn_told =
      told
      ∙ ap not
      (pointwise_same _ _
      ∙ ap₂ same (ap (λ (k : ℕ). take k (drop to bytes)) (omega (arith, fills_len t.fills))) (e ∙ ap (packed_from s 0) t.here))

  pub agrees_next : r ≡ false → Agrees s v bytes at n ((i + 1) * n) (to + m)
  agrees_next z =
      rw (add-one, suc-mul) (agrees_on t.whole h (fills_full t.fills) t.more (turn_next t) (not-false _ (sym turn_told ∙ z)))

  pub agrees_stop : r ≡ true → false ≡ agree s bytes at v
  agrees_stop z = agrees_not t.whole h (fills_full t.fills) t.more (not-true _ (sym turn_told ∙ z))

-- ---- two calls, of characters in front, fewer than a turn has, by turns to one byte of the same set, and of those behind them

module _ {s z : States} (q : z ≡ s) {n m few : ℕ} (f : Fills s n m) (e : Fills z few 1) {v : List ℕ} {room at : ℕ} (ok : WholeBytes s v room at) where
  abbrev lead : ℕ
  lead = length v % n

  -- the characters behind, as they are lent
  abbrev behind : List ℕ
  behind = take (length v - lead) (drop lead v)

  pub front_lent : WholeBytes z (take lead v) room at × (length (take lead v) % few ≡ 0)
  front_lent = let w : WholeBytes z (take lead v) room at = rw q (front_whole ok (turn_lead f ok refl)) in (w, turn_one e w)

  passed : {to : ℕ} → to ≡ at + len_of lead s → Passed s (length v) at n lead to
  passed = turn_lead f ok

  -- the place behind the characters in front, told by their number
  placed : Passed s (length v) at n lead (at + lead / few)
  placed = passed (ap (λ (k : ℕ). at + k) (turn_place (rw q at e) (passed refl).full))

  pub behind_lent : WholeBytes s behind room (at + lead / few) × (length behind % n ≡ 0)
  behind_lent = back_lent ok placed

  module _ (bytes : List ℕ) (long : length bytes ≡ room) {t : Bool} (told : t ≡ agree z bytes at (take lead v)) where
    first_told : t && agree s bytes (at + lead / few) behind ≡ agree s bytes at v
    first_told = rw (told, q, back_is ok placed) (sym (both_compared ok placed bytes long))

    pub both_agree : t ≡ true → {r : Bool} → r ≡ agree s bytes (at + lead / few) behind → r ≡ agree s bytes at v
    both_agree h e = e ∙ (rw h at first_told)

    pub front_differs : t ≡ false → t ≡ agree s bytes at v
    front_differs h = h ∙ (rw h at first_told)

  -- what is stored of the characters in front
  module _ (d : List ℕ) (long : length d ≡ room) {to : ℕ} {out : List ℕ} (place : to ≡ at + len_of (length (take lead v)) z) (stored : out ≡ overlay d at (packed_from z 0 (take lead v))) where
    so_far : (Passed s (length v) at n lead to) × (out ≡ overlay d at (packed_from s 0 (take lead v)))
    so_far =
        let p = passed refl in
        (passed (rw (q, front_length ok p) at place), rw q at stored)

    pub behind_room : WholeBytes s behind (length out) to × (length behind % n ≡ 0)
    behind_room = rw (front_stored ok so_far.0 d long so_far.1, long) (back_lent ok so_far.0)

    pub both_stored : {r : ℕ} {all : List ℕ} → r ≡ to + len_of (length behind) s → all ≡ overlay out to (packed_from s 0 behind)
        → (r ≡ at + len_of (length v) s) × (all ≡ overlay d at (packed_from s 0 v))
    both_stored p h =
        let b = back_is ok so_far.0 in
        ((rw b at p) ∙ both_sizes ok so_far.0, (rw b at h) ∙ behind_stored ok so_far.0 d (packed_from s 0 (drop lead v)) long so_far.1 ∙ ap (overlay d at) (both_packed ok so_far.0))
