-- An entry of a bit vector decoded step by step: its own set, the bytes of its levels, its codes.
-- Assumes nothing.
use mathlib.Core.Path.{◌≡◌, refl, sym, ap, ◌∙◌}
use mathlib.Core.Bool.{false, cond}
use mathlib.Core.List.{List, [], ◌∷◌, ◌++◌, map-append}
use Prim.Native.Nat.{ℕ, zero, suc, ◌+◌, ◌-◌, ◌*◌, ◌/◌, ◌^◌, ◌≤◌, ◌<◌}
use native.Mathlib.Nat.{mul-le-mul_right, suc-mul}
use native.Mathlib.Numerals.{add-one}
use native.Mathlib.Omega.{arith}
use lib.ListN.{length, take, get_or, set, length-map, length-take}
use lib.Seq.{take-suc}
use lib.Dec.{eqb}
use borrow.Author.Tests.{ne_eqb}
use Rattle.value.specs.declared.States.{States}
use Rattle.value.specs.declared.States.TheVariants.{Two, Four, Nine}
use Rattle.value.specs.Digits.{number, Below}
use Rattle.value.specs.Slice.{overlay}
use Rattle.value.specs.Level.{mark_of, bits_of, set_at, letter_of, has_no_code, text_of}
use Rattle.value.specs.Answer.{level_at, LevelIn}
use Rattle.value.proofs.Digits.{digits_length, digits_at, digits_below}
use Rattle.value.proofs.Levels.{set_mark, len_room, none_foreign}
use Rattle.value.proofs.Slices.{overlay_store}
use Rattle.signal.specs.Decode.{mark_in, codes_at}
use Rattle.signal.specs.Parts.{Levels}

-- the own mark by the mark of the largest set
pub mark_by : (M : States) (v : List ℕ) (m k : ℕ) → m ≡ mark_of M → k ≡ mark_in (set_at m) v → k ≡ mark_in M v
mark_by M v m k d e = e ∙ ap (λ (N : States). mark_in N v) (ap set_at d ∙ set_mark M)

-- by the mark of the largest set
pub mark_at : (m : ℕ) (v : List ℕ) → mark_in (set_at m) v ≡ cond (eqb m 0) 0 (get_or v 0 0 / 64)
unfolding mark_in
mark_at zero v = refl
mark_at (suc zero) v = refl
mark_at (suc (suc m)) v = rw (ne_eqb (suc (suc m)) 0 (λ e. absurd (omega arith)))

module _ {w : ℕ} {S : States} {levels : List ℕ} (h : Levels w S levels) (i : ℕ) (k : i < w) where
  -- the level of character i lies within the bytes
  pub level_in : LevelIn (bits_of S) (w - 1 - i) (length levels)
  level_in =
      let a : suc (w - 1 - i) * bits_of S ≤ w * bits_of S = mul-le-mul_right (bits_of S) (omega arith) in
      let b : suc (w - 1 - i) * bits_of S ≡ (w - 1 - i) * bits_of S + bits_of S = suc-mul (w - 1 - i) (bits_of S) in
      record { few = omega (arith, h.short); room = rw h.long (omega (arith, len_room w S)) }

  pub level_code : level_at (bits_of S) (w - 1 - i) levels ≡ get_or (codes_at w S levels) i 0
  level_code = sym (digits_at (2 ^ bits_of S) w (number 256 levels) i (w - 1 - i) (omega arith))

module _ (w : ℕ) (S : States) (levels : List ℕ) where
  pub codes_length : length (codes_at w S levels) ≡ w
  codes_length = digits_length (2 ^ bits_of S) w (number 256 levels)

  pub codes_below : Below (2 ^ bits_of S) (codes_at w S levels)
  codes_below = digits_below (2 ^ bits_of S) (bits_some S) w (number 256 levels)
    where
      bits_some : (S : States) → 0 < 2 ^ bits_of S
      bits_some Two = omega arith
      bits_some Four = omega arith
      bits_some Nine = omega arith

  -- a code of one bit or two is a letter's
  pub few_bits : bits_of S < 4 → false ≡ has_no_code (codes_at w S levels)
  few_bits h = sym (none_foreign (codes_at w S levels) (go S h (codes_at w S levels) codes_below))
    where
      under : (B : ℕ) → B ≤ 9 → (cs : List ℕ) → Below B cs → Below 9 cs
      under B b [] u = tt
      under B b (c ∷ cs) u = (omega (arith, u.0), under B b cs u.1)

      go : (S : States) → bits_of S < 4 → (cs : List ℕ) → Below (2 ^ bits_of S) cs → Below 9 cs
      go Two h cs u = under 2 (omega arith) cs u
      go Four h cs u = under 4 (omega arith) cs u
      go Nine h cs u = absurd (omega arith)

-- ---- a loop over the codes

module _ (cs : List ℕ) (i : ℕ) (h : i < length cs) where
  pub taken_more : take (i + 1) cs ≡ take i cs ++ (get_or cs i 0 ∷ [])
  taken_more = rw (add-one, take-suc cs i 0)

  -- one more letter stored behind those that stand there
  pub text_more : (out : List ℕ) (at c : ℕ) → c ≡ letter_of (get_or cs i 0) → at + i < length out
      → set (overlay out at (text_of (take i cs))) (at + i) c ≡ overlay out at (text_of (take (i + 1) cs))
  text_more out at c e k =
      overlay_store out at (text_of (take i cs)) (at + i) c (rw (length-map (take i cs) letter_of, length-take i cs) (omega arith)) k
      ∙ ap (overlay out at) (ap (λ (x : ℕ). text_of (take i cs) ++ (x ∷ [])) e ∙ sym (map-append letter_of (take i cs) (get_or cs i 0 ∷ [])) ∙ ap text_of (sym taken_more))
