-- Bytes of a word that are 0, and tests of characters by them.
-- Assumes nothing.
use mathlib.Core.Path.{◌≡◌, refl, sym, ap, ap₂, ◌∙◌}
use mathlib.Core.Bool.{Bool, true, false, cond, not, ◌&&◌, ◌||◌}
use mathlib.Core.List.{List, [], ◌∷◌, map, map-map}
use Prim.Native.Nat.{ℕ, ◌+◌, ◌*◌, ◌%◌, ◌^◌, ◌<◌}
use native.Mathlib.Nat.{zero-lt-suc, one-le-pow, le-mul_of_pos_right}
use native.Mathlib.Omega.{arith}
use borrow.Author.Tests.{eqb-true, eq-eqb, ne_eqb}
use lib.Dec.{T, eqb, leb}
use lib.Bits.{bit_and, bit_or, bit_xor, mask_lt}
use lib.ListN.{length}
use Rattle.value.specs.declared.States.{States}
use Rattle.value.specs.Slice.{any}
use Rattle.value.specs.Digits.{number, digits, Below}
use Rattle.value.specs.Level.{fold, fold_all, code_of, codes_of, codes_in, place_in}
use Rattle.value.specs.Answer.{holds_one, holds_all}
use Rattle.value.proofs.Tests.{all_below, implies, both, by_eq}
use Rattle.value.proofs.Classes.{each_byte, same_tests, not_or, within}
use Rattle.value.proofs.Digits.{digits_below}
use Rattle.wavemem.specs.Short.{zeros, marks}
use Rattle.wavemem.proofs.Lanes.{Lows, itself, by_and, by_or, by_xor, constant, kept, added, lanes, in_lanes, of_lanes, number_back}

map_below : {A : Type 0} (B : ℕ) (f g : ℕ → A) → ((x : ℕ) → x < B → f x ≡ g x) → (v : List ℕ) → Below B v → map f v ≡ map g v
map_below B f g h [] b = refl
map_below {A} B f g h (x ∷ v) b = ap₂ (λ (y : A) (ys : List A). y ∷ ys) (h x b.0) (map_below B f g h v b.1)

-- a byte that tells a test
abbrev mark : Bool → ℕ
mark t = cond t 0 128

mark_lt : (t : Bool) → mark t < 256
mark_lt true = omega arith
mark_lt false = omega arith

mark_zero : (t : Bool) → eqb (mark t % 256) 0 ≡ t
mark_zero true = refl
mark_zero false = refl

mark_and : (s t : Bool) → bit_and (mark s) (mark t) % 256 ≡ mark (s || t)
mark_and true t = refl
mark_and false true = refl
mark_and false false = refl

module _ (w : ℕ) where
  bytes_below : Below 256 (digits 256 8 w)
  bytes_below = digits_below 256 (zero-lt-suc 255) 8 w

  -- two functions of a byte, computed at each
  pub by_tests : (f g : ℕ → Bool) → T (all_below (λ (n : ℕ). implies true (both (f n) (g n))) 256) → map f (digits 256 8 w) ≡ map g (digits 256 8 w)
  by_tests f g t = map_below 256 f g (same_tests f g t) (digits 256 8 w) bytes_below

  pub zeros_are : {a : ℕ} {F : ℕ → ℕ} → Lows 8 8 w 8 F a → zeros a ≡ map (λ (x : ℕ). eqb (F x % 256) 0) (digits 256 8 w)
  unfolding zeros
  zeros_are {F = F} p = ap (map (λ (b : ℕ). eqb b 0)) (lanes p) ∙ map-map (λ (b : ℕ). eqb b 0) (λ (x : ℕ). F x % 256) (digits 256 8 w)

  marks_lanes : (f : ℕ → Bool) → Lows 8 8 w 8 (λ (x : ℕ). mark (f x)) (marks (map f (digits 256 8 w)))
  unfolding marks
  marks_lanes f = rw map-map (of_lanes (λ (x : ℕ). mark (f x)) (λ x h. mark_lt (f x)))

  pub zeros_marks : {r : ℕ} (f : ℕ → Bool) → r ≡ marks (map f (digits 256 8 w)) → zeros r ≡ map f (digits 256 8 w)
  zeros_marks f e =
      ap zeros e
      ∙ zeros_are (marks_lanes f)
      ∙ map_below 256 (λ (x : ℕ). eqb (mark (f x) % 256) 0) f (λ x h. mark_zero (f x)) (digits 256 8 w) bytes_below

  marks_are : {a : ℕ} {F : ℕ → ℕ} (f : ℕ → Bool) → ((x : ℕ) → x < 256 → F x % 256 ≡ mark (f x)) → Lows 8 8 w 8 F a → a ≡ marks (map f (digits 256 8 w))
  unfolding marks
  marks_are {F = F} f h p = in_lanes p ∙ ap (number 256) (map_below 256 (λ (x : ℕ). F x % 256) (λ (x : ℕ). mark (f x)) h (digits 256 8 w) bytes_below ∙ sym (map-map mark f (digits 256 8 w)))

  -- the bytes that are not 0, by a formula computed at each byte
  pub set_bytes : {a : ℕ} {F : ℕ → ℕ} → Lows 8 8 w 8 F a → T (all_below (λ (n : ℕ). implies true (eqb (F n % 256) (mark (eqb n 0)))) 256) → a ≡ marks (zeros w)
  unfolding zeros
  set_bytes {F = F} p t =
      marks_are (λ (x : ℕ). eqb x 0)
      (λ x h. eqb-true (F x % 256) (mark (eqb x 0)) (each_byte (λ (n : ℕ). true) (λ (n : ℕ). eqb (F n % 256) (mark (eqb n 0))) t x h refl)) p

  pub marks_and : {a b : ℕ} (f g : ℕ → Bool) → a ≡ marks (map f (digits 256 8 w)) → b ≡ marks (map g (digits 256 8 w))
      → bit_and a b ≡ marks (map (λ (x : ℕ). f x || g x) (digits 256 8 w))
  marks_and f g d e = ap₂ bit_and d e ∙ marks_are (λ (x : ℕ). f x || g x) (λ x h. mark_and (f x) (g x)) (by_and (marks_lanes f) (marks_lanes g))

-- ---- the formulas

-- no sum leaves its byte
no_carry : (x : ℕ) → x < 256 → bit_and x 127 % 256 + 127 % 256 < 256
no_carry x h = omega (arith, mask_lt x 7)

pub set_told : (x : ℕ) → x < 2 ^ 64 → bit_and (bit_or (bit_and x 0x7f7f7f7f7f7f7f7f + 0x7f7f7f7f7f7f7f7f) x) 0x8080808080808080 ≡ marks (zeros x)
unfolding number
set_told x h =
    set_bytes x (kept 128 (omega arith) (omega arith) (by_or (added (kept 127 (omega arith) (omega arith) (itself h)) (constant 127 (omega arith)) no_carry) (itself h))) tt

pub two_told : (w : ℕ) → w < 2 ^ 64 → zeros (bit_and (bit_xor w 0x3030303030303030) 0xfefefefefefefefe) ≡ map (holds_one 2) (digits 256 8 w)
unfolding number holds_one code_of place_in fold
two_told w h = zeros_are w (by_and (by_xor (itself h) (constant 48 (omega arith))) (constant 254 (omega arith))) ∙ by_tests w _ (holds_one 2) tt

pub four_told : (w : ℕ) {two xz : ℕ} → w < 2 ^ 64 → two ≡ marks (map (holds_one 2) (digits 256 8 w))
    → xz ≡ marks (zeros (bit_xor (bit_and (bit_or w 0x2020202020202020) 0xfdfdfdfdfdfdfdfd) 0x7878787878787878)) → bit_and two xz ≡ marks (map (holds_one 4) (digits 256 8 w))
unfolding number holds_one code_of place_in fold
four_told w h two xz =
    let is = zeros_are w (by_xor (by_and (by_or (itself h) (constant 32 (omega arith))) (constant 253 (omega arith))) (constant 120 (omega arith))) in
    marks_and w (holds_one 2) _ two (xz ∙ ap marks is) ∙ ap marks (by_tests w _ (holds_one 4) tt)

abbrev small : ℕ → ℕ
small w = bit_or w 0x2020202020202020

pub nine_told : (w : ℕ) {four uw hl dash : ℕ} → w < 2 ^ 64 → four ≡ marks (map (holds_one 4) (digits 256 8 w))
    → uw ≡ marks (zeros (bit_xor (bit_and (small w) 0xfdfdfdfdfdfdfdfd) 0x7575757575757575)) → hl ≡ marks (zeros (bit_xor (bit_and (small w) 0xfbfbfbfbfbfbfbfb) 0x6868686868686868))
    → dash ≡ marks (zeros (bit_xor w 0x2d2d2d2d2d2d2d2d)) → bit_and four (bit_and (bit_and uw hl) dash) ≡ marks (map (holds_one 9) (digits 256 8 w))
unfolding number holds_one code_of place_in fold
nine_told w h four uw hl dash =
    let s = by_or {L = 8} {n = 8} {w = w} (itself h) (constant 32 (omega arith)) in
    let is_uw = zeros_are w (by_xor (by_and s (constant 253 (omega arith))) (constant 117 (omega arith))) in
    let is_hl = zeros_are w (by_xor (by_and s (constant 251 (omega arith))) (constant 104 (omega arith))) in
    let is_dash = zeros_are w (by_xor (itself h) (constant 45 (omega arith))) in
    marks_and w (holds_one 4) _ four (marks_and w _ _ (marks_and w _ _ (uw ∙ ap marks is_uw) (hl ∙ ap marks is_hl)) (dash ∙ ap marks is_dash))
    ∙ ap marks (by_tests w _ (holds_one 9) tt)

-- ---- all bytes

unfoldable every : List Bool → Bool
every [] = true
every (t ∷ ts) = t && every ts

number_zero : (ds : List ℕ) → eqb (number 256 ds) 0 ≡ every (map (λ (b : ℕ). eqb b 0) ds)
unfolding number every
number_zero [] = refl
number_zero (d ∷ ds) =
    let n = number 256 ds in
    by_eq d 0 (λ e. let z : d * 256 ^ length ds + n ≡ n = rw e (omega arith) in rw (z, eq-eqb d 0 e) (number_zero ds))
    (λ e. rw (ne_eqb d 0 e, ne_eqb (d * 256 ^ length ds + n) 0 (λ z. e (omega (arith, le-mul_of_pos_right d (one-le-pow (length ds) 256 (omega arith)))))))

holds_every : (s : States) (v : List ℕ) → holds_all s v ≡ every (map (holds_one (codes_in s)) v)
unfolding holds_all holds_one any every
holds_every s [] = refl
holds_every s (c ∷ v) =
    not_or (leb (codes_in s) (code_of (fold c))) (any (leb (codes_in s)) (codes_of (fold_all v)))
    ∙ ap (λ (t : Bool). not (leb (codes_in s) (code_of (fold c))) && t) (holds_every s v)

-- a word r that has 0 for just the characters of a set
module _ (s : States) (w r : ℕ) (h : r < 2 ^ 64) (e : zeros r ≡ map (holds_one (codes_in s)) (digits 256 8 w)) where
  none_beside : eqb r 0 ≡ holds_all s (digits 256 8 w)
  unfolding zeros
  none_beside =
      ap (λ (n : ℕ). eqb n 0) (number_back 256 8 r (zero-lt-suc 255) h)
      ∙ number_zero (digits 256 8 r)
      ∙ ap every e
      ∙ sym (holds_every s (digits 256 8 w))

  pub all_held : r ≡ 0 → true ≡ holds_all s (digits 256 8 w)
  all_held z = sym (eq-eqb r 0 z) ∙ none_beside

  pub not_held : (r ≡ 0 → ⊥) → false ≡ holds_all s (digits 256 8 w)
  not_held z = sym (ne_eqb r 0 z) ∙ none_beside

  pub held_codes : r ≡ 0 → Below (codes_in s) (codes_of (fold_all (digits 256 8 w)))
  held_codes z = within (digits 256 8 w) s (all_held z)

-- the same of one that has marks
module _ (s : States) (w r : ℕ) (h : r < 2 ^ 64) (e : r ≡ marks (map (holds_one (codes_in s)) (digits 256 8 w))) where
  pub all_marked : r ≡ 0 → true ≡ holds_all s (digits 256 8 w)
  all_marked = all_held s w r h (zeros_marks w (holds_one (codes_in s)) e)

  pub not_marked : (r ≡ 0 → ⊥) → false ≡ holds_all s (digits 256 8 w)
  not_marked = not_held s w r h (zeros_marks w (holds_one (codes_in s)) e)

  pub marked_codes : r ≡ 0 → Below (codes_in s) (codes_of (fold_all (digits 256 8 w)))
  marked_codes = held_codes s w r h (zeros_marks w (holds_one (codes_in s)) e)
