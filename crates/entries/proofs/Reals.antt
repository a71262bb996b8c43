-- A real's bytes, the lowest first.
-- Assumes nothing.
use mathlib.Core.Path.{◌≡◌, sym, ap, ◌∙◌}
use mathlib.Core.List.{List, reverse}
use Prim.Native.Nat.{ℕ, ◌^◌, ◌<◌}
use native.Mathlib.Nat.{div-one}
use lib.Dec.{eqb}
use lib.ListN.{length, get_or}
use borrow.Author.Tests.{eq-eqb, ne_eqb}
use Rattle.std.specs.Int.{w64, to_le_bytes, from_le_bytes}
use Rattle.std.proofs.lemmas.Nat.{le_bytes_8, from_le_bytes-to_le_bytes_8}
use Rattle.value.specs.Digits.{digits}
use Rattle.value.specs.Slice.{same}
use Rattle.value.proofs.Tests.{by_eq}
use Rattle.wavemem.proofs.Compare.{same_is, same_not}

-- the library's word for them
pub low_bytes : (n : ℕ) → to_le_bytes w64 n ≡ reverse (digits 256 8 n)
unfolding digits
low_bytes n = rw (div-one n)

-- eight bytes are a number's where the number that they write is it
pub same_real : (bs : List ℕ) (x n : ℕ) → length bs ≡ 8 → ((i : ℕ) → get_or bs i 0 < 256) → n < 2 ^ 64 → x ≡ from_le_bytes w64 bs
    → eqb x n ≡ same bs (reverse (digits 256 8 n))
same_real bs x n l b s e =
    let f : to_le_bytes w64 x ≡ bs = le_bytes_8 bs x l b e in
    by_eq x n
    (λ q. eq-eqb x n q ∙ sym (same_is bs _ (sym f ∙ ap (to_le_bytes w64) q ∙ low_bytes n)))
    (λ q. ne_eqb x n q ∙ sym (same_not bs _ (λ g. q (e ∙ ap (from_le_bytes w64) (g ∙ sym (low_bytes n)) ∙ from_le_bytes-to_le_bytes_8 n s))))
