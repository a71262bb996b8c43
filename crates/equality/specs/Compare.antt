-- Document 01, "Compare".
-- Assumes nothing.
use Rattle.std.specs.Prelude.{ℕ, Bool, true, false, cond, ◌&&◌, List, [], ◌∷◌, reverse, eqb}
use Rattle.std.specs.Float.Ieee.{eq, of_bits}
use Rattle.std.specs.Float.{binary64}
use Rattle.value.specs.Digits.{number}
use Rattle.value.specs.Slice.{same}
use Rattle.fst.specs.declared.Encoding.{Encoding}
use Rattle.fst.specs.declared.Encoding.TheVariants.{Event, Real, BitVector}
use Rattle.fst.specs.declared.Description.{Description}
use Rattle.fst.specs.Refusal.{Reply, given, Test, ◌⇐◌, tried}
use Rattle.fst.specs.Record.{Lent, kept_in, is_bad}
use Rattle.signal.specs.Decode.{Indexed, entries_in, has_bad_mark, has_bad_code, text_in}

-- "reals by float ==", from the bits
unfoldable pub same_real : List ℕ → List ℕ → Bool
same_real v u = eq (of_bits binary64 (number 256 (reverse v))) (of_bits binary64 (number 256 (reverse u)))

-- "bit vectors by text, reals by float =="; entries of unlike kind never agree
unfoldable pub same_value : Encoding → List ℕ → Encoding → List ℕ → Bool
same_value Event v Event u = true
same_value Event v Real u = false
same_value Event v (BitVector w M) u = false
same_value Real v Event u = false
same_value Real v Real u = same_real v u
same_value Real v (BitVector w M) u = false
same_value (BitVector w M) v Event u = false
same_value (BitVector w M) v Real u = false
same_value (BitVector w M) v (BitVector x N) u = same (text_in (BitVector w M) v) (text_in (BitVector x N) u)

abbrev pub agree : Indexed → Indexed → Bool
agree a b = eqb a.index b.index && same_value a.encoding a.bytes b.encoding b.bytes

-- "in a pair the first record's entry is tried for 9 and 10, then the second's"
abbrev pub pair_tests : Encoding → List ℕ → Encoding → List ℕ → List Test
pair_tests e v f u = 9 ⇐ has_bad_mark e v ∷ 10 ⇐ has_bad_code e v ∷ 9 ⇐ has_bad_mark f u ∷ 10 ⇐ has_bad_code f u ∷ []

-- "Entries are walked in pairs to the first difference or an end; .. and only then are they compared. Yes exactly when both lists of index
-- and value agree"
unfoldable pub walked : List Indexed → List Indexed → Reply Bool
walked [] [] = given true
walked [] (b ∷ m) = given false
walked (a ∷ l) [] = given false
walked (a ∷ l) (b ∷ m) =
    tried (pair_tests a.encoding a.bytes b.encoding b.bytes) (cond (agree a b) (walked l m) (given false))

-- "2 for the first, then the second"
unfoldable pub compare_records : Description → Lent → Description → Lent → Reply Bool
compare_records d l e m = tried (2 ⇐ is_bad d l ∷ 2 ⇐ is_bad e m ∷ []) (walked (entries_in (kept_in d l)) (entries_in (kept_in e m)))
