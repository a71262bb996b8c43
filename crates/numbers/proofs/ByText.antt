-- What counts is the characters: the reply by the text alone. And the signed number by the unsigned one.
-- Assumes nothing.
use mathlib.Core.Path.{◌≡◌, sym, ap, ◌∙◌}
use mathlib.Core.List.{List, [], ◌∷◌}
use Prim.Native.Nat.{ℕ}
use lib.ListN.{length}
use Rattle.value.proofs.Levels.{all_below_lem, text_inj}
use Rattle.fst.specs.declared.Description.{Description}
use Rattle.fst.specs.Refusal.{Reply, given, ◌⇐◌, tried}
use Rattle.fst.specs.Record.{width_of}
use Rattle.fst.proofs.Refusals.{Passed, passes, tried_append}
use Rattle.signal.specs.Decode.{entry_at, levels_in, text_in}
use Rattle.signal.specs.Read.{unreadable}
use Rattle.numbers.specs.Number.{Form, unsigned, signed, Value, value_of, is_wrong_width, has_other, has_high_digit, read_number}
use Rattle.numbers.specs.Parts.{signed_from}
use Rattle.numbers.proofs.Replies.{levels_long, signed_from_lem}

-- an entry of a record, as it is asked for
pub record Asked : Type 0 where
  pub description : Description
  pub bytes : List ℕ
  pub start : ℕ
  pub entry : ℕ

abbrev levels_of : Asked → List ℕ
levels_of a = levels_in a.description.encoding (entry_at a.description.encoding a.start a.bytes a.entry)

abbrev pub text_of : Asked → List ℕ
text_of a = text_in a.description.encoding (entry_at a.description.encoding a.start a.bytes a.entry)

abbrev pub number_of : (f : Form) → Asked → Reply (Value f)
number_of f a = read_number f a.description a.bytes a.start a.entry

-- none of the refusals of reading text, 7 aside
pub Sound : Asked → Type 0
Sound a = Passed (unreadable a.description a.bytes a.start a.entry)

-- ---- by the text alone

-- the reply by the levels
abbrev by_levels : (f : Form) → List ℕ → Reply (Value f)
by_levels f levels = tried (16 ⇐ is_wrong_width f (length levels) ∷ 17 ⇐ has_other levels ∷ 18 ⇐ has_high_digit f levels ∷ []) (given (value_of f levels))

by_levels_lem : (f : Form) (a : Asked) → Sound a → number_of f a ≡ by_levels f (levels_of a)
unfolding read_number Sound
by_levels_lem f a p =
    let e = a.description.encoding in
    let v = entry_at e a.start a.bytes a.entry in
    tried_append (unreadable a.description a.bytes a.start a.entry) _ _
    ∙ passes _ (unreadable a.description a.bytes a.start a.entry) p
    ∙ ap (λ (w : ℕ). tried (16 ⇐ is_wrong_width f w ∷ 17 ⇐ has_other (levels_of a) ∷ 18 ⇐ has_high_digit f (levels_of a) ∷ []) (given (value_of f (levels_of a)))) (sym (levels_long e v))

-- "What counts is the characters"
pub by_text : (f : Form) (a b : Asked) → Sound a → Sound b → text_of a ≡ text_of b → number_of f a ≡ number_of f b
unfolding Sound
by_text f a b p q e =
    let same : levels_of a ≡ levels_of b = text_inj (levels_of a) (levels_of b) (all_below_lem (levels_of a) p.1.1.1.1.0) (all_below_lem (levels_of b) q.1.1.1.1.0) e in
    by_levels_lem f a p ∙ ap (by_levels f) same ∙ sym (by_levels_lem f b q)

-- ---- the signed number by the unsigned one

-- both are refused alike, and where they are not, the signed number is the unsigned one or that less 2 ^ w
pub signed_by_unsigned : (a : Asked) → number_of signed a ≡ signed_from (width_of a.description.encoding) (number_of unsigned a)
signed_by_unsigned a = signed_from_lem a.description a.bytes a.start a.entry
