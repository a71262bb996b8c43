-- Where the part that Read gives lies: within its entry, at the entry's end.
-- Assumes nothing.
use mathlib.Core.Path.{◌≡◌, refl, sym, ap, ◌∙◌, subst}
use mathlib.Core.List.{List, [], ◌∷◌}
use Prim.Native.Nat.{ℕ, ◌+◌, ◌-◌, ◌*◌, ◌≤◌}
use native.Mathlib.Omega.{arith}
use borrow.Author.Tests.{leb-false}
use lib.Dec.{leb}
use lib.ListN.{length, drop, length-drop}
use Rattle.value.specs.Slice.{part}
use Rattle.value.specs.Level.{len_of}
use Rattle.value.proofs.Backward.{drop_part}
use Rattle.layout.specs.Entry.{entry_size}
use Rattle.fst.specs.declared.Encoding.{Encoding}
use Rattle.fst.specs.declared.Encoding.TheVariants.{Event, Real, BitVector}
use Rattle.fst.specs.declared.Description.{Description}
use Rattle.fst.specs.Refusal.{Test, given, ◌⇐◌}
use Rattle.fst.specs.Record.{size_of, is_bad_bytes}
use Rattle.fst.proofs.Refusals.{Result, through, stopped, result}
use Rattle.signal.specs.Decode.{entry_at, set_in, level_part, has_bad_mark}
use Rattle.signal.specs.Parts.{Inside}
use Rattle.signal.specs.Read.{Entry, entry_in, read_entry}
use Rattle.signal.proofs.Reading.{HasEntry, inside, whole}
use Rattle.yoksimert.specs.Flat.{flat_entry}

-- ---- the levels of an entry

level_short : (e : Encoding) (v : List ℕ) → length (level_part e v) ≤ length v
unfolding level_part
level_short Event v = omega arith
level_short Real v = omega arith
level_short (BitVector w M) v = rw length-drop (omega arith)

level_end : (e : Encoding) (v : List ℕ) → length v ≡ size_of e → level_part e v ≡ drop (size_of e - length (level_part e v)) v
unfolding level_part
level_end Event v h = let z : 0 ≡ 0 - length v = omega arith in ap (λ (n : ℕ). drop n v) z
level_end Real v h = let z : 0 ≡ 8 - length v = omega arith in ap (λ (n : ℕ). drop n v) z
level_end (BitVector w M) v h =
    let j = entry_size w M - len_of w (set_in (BitVector w M) v) in
    let z : j ≡ entry_size w M - length (drop j v) = rw length-drop (omega (arith, h)) in
    ap (λ (n : ℕ). drop n v) z

-- ---- an accepted Read

module _ (d : Description) (bytes : List ℕ) (start k : ℕ) where
  pub record Placed (e : Entry) : Type 0 where
    pub inside : Inside d.encoding start bytes k
    pub long : length (entry_at d.encoding start bytes k) ≡ size_of d.encoding
    pub part : e.part ≡ level_part d.encoding (entry_at d.encoding start bytes k)
    pub short : length e.part ≤ size_of d.encoding

  pub placed : (e : Entry) → read_entry d bytes start k ≡ given e → Placed e
  unfolding read_entry
  placed e q = go (result (given (entry_in d.encoding v)) tests tt)
    where
      v : List ℕ
      v = entry_at d.encoding start bytes k

      tests : List Test
      tests = 2 ⇐ is_bad_bytes d start bytes ∷ 8 ⇐ leb d.count k ∷ 9 ⇐ has_bad_mark d.encoding v ∷ []

      go : Result (given (entry_in d.encoding v)) tests → Placed e
      go (stopped n s) = let z : ◌≡◌ {A = ℕ} 0 1 = cc in absurd (omega arith)
      go (through p s) =
          let is : entry_in d.encoding v ≡ e = cc in
          let h : HasEntry d bytes start k = record { sound = p.0; below = leb-false d.count k p.1.0 } in
          let l = (whole h).long in
          subst Placed is
          (record {
            inside = inside h;
            long = l;
            part = refl;
            short = rw (← l) (level_short d.encoding v);
          })

  -- what the numbers of an accepted Read point at is the part
  pub there : (e : Entry) → read_entry d bytes start k ≡ given e
      → (let z = size_of d.encoding in
      let r = flat_entry (start + (k * z + z)) (given e) in
      part r.start r.length bytes ≡ e.part)
  unfolding entry_at
  there e q =
      let t = placed e q in
      let z = size_of d.encoding in
      let m = length e.part in
      let j = z - m in
      let s : m ≤ z = t.short in
      let is : e.part ≡ drop j (entry_at d.encoding start bytes k) = rw t.part (level_end d.encoding (entry_at d.encoding start bytes k) t.long) in
      let from : start + (k * z + z) - m ≡ start + k * z + j = omega arith in
      let size : j + m ≡ z = omega arith in
      ap (λ (n : ℕ). part n m bytes) from
      ∙ sym (drop_part bytes (start + k * z) j m (omega (arith, t.inside)))
      ∙ ap (λ (n : ℕ). drop j (part (start + k * z) n bytes)) size
      ∙ sym is
