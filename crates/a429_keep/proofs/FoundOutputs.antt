-- An output that is looked for by the name of its source.
use Rattle.std.proofs.Common.{◌≡◌, ◌∙◌, ◌+◌, ◌-◌, ◌<◌, ◌≤◌, ℕ, true, false, List, ap, arith, drop, get_or, inl, inr, length, refl, sym, take}
use Rattle.std.specs.Prelude.{IfSome, Option, Some, None, position, slice_get}
use Rattle.std.specs.Option.{option_map_or}
use Rattle.std.specs.Str.{bytes_eq}
use Rattle.std.proofs.lemmas.Bool.{cases_lt}
use Rattle.std.proofs.lemmas.List.{get_or-drop, get_or-take, length-drop, length-take}
use Rattle.std.proofs.lemmas.List.Quantifiers.{position-Some}
use Rattle.std.proofs.lemmas.Option.{get_or_from_slice_get, slice_get-get_or, slice_get_within}
use Rattle.a429_word.proofs.Lists.{clash, none_passes, read_is}
use Rattle.a429_equipment.specs.declared.rows.OutputRow.{OutputRow}
use Rattle.a429_equipment.specs.declared.rows.SourceRow.{SourceRow}
use Rattle.a429_slots.proofs.Rows.{blank}
use Rattle.a429_cert.proofs.Again.{same_again}
use Rattle.a429_cert.proofs.CheckedPlans.{same_bytes}
use Rattle.a429_keep.specs.Following.{IsOutputNamed, has_source_name}

-- ---- places in parts of a list

later_is : {X : Type 0} (n : ℕ) (xs : List X) (i : ℕ) (x : X) → slice_get (drop n xs) i ≡ Some x → slice_get xs (n + i) ≡ Some x
later_is n xs i x there =
    let below : i < length (drop n xs) = slice_get_within (drop n xs) i x there in
    read_is xs (n + i) x (omega (arith, below, length-drop n xs)) (sym (sym (get_or-drop n xs i x) ∙ get_or_from_slice_get (drop n xs) i x x there))

earlier_is : {X : Type 0} (n : ℕ) (xs : List X) (i : ℕ) (x : X) → slice_get (take n xs) i ≡ Some x → slice_get xs i ≡ Some x
earlier_is n xs i x there =
    let below : i < length (take n xs) = slice_get_within (take n xs) i x there in
    read_is xs i x (omega (arith, below, length-take n xs)) (sym (sym (get_or-take n xs i x (omega (arith, below, length-take n xs))) ∙ get_or_from_slice_get (take n xs) i x x there))

in_later : {X : Type 0} (n : ℕ) (xs : List X) (i : ℕ) (x : X) → n ≤ i → slice_get xs i ≡ Some x → slice_get (drop n xs) (i - n) ≡ Some x
in_later n xs i x past there =
    let below : i < length xs = slice_get_within xs i x there in
    let at : n + (i - n) ≡ i = omega (arith, past) in
    read_is (drop n xs) (i - n) x (omega (arith, below, past, length-drop n xs)) (sym (get_or-drop n xs (i - n) x ∙ ap (λ (k : ℕ). get_or xs k x) at ∙ get_or_from_slice_get xs i x x there))

in_earlier : {X : Type 0} (n : ℕ) (xs : List X) (i : ℕ) (x : X) → i < n → slice_get xs i ≡ Some x → slice_get (take n xs) i ≡ Some x
in_earlier n xs i x less there =
    let below : i < length xs = slice_get_within xs i x there in
    read_is (take n xs) i x (omega (arith, below, less, length-take n xs)) (sym (get_or-take n xs i x less ∙ get_or_from_slice_get xs i x x there))

-- ---- the test of a row

record HasName (sources : List SourceRow) (name : List ℕ) (row : OutputRow) : Type 0 where
  pub source : SourceRow
  pub its_source : slice_get sources row.source ≡ Some source
  pub named : source.name ≡ name

passed : (sources : List SourceRow) (name : List ℕ) (row : OutputRow) → has_source_name sources name row ≡ true → HasName sources name row
passed sources name row h = by_source (slice_get sources row.source) refl h
  where
    by_source : (m : Option SourceRow) → slice_get sources row.source ≡ m → option_map_or (λ (s : SourceRow). bytes_eq s.name name) m false ≡ true → HasName sources name row
    by_source None is h = absurd (clash h)
    by_source (Some s) is h = record { source = s; its_source = is; named = same_bytes s.name name h }

passes : (sources : List SourceRow) (rows : List OutputRow) (name : List ℕ) (o : ℕ) (N : IsOutputNamed sources rows name o) → has_source_name sources name N.row ≡ true
passes sources rows name o N =
    ap (λ (m : Option SourceRow). option_map_or (λ (s : SourceRow). bytes_eq s.name name) m false) N.its_source ∙ same_again N.source.name name N.named

-- ---- the output that is found

pub found_at : (sources : List SourceRow) (rows : List OutputRow) (name : List ℕ) (o : ℕ) → position (has_source_name sources name) rows ≡ Some o → IsOutputNamed sources rows name o
found_at sources rows name o found =
    let (below, is, before) = position-Some (has_source_name sources name) rows o blank found in
    let H = passed sources name (get_or rows o blank) is in
    record { row = get_or rows o blank; source = H.source; there = slice_get-get_or rows o blank below; its_source = H.its_source; named = H.named }

module _ (sources : List SourceRow) (rows : List OutputRow) (name : List ℕ) (first : ℕ) where
  pub found_later : (o : ℕ) → IsOutputNamed sources (drop first rows) name o → IsOutputNamed sources rows name (first + o)
  found_later o N = record { row = N.row; source = N.source; there = later_is first rows o N.row N.there; its_source = N.its_source; named = N.named }

  pub found_earlier : (o : ℕ) → IsOutputNamed sources (take first rows) name o → IsOutputNamed sources rows name o
  found_earlier o N = record { row = N.row; source = N.source; there = earlier_is first rows o N.row N.there; its_source = N.its_source; named = N.named }

  -- the same of what may be found
  pub maybe_earlier : (r : Option ℕ) → position (has_source_name sources name) (take first rows) ≡ r → IfSome r (IsOutputNamed sources rows name)
  maybe_earlier None is = tt
  maybe_earlier (Some o) is = found_earlier o (found_at sources (take first rows) name o is)

  pub none_found : position (has_source_name sources name) (drop first rows) ≡ None → position (has_source_name sources name) (take first rows) ≡ None
      → (o : ℕ) → IsOutputNamed sources rows name o → ⊥
  none_found after before o N =
      elim (cases_lt o first) [
        | inl less ↦ failed (none_passes (has_source_name sources name) (take first rows) before o N.row (in_earlier first rows o N.row less N.there))
        | inr past ↦ failed (none_passes (has_source_name sources name) (drop first rows) after (o - first) N.row (in_later first rows o N.row past N.there))
      ]
    where
      failed : has_source_name sources name N.row ≡ false → ⊥
      failed fails = clash (sym fails ∙ passes sources rows name o N)
