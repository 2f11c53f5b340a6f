-- The words of one source, and the load of what was accepted.
use Rattle.std.proofs.Common.{◌≡◌, ◌≢◌, ℕ, ◌+◌, ◌-◌, ◌<◌, ◌≤◌, eqb, List, [], ◌∷◌, ◌++◌, length, map, Some, Option, Bool, true, false, cond, refl, sym, ap, ◌∙◌, subst, arith, eq-eqb, ne_eqb, inl, inr}
use Rattle.std.specs.Prelude.{filter, slice_get, ◌&&◌}
use Rattle.std.specs.List.{AllByRecursion}
use Rattle.std.specs.Option.{option_map_or}
use Rattle.std.proofs.lemmas.List.{length_push}
use Rattle.std.proofs.lemmas.Bool.{eqb-true, and_parts}
use Rattle.std.proofs.lemmas.Option.{same_Some, slice_get_cases, slice_get_within}
use Rattle.a429_word.proofs.Lists.{all_at}
use Rattle.a429_word.specs.Bits.{has_odd_parity, label_of, number_from}
use Rattle.a429_equipment.specs.declared.rows.SourceRow.{SourceRow}
use Rattle.a429_equipment.specs.TableRecord.{TableRecord}
use Rattle.a429_equipment.specs.Arrivals.{passes_at, is_for, accepts}
use Rattle.a429_equipment.specs.Agreement.{words_of, last_of, load_after, is_of}
use Rattle.a429_equipment.specs.Receiving.{IsAccepted, AreAccepted}
use Rattle.a429_values.specs.Words.{HasLabel, IsCounted}
use Rattle.a429_equipment.proofs.Cutting.{last_push}
use Rattle.a429_equipment.proofs.Receiving.{words_same, words_other}

-- the load after one more word of the source, and of another
pub load_same : (s w : ℕ) (A : List (ℕ × ℕ)) → load_after s (A ++ (s, w) ∷ []) ≡ record { source = s; count = length (words_of s A) + 1; word = Some w }
load_same s w A =
    ap (λ (ws : List ℕ). record { source = s; count = length ws; word = last_of ws }) (words_same s w A)
    ∙ (λ i. record { source = s; count = length_push (words_of s A) w i; word = last_push (words_of s A) w i })

pub load_other : (s x w : ℕ) (A : List (ℕ × ℕ)) → x ≢ s → load_after s (A ++ (x, w) ∷ []) ≡ load_after s A
load_other s x w A ne = ap (λ (ws : List ℕ). record { source = s; count = length ws; word = last_of ws }) (words_other s x w A ne)

-- ---- accepted words

-- what an accepted word says of its source's row
pub record OfRow (row : SourceRow) (r raw : ℕ) : Type 0 where
  pub receiver : row.receiver ≡ r
  pub label : HasLabel row.label raw

pub of_row : (t : TableRecord) (r s raw : ℕ) (row : SourceRow) → IsAccepted t r (s, raw) → slice_get t.sources s ≡ Some row → OfRow row r raw
of_row t r s raw row h there =
    let same : h.row ≡ row = same_Some h.row row (sym h.there ∙ there) in
    let mine : accepts t row (r, raw) ≡ true = subst (λ (x : SourceRow). accepts t x (r, raw) ≡ true) same h.accepts in
    let parts = and_parts (has_odd_parity raw) (passes_at t r raw && is_for r raw row) mine in
    let rest = and_parts (passes_at t r raw) (is_for r raw row) parts.1 in
    let own = and_parts (eqb row.receiver r) (eqb row.label (label_of raw) && option_map_or (λ k. eqb k (number_from 9 2 raw)) row.sdi true) rest.1 in
    let label = and_parts (eqb row.label (label_of raw)) (option_map_or (λ k. eqb k (number_from 9 2 raw)) row.sdi true) own.1 in
    record { receiver = eqb-true row.receiver r own.0; label = (h.range, parts.0, sym (eqb-true row.label (label_of raw) label.0)) }

labelled : (t : TableRecord) (r s : ℕ) (row : SourceRow) → slice_get t.sources s ≡ Some row → (A : List (ℕ × ℕ)) → AreAccepted t r A → AllByRecursion (HasLabel row.label) (words_of s A)
labelled t r s row there [] h = tt
labelled t r s row there (e ∷ A) h = go (eqb e.0 s) refl (labelled t r s row there A h.1)
  where
    go : (b : Bool) → eqb e.0 s ≡ b → AllByRecursion (HasLabel row.label) (words_of s A) → AllByRecursion (HasLabel row.label) (map (λ (x : ℕ × ℕ). x.1) (cond b (e ∷ filter (λ (x : ℕ × ℕ). eqb x.0 s) A) (filter (λ (x : ℕ × ℕ). eqb x.0 s) A)))
    go true is rest = ((of_row t r e.0 e.1 row h.0 (ap (slice_get t.sources) (eqb-true e.0 s is) ∙ there)).label, rest)
    go false is rest = rest

counted : (label : ℕ) (ws : List ℕ) → AllByRecursion (HasLabel label) ws → IsCounted label (length ws) (last_of ws)
counted label [] all = refl
counted label (w ∷ ws) all = elim (slice_get_cases (w ∷ ws) (length (w ∷ ws) - 1)).1 [
  | inl hit ↦ subst (λ (o : Option ℕ). IsCounted label (length (w ∷ ws)) o) (sym hit.2) (omega arith, all_at (HasLabel label) (w ∷ ws) (length (w ∷ ws) - 1) hit.0 all hit.2)
  | inr miss ↦ absurd (let past : length (w ∷ ws) ≤ length (w ∷ ws) - 1 = miss.0 in omega (arith, past))
]

pub load_counted : (t : TableRecord) (r s : ℕ) (row : SourceRow) (A : List (ℕ × ℕ)) → slice_get t.sources s ≡ Some row → AreAccepted t r A → IsCounted row.label (load_after s A).count (load_after s A).word
load_counted t r s row A there all = counted row.label (words_of s A) (labelled t r s row there A all)

-- the source is one of this receiver's
pub is_of_row : (t : TableRecord) (r s : ℕ) (row : SourceRow) → slice_get t.sources s ≡ Some row → is_of t r s ≡ true → row.receiver ≡ r
is_of_row t r s row there is = eqb-true row.receiver r (sym (ap (λ (o : Option SourceRow). option_map_or (λ x. eqb x.receiver r) o false) there) ∙ is)

pub is_of_yes : (t : TableRecord) (r s : ℕ) (row : SourceRow) → slice_get t.sources s ≡ Some row → row.receiver ≡ r → is_of t r s ≡ true
is_of_yes t r s row there is = ap (λ (o : Option SourceRow). option_map_or (λ x. eqb x.receiver r) o false) there ∙ eq-eqb row.receiver r is

pub is_of_not : (t : TableRecord) (r s : ℕ) (row : SourceRow) → slice_get t.sources s ≡ Some row → row.receiver ≢ r → is_of t r s ≡ false
is_of_not t r s row there ne = ap (λ (o : Option SourceRow). option_map_or (λ x. eqb x.receiver r) o false) there ∙ ne_eqb row.receiver r ne

pub row_at : (t : TableRecord) (s : ℕ) → s < length t.sources → (row : SourceRow) × (slice_get t.sources s ≡ Some row)
row_at t s inside = elim (slice_get_cases t.sources s).1 [
  | inl hit ↦ (hit.0, hit.2)
  | inr miss ↦ absurd (let past : length t.sources ≤ s = miss.0 in omega (arith, past, inside))
]

pub is_of_inside : (t : TableRecord) (r s : ℕ) → is_of t r s ≡ true → s < length t.sources
is_of_inside t r s is = elim (slice_get_cases t.sources s).1 [
  | inl hit ↦ slice_get_within t.sources s hit.0 hit.2
  | inr miss ↦ absurd (let clash : false ≡ true = sym (ap (λ (o : Option SourceRow). option_map_or (λ x. eqb x.receiver r) o false) miss.1) ∙ is in cc)
]
