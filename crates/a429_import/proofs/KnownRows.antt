-- The outputs of groups, with one more row.
use Rattle.std.proofs.Common.{◌≡◌, ◌∙◌, ℕ, zero, suc, ◌+◌, ◌<◌, length, take, Bool, true, false, cond, List, [], ◌∷◌, ◌++◌, map, get_or, set, Option, None, Some, ap, ap₂, arith, inl, inr, refl, sym}
use Rattle.std.specs.Prelude.{min, nat_lt, slice_get}
use Rattle.std.specs.List.{count_by, position_from}
use Rattle.std.specs.Option.{option_map}
use Rattle.std.specs.Str.{bytes_eq}
use Rattle.std.proofs.lemmas.Bool.{cases_lt, le-leb, lt-ltb}
use Rattle.std.proofs.lemmas.List.{length-map, map-append}
use Rattle.std.proofs.lemmas.List.Sums.{sum_by-cons, sum_by_push}
use Rattle.std.proofs.lemmas.Option.{none-some, same_Some, slice_get-map, slice_get_within}
use Rattle.std.proofs.lemmas.Slice.Eq.{bytes_eq-Decides}
use Rattle.a429_word.proofs.Lists.{false_unless, take_next}
use Rattle.a429_import.specs.declared.firsts.Part.TheVariants.{Groups}
use Rattle.a429_import.specs.declared.indexed_rows.NamedRows.{NamedRows}
use Rattle.a429_import.specs.declared.rows.ImportRow.{ImportRow}
use Rattle.a429_import.specs.ImportTables.{firsts, name_in, same_name}
use Rattle.a429_import.specs.IndexedRows.{IndexesFirsts, first_from, names_of, one_output, outputs_of, place_of, with_output}
use Rattle.a429_import.proofs.Knowing.{firsts_new, firsts_old, known_at, unknown}

count_push : (p : ImportRow → Bool) (rows : List ImportRow) (row : ImportRow) → count_by p (rows ++ row ∷ []) ≡ count_by p rows + cond (p row) 1 0
count_push p rows row = sum_by_push (λ r. cond (p r) 1 0) rows row

pub count_more : (p : ImportRow → Bool) (rows : List ImportRow) (i : ℕ) (row : ImportRow) → slice_get rows i ≡ Some row → count_by p (take (i + 1) rows) ≡ count_by p (take i rows) + cond (p row) 1 0
count_more p rows i row there = ap (count_by p) (take_next rows i row there) ∙ count_push p (take i rows) row

capped : (c : ℕ) → min 129 (c + 1) ≡ one_output (min 129 c)
capped c = elim (cases_lt c 129) [
  | inl few ↦
      let same : min 129 c ≡ c = omega (arith, few) in
      let more : min 129 (c + 1) ≡ c + 1 = omega (arith, few) in
      more ∙ sym (ap one_output same ∙ ap (λ b. cond b (c + 1) c) (le-leb c 128 (omega (arith, few))))
  | inr many ↦
      let same : min 129 c ≡ 129 = omega (arith, many) in
      let more : min 129 (c + 1) ≡ 129 = omega (arith, many) in
      more ∙ sym (ap one_output same)
]

pub above : (c : ℕ) → nat_lt 128 (min 129 c) ≡ nat_lt 128 c
above c = elim (cases_lt 128 c) [
  | inl many ↦ let more : min 129 c ≡ 129 = omega (arith, many) in ap (nat_lt 128) more ∙ sym (lt-ltb 128 c many)
  | inr few ↦ let same : min 129 c ≡ c = omega (arith, few) in ap (nat_lt 128) same
]

outputs_other : (rows : List ImportRow) (row group : ImportRow) → same_name Groups group row ≡ false → outputs_of (rows ++ row ∷ []) group ≡ outputs_of rows group
outputs_other rows row group h =
    let same : count_by (same_name Groups group) (rows ++ row ∷ []) ≡ count_by (same_name Groups group) rows =
    count_push (same_name Groups group) rows row ∙ ap (λ b. count_by (same_name Groups group) rows + cond b 1 0) h ∙ omega arith in
    ap (min 129) same

outputs_own : (rows : List ImportRow) (row group : ImportRow) → same_name Groups group row ≡ true → outputs_of (rows ++ row ∷ []) group ≡ one_output (outputs_of rows group)
outputs_own rows row group h =
    let more : count_by (same_name Groups group) (rows ++ row ∷ []) ≡ count_by (same_name Groups group) rows + 1 =
    count_push (same_name Groups group) rows row ∙ ap (λ b. count_by (same_name Groups group) rows + cond b 1 0) h in
    ap (min 129) more ∙ capped (count_by (same_name Groups group) rows)

map_same : {X : Type 0} (f g : X → ℕ) (xs : List X) → ((j : ℕ) (y : X) → slice_get xs j ≡ Some y → g y ≡ f y) → map f xs ≡ map g xs
map_same f g [] each = refl
map_same f g (x ∷ xs) each = ap₂ (λ a rest. a ∷ rest) (sym (each 0 x refl)) (map_same f g xs (λ j y at. each (suc j) y at))

set_map : {X : Type 0} (f g : X → ℕ) (h : ℕ → ℕ) (xs : List X) (i : ℕ) (x : X) → slice_get xs i ≡ Some x → g x ≡ h (f x) → ((j : ℕ) (y : X) → slice_get xs j ≡ Some y → (j ≡ i → ⊥) → g y ≡ f y)
    → set (map f xs) i (h (get_or (map f xs) i 0)) ≡ map g xs
set_map f g h [] i x there own others = cc
set_map f g h (y ∷ xs) zero x there own others =
    let same : y ≡ x = same_Some y x there in
    let here : h (f y) ≡ g y = ap (λ z. h (f z)) same ∙ sym own ∙ ap g (sym same) in
    let rest : map f xs ≡ map g xs = map_same f g xs (λ j z at. others (suc j) z at (λ e. absurd (omega (arith, e)))) in
    ap₂ (λ a rest. a ∷ rest) here rest
set_map f g h (y ∷ xs) (suc i) x there own others =
    ap₂ (λ a rest. a ∷ rest) (sym (others 0 y refl (λ e. absurd (omega (arith, e))))) (set_map f g h xs i x there own (λ j z at apart. others (suc j) z at (λ e. let same : j ≡ i = omega (arith, e) in apart same)))

-- the groups that are known have one name each
other_group : (named : NamedRows) (rows : List ImportRow) (row group : ImportRow) (j : ℕ) → IndexesFirsts Groups named rows → slice_get (firsts Groups rows) j ≡ Some group
    → (place_of named row.texts.group ≡ Some j → ⊥) → outputs_of (rows ++ row ∷ []) group ≡ outputs_of rows group
other_group named rows row group j known there apart =
    let named_so : slice_get (names_of named) j ≡ Some group.texts.group =
    ap (λ (ns : List (List ℕ)). slice_get ns j) known.names ∙ slice_get-map (name_in Groups) (firsts Groups rows) j ∙ ap (λ (o : Option ImportRow). option_map (name_in Groups) o) there in
    outputs_other rows row group (false_unless (bytes_eq group.texts.group row.texts.group) (λ t.
    apart (ap (place_of named) (sym ((bytes_eq-Decides group.texts.group row.texts.group).0 t)) ∙ known.apart j group.texts.group named_so)))

none_of : (b : Bool) (n : ℕ) (o : Option ℕ) → cond b (Some n) o ≡ None → (b ≡ false) × (o ≡ None)
none_of true n o e = cc
none_of false n o e = (refl, e)

pub none_counted : (p : ImportRow → Bool) (n : ℕ) (rows : List ImportRow) → position_from p n rows ≡ None → count_by p rows ≡ 0
none_counted p n [] e = refl
none_counted p n (r ∷ rows) e =
    let t = none_of (p r) n (position_from p (n + 1) rows) e in
    sum_by-cons (λ x. cond (p x) 1 0) r rows ∙ ap₂ (λ b c. cond b 1 0 + c) t.0 (none_counted p (n + 1) rows t.1)

-- the outputs of each group after one more row
pub outputs_more : (named : NamedRows) (rows : List ImportRow) (row : ImportRow) (outputs : List ℕ) (place : Option ℕ) → IndexesFirsts Groups named rows → outputs ≡ map (outputs_of rows) (firsts Groups rows)
    → place ≡ place_of named row.texts.group → with_output outputs place ≡ map (outputs_of (rows ++ row ∷ [])) (firsts Groups (rows ++ row ∷ []))
outputs_more named rows row outputs (Some place) known are found =
    let k = known_at Groups named rows row.texts.group place known (sym found) in
    let all : List ImportRow = rows ++ row ∷ [] in
    let fs : List ImportRow = firsts Groups rows in
    let own : outputs_of all k.row ≡ one_output (outputs_of rows k.row) = outputs_own rows row k.row ((bytes_eq-Decides k.row.texts.group row.texts.group).1 k.is_named) in
    let others : (j : ℕ) (group : ImportRow) → slice_get fs j ≡ Some group → (j ≡ place → ⊥) → outputs_of all group ≡ outputs_of rows group =
    λ j group there apart. other_group named rows row group j known there (λ e. apart (same_Some j place (sym e ∙ sym found))) in
    ap (λ (xs : List ℕ). with_output xs (Some place)) are ∙ set_map (outputs_of rows) (outputs_of all) one_output fs place k.row k.first own others
    ∙ ap (map (outputs_of all)) (sym (firsts_old Groups rows row _ k.number))
outputs_more named rows row outputs None known are nowhere =
    let none : first_from Groups row.texts.group 0 rows ≡ None = unknown Groups named rows row.texts.group known (sym nowhere) in
    let all : List ImportRow = rows ++ row ∷ [] in
    let fs : List ImportRow = firsts Groups rows in
    let others : (j : ℕ) (group : ImportRow) → slice_get fs j ≡ Some group → outputs_of all group ≡ outputs_of rows group =
    λ j group there. other_group named rows row group j known there (λ e. none-some j (nowhere ∙ e)) in
    let zero_before : count_by (same_name Groups row) rows ≡ 0 = none_counted (same_name Groups row) 0 rows none in
    let own : outputs_of all row ≡ 1 =
    outputs_own rows row row ((bytes_eq-Decides row.texts.group row.texts.group).1 refl) ∙ ap (λ (n : ℕ). one_output (min 129 n)) zero_before in
    ap₂ (λ (xs : List ℕ) (n : ℕ). xs ++ n ∷ []) (are ∙ map_same (outputs_of rows) (outputs_of all) fs others) (sym own) ∙ sym (map-append (outputs_of all) fs (row ∷ []))
    ∙ ap (map (outputs_of all)) (sym (firsts_new Groups rows row none))

-- a group that is known has its number of outputs
pub group_within : (named : NamedRows) (rows : List ImportRow) (name : List ℕ) (place : ℕ) (outputs : List ℕ) → IndexesFirsts Groups named rows → outputs ≡ map (outputs_of rows) (firsts Groups rows)
    → place_of named name ≡ Some place → place < length outputs
group_within named rows name place outputs known are found =
    let k = known_at Groups named rows name place known found in
    let few = slice_get_within (firsts Groups rows) place k.row k.first in
    let many : length outputs ≡ length (firsts Groups rows) = ap length are ∙ length-map (firsts Groups rows) (outputs_of rows) in
    omega (arith, few, many)
