-- The groups of the table that is imported from an interface control document, and their outputs.
use Rattle.std.proofs.Common.{◌≡◌, ◌∙◌, ℕ, zero, suc, ◌≤◌, cond, Bool, true, false, List, [], ◌∷◌, ◌++◌, length, map, Some, ap, ap₂, sym, subst, refl, arith, append_assoc, append-nil}
use Rattle.std.specs.Prelude.{◌||◌, filter, slice_get}
use Rattle.std.specs.List.{AllByRecursion, list_any}
use Rattle.std.specs.Str.{bytes_eq}
use Rattle.std.proofs.lemmas.List.Elements.{filter-append}
use Rattle.std.proofs.lemmas.List.Folds.{list_any-append}
use Rattle.std.proofs.lemmas.Option.{none-some, same_Some}
use Rattle.std.proofs.lemmas.Simd.{map-map}
use Rattle.a429_word.proofs.Lists.{false_unless}
use Rattle.a429_equipment.specs.Sound.{HaveOwn, IsSound}
use Rattle.a429_equipment.specs.TableRecord.{TableRecord}
use Rattle.a429_equipment.specs.declared.rows.GroupRow.{GroupRow}
use Rattle.a429_equipment.specs.declared.rows.OutputRow.{OutputRow}
use Rattle.a429_cert.proofs.Again.{same_again}
use Rattle.a429_cert.proofs.CheckedPlans.{same_bytes}
use Rattle.a429_table.proofs.Absence.{all_from}
use Rattle.a429_import.specs.declared.firsts.Part.TheVariants.{Groups, Sources}
use Rattle.a429_import.specs.declared.rows.ImportRow.{ImportRow}
use Rattle.a429_import.specs.ImportTables.{firsts, firsts_after, group_stated, groups_of, has_group, number_of, output_stated, outputs_stated, record_stated}
use Rattle.a429_callers.proofs.Icd.Rows.{IsRowOf, has_group_of, read_groups, read_output, read_table, rows_are, source_at}
use Rattle.a429_import.proofs.ImportRecords.{all_firsts, from_all}
use Rattle.a429_callers.proofs.Icd.RenumberedPlans.{renumbered_row}

-- none of these rows is of a group of this name
abbrev IsFree : List ImportRow → List ℕ → Type 0
IsFree earlier name = list_any (λ other. bytes_eq other.texts.group name) earlier ≡ false

-- some row is
abbrev IsTaken : List ImportRow → List ℕ → Type 0
IsTaken earlier name = list_any (λ other. bytes_eq other.texts.group name) earlier ≡ true

abbrev AreOwn : List GroupRow → Type 0
AreOwn groups = HaveOwn (λ (g : GroupRow). g.name) groups

own_rest : (g : GroupRow) (groups : List GroupRow) → AreOwn (g ∷ groups) → AreOwn groups
own_rest g groups own i j x y at_x at_y same = let more : suc i ≡ suc j = own (suc i) (suc j) x y at_x at_y same in omega (arith, more)

others_named : (g : GroupRow) (groups : List GroupRow) → AreOwn (g ∷ groups) → AllByRecursion (λ (h : GroupRow). bytes_eq g.name h.name ≡ false) groups
others_named g groups own =
    all_from (λ (h : GroupRow). bytes_eq g.name h.name ≡ false) groups
    (λ j h at. false_unless (bytes_eq g.name h.name) (λ t. let same : 0 ≡ suc j = own 0 (suc j) g h refl at (same_bytes g.name h.name t) in omega (arith, same)))

or_false : (a b : Bool) → a ≡ false → b ≡ false → (a || b) ≡ false
or_false a b h k = rw (h, k) refl

or_left : (a b : Bool) → a ≡ true → (a || b) ≡ true
or_left a b h = rw h refl

or_right : (a b : Bool) → b ≡ true → (a || b) ≡ true
or_right true b h = refl
or_right false b h = h

all_kept : {X : Type 0} (test : X → Bool) (xs : List X) → AllByRecursion (λ x. test x ≡ true) xs → filter test xs ≡ xs
all_kept test [] all = refl
all_kept {X} test (x ∷ xs) all = rw all.0 (ap (λ (ys : List X). x ∷ ys) (all_kept test xs all.1))

module _ (e : TableRecord) where
  -- the first row of each group
  abbrev heads : List GroupRow → List (List OutputRow) → List ImportRow
  heads [] outputs = []
  heads (g ∷ groups) [] = []
  heads (g ∷ groups) ([] ∷ outputs) = heads groups outputs
  heads (g ∷ groups) ((o ∷ os) ∷ outputs) = read_output e g o ∷ heads groups outputs

  -- ---- which are the first rows

  free_block : (g : GroupRow) (os : List OutputRow) (name : List ℕ) → bytes_eq g.name name ≡ false → IsFree (map (read_output e g) os) name
  free_block g [] name other = refl
  free_block g (o ∷ os) name other = or_false (bytes_eq g.name name) (list_any (λ (row : ImportRow). bytes_eq row.texts.group name) (map (read_output e g) os)) other (free_block g os name other)

  free_more : (g : GroupRow) (os : List OutputRow) (earlier : List ImportRow) (name : List ℕ) → IsFree earlier name → bytes_eq g.name name ≡ false → IsFree (earlier ++ map (read_output e g) os) name
  free_more g os earlier name free other =
      let test : ImportRow → Bool = λ row. bytes_eq row.texts.group name in
      list_any-append test earlier (map (read_output e g) os)
      ∙ or_false (list_any test earlier) (list_any test (map (read_output e g) os)) free (free_block g os name other)

  all_free : (g : GroupRow) (os : List OutputRow) (earlier : List ImportRow) (groups : List GroupRow) → AllByRecursion (λ (h : GroupRow). IsFree earlier h.name) groups → AllByRecursion (λ (h : GroupRow). bytes_eq g.name h.name ≡ false) groups
      → AllByRecursion (λ (h : GroupRow). IsFree (earlier ++ map (read_output e g) os) h.name) groups
  all_free g os earlier [] free other = tt
  all_free g os earlier (h ∷ groups) free other = (free_more g os earlier h.name free.0 other.0, all_free g os earlier groups free.1 other.1)

  taken_more : (g : GroupRow) (o : OutputRow) (earlier : List ImportRow) → IsTaken earlier g.name → IsTaken (earlier ++ read_output e g o ∷ []) g.name
  taken_more g o earlier taken =
      let test : ImportRow → Bool = λ row. bytes_eq row.texts.group g.name in
      list_any-append test earlier (read_output e g o ∷ []) ∙ or_left (list_any test earlier) (list_any test (read_output e g o ∷ [])) taken

  taken_last : (g : GroupRow) (o : OutputRow) (earlier : List ImportRow) → IsTaken (earlier ++ read_output e g o ∷ []) g.name
  taken_last g o earlier =
      let test : ImportRow → Bool = λ row. bytes_eq row.texts.group g.name in
      list_any-append test earlier (read_output e g o ∷ [])
      ∙ or_right (list_any test earlier) (list_any test (read_output e g o ∷ [])) (or_left (bytes_eq g.name g.name) false (same_again g.name g.name refl))

  -- the other rows of a group whose first row is known
  known_block : (g : GroupRow) (os : List OutputRow) (earlier rest : List ImportRow) → IsTaken earlier g.name
      → firsts_after Groups earlier (map (read_output e g) os ++ rest) ≡ firsts_after Groups (earlier ++ map (read_output e g) os) rest
  known_block g [] earlier rest taken = ap (λ (rows : List ImportRow). firsts_after Groups rows rest) (sym (append-nil earlier))
  known_block g (o ∷ os) earlier rest taken =
      let row : ImportRow = read_output e g o in
      let later = firsts_after Groups (earlier ++ row ∷ []) (map (read_output e g) os ++ rest) in
      ap (λ (b : Bool). cond b [] (row ∷ []) ++ later) taken
      ∙ known_block g os (earlier ++ row ∷ []) rest (taken_more g o earlier taken)
      ∙ ap (λ (rows : List ImportRow). firsts_after Groups rows rest) (append_assoc earlier (row ∷ []) (map (read_output e g) os))

  firsts_are : (groups : List GroupRow) (outputs : List (List OutputRow)) (earlier : List ImportRow) → AllByRecursion (λ os. 1 ≤ length os) outputs → AreOwn groups → AllByRecursion (λ (h : GroupRow). IsFree earlier h.name) groups
      → firsts_after Groups earlier (read_groups e groups outputs) ≡ heads groups outputs
  firsts_are [] outputs earlier some own free = refl
  firsts_are (g ∷ groups) [] earlier some own free = refl
  firsts_are (g ∷ groups) ([] ∷ outputs) earlier some own free = absurd (omega (arith, some.0))
  firsts_are (g ∷ groups) ((o ∷ os) ∷ outputs) earlier some own free =
      let row : ImportRow = read_output e g o in
      let rest : List ImportRow = read_groups e groups outputs in
      let later = firsts_after Groups (earlier ++ row ∷ []) (map (read_output e g) os ++ rest) in
      let whole : (earlier ++ row ∷ []) ++ map (read_output e g) os ≡ earlier ++ map (read_output e g) (o ∷ os) = append_assoc earlier (row ∷ []) (map (read_output e g) os) in
      let others : firsts_after Groups (earlier ++ map (read_output e g) (o ∷ os)) rest ≡ heads groups outputs =
      firsts_are groups outputs (earlier ++ map (read_output e g) (o ∷ os)) some.1 (own_rest g groups own) (all_free g (o ∷ os) earlier groups free.1 (others_named g groups own)) in
      ap (λ (b : Bool). cond b [] (row ∷ []) ++ later) free.0
      ∙ ap (λ (rows : List ImportRow). row ∷ rows) (known_block g os (earlier ++ row ∷ []) rest (taken_last g o earlier) ∙ ap (λ (rows : List ImportRow). firsts_after Groups rows rest) whole ∙ others)

  heads_named : (groups : List GroupRow) (outputs : List (List OutputRow)) → AllByRecursion (λ os. 1 ≤ length os) outputs → length outputs ≡ length groups → map group_stated (heads groups outputs) ≡ groups
  heads_named [] outputs some long = refl
  heads_named (g ∷ groups) [] some long = absurd (omega (arith, long))
  heads_named (g ∷ groups) ([] ∷ outputs) some long = absurd (omega (arith, some.0))
  heads_named (g ∷ groups) ((o ∷ os) ∷ outputs) some long = ap (λ (gs : List GroupRow). g ∷ gs) (heads_named groups outputs some.1 (omega (arith, long)))

  -- ---- the rows of a group

  group_filtered : (g : GroupRow) (os : List OutputRow) (name : List ℕ) → bytes_eq name g.name ≡ true → filter (λ row. bytes_eq name row.texts.group) (map (read_output e g) os) ≡ map (read_output e g) os
  group_filtered g [] name same = refl
  group_filtered g (o ∷ os) name same = rw same (ap (λ (rows : List ImportRow). read_output e g o ∷ rows) (group_filtered g os name same))

  others_filtered : (g : GroupRow) (os : List OutputRow) (name : List ℕ) → bytes_eq name g.name ≡ false → filter (λ row. bytes_eq name row.texts.group) (map (read_output e g) os) ≡ []
  others_filtered g [] name other = refl
  others_filtered g (o ∷ os) name other = rw other (others_filtered g os name other)

  all_others_filtered : (groups : List GroupRow) (outputs : List (List OutputRow)) (name : List ℕ) → AllByRecursion (λ (h : GroupRow). bytes_eq name h.name ≡ false) groups → filter (λ row. bytes_eq name row.texts.group) (read_groups e groups outputs) ≡ []
  all_others_filtered [] outputs name other = refl
  all_others_filtered (g ∷ groups) [] name other = refl
  all_others_filtered (g ∷ groups) (os ∷ outputs) name other =
      let test : ImportRow → Bool = λ row. bytes_eq name row.texts.group in
      filter-append test (map (read_output e g) os) (read_groups e groups outputs)
      ∙ ap₂ (λ (xs ys : List ImportRow). xs ++ ys) (others_filtered g os name other.0) (all_others_filtered groups outputs name other.1)

  pub group_rows_are : (groups : List GroupRow) (outputs : List (List OutputRow)) (k : ℕ) (g : GroupRow) (os : List OutputRow) → AreOwn groups → slice_get groups k ≡ Some g → slice_get outputs k ≡ Some os
      → filter (λ row. bytes_eq g.name row.texts.group) (read_groups e groups outputs) ≡ map (read_output e g) os
  group_rows_are [] outputs k g os own at listed = absurd (none-some g at)
  group_rows_are (h ∷ groups) [] k g os own at listed = absurd (none-some os listed)
  group_rows_are (h ∷ groups) (us ∷ outputs) zero g os own at listed =
      let test : ImportRow → Bool = λ row. bytes_eq g.name row.texts.group in
      let same : h ≡ g = same_Some h g at in
      let these : us ≡ os = same_Some us os listed in
      let others : AllByRecursion (λ (x : GroupRow). bytes_eq g.name x.name ≡ false) groups = subst (λ (y : GroupRow). AllByRecursion (λ (x : GroupRow). bytes_eq y.name x.name ≡ false) groups) same (others_named h groups own) in
      filter-append test (map (read_output e h) us) (read_groups e groups outputs)
      ∙ ap₂ (λ (xs ys : List ImportRow). xs ++ ys) (group_filtered h us g.name (same_again g.name h.name (ap (λ (y : GroupRow). y.name) (sym same)))) (all_others_filtered groups outputs g.name others)
      ∙ append-nil (map (read_output e h) us)
      ∙ ap₂ (λ (y : GroupRow) (zs : List OutputRow). map (read_output e y) zs) same these
  group_rows_are (h ∷ groups) (us ∷ outputs) (suc k) g os own at listed =
      let test : ImportRow → Bool = λ row. bytes_eq g.name row.texts.group in
      let other : bytes_eq g.name h.name ≡ false = false_unless (bytes_eq g.name h.name) (λ t. let same : suc k ≡ 0 = own (suc k) 0 g h at refl (same_bytes g.name h.name t) in omega (arith, same)) in
      filter-append test (map (read_output e h) us) (read_groups e groups outputs)
      ∙ ap₂ (λ (xs ys : List ImportRow). xs ++ ys) (others_filtered h us g.name other) (group_rows_are groups outputs k g os (own_rest h groups own) at listed)

  -- ---- the outputs

  -- the number of the source of a number
  abbrev pub new_number : ℕ → ℕ
  new_number n = number_of Sources (read_table e) (source_at e n).name

  abbrev AreRowsOf : List ImportRow → List GroupRow → List (List OutputRow) → Type 0
  AreRowsOf rows groups outputs =
      (k : ℕ) (g : GroupRow) (os : List OutputRow) → slice_get groups k ≡ Some g → slice_get outputs k ≡ Some os → filter (λ row. bytes_eq g.name row.texts.group) rows ≡ map (read_output e g) os

  outputs_from : (groups : List GroupRow) (outputs : List (List OutputRow)) → AllByRecursion (λ os. 1 ≤ length os) outputs → length outputs ≡ length groups → AreRowsOf (read_table e) groups outputs
      → map (outputs_stated (read_table e)) (heads groups outputs) ≡ map (map (renumbered_row new_number)) outputs
  outputs_from [] [] some long each = refl
  outputs_from [] (os ∷ outputs) some long each = absurd (omega (arith, long))
  outputs_from (g ∷ groups) [] some long each = refl
  outputs_from (g ∷ groups) ([] ∷ outputs) some long each = absurd (omega (arith, some.0))
  outputs_from (g ∷ groups) ((o ∷ os) ∷ outputs) some long each =
      ap₂ (λ (xs : List OutputRow) (xss : List (List OutputRow)). xs ∷ xss)
      (ap (map (output_stated (read_table e))) (each 0 g (o ∷ os) refl refl) ∙ map-map (output_stated (read_table e)) (read_output e g) (o ∷ os))
      (outputs_from groups outputs some.1 (omega (arith, long)) (λ k h us at listed. each (suc k) h us at listed))

some_first : (outputs : List (List OutputRow)) → AllByRecursion (λ os. (1 ≤ length os) × (length os ≤ 128)) outputs → AllByRecursion (λ os. 1 ≤ length os) outputs
some_first [] h = tt
some_first (os ∷ outputs) h = (h.0.0, some_first outputs h.1)

none_before : (groups : List GroupRow) → AllByRecursion (λ (h : GroupRow). IsFree [] h.name) groups
none_before [] = tt
none_before (g ∷ groups) = (refl, none_before groups)

module _ (e : TableRecord) (sound : IsSound e) where
  heads_are : firsts Groups (read_table e) ≡ heads e e.groups e.outputs
  heads_are = firsts_are e e.groups e.outputs [] (some_first e.outputs sound.some_outputs) sound.own_groups (none_before e.groups)

  -- each row names a group
  pub groups_are : groups_of (read_table e) ≡ firsts Groups (read_table e)
  groups_are =
      all_kept has_group (firsts Groups (read_table e))
      (all_firsts (λ row. has_group row ≡ true) Groups (read_table e) [] (from_all (IsRowOf e) (λ row. has_group row ≡ true) (has_group_of e sound) (read_table e) (rows_are e sound)))

  -- the groups are those of the table
  pub groups_again : (record_stated (read_table e)).groups ≡ e.groups
  unfolding record_stated
  groups_again = ap (map group_stated) (groups_are ∙ heads_are) ∙ heads_named e e.groups e.outputs (some_first e.outputs sound.some_outputs) sound.outputs_of_groups

  -- and so are their outputs, but for the numbers of their sources
  pub outputs_again : (record_stated (read_table e)).outputs ≡ map (map (renumbered_row (new_number e))) e.outputs
  unfolding record_stated
  outputs_again =
      ap (map (outputs_stated (read_table e))) (groups_are ∙ heads_are)
      ∙ outputs_from e e.groups e.outputs (some_first e.outputs sound.some_outputs) sound.outputs_of_groups
      (λ k g os at listed. group_rows_are e e.groups e.outputs k g os sound.own_groups at listed)
