-- The tree of rows, read as a table, has the record of the rows.
use Rattle.std.proofs.Common.{◌≡◌, ℕ, ◌+◌, ◌^◌, ◌<◌, pos, cond, Bool, true, false, List, [], ◌∷◌, ◌++◌, map, Option, None, Some, option_map, codes, unwrap_or, ap, ap₂, refl, ◌∙◌}
use Rattle.std.specs.Prelude.{IfSome, filter}
use Rattle.std.specs.List.{AllByRecursion, position_from}
use Rattle.std.specs.Str.{bytes_eq}
use Rattle.toml.specs.Data.{Data, string, table, no_members, member}
use Rattle.a429_word.specs.Texts.{octal, octal_number}
use Rattle.a429_word.proofs.LabelTexts.{value_of_written}
use Rattle.a429_filter.specs.declared.filters.Filter.{Filter}
use Rattle.a429_filter.specs.FilterTexts.{filter_of}
use Rattle.a429_equipment.specs.declared.version.TableVersion.TheVariants.{Two}
use Rattle.a429_equipment.specs.declared.rows.GroupRow.{GroupRow}
use Rattle.a429_equipment.specs.declared.rows.ReceiverRow.{ReceiverRow}
use Rattle.a429_equipment.specs.declared.rows.SourceRow.{SourceRow}
use Rattle.a429_table.specs.Tree.{text_at, integer_at, get_integer, rows_at}
use Rattle.a429_table.specs.Version.{version_of}
use Rattle.a429_table.specs.Names.{name_of, number_named}
use Rattle.a429_table.specs.Faults.{sdi_of}
use Rattle.a429_table.specs.Stated.{natural, number_of as number_stated, filter_row, filters_of, receiver_row, source_row, group_row, output_row, output_rows, stated}
use Rattle.a429_table.proofs.SoundValues.{natural-pos}
use Rattle.a429_table.proofs.Trees.{elements-items_of}
use Rattle.a429_import.specs.declared.rows.ImportRow.{ImportRow}
use Rattle.a429_import.specs.declared.firsts.Part.{Part}
use Rattle.a429_import.specs.declared.firsts.Part.TheVariants.{Receivers, Sources, Groups}
use Rattle.a429_import.specs.ImportTables.{with_filters, with_hold, sdi_data, number, words, name_in, same_name, is_known, firsts, firsts_after, groups_of, has_group, rows_of_group, receiver_tree, source_tree, output_tree, group_tree, part_trees, root_members, filters_stated, receiver_stated, number_of, source_stated, group_stated, output_stated, outputs_stated, record_stated}
use Rattle.a429_import.specs.NumberRanges.{AreInRange, HaveRanges}

-- ---- lists

map_same : {X Y Z : Type 0} (f : Y → Z) (g : X → Y) (h : X → Z) (xs : List X) → AllByRecursion (λ x. f (g x) ≡ h x) xs → map f (map g xs) ≡ map h xs
map_same f g h [] each = refl
map_same f g h (x ∷ xs) each = ap₂ (λ z zs. z ∷ zs) each.0 (map_same f g h xs each.1)

of_all : {X : Type 0} (P : X → Type 0) → ((x : X) → P x) → (xs : List X) → AllByRecursion P xs
of_all P each [] = tt
of_all P each (x ∷ xs) = (each x, of_all P each xs)

pub from_all : {X : Type 0} (P Q : X → Type 0) → ((x : X) → P x → Q x) → (xs : List X) → AllByRecursion P xs → AllByRecursion Q xs
from_all P Q then [] all = tt
from_all P Q then (x ∷ xs) all = (then x all.0, from_all P Q then xs all.1)

pub position_same : {X Y : Type 0} (p : Y → Bool) (q : X → Bool) (f : X → Y) → ((x : X) → p (f x) ≡ q x) → (i : ℕ) (xs : List X) → position_from p i (map f xs) ≡ position_from q i xs
position_same p q f same i [] = refl
position_same p q f same i (x ∷ xs) = ap₂ (λ b o. cond b (Some i) o) (same x) (position_same p q f same (i + 1) xs)

kept : {X : Type 0} (P : X → Type 0) (b : Bool) (x : X) (xs : List X) → P x → AllByRecursion P xs → AllByRecursion P (cond b (x ∷ xs) xs)
kept P true x xs here all = (here, all)
kept P false x xs here all = all

pub all_filtered : {X : Type 0} (P : X → Type 0) (test : X → Bool) (xs : List X) → AllByRecursion P xs → AllByRecursion P (filter test xs)
all_filtered P test [] all = tt
all_filtered P test (x ∷ xs) all = kept P (test x) x (filter test xs) all.0 (all_filtered P test xs all.1)

first_or_not : (P : ImportRow → Type 0) (known : Bool) (row : ImportRow) (others : List ImportRow) → P row → AllByRecursion P others → AllByRecursion P ((cond known [] (row ∷ [])) ++ others)
first_or_not P true row others here all = all
first_or_not P false row others here all = (here, all)

pub all_firsts : (P : ImportRow → Type 0) (part : Part) (rows earlier : List ImportRow) → AllByRecursion P rows → AllByRecursion P (firsts_after part earlier rows)
all_firsts P part [] earlier all = tt
all_firsts P part (row ∷ rows) earlier all = first_or_not P (is_known part earlier row) row _ all.0 (all_firsts P part rows (earlier ++ row ∷ []) all.1)

-- ---- receivers

name_with : (ws : List (List ℕ)) (name : List ℕ) → name_of (table (with_filters ws (member (codes "name") (string name) no_members))) ≡ name
unfolding text_at
name_with [] name = refl
name_with (w ∷ ws) name = refl

pub named_receiver : (row : ImportRow) → name_of (receiver_tree row) ≡ row.texts.receiver
unfolding receiver_tree
named_receiver row = name_with (words row.texts.filters) row.texts.receiver

texts_are : (ws : List (List ℕ)) → map filter_row (map (λ w. string w) ws) ≡ map filter_of ws
texts_are ws = map_same filter_row (λ w. string w) filter_of ws (of_all _ (λ w. refl) ws)

filters_with : (ws : List (List ℕ)) (name : List ℕ) → filters_of (table (with_filters ws (member (codes "name") (string name) no_members))) ≡ filters_stated ws
unfolding rows_at
filters_with [] name = refl
filters_with (w ∷ ws) name = ap (λ fs. Some fs) (ap (map filter_row) (elements-items_of (map (λ t. string t) (w ∷ ws))) ∙ texts_are (w ∷ ws))

receiver_is : (row : ImportRow) → receiver_row (receiver_tree row) ≡ receiver_stated row
unfolding receiver_row receiver_tree
receiver_is row =
    let receiver : List ℕ → Option (List Filter) → ReceiverRow = λ n f. record { name = n; filters = f } in
    ap₂ receiver (name_with (words row.texts.filters) row.texts.receiver) (filters_with (words row.texts.filters) row.texts.receiver)

-- ---- the root

-- the values at the keys of the root
pub record IsRoot (root : Data) (rows : List ImportRow) : Type 0 where
  pub version : version_of root ≡ Two
  pub receivers : rows_at (codes "receiver") root ≡ part_trees Receivers rows
  pub sources : rows_at (codes "source") root ≡ part_trees Sources rows
  pub groups : rows_at (codes "group") root ≡ part_trees Groups rows

pub is_root : (rows : List ImportRow) → IsRoot (table (root_members rows)) rows
unfolding root_members rows_at version_of integer_at
is_root rows = record {
  version = refl;
  receivers = elements-items_of (part_trees Receivers rows);
  sources = elements-items_of (part_trees Sources rows);
  groups = elements-items_of (part_trees Groups rows);
}

module _ (root : Data) (rows : List ImportRow) (is : IsRoot root rows) where
  receiver_number : (name : List ℕ) → number_stated name (rows_at (codes "receiver") root) ≡ number_of Receivers rows name
  unfolding number_named
  receiver_number name =
      rw is.receivers (ap (λ o. unwrap_or o 0) (position_same (λ d. bytes_eq name (name_of d)) (λ row. bytes_eq name (name_in Receivers row)) receiver_tree (λ row. ap (bytes_eq name) (named_receiver row)) 0 (firsts Receivers rows)))

  -- ---- sources

  named_source : (row : ImportRow) → name_of (source_tree row) ≡ row.texts.source
  unfolding text_at source_tree
  named_source row = refl

  source_number : (name : List ℕ) → number_stated name (rows_at (codes "source") root) ≡ number_of Sources rows name
  unfolding number_named
  source_number name =
      rw is.sources (ap (λ o. unwrap_or o 0) (position_same (λ d. bytes_eq name (name_of d)) (λ row. bytes_eq name (name_in Sources row)) source_tree (λ row. ap (bytes_eq name) (named_source row)) 0 (firsts Sources rows)))

  source_sdi : (sdi : Option ℕ) → IfSome sdi (λ k. k < 4) → option_map (natural 4) (sdi_of (Some (sdi_data sdi))) ≡ sdi
  source_sdi None small = refl
  source_sdi (Some k) small = ap (λ n. Some n) (natural-pos 4 k small)

  source_is : (row : ImportRow) → AreInRange row.numbers → source_row root (source_tree row) ≡ source_stated rows row
  unfolding source_row source_tree text_at octal_number
  source_is row range =
      let source : ℕ → ℕ → Option ℕ → SourceRow = λ r l s. record { name = row.texts.source; receiver = r; label = l; sdi = s } in
      let label : octal_number (octal row.numbers.label) ≡ row.numbers.label = ap (λ o. unwrap_or o 0) (value_of_written row.numbers.label range.label) in
      ap (λ r. source r (octal_number (octal row.numbers.label)) (option_map (natural 4) (sdi_of (Some (sdi_data row.numbers.sdi))))) (receiver_number row.texts.receiver) ∙ ap₂ (source (number_of Receivers rows row.texts.receiver)) label (source_sdi row.numbers.sdi range.sdi)

  -- ---- groups and outputs

  group_is : (row : ImportRow) → AreInRange row.numbers → group_row None (group_tree rows row) ≡ group_stated row
  unfolding group_row group_tree text_at integer_at
  group_is row range = let group : ℕ → GroupRow = λ r. record { name = row.texts.group; rate = r } in ap group (natural-pos (2 ^ 32) row.numbers.rate range.rate)

  rows_are_groups : HaveRanges rows → map (group_row None) (rows_at (codes "group") root) ≡ map group_stated (groups_of rows)
  rows_are_groups all =
      rw is.groups (map_same (group_row None) (group_tree rows) group_stated (groups_of rows) (from_all _ _ group_is (groups_of rows) (all_filtered _ has_group (firsts Groups rows) (all_firsts _ Groups rows [] all))))

  rows_are_receivers : map receiver_row (rows_at (codes "receiver") root) ≡ map receiver_stated (firsts Receivers rows)
  rows_are_receivers = rw is.receivers (map_same receiver_row receiver_tree receiver_stated (firsts Receivers rows) (of_all _ receiver_is (firsts Receivers rows)))

  rows_are_sources : HaveRanges rows → map (source_row root) (rows_at (codes "source") root) ≡ map (source_stated rows) (firsts Sources rows)
  rows_are_sources all =
      rw is.sources (map_same (source_row root) source_tree (source_stated rows) (firsts Sources rows) (from_all _ _ source_is (firsts Sources rows) (all_firsts _ Sources rows [] all)))

  hold_number : (hold : Option ℕ) → IfSome hold (λ k. k < 2 ^ 32) → option_map (natural (2 ^ 32)) (option_map (λ n. pos n) hold) ≡ hold
  hold_number None small = refl
  hold_number (Some k) small = ap (λ n. Some n) (natural-pos (2 ^ 32) k small)

  -- the values in the table of an output
  record IsOutput (d : Data) (source : List ℕ) (least most : ℕ) (hold : Option ℕ) : Type 0 where
    source_is : text_at (codes "source") d ≡ source
    least_is : integer_at (codes "min_us") d ≡ pos least
    most_is : integer_at (codes "max_us") d ≡ pos most
    hold_is : get_integer (codes "hold") d ≡ option_map (λ n. pos n) hold

  is_output : (source : List ℕ) (least most : ℕ) (hold : Option ℕ)
      → IsOutput (table (with_hold hold (member (codes "max_us") (number most) (member (codes "min_us") (number least) (member (codes "source") (string source) no_members))))) source least most hold
  unfolding text_at integer_at get_integer
  is_output source least most None = record { source_is = refl; least_is = refl; most_is = refl; hold_is = refl }
  is_output source least most (Some k) = record { source_is = refl; least_is = refl; most_is = refl; hold_is = refl }

  output_from : (d : Data) (row : ImportRow) → AreInRange row.numbers → IsOutput d row.texts.source row.numbers.min_us row.numbers.max_us row.numbers.hold → output_row root d ≡ output_stated rows row
  unfolding output_row
  output_from d row range there =
      rw (is.version, there.source_is, there.least_is, there.most_is, there.hold_is, source_number row.texts.source, natural-pos (2 ^ 32) row.numbers.min_us range.least, natural-pos (2 ^ 32) row.numbers.max_us range.most, hold_number row.numbers.hold range.hold) refl

  output_is : (row : ImportRow) → AreInRange row.numbers → output_row root (output_tree row) ≡ output_stated rows row
  unfolding output_tree
  output_is row range = output_from _ row range (is_output row.texts.source row.numbers.min_us row.numbers.max_us row.numbers.hold)

  outputs_at : (group : ImportRow) → rows_at (codes "output") (group_tree rows group) ≡ map output_tree (rows_of_group rows group)
  unfolding rows_at group_tree
  outputs_at group = elements-items_of (map output_tree (rows_of_group rows group))

  outputs_are : HaveRanges rows → (group : ImportRow) → output_rows root (group_tree rows group) ≡ outputs_stated rows group
  outputs_are all group =
      rw (outputs_at group) (map_same (output_row root) output_tree (output_stated rows) (rows_of_group rows group) (from_all _ _ output_is (rows_of_group rows group) (all_filtered _ (same_name Groups group) rows all)))

  rows_are_outputs : HaveRanges rows → map (output_rows root) (rows_at (codes "group") root) ≡ map (outputs_stated rows) (groups_of rows)
  rows_are_outputs all = rw is.groups (map_same (output_rows root) (group_tree rows) (outputs_stated rows) (groups_of rows) (of_all _ (outputs_are all) (groups_of rows)))

  stated_from : HaveRanges rows → stated root ≡ record_stated rows
  unfolding stated record_stated
  stated_from all = rw (is.version, rows_are_receivers, rows_are_sources all, rows_are_groups all, rows_are_outputs all) refl

-- the tree of rows states their record
pub tree_states : (rows : List ImportRow) → HaveRanges rows → stated (table (root_members rows)) ≡ record_stated rows
tree_states rows all = stated_from (table (root_members rows)) rows (is_root rows) all
