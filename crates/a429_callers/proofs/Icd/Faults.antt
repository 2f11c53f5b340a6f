-- The table that is imported_table from an interface control document has no fault.
use Rattle.std.proofs.Common.{◌≡◌, ◌∙◌, ℕ, ◌<◌, ◌≤◌, pos, true, false, List, [], length, map, take, codes, Option, None, Some, ap, ap₂, sym, subst, refl, arith, eq-eqb}
use Rattle.std.specs.Prelude.{◌==◌, ◌&&◌, IfSome, IsTrue, filter, is_none, option_and_then, slice_get, unwrap_or}
use Rattle.std.specs.List.{AllByRecursion, count_by, list_any}
use Rattle.std.specs.Option.{option_map_or}
use Rattle.std.specs.Str.{bytes_eq}
use Rattle.std.proofs.lemmas.Bool.{and_from, and_parts}
use Rattle.std.proofs.lemmas.Bool.Decides.{Decides-int_eq}
use Rattle.std.proofs.lemmas.List.{length-map}
use Rattle.std.proofs.lemmas.List.Sums.{length-filter}
use Rattle.std.proofs.lemmas.Option.{same_Some, slice_get_within}
use Rattle.toml.specs.Data.{Data, member, no_members, string, table}
use Rattle.a429_word.specs.Bits.{label_of, sdi_of}
use Rattle.a429_word.specs.Texts.{label_value, octal}
use Rattle.a429_word.proofs.LabelTexts.{value_of_written}
use Rattle.a429_word.proofs.Lists.{all_at, false_unless, get_within}
use Rattle.a429_equipment.specs.Arrivals.{is_for}
use Rattle.a429_equipment.specs.NameForm.{is_name}
use Rattle.a429_equipment.specs.Sound.{IsGroupRow, IsHold, IsInterval, IsRate, IsReceiverRow, IsSound, IsSourceRow}
use Rattle.a429_equipment.specs.TableRecord.{TableRecord}
use Rattle.a429_equipment.specs.declared.rows.OutputRow.{OutputRow}
use Rattle.a429_equipment.specs.declared.rows.SourceRow.{SourceRow}
use Rattle.a429_equipment.specs.declared.version.TableVersion.TheVariants.{Two}
use Rattle.a429_table.specs.declared.fault.TablePlace.TheVariants.{Root, Group, Output, Receiver, Source}
use Rattle.a429_table.specs.Faults.{faults, same_sdi, same_words, sdi_at, sdis_meet, source_of, sources_meet, stands}
use Rattle.a429_table.specs.Faults as table_faults
use Rattle.a429_table.specs.Names.{name_of, number_named}
use Rattle.a429_table.specs.Tree.{integer_at, rows_at, text_at}
use Rattle.a429_table.specs.Version.{version_of}
use Rattle.a429_table.specs.Walk.{earlier, outputs_of}
use Rattle.a429_slots.specs.Planned.{HaveSources}
use Rattle.a429_table.proofs.Apart.{mapped_at, some_of}
use Rattle.a429_table.proofs.AtKeys.{get_mapped}
use Rattle.a429_table.proofs.Trees.{elements-items_of}
use Rattle.a429_cert.proofs.Again.{same_again}
use Rattle.a429_cert.proofs.CheckedPlans.{same_bytes}
use Rattle.a429_import.specs.declared.firsts.Part.{Part}
use Rattle.a429_import.specs.declared.firsts.Part.TheVariants.{Groups, Receivers, Sources}
use Rattle.a429_import.specs.declared.rows.ImportRow.{ImportRow}
use Rattle.a429_import.specs.ImportTables.{firsts, group_stated, group_tree, groups_of, name_in, number_of, output_tree, part_tree, part_trees, receiver_tree, record_stated, root_members, rows_of_group, sdi_data, source_stated, source_tree, with_filters, words, same_name}
use Rattle.a429_callers.proofs.Icd.NamedFirsts.{own_firsts}
use Rattle.a429_callers.proofs.Icd.Groups.{group_rows_are, groups_again, groups_are}
use Rattle.a429_callers.proofs.Icd.Records.{IsRead, all_read, first_is_of, no_words, source_is}
use Rattle.a429_callers.proofs.Icd.Rows.{IsRowOf, one_source, read_output, read_table, rows_are, source_at, source_there}
use Rattle.a429_callers.proofs.Icd.Sound.{few_receivers, few_sources, imported_sound}
use Rattle.a429_callers.proofs.Icd.FineRows.{bare_receiver, group_fine, output_data, output_fine, outputs_at, receiver_fine, root_fine, source_fine}
use Rattle.a429_callers.proofs.Icd.NoFaults.{HoldsAtStops, IsFine, no_faults, none_earlier, some_found}
use Rattle.a429_import.proofs.FewRows.{HasFew}
use Rattle.a429_import.proofs.ImportRecords.{named_receiver, position_same}
use Rattle.a429_callers.proofs.Icd.OwnWords.{HaveOwnWords}
use Rattle.a429_import.proofs.RowsInRecord.{IsAt, first_of}
use Rattle.a429_documents.proofs.Words.{word_of}

-- ---- SDIs that meet

-- an SDI that both have
record IsCommon (a b : Option ℕ) : Type 0 where
  sdi : ℕ
  small : sdi < 4
  of_first : option_map_or (λ k. k == sdi) a true ≡ true
  of_second : option_map_or (λ k. k == sdi) b true ≡ true

common_sdi : (a b : Option ℕ) → IfSome a (λ k. k < 4) → IfSome b (λ k. k < 4) → sdis_meet (table_faults.sdi_of (Some (sdi_data a))) (table_faults.sdi_of (Some (sdi_data b))) ≡ true → IsCommon a b
common_sdi None None small few h = record { sdi = 0; small = omega arith; of_first = refl; of_second = refl }
common_sdi None (Some n) small few h = record { sdi = n; small = few; of_first = refl; of_second = eq-eqb n n refl }
common_sdi (Some m) None small few h = record { sdi = m; small = small; of_first = eq-eqb m m refl; of_second = refl }
common_sdi (Some m) (Some n) small few h =
    let same : pos m ≡ pos n = (Decides-int_eq (pos m) (pos n)).0 h in
    let one : n ≡ m = cc in
    record { sdi = m; small = small; of_first = eq-eqb m m refl; of_second = eq-eqb n m one }

one_sdi : (a b : Option ℕ) → same_sdi (table_faults.sdi_of (Some (sdi_data a))) (table_faults.sdi_of (Some (sdi_data b))) ≡ true → a ≡ b
one_sdi None None h = refl
one_sdi None (Some n) h = cc
one_sdi (Some m) None h = cc
one_sdi (Some m) (Some n) h =
    let same : pos m ≡ pos n = (Decides-int_eq (pos m) (pos n)).0 h in
    let one : m ≡ n = cc in
    ap (λ (k : ℕ). Some k) one

same_label : (m n : ℕ) → m < 256 → n < 256 → bytes_eq (octal m) (octal n) ≡ true → m ≡ n
same_label m n few small h = same_Some m n (sym (value_of_written m few) ∙ ap label_value (same_bytes (octal m) (octal n) h) ∙ value_of_written n small)

module _ (e : TableRecord) (sound : IsSound e) (plain : AllByRecursion (λ receiver. receiver.filters ≡ None) e.receivers) where
  abbrev rows : List ImportRow
  rows = read_table e

  abbrev root : Data
  root = table (root_members rows)

  is_two : version_of root ≡ Two
  unfolding version_of integer_at root_members
  is_two = refl

  receivers_at : rows_at (codes "receiver") root ≡ map receiver_tree (firsts Receivers rows)
  unfolding rows_at root_members
  receivers_at = elements-items_of (part_trees Receivers rows)

  sources_at : rows_at (codes "source") root ≡ map source_tree (firsts Sources rows)
  unfolding rows_at root_members
  sources_at = elements-items_of (part_trees Sources rows)

  groups_at : rows_at (codes "group") root ≡ map (group_tree rows) (firsts Groups rows)
  unfolding rows_at root_members
  groups_at = elements-items_of (part_trees Groups rows) ∙ ap (map (group_tree rows)) (groups_are e sound)

  -- ---- names

  named_source : (row : ImportRow) → name_of (source_tree row) ≡ row.texts.source
  unfolding text_at source_tree
  named_source row = refl

  named_group : (row : ImportRow) → name_of (group_tree rows row) ≡ row.texts.group
  unfolding text_at group_tree
  named_group row = refl

  names_apart : (part : Part) (tree : ImportRow → Data) → ((x : ImportRow) → name_of (tree x) ≡ name_in part x) → (i : ℕ) (y : ImportRow) → slice_get (firsts part rows) i ≡ Some y
      → list_any (λ d. bytes_eq (name_in part y) (name_of d)) (take i (map tree (firsts part rows))) ≡ false
  names_apart part tree named i y at =
      none_earlier (λ d. bytes_eq (name_in part y) (name_of d)) (map tree (firsts part rows)) i
      (λ j d below there.
      let x = mapped_at tree (firsts part rows) j d there in
      false_unless (bytes_eq (name_in part y) (name_of d))
      (λ t.
      let same : name_in part y ≡ name_in part x.0 = same_bytes (name_in part y) (name_of d) t ∙ ap name_of (sym x.2) ∙ named x.0 in
      omega (arith, below, own_firsts part rows i j y x.0 at x.1 same)))

  name_known : (part : Part) (tree : ImportRow → Data) → ((x : ImportRow) → name_of (tree x) ≡ name_in part x) → (x : ImportRow) → IsAt rows x
      → is_none (number_named (name_in part x) (map tree (firsts part rows))) ≡ false
  unfolding number_named
  name_known part tree named x at =
      let F = first_of part rows at.0 x at.1 in
      let number : ℕ = number_of part rows (name_in part x) in
      some_found (λ d. bytes_eq (name_in part x) (name_of d)) 0 (map tree (firsts part rows)) number (tree F.first) (get_mapped tree (firsts part rows) number F.first F.there)
      (same_again (name_in part x) (name_of (tree F.first)) (sym (named F.first ∙ F.named)))

  -- ---- receivers

  receiver_bare : (y : ImportRow) → IsRowOf e y → receiver_tree y ≡ bare_receiver y.texts.receiver
  unfolding receiver_tree
  receiver_bare y Y = ap (λ (ws : List (List ℕ)). table (with_filters ws (member (codes "name") (string y.texts.receiver) no_members))) (ap words Y.filters ∙ no_words)

  receiver_stop : (i : ℕ) (y : ImportRow) → slice_get (firsts Receivers rows) i ≡ Some y → IsFine root (Receiver i, receiver_tree y)
  unfolding earlier
  receiver_stop i y at kind =
      let Y = (first_is_of e sound plain Receivers i y at).0 in
      let own : list_any (λ d. bytes_eq y.texts.receiver (name_of d)) (take i (rows_at (codes "receiver") root)) ≡ false =
      ap (λ (ds : List Data). list_any (λ d. bytes_eq y.texts.receiver (name_of d)) (take i ds)) receivers_at ∙ names_apart Receivers receiver_tree named_receiver i y at in
      let good : is_name y.texts.receiver ≡ true = ap is_name Y.receiver_name ∙ (all_at IsReceiverRow e.receivers Y.source.receiver Y.receiver sound.receiver_rows Y.receiver_at).0 in
      subst (λ (d : Data). stands root kind (Receiver i, d) ≡ false) (sym (receiver_bare y Y)) (receiver_fine root i y.texts.receiver is_two good own kind)

  -- ---- sources

  source_row_of : (y : ImportRow) → IsRowOf e y → IsTrue (is_name y.texts.source) × (y.numbers.label < 256) × IfSome y.numbers.sdi (λ k. k < 4)
  source_row_of y Y =
      let source : IsSourceRow Y.source = all_at IsSourceRow e.sources Y.number Y.source sound.source_rows Y.source_at in
      (ap is_name Y.source_name ∙ source.0, subst (λ (n : ℕ). n < 256) (sym Y.label) source.1, subst (λ (o : Option ℕ). IfSome o (λ k. k < 4)) (sym Y.sdi) source.2)

  sources_apart : (i j : ℕ) (x y : ImportRow) → slice_get (firsts Sources rows) i ≡ Some x → slice_get (firsts Sources rows) j ≡ Some y → sources_meet (source_tree x) (source_tree y) ≡ true → i ≡ j
  unfolding source_tree text_at record_stated
  sources_apart i j x y at_x at_y h =
      let parts = and_parts (bytes_eq x.texts.receiver y.texts.receiver && bytes_eq (octal x.numbers.label) (octal y.numbers.label)) (sdis_meet (table_faults.sdi_of (Some (sdi_data x.numbers.sdi))) (table_faults.sdi_of (Some (sdi_data y.numbers.sdi)))) h in
      let both = and_parts (bytes_eq x.texts.receiver y.texts.receiver) (bytes_eq (octal x.numbers.label) (octal y.numbers.label)) parts.0 in
      let A = source_row_of x (first_is_of e sound plain Sources i x at_x).0 in
      let B = source_row_of y (first_is_of e sound plain Sources j y at_y).0 in
      let label : x.numbers.label ≡ y.numbers.label = same_label x.numbers.label y.numbers.label A.1 B.1 both.1 in
      let C = common_sdi x.numbers.sdi y.numbers.sdi A.2 B.2 parts.1 in
      let W = word_of x.numbers.label C.sdi A.1 C.small in
      let r : ℕ = number_of Receivers rows x.texts.receiver in
      let receiver : number_of Receivers rows y.texts.receiver ≡ r = ap (number_of Receivers rows) (sym (same_bytes x.texts.receiver y.texts.receiver both.0)) in
      let for_x : IsTrue (is_for r W.raw (source_stated rows x)) =
      and_from (r == r) (x.numbers.label == label_of W.raw && option_map_or (λ k. k == sdi_of W.raw) x.numbers.sdi true) (eq-eqb r r refl)
      (and_from (x.numbers.label == label_of W.raw) (option_map_or (λ k. k == sdi_of W.raw) x.numbers.sdi true) (eq-eqb x.numbers.label (label_of W.raw) (sym W.label_is))
      (ap (λ (s : ℕ). option_map_or (λ k. k == s) x.numbers.sdi true) W.sdi_is ∙ C.of_first)) in
      let for_y : IsTrue (is_for r W.raw (source_stated rows y)) =
      and_from (number_of Receivers rows y.texts.receiver == r) (y.numbers.label == label_of W.raw && option_map_or (λ k. k == sdi_of W.raw) y.numbers.sdi true) (eq-eqb (number_of Receivers rows y.texts.receiver) r receiver)
      (and_from (y.numbers.label == label_of W.raw) (option_map_or (λ k. k == sdi_of W.raw) y.numbers.sdi true) (eq-eqb y.numbers.label (label_of W.raw) (sym label ∙ sym W.label_is))
      (ap (λ (s : ℕ). option_map_or (λ k. k == s) y.numbers.sdi true) W.sdi_is ∙ C.of_second)) in
      (imported_sound e sound plain).apart r W.raw i j (source_stated rows x) (source_stated rows y) (get_mapped (source_stated rows) (firsts Sources rows) i x at_x) (get_mapped (source_stated rows) (firsts Sources rows) j y at_y) for_x for_y

  source_stop : (i : ℕ) (y : ImportRow) → slice_get (firsts Sources rows) i ≡ Some y → IsFine root (Source i, source_tree y)
  unfolding earlier source_tree
  source_stop i y at kind =
      let Y = first_is_of e sound plain Sources i y at in
      let row = source_row_of y Y.0 in
      let own : list_any (λ d. bytes_eq y.texts.source (name_of d)) (take i (rows_at (codes "source") root)) ≡ false =
      ap (λ (ds : List Data). list_any (λ d. bytes_eq y.texts.source (name_of d)) (take i ds)) sources_at ∙ names_apart Sources source_tree named_source i y at in
      let known : is_none (number_named y.texts.receiver (rows_at (codes "receiver") root)) ≡ false = ap (λ (ds : List Data). is_none (number_named y.texts.receiver ds)) receivers_at ∙ name_known Receivers receiver_tree named_receiver y Y.1 in
      let apart : list_any (λ d. sources_meet d (source_tree y)) (take i (rows_at (codes "source") root)) ≡ false =
      ap (λ (ds : List Data). list_any (λ d. sources_meet d (source_tree y)) (take i ds)) sources_at
      ∙ none_earlier (λ d. sources_meet d (source_tree y)) (map source_tree (firsts Sources rows)) i
      (λ j d below there.
      let x = mapped_at source_tree (firsts Sources rows) j d there in
      false_unless (sources_meet d (source_tree y)) (λ t. omega (arith, below, sources_apart j i x.0 y x.1 at (ap (λ (c : Data). sources_meet c (source_tree y)) x.2 ∙ t)))) in
      source_fine root i y.numbers.label y.texts.source y.texts.receiver y.numbers.sdi is_two row.1 row.0 row.2 own known apart kind

  -- ---- groups

  -- the rows of the group of a first row
  record GroupRows (y : ImportRow) (Y : IsRowOf e y) : Type 0 where
    outputs : List OutputRow
    listed : slice_get e.outputs Y.group_at.0 ≡ Some outputs
    are : rows_of_group rows y ≡ map (read_output e Y.group) outputs

  group_rows : (y : ImportRow) (Y : IsRowOf e y) → GroupRows y Y
  group_rows y Y =
      let below : Y.group_at.0 < length e.outputs = omega (arith, slice_get_within e.groups Y.group_at.0 Y.group Y.group_at.1, sound.outputs_of_groups) in
      let os = get_within e.outputs Y.group_at.0 below in
      record {
        outputs = os.0;
        listed = os.1;
        are = ap (λ (name : List ℕ). filter (λ row. bytes_eq name row.texts.group) rows) Y.group_name ∙ group_rows_are e e.groups e.outputs Y.group_at.0 Y.group os.0 sound.own_groups Y.group_at.1 os.1;
      }

  outputs_are : (y : ImportRow) (Y : IsRowOf e y) (G : GroupRows y Y) → rows_at (codes "output") (group_tree rows y) ≡ map output_tree (map (read_output e Y.group) G.outputs)
  unfolding group_tree
  outputs_are y Y G = outputs_at y.texts.group (map output_tree (rows_of_group rows y)) y.numbers.rate ∙ ap (map output_tree) G.are

  group_stop : (i : ℕ) (y : ImportRow) → slice_get (firsts Groups rows) i ≡ Some y → IsFine root (Group i, group_tree rows y)
  unfolding earlier group_tree
  group_stop i y at kind =
      let Y = (first_is_of e sound plain Groups i y at).0 in
      let G = group_rows y Y in
      let many : length (map output_tree (rows_of_group rows y)) ≡ length G.outputs =
      length-map (rows_of_group rows y) output_tree ∙ ap length G.are ∙ length-map G.outputs (read_output e Y.group) in
      let count = all_at (λ (os : List OutputRow). (1 ≤ length os) × (length os ≤ 128)) e.outputs Y.group_at.0 G.outputs sound.some_outputs G.listed in
      let group : IsGroupRow Y.group = all_at IsGroupRow e.groups Y.group_at.0 Y.group sound.group_rows Y.group_at.1 in
      let own : list_any (λ d. bytes_eq y.texts.group (name_of d)) (take i (rows_at (codes "group") root)) ≡ false =
      ap (λ (ds : List Data). list_any (λ d. bytes_eq y.texts.group (name_of d)) (take i ds)) groups_at ∙ names_apart Groups (group_tree rows) named_group i y at in
      group_fine root i y.texts.group (map output_tree (rows_of_group rows y)) y.numbers.rate is_two (ap is_name Y.group_name ∙ group.0) own (subst IsRate (sym Y.rate) group.1) (omega (arith, many, count.0)) (omega (arith, many, count.1)) kind

  -- ---- outputs

  -- the table of an output
  abbrev data_of : OutputRow → Data
  data_of o = output_data (source_at e o.source).name o.min_us o.max_us o.hold

  name_in_output : (source : List ℕ) (least most : ℕ) (hold : Option ℕ) → text_at (codes "source") (output_data source least most hold) ≡ source
  unfolding text_at
  name_in_output source least most None = refl
  name_in_output source least most (Some n) = refl

  -- the table of an output's source
  record SourceTree (o : OutputRow) : Type 0 where
    row : ImportRow
    is : source_of root (data_of o) ≡ Some (source_tree row)
    label : row.numbers.label ≡ (source_at e o.source).label
    sdi : row.numbers.sdi ≡ (source_at e o.source).sdi

  number_found : (x : ImportRow) → IsAt rows x → number_named x.texts.source (rows_at (codes "source") root) ≡ Some (number_of Sources rows x.texts.source)
  unfolding number_named
  number_found x at =
      let name : List ℕ = x.texts.source in
      let named = number_named name (map source_tree (firsts Sources rows)) in
      ap (number_named name) sources_at
      ∙ some_of named (number_of Sources rows name) (name_known Sources source_tree named_source x at)
      (ap (λ (o : Option ℕ). unwrap_or o 0)
      (position_same (λ d. bytes_eq name (name_of d)) (λ row. bytes_eq name (name_in Sources row)) source_tree (λ row. ap (bytes_eq name) (named_source row)) 0 (firsts Sources rows)))

  source_tree_of : (o : OutputRow) → o.source < length e.sources → IsRead e o → SourceTree o
  source_tree_of o below (g, at) =
      let x : ImportRow = read_output e g o in
      let X : IsRowOf e x = all_at (IsRowOf e) rows at.0 x (rows_are e sound) at.1 in
      let F = first_of Sources rows at.0 x at.1 in
      let number : ℕ = number_of Sources rows x.texts.source in
      let Y = (first_is_of e sound plain Sources number F.first F.there).0 in
      let one : Y.source ≡ X.source = one_source e sound F.first x Y X F.named in
      let is = source_is e sound plain x X o.source (source_at e o.source) (source_there e sound o.source below) refl in
      let ds : List Data = rows_at (codes "source") root in
      record {
        row = F.first;
        is =
            ap (λ (name : List ℕ). option_and_then (slice_get ds) (number_named name ds)) (name_in_output x.texts.source o.min_us o.max_us o.hold)
            ∙ ap (option_and_then (slice_get ds)) (number_found x at)
            ∙ ap (λ (cs : List Data). slice_get cs number) sources_at
            ∙ get_mapped source_tree (firsts Sources rows) number F.first F.there;
        label = Y.label ∙ ap (λ (s : SourceRow). s.label) (one ∙ is.1);
        sdi = Y.sdi ∙ ap (λ (s : SourceRow). s.sdi) (one ∙ is.1);
      }

  -- outputs whose sources have one label and SDI
  words_same : (x y : ImportRow) → x.numbers.label < 256 → y.numbers.label < 256 → same_words (Some (source_tree x)) (Some (source_tree y)) ≡ true → (x.numbers.label ≡ y.numbers.label) × (x.numbers.sdi ≡ y.numbers.sdi)
  unfolding source_tree text_at
  words_same x y few small h =
      let parts = and_parts (bytes_eq (octal x.numbers.label) (octal y.numbers.label)) (same_sdi (table_faults.sdi_of (Some (sdi_data x.numbers.sdi))) (table_faults.sdi_of (Some (sdi_data y.numbers.sdi)))) h in
      (same_label x.numbers.label y.numbers.label few small parts.0, one_sdi x.numbers.sdi y.numbers.sdi parts.1)

  -- no two outputs are of sources with one label and SDI
  outputs_apart : (os : List OutputRow) → HaveSources e.sources os → AllByRecursion (IsRead e) os → HaveOwnWords e.sources os → (m j : ℕ) (p o : OutputRow) → slice_get os m ≡ Some p → slice_get os j ≡ Some o
      → same_words (source_of root (data_of p)) (source_of root (data_of o)) ≡ true → m ≡ j
  outputs_apart os known read words m j p o at_p at_o h =
      let under : p.source < length e.sources = all_at (λ (o : OutputRow). o.source < length e.sources) os m p known at_p in
      let below : o.source < length e.sources = all_at (λ (o : OutputRow). o.source < length e.sources) os j o known at_o in
      let U = source_tree_of p under (all_at (IsRead e) os m p read at_p) in
      let S = source_tree_of o below (all_at (IsRead e) os j o read at_o) in
      let few : (n : ℕ) → n < length e.sources → (source_at e n).label < 256 = λ n less. (all_at IsSourceRow e.sources n (source_at e n) sound.source_rows (source_there e sound n less)).1 in
      let both : same_words (Some (source_tree U.row)) (Some (source_tree S.row)) ≡ true = ap₂ (λ (a b : Option Data). same_words a b) (sym U.is) (sym S.is) ∙ h in
      let same = words_same U.row S.row (subst (λ (n : ℕ). n < 256) (sym U.label) (few p.source under)) (subst (λ (n : ℕ). n < 256) (sym S.label) (few o.source below)) both in
      words m j p o (source_at e p.source) (source_at e o.source) at_p at_o (source_there e sound p.source under) (source_there e sound o.source below) (sym U.label ∙ same.0 ∙ S.label) (sym U.sdi ∙ same.1 ∙ S.sdi)

  module _ (own : AllByRecursion (HaveOwnWords e.sources) e.outputs) where
    output_stop : (i : ℕ) (y : ImportRow) (j : ℕ) (d : Data) → slice_get (firsts Groups rows) i ≡ Some y → slice_get (rows_at (codes "output") (group_tree rows y)) j ≡ Some d → IsFine root (Output i j, d)
    unfolding earlier output_tree
    output_stop i y j d at there kind =
        let Y = (first_is_of e sound plain Groups i y at).0 in
        let G = group_rows y Y in
        let k : ℕ = Y.group_at.0 in
        let trees : List Data = map output_tree (map (read_output e Y.group) G.outputs) in
        let known : HaveSources e.sources G.outputs = all_at (HaveSources e.sources) e.outputs k G.outputs sound.known_sources G.listed in
        let read : AllByRecursion (IsRead e) G.outputs = all_at (AllByRecursion (IsRead e)) e.outputs k G.outputs (all_read e sound plain) G.listed in
        let words : HaveOwnWords e.sources G.outputs = all_at (HaveOwnWords e.sources) e.outputs k G.outputs own G.listed in
        let outputs : rows_at (codes "output") (group_tree rows y) ≡ trees = outputs_are y Y G in
        let x = mapped_at output_tree (map (read_output e Y.group) G.outputs) j d (ap (λ (ds : List Data). slice_get ds j) (sym outputs) ∙ there) in
        let o = mapped_at (read_output e Y.group) G.outputs j x.0 x.1 in
        let is : data_of o.0 ≡ d = ap output_tree o.2 ∙ x.2 in
        let below : o.0.source < length e.sources = all_at (λ (o : OutputRow). o.source < length e.sources) G.outputs j o.0 known o.1 in
        let here = all_at (IsRead e) G.outputs j o.0 read o.1 in
        let interval : IsInterval o.0 = all_at IsInterval G.outputs j o.0 (all_at (AllByRecursion IsInterval) e.outputs k G.outputs sound.intervals G.listed) o.1 in
        let hold : IsHold o.0 = all_at IsHold G.outputs j o.0 (all_at (AllByRecursion IsHold) e.outputs k G.outputs sound.holds G.listed) o.1 in
        let source_known : is_none (number_named (source_at e o.0.source).name (rows_at (codes "source") root)) ≡ false =
        ap (λ (ds : List Data). is_none (number_named (source_at e o.0.source).name ds)) sources_at ∙ name_known Sources source_tree named_source (read_output e here.0 o.0) here.1 in
        let group : slice_get (rows_at (codes "group") root) i ≡ Some (group_tree rows y) = ap (λ (ds : List Data). slice_get ds i) groups_at ∙ get_mapped (group_tree rows) (firsts Groups rows) i y at in
        let before : outputs_of (slice_get (rows_at (codes "group") root) i) ≡ trees = ap outputs_of group ∙ outputs in
        let apart : list_any (λ c. same_words (source_of root c) (source_of root (data_of o.0))) (take j (outputs_of (slice_get (rows_at (codes "group") root) i))) ≡ false =
        ap (λ (ds : List Data). list_any (λ c. same_words (source_of root c) (source_of root (data_of o.0))) (take j ds)) before
        ∙ none_earlier (λ c. same_words (source_of root c) (source_of root (data_of o.0))) trees j
        (λ m c less at_c.
        let z = mapped_at output_tree (map (read_output e Y.group) G.outputs) m c at_c in
        let p = mapped_at (read_output e Y.group) G.outputs m z.0 z.1 in
        let is_c : data_of p.0 ≡ c = ap output_tree p.2 ∙ z.2 in
        false_unless (same_words (source_of root c) (source_of root (data_of o.0)))
        (λ t.
        let same : same_words (source_of root (data_of p.0)) (source_of root (data_of o.0)) ≡ true = ap (λ (x : Data). same_words (source_of root x) (source_of root (data_of o.0))) is_c ∙ t in
        omega (arith, less, outputs_apart G.outputs known read words m j p.0 o.0 p.1 o.1 same))) in
        subst (λ (c : Data). stands root kind (Output i j, c) ≡ false) is
        (output_fine root i j (source_at e o.0.source).name o.0.min_us o.0.max_us o.0.hold
        (record { two = is_two; some = interval.0; rising = interval.1; few = interval.2; held = hold; known = source_known; apart = apart }) kind)

    -- ---- all stops

    -- there are as many groups
    group_count : length (groups_of rows) ≡ length e.groups
    unfolding record_stated
    group_count = sym (length-map (groups_of rows) group_stated) ∙ ap length (groups_again e sound)

    -- as many receivers, sources and groups as a table may have
    pub has_few : HasFew rows
    has_few = record {
      receivers = omega (arith, few_receivers e sound plain, sound.few_receivers);
      sources = omega (arith, few_sources e sound plain, sound.few_sources);
      groups = omega (arith, group_count, sound.few_groups);
    }

    pub outputs_few : (row : ImportRow) → IsRowOf e row → count_by (same_name Groups row) rows ≤ 128
    outputs_few y Y =
        let G = group_rows y Y in
        let many : count_by (same_name Groups y) rows ≡ length G.outputs = sym (length-filter (same_name Groups y) rows) ∙ ap length G.are ∙ length-map G.outputs (read_output e Y.group) in
        let count = all_at (λ (os : List OutputRow). (1 ≤ length os) × (length os ≤ 128)) e.outputs Y.group_at.0 G.outputs sound.some_outputs G.listed in
        omega (arith, many, count.1)

    root_stop : IsFine root (Root, root)
    unfolding root_members
    root_stop kind =
        root_fine (part_trees Groups rows) (part_trees Receivers rows) (part_trees Sources rows)
        (omega (arith, length-map (firsts Receivers rows) (part_tree Receivers rows), few_receivers e sound plain, sound.few_receivers))
        (omega (arith, length-map (firsts Sources rows) (part_tree Sources rows), few_sources e sound plain, sound.few_sources))
        (omega (arith, length-map (groups_of rows) (part_tree Groups rows), group_count, sound.few_groups)) kind

    fine_at_stops : HoldsAtStops (IsFine root) root
    fine_at_stops = record {
      at_root = root_stop;
      at_receivers = λ i d at.
          let y = mapped_at receiver_tree (firsts Receivers rows) i d (ap (λ (ds : List Data). slice_get ds i) (sym receivers_at) ∙ at) in
          subst (λ (c : Data). IsFine root (Receiver i, c)) y.2 (receiver_stop i y.0 y.1);
      at_sources = λ i d at.
          let y = mapped_at source_tree (firsts Sources rows) i d (ap (λ (ds : List Data). slice_get ds i) (sym sources_at) ∙ at) in
          subst (λ (c : Data). IsFine root (Source i, c)) y.2 (source_stop i y.0 y.1);
      at_groups = λ i d at.
          let y = mapped_at (group_tree rows) (firsts Groups rows) i d (ap (λ (ds : List Data). slice_get ds i) (sym groups_at) ∙ at) in
          subst (λ (c : Data). IsFine root (Group i, c)) y.2 (group_stop i y.0 y.1);
      at_outputs = λ i j g d at there.
          let y = mapped_at (group_tree rows) (firsts Groups rows) i g (ap (λ (ds : List Data). slice_get ds i) (sym groups_at) ∙ at) in
          output_stop i y.0 j d y.1 (ap (λ (c : Data). slice_get (rows_at (codes "output") c) j) y.2 ∙ there);
    }

    -- the tree of the rows has no fault
    pub none_at_all : faults root ≡ []
    none_at_all = no_faults root fine_at_stops
