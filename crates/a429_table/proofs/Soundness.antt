-- The record that a table without faults states is sound.
use Rattle.std.proofs.Common.{◌≡◌, ℕ, ◌<◌, ◌≤◌, true, false, is_none, List, [], ◌∷◌, length, map, codes, None, arith}
use Rattle.std.proofs.lemmas.Bool.{ltb-false, or_parts, not-false}
use Rattle.std.proofs.lemmas.Bool.Decides.{nat_tests}
use Rattle.std.proofs.Math.ListN.{length-map}
use Rattle.std.specs.List.{flat_map, enumerate_from, AllByRecursion}
use Rattle.toml.specs.Data.{Data, get}
use Rattle.a429_word.proofs.Lists.{all_mapped}
use Rattle.a429_table.specs.declared.fault.FaultKind.{FaultKind}
use Rattle.a429_table.specs.declared.fault.FaultKind.TheVariants.{Rate, TooMany, Name, DuplicateName, Label, Sdi, Interval, UnknownName, DuplicateSource, DuplicateOutput, EmptyGroup, Hold}
use Rattle.a429_table.specs.declared.fault.TablePlace.TheVariants.{Root, Receiver, Source, Group, Output}
use Rattle.a429_equipment.specs.declared.rows.OutputRow.{OutputRow}
use Rattle.a429_table.specs.declared.walk.Rows.TheVariants.{Receivers, Sources, Outputs}
use Rattle.a429_table.specs.Tree.{text_at, rows_at, integer_at}
use Rattle.a429_word.specs.Texts.{label_value}
use Rattle.a429_table.specs.Version.{version_of}
use Rattle.a429_table.specs.Names.{number_named}
use Rattle.a429_table.specs.Walk.{group_stops, walk}
use Rattle.a429_table.specs.Faults.{first, faults, stands, is_sdi, has_too_many, has_bad_label, has_bad_sdi, has_bad_interval, names_nothing, is_empty_group}
use Rattle.a429_table.specs.Least.{StandsAtNone}
use Rattle.a429_table.specs.Stated.{stated, source_row, rate_of, output_row, output_rows}
use Rattle.a429_equipment.specs.Sound.{IsInterval, IsHold, IsSound}
use Rattle.a429_table.proofs.Absence.{IsFaultless, is_faultless, is_absent, rows_hold, groups_hold}
use Rattle.a429_table.proofs.SoundValues.{is_interval_within}
use Rattle.a429_table.proofs.Versions.{one_or_two, root_rate, group_rates, one_rate, own_rates, hold_at, no_holds}
use Rattle.a429_table.proofs.Places.{number-lt-length}
use Rattle.a429_table.proofs.Apart.{IsSource, are_apart}
use Rattle.a429_table.proofs.Own.{own_receivers, own_names, own_groups, own_sources}
use Rattle.a429_table.proofs.SoundRows.{receiver_names, receivers_are, source_rows_are, group_rows_are}

-- no more than allowed
pub record IsFew (root : Data) : Type 0 where
  pub receivers : length (rows_at (codes "receiver") root) ≤ 16
  sources : length (rows_at (codes "source") root) ≤ 256
  groups : length (rows_at (codes "group") root) ≤ 8

pub few : (root : Data) → stands root TooMany (Root, root) ≡ false → IsFew root
unfolding stands has_too_many
few root h =
    let all = or_parts _ _ h in
    let two = or_parts _ _ all.0 in
    record { receivers = ltb-false 16 _ two.0; sources = ltb-false 256 _ two.1; groups = ltb-false 8 _ all.1 }

few_filters_at : (root : Data) (n : ℕ) (d : Data) → stands root TooMany (Receiver n, d) ≡ false → length (rows_at (codes "filters") d) ≤ 32
unfolding stands has_too_many
few_filters_at root n d h = ltb-false 32 _ h

-- ---- sources

known_at : (root : Data) (n : ℕ) (d : Data) → stands root UnknownName (Source n, d) ≡ false → is_none (number_named (text_at (codes "receiver") d) (rows_at (codes "receiver") root)) ≡ false
unfolding stands names_nothing
known_at root n d h = h

label_at : (root : Data) (n : ℕ) (d : Data) → stands root Label (Source n, d) ≡ false → is_none (label_value (text_at (codes "label") d)) ≡ false
unfolding stands has_bad_label
label_at root n d h = h

sdi_is : (root : Data) (n : ℕ) (d : Data) → stands root Sdi (Source n, d) ≡ false → is_sdi (get (codes "sdi") d) ≡ true
unfolding stands has_bad_sdi
sdi_is root n d h = not-false _ h

sources_are : (root : Data) (ds : List Data) → AllByRecursion (λ d. is_none (number_named (text_at (codes "receiver") d) (rows_at (codes "receiver") root)) ≡ false) ds
    → AllByRecursion (λ d. is_none (label_value (text_at (codes "label") d)) ≡ false) ds → AllByRecursion (λ d. is_sdi (get (codes "sdi") d) ≡ true) ds → AllByRecursion (IsSource root) ds
sources_are root [] h i j = tt
sources_are root (d ∷ ds) h i j = (record { known = h.0; label = i.0; sdi = j.0 }, sources_are root ds h.1 i.1 j.1)

receiver_below : (root : Data) (ds : List Data) → AllByRecursion (IsSource root) ds → AllByRecursion (λ d. (source_row root d).receiver < length (rows_at (codes "receiver") root)) ds
unfolding source_row
receiver_below root [] h = tt
receiver_below root (d ∷ ds) h =
    (number-lt-length (text_at (codes "receiver") d) (rows_at (codes "receiver") root) h.0.known, receiver_below root ds h.1)

pub good_sources : (root : Data) → StandsAtNone root (walk root) UnknownName → StandsAtNone root (walk root) Label → StandsAtNone root (walk root) Sdi → AllByRecursion (IsSource root) (rows_at (codes "source") root)
good_sources root no_name no_label no_sdi =
    let ds = rows_at (codes "source") root in
    let names = is_absent root UnknownName no_name in
    let labels = is_absent root Label no_label in
    let sdis = is_absent root Sdi no_sdi in
    sources_are root ds (rows_hold Sources _ _ (known_at root) 0 ds names.at_sources) (rows_hold Sources _ _ (label_at root) 0 ds labels.at_sources) (rows_hold Sources _ _ (sdi_is root) 0 ds sdis.at_sources)

-- ---- groups and outputs

some_at : (root : Data) (n : ℕ) (g : Data) → stands root EmptyGroup (Group n, g) ≡ false → 1 ≤ length (rows_at (codes "output") g)
unfolding stands is_empty_group
some_at root n g h = grind (arith, nat_tests)

few_outputs_at : (root : Data) (n : ℕ) (g : Data) → stands root TooMany (Group n, g) ≡ false → length (rows_at (codes "output") g) ≤ 128
unfolding stands has_too_many
few_outputs_at root n g h = ltb-false 128 _ h

count_is : (root : Data) (gs : List Data) → AllByRecursion (λ g. 1 ≤ length (rows_at (codes "output") g)) gs → AllByRecursion (λ g. length (rows_at (codes "output") g) ≤ 128) gs
    → AllByRecursion (λ g. (1 ≤ length (output_rows root g)) × (length (output_rows root g) ≤ 128)) gs
count_is root [] h i = tt
count_is root (g ∷ gs) h i = ((rw length-map h.0, rw length-map i.0), count_is root gs h.1 i.1)

source_below : (root : Data) (n j : ℕ) (d : Data) → stands root UnknownName (Output n j, d) ≡ false → (output_row root d).source < length (rows_at (codes "source") root)
unfolding stands names_nothing output_row
source_below root n j d h = number-lt-length (text_at (codes "source") d) (rows_at (codes "source") root) h

interval_at : (root : Data) (n j : ℕ) (d : Data) → stands root Interval (Output n j, d) ≡ false → IsInterval (output_row root d)
unfolding stands has_bad_interval output_row
interval_at root n j d h = is_interval_within (integer_at (codes "min_us") d) (integer_at (codes "max_us") d) h

-- what is true of each output is true of the rows of each group
outputs_hold : (root : Data) (kind : FaultKind) (Q : OutputRow → Type 0) → ((n j : ℕ) (d : Data) → stands root kind (Output n j, d) ≡ false → Q (output_row root d))
    → StandsAtNone root (flat_map group_stops (enumerate_from 0 (rows_at (codes "group") root))) kind
    → AllByRecursion (AllByRecursion Q) (map (output_rows root) (rows_at (codes "group") root))
outputs_hold root kind Q each h =
    all_mapped (output_rows root) (AllByRecursion Q) (rows_at (codes "group") root)
    (groups_hold (λ s. stands root kind s ≡ false) (λ g. AllByRecursion Q (output_rows root g))
    (λ n g _ rows. all_mapped (output_row root) Q (rows_at (codes "output") g) (rows_hold (Outputs n) (λ s. stands root kind s ≡ false) (λ d. Q (output_row root d)) (each n) 0 (rows_at (codes "output") g) rows))
    0 (rows_at (codes "group") root) h)

counts : (root : Data) → IsFaultless root → AllByRecursion (λ os. (1 ≤ length os) × (length os ≤ 128)) (map (output_rows root) (rows_at (codes "group") root))
counts root h =
    let gs = rows_at (codes "group") root in
    let empty = is_absent root EmptyGroup h.empty_group in
    let many = is_absent root TooMany h.too_many in
    all_mapped (output_rows root) _ gs
    (count_is root gs (groups_hold _ _ (λ n g e _. some_at root n g e) 0 gs empty.at_groups) (groups_hold _ _ (λ n g e _. few_outputs_at root n g e) 0 gs many.at_groups))

-- no receiver has more filters than a set takes
pub few_filters : (root : Data) → first (faults root) ≡ None → AllByRecursion (λ d. length (rows_at (codes "filters") d) ≤ 32) (rows_at (codes "receiver") root)
few_filters root none =
    let h = is_faultless root none in
    let many = is_absent root TooMany h.too_many in
    rows_hold Receivers _ _ (few_filters_at root) 0 (rows_at (codes "receiver") root) many.at_receivers

pub is_sound : (root : Data) → first (faults root) ≡ None → IsSound (stated root)
unfolding stated
is_sound root none =
    let h = is_faultless root none in
    let rates = is_absent root Rate h.rate in
    let many = is_absent root TooMany h.too_many in
    let names = is_absent root UnknownName h.unknown_name in
    let intervals = is_absent root Interval h.interval in
    let holds = is_absent root Hold h.hold in
    let version = version_of root in
    let rate = rate_of version root in
    let titles = is_absent root Name h.name in
    let duplicates = is_absent root DuplicateSource h.duplicate_source in
    let repeated = is_absent root DuplicateName h.duplicate_name in
    let limits = few root many.at_root in
    let good = good_sources root h.unknown_name h.label h.sdi in
    record {
      version = one_or_two version;
      rate = root_rate root rates;
      one_rate = one_rate version root (rows_at (codes "group") root);
      own_rates = own_rates version root;
      few_receivers = rw length-map limits.receivers;
      few_sources = rw length-map limits.sources;
      few_groups = rw length-map limits.groups;
      outputs_of_groups = rw (length-map, length-map);
      some_outputs = counts root h;
      known_receivers = rw length-map (all_mapped (source_row root) _ (rows_at (codes "source") root) (receiver_below root (rows_at (codes "source") root) good));
      known_sources = rw length-map (outputs_hold root UnknownName (λ o. o.source < length (rows_at (codes "source") root)) (source_below root) names.at_groups);
      receiver_rows = receivers_are (rows_at (codes "receiver") root) (receiver_names root titles) (few_filters root none);
      source_rows = source_rows_are root titles;
      group_rows = group_rows_are root rate titles (group_rates root rates);
      intervals = outputs_hold root Interval IsInterval (interval_at root) intervals.at_groups;
      holds = outputs_hold root Hold IsHold (hold_at root) holds.at_groups;
      no_holds = no_holds root;
      apart = are_apart root good duplicates.at_sources;
      own_receivers = own_receivers root repeated;
      own_names = own_names root repeated;
      own_groups = own_groups root rate repeated;
      own_sources = own_sources root names (is_absent root DuplicateOutput h.duplicate_output);
    }
