-- The stops of a table that is printed of rows in range have no kind of fault.
use Rattle.std.proofs.Common.{◌≡◌, ◌∙◌, ℕ, ◌<◌, ◌≤◌, pos, Bool, true, false, List, length, Option, None, Some, codes, ap, refl, arith, inl, inr, le-leb, le-ltb, ne_eqb}
use Rattle.std.specs.Prelude.{◌&&◌, ◌||◌, IfSome, is_none, int_le, nat_le, nat_lt, not}
use Rattle.std.specs.List.{list_any}
use Rattle.std.specs.Str.{bytes_eq}
use Rattle.std.proofs.lemmas.Bool.{and_from}
use Rattle.toml.specs.Data.{Data, member, no_members, string, table}
use Rattle.a429_word.specs.Texts.{octal}
use Rattle.a429_word.proofs.LabelTexts.{value_of_written}
use Rattle.a429_equipment.specs.NameForm.{is_name}
use Rattle.a429_equipment.specs.Sound.{IsRate}
use Rattle.a429_equipment.specs.declared.version.TableVersion.{TableVersion}
use Rattle.a429_equipment.specs.declared.version.TableVersion.TheVariants.{Two}
use Rattle.a429_table.specs.declared.fault.FaultKind.{FaultKind}
use Rattle.a429_table.specs.declared.fault.FaultKind.TheVariants.{NotToml, Version, UnknownKey, MissingKey, WrongKind, Rate, TooMany, Name, DuplicateName, Label, Sdi, Interval, UnknownName, DuplicateSource, DuplicateOutput, EmptyGroup, Hold}
use Rattle.a429_table.specs.declared.fault.TablePlace.TheVariants.{Root, Group, Output, Receiver, Source}
use Rattle.a429_table.specs.Columns.{columns}
use Rattle.a429_table.specs.Faults.{has_bad_hold, has_bad_interval, has_bad_label, has_bad_name, has_bad_sdi, has_too_many, has_unknown_key, has_wrong_kind, has_wrong_rate, has_wrong_version, is_empty_group, is_interval, is_rate, is_within, lacks_key, names_nothing, repeats_name, repeats_output, repeats_source, same_words, source_of, sources_meet, stands}
use Rattle.a429_table.specs.Names.{name_of, number_named}
use Rattle.a429_table.specs.Tree.{integer_at, get_integer, rows_at, text_at}
use Rattle.a429_table.specs.Version.{version_of}
use Rattle.a429_table.specs.Walk.{earlier}
use Rattle.a429_table.proofs.Trees.{elements-items_of}
use Rattle.a429_import.specs.ImportTables.{listed, number, sdi_data, with_hold}

-- ---- tests

rate_ok : (rate : ℕ) → IsRate rate → is_rate (pos rate) ≡ true
rate_ok rate (inl fast) = rw (le-leb 100000 rate (omega (arith, fast)), le-leb rate 100000 (omega (arith, fast))) refl
rate_ok rate (inr slow) = last (is_within 100000 100000 (pos rate)) (and_from (nat_le 12000 rate) (nat_le rate 14500) (le-leb 12000 rate slow.0) (le-leb rate 14500 slow.1))
  where
    last : (a : Bool) → is_within 12000 14500 (pos rate) ≡ true → (a || is_within 12000 14500 (pos rate)) ≡ true
    last true h = refl
    last false h = h

interval_ok : (least most : ℕ) → 1 ≤ least → least ≤ most → most ≤ 30000000 → is_interval (pos least) (pos most) ≡ true
interval_ok least most some rising few =
    and_from (is_within 1 30000000 (pos least) && is_within 1 30000000 (pos most)) (int_le (pos least) (pos most))
    (and_from (is_within 1 30000000 (pos least)) (is_within 1 30000000 (pos most))
    (and_from (nat_le 1 least) (nat_le least 30000000) (le-leb 1 least some) (le-leb least 30000000 (omega (arith, rising, few))))
    (and_from (nat_le 1 most) (nat_le most 30000000) (le-leb 1 most (omega (arith, some, rising))) (le-leb most 30000000 few)))
    (le-leb least most rising)

none_of_three : (a b c : Bool) → a ≡ false → b ≡ false → c ≡ false → ((a || b) || c) ≡ false
none_of_three a b c one two three = rw (one, two, three) refl

-- ---- the root

abbrev root_of : List Data → List Data → List Data → Data
root_of groups receivers sources = table (
    member (codes "group") (listed groups) (member (codes "receiver") (listed receivers) (member (codes "source") (listed sources) (member (codes "version") (number 2) no_members))))

few_rows : (groups receivers sources : List Data) → length receivers ≤ 16 → length sources ≤ 256 → length groups ≤ 8 → has_too_many Root (root_of groups receivers sources) ≡ false
unfolding has_too_many rows_at
few_rows groups receivers sources few_receivers few_sources few_groups =
    rw (elements-items_of receivers, elements-items_of sources, elements-items_of groups)
    (none_of_three (nat_lt 16 (length receivers)) (nat_lt 256 (length sources)) (nat_lt 8 (length groups)) (le-ltb 16 (length receivers) few_receivers) (le-ltb 256 (length sources) few_sources) (le-ltb 8 (length groups) few_groups))

pub root_fine : (groups receivers sources : List Data) → length receivers ≤ 16 → length sources ≤ 256 → length groups ≤ 8 → (kind : FaultKind) → stands (root_of groups receivers sources) kind (Root, root_of groups receivers sources) ≡ false
unfolding stands has_wrong_version has_unknown_key lacks_key has_wrong_kind has_wrong_rate has_bad_name repeats_name has_bad_label has_bad_sdi has_bad_interval names_nothing repeats_source repeats_output is_empty_group has_bad_hold columns rows_at text_at integer_at get_integer version_of
root_fine groups receivers sources few_receivers few_sources few_groups NotToml = refl
root_fine groups receivers sources few_receivers few_sources few_groups Version = refl
root_fine groups receivers sources few_receivers few_sources few_groups UnknownKey = refl
root_fine groups receivers sources few_receivers few_sources few_groups MissingKey = refl
root_fine groups receivers sources few_receivers few_sources few_groups WrongKind = refl
root_fine groups receivers sources few_receivers few_sources few_groups Rate = refl
root_fine groups receivers sources few_receivers few_sources few_groups TooMany = few_rows groups receivers sources few_receivers few_sources few_groups
root_fine groups receivers sources few_receivers few_sources few_groups Name = refl
root_fine groups receivers sources few_receivers few_sources few_groups DuplicateName = refl
root_fine groups receivers sources few_receivers few_sources few_groups Label = refl
root_fine groups receivers sources few_receivers few_sources few_groups Sdi = refl
root_fine groups receivers sources few_receivers few_sources few_groups Interval = refl
root_fine groups receivers sources few_receivers few_sources few_groups UnknownName = refl
root_fine groups receivers sources few_receivers few_sources few_groups DuplicateSource = refl
root_fine groups receivers sources few_receivers few_sources few_groups DuplicateOutput = refl
root_fine groups receivers sources few_receivers few_sources few_groups EmptyGroup = refl
root_fine groups receivers sources few_receivers few_sources few_groups Hold = refl

-- ---- receivers

abbrev pub bare_receiver : List ℕ → Data
bare_receiver name = table (member (codes "name") (string name) no_members)

pub receiver_fine : (root : Data) (i : ℕ) (name : List ℕ) → version_of root ≡ Two → is_name name ≡ true → list_any (λ e. bytes_eq name (name_of e)) (earlier root (Receiver i)) ≡ false
    → (kind : FaultKind) → stands root kind (Receiver i, bare_receiver name) ≡ false
unfolding stands has_wrong_version has_unknown_key lacks_key has_wrong_kind has_wrong_rate has_too_many has_bad_name repeats_name has_bad_label has_bad_sdi has_bad_interval names_nothing repeats_source repeats_output is_empty_group has_bad_hold columns rows_at text_at integer_at get_integer
receiver_fine root i name two good own NotToml = refl
receiver_fine root i name two good own Version = refl
receiver_fine root i name two good own UnknownKey = ap (λ (v : TableVersion). has_unknown_key v (Receiver i) (bare_receiver name)) two
receiver_fine root i name two good own MissingKey = ap (λ (v : TableVersion). lacks_key v (Receiver i) (bare_receiver name)) two
receiver_fine root i name two good own WrongKind = ap (λ (v : TableVersion). has_wrong_kind v (Receiver i) (bare_receiver name)) two
receiver_fine root i name two good own Rate = ap (λ (v : TableVersion). has_wrong_rate v (Receiver i) (bare_receiver name)) two
receiver_fine root i name two good own TooMany = refl
receiver_fine root i name two good own Name = rw good refl
receiver_fine root i name two good own DuplicateName = own
receiver_fine root i name two good own Label = refl
receiver_fine root i name two good own Sdi = refl
receiver_fine root i name two good own Interval = refl
receiver_fine root i name two good own UnknownName = refl
receiver_fine root i name two good own DuplicateSource = refl
receiver_fine root i name two good own DuplicateOutput = refl
receiver_fine root i name two good own EmptyGroup = refl
receiver_fine root i name two good own Hold = refl

-- ---- sources

abbrev pub source_data : ℕ → List ℕ → List ℕ → Option ℕ → Data
source_data label name receiver sdi = table (
    member (codes "label") (string (octal label)) (member (codes "name") (string name) (member (codes "receiver") (string receiver) (member (codes "sdi") (sdi_data sdi) no_members))))

shape_fine : (i label : ℕ) (name receiver : List ℕ) (sdi : Option ℕ) → has_wrong_kind Two (Source i) (source_data label name receiver sdi) ≡ false
unfolding has_wrong_kind columns
shape_fine i label name receiver None = refl
shape_fine i label name receiver (Some k) = refl

sdi_fine : (i label : ℕ) (name receiver : List ℕ) (sdi : Option ℕ) → IfSome sdi (λ k. k < 4) → has_bad_sdi (Source i) (source_data label name receiver sdi) ≡ false
unfolding has_bad_sdi
sdi_fine i label name receiver None small = refl
sdi_fine i label name receiver (Some k) small = rw (le-leb 0 k (omega arith), le-leb k 3 (omega (arith, small))) refl

pub source_fine : (root : Data) (i label : ℕ) (name receiver : List ℕ) (sdi : Option ℕ) → version_of root ≡ Two → label < 256 → is_name name ≡ true → IfSome sdi (λ k. k < 4)
    → list_any (λ e. bytes_eq name (name_of e)) (earlier root (Source i)) ≡ false → is_none (number_named receiver (rows_at (codes "receiver") root)) ≡ false
    → list_any (λ e. sources_meet e (source_data label name receiver sdi)) (earlier root (Source i)) ≡ false → (kind : FaultKind) → stands root kind (Source i, source_data label name receiver sdi) ≡ false
unfolding stands has_wrong_version has_unknown_key lacks_key has_wrong_rate has_too_many has_bad_name repeats_name has_bad_label has_bad_interval names_nothing repeats_source repeats_output is_empty_group has_bad_hold columns rows_at text_at integer_at get_integer
source_fine root i label name receiver sdi two few good small own known apart NotToml = refl
source_fine root i label name receiver sdi two few good small own known apart Version = refl
source_fine root i label name receiver sdi two few good small own known apart UnknownKey = ap (λ (v : TableVersion). has_unknown_key v (Source i) (source_data label name receiver sdi)) two
source_fine root i label name receiver sdi two few good small own known apart MissingKey = ap (λ (v : TableVersion). lacks_key v (Source i) (source_data label name receiver sdi)) two
source_fine root i label name receiver sdi two few good small own known apart WrongKind = ap (λ (v : TableVersion). has_wrong_kind v (Source i) (source_data label name receiver sdi)) two ∙ shape_fine i label name receiver sdi
source_fine root i label name receiver sdi two few good small own known apart Rate = ap (λ (v : TableVersion). has_wrong_rate v (Source i) (source_data label name receiver sdi)) two
source_fine root i label name receiver sdi two few good small own known apart TooMany = refl
source_fine root i label name receiver sdi two few good small own known apart Name = rw good refl
source_fine root i label name receiver sdi two few good small own known apart DuplicateName = own
source_fine root i label name receiver sdi two few good small own known apart Label = ap is_none (value_of_written label few)
source_fine root i label name receiver sdi two few good small own known apart Sdi = sdi_fine i label name receiver sdi small
source_fine root i label name receiver sdi two few good small own known apart Interval = refl
source_fine root i label name receiver sdi two few good small own known apart UnknownName = known
source_fine root i label name receiver sdi two few good small own known apart DuplicateSource = apart
source_fine root i label name receiver sdi two few good small own known apart DuplicateOutput = refl
source_fine root i label name receiver sdi two few good small own known apart EmptyGroup = refl
source_fine root i label name receiver sdi two few good small own known apart Hold = refl

-- ---- groups

abbrev pub group_data : List ℕ → List Data → ℕ → Data
group_data name outputs rate = table (member (codes "name") (string name) (member (codes "output") (listed outputs) (member (codes "rate") (number rate) no_members)))

pub outputs_at : (name : List ℕ) (outputs : List Data) (rate : ℕ) → rows_at (codes "output") (group_data name outputs rate) ≡ outputs
unfolding rows_at
outputs_at name outputs rate = elements-items_of outputs

some_rows : (i : ℕ) (name : List ℕ) (outputs : List Data) (rate : ℕ) → 1 ≤ length outputs → is_empty_group (Group i) (group_data name outputs rate) ≡ false
unfolding is_empty_group
some_rows i name outputs rate some = rw (outputs_at name outputs rate) (ne_eqb (length outputs) 0 (λ z. omega (arith, z, some)))

few_outputs : (i : ℕ) (name : List ℕ) (outputs : List Data) (rate : ℕ) → length outputs ≤ 128 → has_too_many (Group i) (group_data name outputs rate) ≡ false
unfolding has_too_many
few_outputs i name outputs rate few = rw (outputs_at name outputs rate) (le-ltb 128 (length outputs) few)

pub group_fine : (root : Data) (i : ℕ) (name : List ℕ) (outputs : List Data) (rate : ℕ) → version_of root ≡ Two → is_name name ≡ true → list_any (λ e. bytes_eq name (name_of e)) (earlier root (Group i)) ≡ false → IsRate rate
    → 1 ≤ length outputs → length outputs ≤ 128 → (kind : FaultKind) → stands root kind (Group i, group_data name outputs rate) ≡ false
unfolding stands has_wrong_version has_unknown_key lacks_key has_wrong_kind has_wrong_rate has_bad_name repeats_name has_bad_label has_bad_sdi has_bad_interval names_nothing repeats_source repeats_output has_bad_hold columns text_at integer_at get_integer
group_fine root i name outputs rate two good own rated some few NotToml = refl
group_fine root i name outputs rate two good own rated some few Version = refl
group_fine root i name outputs rate two good own rated some few UnknownKey = ap (λ (v : TableVersion). has_unknown_key v (Group i) (group_data name outputs rate)) two
group_fine root i name outputs rate two good own rated some few MissingKey = ap (λ (v : TableVersion). lacks_key v (Group i) (group_data name outputs rate)) two
group_fine root i name outputs rate two good own rated some few WrongKind = ap (λ (v : TableVersion). has_wrong_kind v (Group i) (group_data name outputs rate)) two
group_fine root i name outputs rate two good own rated some few Rate = ap (λ (v : TableVersion). has_wrong_rate v (Group i) (group_data name outputs rate)) two ∙ ap not (rate_ok rate rated)
group_fine root i name outputs rate two good own rated some few TooMany = few_outputs i name outputs rate few
group_fine root i name outputs rate two good own rated some few Name = rw good refl
group_fine root i name outputs rate two good own rated some few DuplicateName = own
group_fine root i name outputs rate two good own rated some few Label = refl
group_fine root i name outputs rate two good own rated some few Sdi = refl
group_fine root i name outputs rate two good own rated some few Interval = refl
group_fine root i name outputs rate two good own rated some few UnknownName = refl
group_fine root i name outputs rate two good own rated some few DuplicateSource = refl
group_fine root i name outputs rate two good own rated some few DuplicateOutput = refl
group_fine root i name outputs rate two good own rated some few EmptyGroup = some_rows i name outputs rate some
group_fine root i name outputs rate two good own rated some few Hold = refl

-- ---- outputs

abbrev pub output_data : List ℕ → ℕ → ℕ → Option ℕ → Data
output_data source least most hold = table (with_hold hold (member (codes "max_us") (number most) (member (codes "min_us") (number least) (member (codes "source") (string source) no_members))))

-- an output with or without a hold
pub record IsOutputFine (root : Data) (i j : ℕ) (source : List ℕ) (least most : ℕ) (hold : Option ℕ) : Type 0 where
  pub two : version_of root ≡ Two
  pub some : 1 ≤ least
  pub rising : least ≤ most
  pub few : most ≤ 30000000
  pub held : IfSome hold (λ n. (1 ≤ n) × (n ≤ 1000000))
  pub known : is_none (number_named source (rows_at (codes "source") root)) ≡ false
  pub apart : list_any (λ e. same_words (source_of root e) (source_of root (output_data source least most hold))) (earlier root (Output i j)) ≡ false

pub output_fine : (root : Data) (i j : ℕ) (source : List ℕ) (least most : ℕ) (hold : Option ℕ) → IsOutputFine root i j source least most hold → (kind : FaultKind) → stands root kind (Output i j, output_data source least most hold) ≡ false
unfolding stands has_wrong_version has_unknown_key lacks_key has_wrong_kind has_wrong_rate has_too_many has_bad_name repeats_name has_bad_label has_bad_sdi has_bad_interval names_nothing repeats_source repeats_output is_empty_group has_bad_hold columns text_at integer_at get_integer
output_fine root i j source least most None F NotToml = refl
output_fine root i j source least most None F Version = refl
output_fine root i j source least most None F UnknownKey = ap (λ (v : TableVersion). has_unknown_key v (Output i j) (output_data source least most None)) F.two
output_fine root i j source least most None F MissingKey = ap (λ (v : TableVersion). lacks_key v (Output i j) (output_data source least most None)) F.two
output_fine root i j source least most None F WrongKind = ap (λ (v : TableVersion). has_wrong_kind v (Output i j) (output_data source least most None)) F.two
output_fine root i j source least most None F Rate = ap (λ (v : TableVersion). has_wrong_rate v (Output i j) (output_data source least most None)) F.two
output_fine root i j source least most None F TooMany = refl
output_fine root i j source least most None F Name = refl
output_fine root i j source least most None F DuplicateName = refl
output_fine root i j source least most None F Label = refl
output_fine root i j source least most None F Sdi = refl
output_fine root i j source least most None F Interval = ap not (interval_ok least most F.some F.rising F.few)
output_fine root i j source least most None F UnknownName = F.known
output_fine root i j source least most None F DuplicateSource = refl
output_fine root i j source least most None F DuplicateOutput = F.apart
output_fine root i j source least most None F EmptyGroup = refl
output_fine root i j source least most None F Hold = refl
output_fine root i j source least most (Some n) F NotToml = refl
output_fine root i j source least most (Some n) F Version = refl
output_fine root i j source least most (Some n) F UnknownKey = ap (λ (v : TableVersion). has_unknown_key v (Output i j) (output_data source least most (Some n))) F.two
output_fine root i j source least most (Some n) F MissingKey = ap (λ (v : TableVersion). lacks_key v (Output i j) (output_data source least most (Some n))) F.two
output_fine root i j source least most (Some n) F WrongKind = ap (λ (v : TableVersion). has_wrong_kind v (Output i j) (output_data source least most (Some n))) F.two
output_fine root i j source least most (Some n) F Rate = ap (λ (v : TableVersion). has_wrong_rate v (Output i j) (output_data source least most (Some n))) F.two
output_fine root i j source least most (Some n) F TooMany = refl
output_fine root i j source least most (Some n) F Name = refl
output_fine root i j source least most (Some n) F DuplicateName = refl
output_fine root i j source least most (Some n) F Label = refl
output_fine root i j source least most (Some n) F Sdi = refl
output_fine root i j source least most (Some n) F Interval = ap not (interval_ok least most F.some F.rising F.few)
output_fine root i j source least most (Some n) F UnknownName = F.known
output_fine root i j source least most (Some n) F DuplicateSource = refl
output_fine root i j source least most (Some n) F DuplicateOutput = F.apart
output_fine root i j source least most (Some n) F EmptyGroup = refl
output_fine root i j source least most (Some n) F Hold = rw (le-leb 1 n F.held.0, le-leb n 1000000 F.held.1) refl
