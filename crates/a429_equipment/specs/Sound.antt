-- What is true of the record of each equipment (profile: equipment table). It keeps to the limits, each number and name is in range, and its sources
-- are apart. No two receivers, sources or groups have the same name, and no two outputs of a group the same source.
use Rattle.std.specs.Prelude.{◌≡◌, ℕ, ◌<◌, ◌≤◌, ◌⊎◌, List, length, Some, None, IfSome, IsTrue, slice_get}
use Rattle.std.specs.List.{AllByRecursion}
use Rattle.a429_filter.specs.declared.filters.Filter.{Filter}
use Rattle.a429_filter.specs.Filters.{filters_of}
use Rattle.a429_equipment.specs.declared.rows.ReceiverRow.{ReceiverRow}
use Rattle.a429_equipment.specs.declared.rows.SourceRow.{SourceRow}
use Rattle.a429_equipment.specs.declared.rows.GroupRow.{GroupRow}
use Rattle.a429_equipment.specs.declared.rows.OutputRow.{OutputRow}
use Rattle.a429_equipment.specs.TableRecord.{TableRecord}
use Rattle.a429_equipment.specs.Arrivals.{SourcesAreApart}
use Rattle.a429_equipment.specs.Limits.{longest_interval, most_sends}
use Rattle.a429_equipment.specs.NameForm.{is_name}

-- 100000 bit/s, or 12000 to 14500 (ARINC 429 Part 1: low speed and high speed)
abbrev pub IsRate : ℕ → Type 0
IsRate rate = (rate ≡ 100000) ⊎ ((12000 ≤ rate) × (rate ≤ 14500))

-- in version 1 the table has one rate, which is each group's (profile: equipment table)
abbrev pub HasOneRate : TableRecord → Type 0
HasOneRate t = (rate : ℕ) × (t.rate ≡ Some rate) × AllByRecursion (λ g. g.rate ≡ rate) t.groups

-- in microseconds
abbrev pub IsInterval : OutputRow → Type 0
IsInterval o = (1 ≤ o.min_us) × (o.min_us ≤ o.max_us) × (o.max_us ≤ longest_interval)

-- 1 to a million, if there is a hold (profile: equipment table, version 2)
abbrev pub IsHold : OutputRow → Type 0
IsHold o = IfSome o.hold (λ hold. (1 ≤ hold) × (hold ≤ most_sends))

-- no output has a hold
abbrev pub HaveNoHolds : List (List OutputRow) → Type 0
HaveNoHolds outputs = AllByRecursion (AllByRecursion (λ o. o.hold ≡ None)) outputs

-- a label and a mask of 8 bits
abbrev pub IsFilter : Filter → Type 0
IsFilter f = (f.label < 256) × (f.mask < 256)

-- a name of its form, and at most 32 filters
abbrev pub IsReceiverRow : ReceiverRow → Type 0
IsReceiverRow r = IsTrue (is_name r.name) × (length (filters_of r.filters) ≤ 32) × AllByRecursion IsFilter (filters_of r.filters)

-- a name of its form, a label of 8 bits, and an SDI of 2 bits or any
abbrev pub IsSourceRow : SourceRow → Type 0
IsSourceRow s = IsTrue (is_name s.name) × (s.label < 256) × IfSome s.sdi (λ k. k < 4)

-- a name of its form, and a rate in range
abbrev pub IsGroupRow : GroupRow → Type 0
IsGroupRow g = IsTrue (is_name g.name) × IsRate g.rate

-- no two of them have one key
abbrev pub HaveOwn : {X K : Type 0} → (X → K) → List X → Type 0
HaveOwn {X} key xs = (i j : ℕ) (x y : X) → slice_get xs i ≡ Some x → slice_get xs j ≡ Some y → key x ≡ key y → i ≡ j

-- no two outputs of a group have one source
abbrev pub HaveOwnSources : List OutputRow → Type 0
HaveOwnSources outputs = HaveOwn (λ o. o.source) outputs

pub record IsSound (t : TableRecord) : Type 0 where
  pub version : (t.version ≡ 1) ⊎ (t.version ≡ 2)
  pub rate : IfSome t.rate IsRate
  pub one_rate : t.version ≡ 1 → HasOneRate t
  pub own_rates : t.version ≡ 2 → t.rate ≡ None
  pub few_receivers : length t.receivers ≤ 16
  pub few_sources : length t.sources ≤ 256
  pub few_groups : length t.groups ≤ 8
  pub outputs_of_groups : length t.outputs ≡ length t.groups
  pub some_outputs : AllByRecursion (λ os. (1 ≤ length os) × (length os ≤ 128)) t.outputs
  pub known_receivers : AllByRecursion (λ s. s.receiver < length t.receivers) t.sources
  pub known_sources : AllByRecursion (AllByRecursion (λ o. o.source < length t.sources)) t.outputs
  pub receiver_rows : AllByRecursion IsReceiverRow t.receivers
  pub source_rows : AllByRecursion IsSourceRow t.sources
  pub group_rows : AllByRecursion IsGroupRow t.groups
  pub intervals : AllByRecursion (AllByRecursion IsInterval) t.outputs
  pub holds : AllByRecursion (AllByRecursion IsHold) t.outputs
  pub no_holds : t.version ≡ 1 → HaveNoHolds t.outputs
  pub apart : SourcesAreApart t.sources
  pub own_receivers : HaveOwn (λ r. r.name) t.receivers
  pub own_names : HaveOwn (λ s. s.name) t.sources
  pub own_groups : HaveOwn (λ g. g.name) t.groups
  pub own_sources : AllByRecursion HaveOwnSources t.outputs

-- P of each element, by its number
abbrev pub OfEach : {X : Type 0} → (X → Type 0) → List X → Type 0
OfEach {X} P xs = (i : ℕ) (x : X) → slice_get xs i ≡ Some x → P x

-- 1 to 128 outputs, each of a source of the table, with intervals in range
abbrev pub AreOutputRows : TableRecord → List OutputRow → Type 0
AreOutputRows t os = (1 ≤ length os) × (length os ≤ 128) × OfEach (λ o. (o.source < length t.sources) × IsInterval o) os
