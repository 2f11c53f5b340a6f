-- Two proposals of which `diff` has no row have one plan text, one station and the same intervals.
use Rattle.std.proofs.Common.{◌≡◌, ◌==◌, ℕ, zero, suc, ◌<◌, Bool, true, false, List, [], ◌∷◌, ◌++◌, length, Option, Some, ap, ap₂, sym, subst, refl, arith, inl, inr, ◌⊎◌, ◌∙◌}
use Rattle.std.specs.Prelude.{◌&&◌, codes, if◌then◌else◌, slice_get, slice_index_or}
use Rattle.std.specs.List.{AllByRecursion, flat_map}
use Rattle.std.specs.Option.{option_map_or}
use Rattle.std.proofs.lemmas.Bool.{and_from, eqb-true}
use Rattle.std.proofs.lemmas.Option.{get_or_from_slice_get, none-some, same_Some, slice_get_within}
use Rattle.std.proofs.Common.{eq-eqb}
use Rattle.a429_word.proofs.Lists.{all_at, clash, get_within}
use Rattle.a429_equipment.specs.SameStation.{same_station}
use Rattle.a429_equipment.specs.Sound.{HaveOwnSources, IsSound}
use Rattle.a429_equipment.specs.TableRecord.{TableRecord}
use Rattle.a429_equipment.specs.declared.rows.GroupRow.{GroupRow}
use Rattle.a429_equipment.specs.declared.rows.OutputRow.{OutputRow}
use Rattle.a429_equipment.specs.declared.rows.SourceRow.{SourceRow}
use Rattle.a429_equipment.proofs.Stations.{same_station_is}
use Rattle.a429_slots.specs.Planned.{HaveSources, IsPlanOf}
use Rattle.a429_slots.specs.Proposed.{Proposed}
use Rattle.a429_slots.specs.Tables.{SlotTable, groups_of, no_table}
use Rattle.a429_cert.specs.Checked.{Stated, stated_text}
use Rattle.a429_cert.specs.PlanText.{head_text, plan_text_of, stated_groups, stated_of}
use Rattle.a429_cert.specs.Spelling.{rate_text, version_text}
use Rattle.a429_documents.specs.Diff.{Both, Sent, both_of, both_rows, change_row, count_rows, diff_rows, equipment_rows, group_both_rows, group_moved, groups_rows, lists_rows, moved_count, moved_in, of_kind, plan_rows, rate_in, sent_by, station_rows, table_change, table_rows, with_number}
use Rattle.a429_documents.specs.Unchanged.{HaveSameIntervals}
use Rattle.a429_documents.proofs.Changes.{both_is}
use Rattle.a429_documents.proofs.Differences.{named_at}
use Rattle.a429_documents.proofs.PlannedGroups.{planned_group}
use Rattle.a429_documents.proofs.NoRows.{none_each, none_number, none_parts, one_none, row_none, sum_each}
use Rattle.a429_documents.proofs.SameTables.{IsUnchanged, group_of, same_interval, sent, stated_is}

-- ---- what the groups state

same_groups : (version : ℕ) (own others : List SourceRow) (groups : List GroupRow) (ts us : List SlotTable) → length ts ≡ length us
    → ((g : ℕ) (row : GroupRow) (t u : SlotTable) → slice_get groups g ≡ Some row → slice_get ts g ≡ Some t → slice_get us g ≡ Some u → stated_of version own row t ≡ stated_of version others row u)
    → stated_groups version own groups ts ≡ stated_groups version others groups us
same_groups version own others [] ts us long each = refl
same_groups version own others (g ∷ groups) [] [] long each = refl
same_groups version own others (g ∷ groups) [] (u ∷ us) long each = absurd (omega (arith, long))
same_groups version own others (g ∷ groups) (t ∷ ts) [] long each = absurd (omega (arith, long))
same_groups version own others (g ∷ groups) (t ∷ ts) (u ∷ us) long each =
    ap₂ (λ (s : Stated) (ss : List Stated). s ∷ ss) (each 0 g t u refl refl refl)
    (same_groups version own others groups ts us (omega (arith, long)) (λ k row t u here there beside. each (suc k) row t u here there beside))

-- ---- the rate of version 1

one_rate : (r k : ℕ) (groups : List GroupRow) → AllByRecursion (λ (g : GroupRow). g.rate ≡ r) groups → AllByRecursion (λ (g : GroupRow). g.rate ≡ k) groups → (length groups ≡ 0 → r ≡ k) → r ≡ k
one_rate r k [] all others none = none refl
one_rate r k (g ∷ groups) all others none = sym all.0 ∙ others.0

same_rates : (a b : TableRecord) → IsSound a → IsSound b → a.version ≡ b.version → a.groups ≡ b.groups → ((length a.groups == 0 && length b.groups == 0) ≡ true → a.rate ≡ b.rate) → a.rate ≡ b.rate
same_rates a b sound other version groups none = elim sound.version [
  | inl one ↦
      let (r, first, all) = sound.one_rate one in
      let (k, second, others) = other.one_rate (sym version ∙ one) in
      let same : r ≡ k =
      one_rate r k a.groups all (subst (AllByRecursion (λ (g : GroupRow). g.rate ≡ k)) (sym groups) others)
      (λ empty.
      let both : (length a.groups == 0 && length b.groups == 0) ≡ true =
      and_from (length a.groups == 0) (length b.groups == 0) (eq-eqb (length a.groups) 0 empty) (eq-eqb (length b.groups) 0 (sym (ap length groups) ∙ empty)) in
      same_Some r k (sym first ∙ none both ∙ second)) in
      first ∙ ap (λ (n : ℕ). Some n) same ∙ sym second
  | inr two ↦ sound.own_rates two ∙ sym (other.own_rates (sym version ∙ two))
]

-- if nothing is said of two bit rates, and they are compared, they are one
one_if_asked : (asked : Bool) (x y : Option ℕ) (text : List ℕ) → (if asked then with_number (codes "rate") x y text else text) ≡ [] → (text ≡ []) × (asked ≡ true → x ≡ y)
one_if_asked true x y text h = let both = none_number (codes "rate") x y text (omega arith) h in (both.1, λ is. both.0)
one_if_asked false x y text h = (h, λ is. absurd (clash is))

-- ---- what is asked for

still_of : (all : Bool) (n : ℕ) → (if all then [] else count_rows n) ≡ [] → (all ≡ true) ⊎ (n ≡ 0)
still_of true n h = inl refl
still_of false n h = inr (eqb-true n 0 (one_none (n == 0) _ h))

-- a row of a group is in the rows of that group
rows_there : (xss : List (List OutputRow)) (g o : ℕ) (x : OutputRow) → slice_get (slice_index_or xss g []) o ≡ Some x → (rows : List OutputRow) × (slice_get xss g ≡ Some rows) × (slice_index_or xss g [] ≡ rows)
rows_there [] g o x h = absurd (none-some x h)
rows_there (rows ∷ xss) zero o x h = (rows, refl, refl)
rows_there (rows ∷ xss) (suc g) o x h = rows_there xss g o x h

-- ---- the proposals

module _ (a b : Proposed) (all : Bool) (sound : IsSound a.station) (other : IsSound b.station) (own : IsPlanOf a.station a.plan) (others : IsPlanOf b.station b.plan) (no_row : diff_rows a b all ≡ []) where
  abbrev has_gap : Bool
  has_gap = same_station a.station b.station

  halves : (equipment_rows a.station b.station ≡ []) × (plan_rows a b all ≡ [])
  halves = none_parts (equipment_rows a.station b.station) (plan_rows a b all) no_row

  tables : (table_rows a.station b.station ≡ []) × (station_rows a.station b.station ++ lists_rows a.station b.station ≡ [])
  tables = none_parts (table_rows a.station b.station) (station_rows a.station b.station ++ lists_rows a.station b.station) halves.0

  stations : (station_rows a.station b.station ≡ []) × (lists_rows a.station b.station ≡ [])
  stations = none_parts (station_rows a.station b.station) (lists_rows a.station b.station) tables.1

  abbrev to_version : List ℕ
  to_version = with_number (codes "version") (Some a.station.version) (Some b.station.version) []

  silent : (to_version ≡ []) × ((length a.station.groups == 0 && length b.station.groups == 0) ≡ true → a.station.rate ≡ b.station.rate)
  silent =
      one_if_asked (length a.station.groups == 0 && length b.station.groups == 0) a.station.rate b.station.rate to_version
      (row_none (of_kind (codes "table")) (table_change a.station b.station) tables.0)

  plans : (groups_rows all has_gap a b ≡ []) × ((if all then [] else count_rows (moved_count a b)) ≡ [])
  plans = none_parts (groups_rows all has_gap a b) (if all then [] else count_rows (moved_count a b)) halves.1

  same_version : a.station.version ≡ b.station.version
  same_version = same_Some a.station.version b.station.version (none_number (codes "version") (Some a.station.version) (Some b.station.version) [] (omega arith) silent.0).0

  pub one_station : same_station a.station b.station ≡ true
  one_station = one_none (same_station a.station b.station) (change_row (of_kind (codes "station")) (codes "another")) stations.0

  sources : a.station.sources ≡ b.station.sources
  sources = ((same_station_is a.station b.station).0 one_station).1

  groups : a.station.groups ≡ b.station.groups
  groups = ((same_station_is a.station b.station).0 one_station).2

  unchanged : (g : ℕ) (row : GroupRow) (rows news : List OutputRow) (t u : SlotTable) → slice_get a.station.groups g ≡ Some row → slice_get a.station.outputs g ≡ Some rows → slice_get b.station.outputs g ≡ Some news
      → slice_get (groups_of a.plan) g ≡ Some t → slice_get (groups_of b.plan) g ≡ Some u → IsUnchanged a.station b.station row.rate rows news t u
  unchanged g row rows news t u here listed renewed there beside =
      let below : g < length a.station.groups = slice_get_within a.station.groups g row here in
      let again : slice_get b.station.groups g ≡ Some row = ap (λ (gs : List GroupRow). slice_get gs g) (sym groups) ∙ here in
      let first : sent_by a g ≡ sent a.station.sources rows t =
      ap₂ (λ (os : List OutputRow) (v : SlotTable). sent a.station.sources os v) (get_or_from_slice_get a.station.outputs g rows [] listed) (get_or_from_slice_get (groups_of a.plan) g t no_table there) in
      let second : sent_by b g ≡ sent b.station.sources news u =
      ap₂ (λ (os : List OutputRow) (v : SlotTable). sent b.station.sources os v) (get_or_from_slice_get b.station.outputs g news [] renewed) (get_or_from_slice_get (groups_of b.plan) g u no_table beside) in
      let both : both_of a b g ≡ Some (group_of row.name (rate_in a g) (rate_in b g) a.station rows t b.station news u) =
      both_is a b g g row here (named_at (λ (h : GroupRow). h.name) b.station.groups other.own_groups g row again row.name refl)
      ∙ ap₂ (λ (s v : Sent). Some (record { name = row.name; rate = rate_in a g; new_rate = rate_in b g; first = s; second = v })) first second in
      record {
        all = all;
        has_gap = has_gap;
        name = row.name;
        own_rate = rate_in a g;
        new_rate = rate_in b g;
        first = record {
          sound = sound;
          planned = planned_group a.station a.plan g row rows t own here listed there;
          known = all_at (HaveSources a.station.sources) a.station.outputs g rows sound.known_sources listed;
          own = all_at HaveOwnSources a.station.outputs g rows sound.own_sources listed;
        };
        second = record {
          sound = other;
          planned = planned_group b.station b.plan g row news u others again renewed beside;
          known = all_at (HaveSources b.station.sources) b.station.outputs g news other.known_sources renewed;
          own = all_at HaveOwnSources b.station.outputs g news other.own_sources renewed;
        };
        no_row = sym (ap (λ (o : Option Both). option_map_or (both_rows all has_gap) o []) both) ∙ none_each (group_both_rows all has_gap a b) (length a.station.groups) plans.0 g below;
        still = elim (still_of all (moved_count a b) plans.1) [
          | inl is ↦ inl is
          | inr none ↦ inr (sym (ap (λ (o : Option Both). option_map_or moved_in o 0) both) ∙ sum_each (group_moved a b) (length a.station.groups) none g below)
        ];
      }

  group_states : (g : ℕ) (row : GroupRow) (t u : SlotTable) → slice_get a.station.groups g ≡ Some row → slice_get (groups_of a.plan) g ≡ Some t → slice_get (groups_of b.plan) g ≡ Some u
      → stated_of a.station.version a.station.sources row t ≡ stated_of a.station.version b.station.sources row u
  group_states g row t u here there beside =
      let below : g < length a.station.groups = slice_get_within a.station.groups g row here in
      let rows = get_within a.station.outputs g (omega (arith, below, sound.outputs_of_groups)) in
      let news = get_within b.station.outputs g (omega (arith, below, ap length groups, other.outputs_of_groups)) in
      stated_is a.station b.station row.rate rows.0 news.0 t u (unchanged g row rows.0 news.0 t u here rows.1 news.1 there beside) a.station.version row

  pub one_text : plan_text_of a.station a.plan ≡ plan_text_of b.station b.plan
  one_text =
      let long : length (groups_of a.plan) ≡ length (groups_of b.plan) = own.count ∙ ap length groups ∙ sym others.count in
      let stated : stated_groups a.station.version a.station.sources a.station.groups (groups_of a.plan) ≡ stated_groups b.station.version b.station.sources b.station.groups (groups_of b.plan) =
      same_groups a.station.version a.station.sources b.station.sources a.station.groups (groups_of a.plan) (groups_of b.plan) long group_states
      ∙ ap₂ (λ (v : ℕ) (gs : List GroupRow). stated_groups v b.station.sources gs (groups_of b.plan)) same_version groups in
      let head : head_text a.station ≡ head_text b.station =
      ap₂ (λ (v : ℕ) (r : Option ℕ). version_text v ++ option_map_or rate_text r []) same_version (same_rates a.station b.station sound other same_version groups silent.1) in
      ap₂ (λ (x y : List ℕ). x ++ y) head (ap (flat_map stated_text) stated)

  pub one_interval : HaveSameIntervals a.station b.station
  one_interval g o p x y here there source =
      let rows = rows_there a.station.outputs g o x here in
      let news = rows_there b.station.outputs g p y there in
      let below : g < length a.station.groups = omega (arith, slice_get_within a.station.outputs g rows.0 rows.1, sound.outputs_of_groups) in
      let row = get_within a.station.groups g below in
      let t = get_within (groups_of a.plan) g (omega (arith, below, own.count)) in
      let u = get_within (groups_of b.plan) g (omega (arith, below, ap length groups, others.count)) in
      same_interval a.station b.station row.0.rate rows.0 news.0 t.0 u.0 (unchanged g row.0 rows.0 news.0 t.0 u.0 row.1 rows.1 news.1 t.1 u.1) sources o p x y
      (ap (λ (os : List OutputRow). slice_get os o) (sym rows.2) ∙ here) (ap (λ (os : List OutputRow). slice_get os p) (sym news.2) ∙ there) source
