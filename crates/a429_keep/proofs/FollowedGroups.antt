-- One group after another has the slot table that its lines state.
use Rattle.std.proofs.Common.{◌≡◌, ◌∙◌, ◌+◌, ◌++◌, ◌<◌, ◌≤◌, ℕ, List, [], ◌∷◌, ap, append_assoc, append-nil, arith, drop, length, map, refl, subst, sym, take}
use Rattle.std.specs.Prelude.{Some, option_map, slice_get}
use Rattle.std.specs.List.{zip}
use Rattle.std.proofs.Math.ListN.{drop_of_length-le}
use Rattle.std.proofs.lemmas.List.{drop-drop, length-set, take_all, take_more_set}
use Rattle.std.proofs.lemmas.Option.{same_Some, slice_get-map}
use Rattle.a429_word.proofs.Lists.{all_at, drop_at, get_within, zip_at}
use Rattle.a429_equipment.specs.Sound.{HaveOwnSources, IsSound}
use Rattle.a429_equipment.specs.TableRecord.{TableRecord}
use Rattle.a429_equipment.specs.declared.rows.GroupRow.{GroupRow}
use Rattle.a429_equipment.specs.declared.rows.OutputRow.{OutputRow}
use Rattle.a429_slots.specs.declared.group_plan.SlotPlace.{SlotPlace}
use Rattle.a429_slots.specs.Moves.{IsMoved, IsReplaced}
use Rattle.a429_slots.specs.Planned.{IsPlanOf, IsPlannedAt, IsPlannedFor, rated_outputs}
use Rattle.a429_slots.specs.Proposed.{Proposed}
use Rattle.a429_slots.specs.Spacing.{PlannedTablesAreSpaced}
use Rattle.a429_slots.specs.Tables.{PlanTable, SlotTable, groups_of}
use Rattle.a429_slots.proofs.OnePlan.{OneCount}
use Rattle.a429_slots.proofs.SpacedTables.{row_of}
use Rattle.a429_cert.specs.Judged.{StateFewest, StatesFewest}
use Rattle.a429_keep.specs.Followed.{AreStatedTables, IsStatedTable}
use Rattle.a429_keep.specs.Following.{AreGroupPlaces, ArePlacesByLines, IsGroupFollowed, StatesGroup}
use Rattle.a429_keep.proofs.StatedGroups.{IsStatedGroup, apart, inside, periods, stated}

-- what is known of a group of a sound table with its own plan
pub group_of : (e : TableRecord) (plan : PlanTable) (k : ℕ) (lines : List (List ℕ)) (t : SlotTable) → IsSound e → IsPlanOf e plan → PlannedTablesAreSpaced → OneCount
    → (S : StatesGroup e k lines) → slice_get (groups_of plan) k ≡ Some t → IsStatedGroup e S.group S.rows lines t
group_of e plan k lines t sound own spaced one S at =
    let R = row_of (IsPlannedAt e.sources) (rated_outputs e) (groups_of plan) k t own.groups at in
    let rate : slice_get (map (λ (g : GroupRow). g.rate) e.groups) k ≡ Some S.group.rate = slice_get-map (λ (g : GroupRow). g.rate) e.groups k ∙ ap (option_map (λ (g : GroupRow). g.rate)) S.row in
    let same : R.row ≡ (S.group.rate, S.rows) = same_Some R.row (S.group.rate, S.rows) (sym R.there ∙ zip_at (map (λ (g : GroupRow). g.rate) e.groups) e.outputs k S.group.rate S.rows rate S.outputs) in
    let planned : IsPlannedFor S.group.rate e.sources S.rows t = subst (λ (r : ℕ × List OutputRow). IsPlannedFor r.0 e.sources r.1 t) same R.related in
    let sources : HaveOwnSources S.rows = all_at HaveOwnSources e.outputs k S.rows sound.own_sources S.outputs in
    record {
      names = sound.own_names;
      sources = sources;
      planned = planned;
      spaced = spaced S.group.rate e.sources S.rows t planned sources;
      one = one;
      states = S.states;
    }

-- ---- one group

-- what is true of four values is true of equal ones
pub of_equal : {A B C D : Type 0} (P : A → B → C → D → Type 0) (a x : A) (b y : B) (c z : C) (d w : D) → a ≡ x → b ≡ y → c ≡ z → d ≡ w → P a b c d → P x y z w
of_equal P a x b y c z d w first second third fourth holds =
    subst (P x y z) fourth (subst (λ v. P x y v d) third (subst (λ v. P x v c d) second (subst (λ v. P v b c d) first holds)))

-- the lines of the other groups
pub lines_after : (n : ℕ) (lines : List (List ℕ)) → drop 1 (drop n (drop 1 lines)) ≡ drop (n + 2) lines
lines_after n lines =
    let same : 1 + n + 1 ≡ n + 2 = omega arith in
    ap (drop 1) (drop-drop n 1 lines) ∙ drop-drop 1 (1 + n) lines ∙ ap (λ (m : ℕ). drop m lines) same

pub group_placed : (p : Proposed) (k : ℕ) (lines rest : List (List ℕ)) (t : SlotTable) (S : StatesGroup p.station k lines) → IsStatedGroup p.station S.group S.rows lines t → slice_get (groups_of p.plan) k ≡ Some t
    → (places : List SlotPlace) → ArePlacesByLines p.station.version p.station.sources S.rows (drop 1 lines) t places → rest ≡ drop (length S.rows + 2) lines → AreGroupPlaces p k lines rest places
group_placed p k lines rest t S G there places by_lines left = record {
  group = S.group;
  rows = S.rows;
  own = t;
  row = S.row;
  outputs = S.outputs;
  there = there;
  fit = record { table = t; there = there; periods = periods p.station S.group S.rows lines t G places by_lines; inside = inside p.station S.group S.rows lines t G places by_lines };
  apart = apart p.station S.group S.rows lines t G places by_lines;
  stated = stated p.station S.group S.rows lines t G places by_lines;
  rest = left;
}

pub group_followed : (p q : Proposed) (k : ℕ) (lines rest : List (List ℕ)) (places : List SlotPlace) → AreGroupPlaces p k lines rest places → q.station ≡ p.station → IsReplaced p.plan q.plan k places
    → IsGroupFollowed p q k lines rest
group_followed p q k lines rest places A station R =
    let same : R.before ≡ A.own = same_Some R.before A.own (sym R.there ∙ A.there) in
    record {
      station = station;
      group = A.group;
      rows = A.rows;
      table = R.after;
      row = A.row;
      outputs = A.outputs;
      stated = A.stated R.after (subst (λ (t : SlotTable). IsMoved t R.after places) same R.moved);
      groups = R.groups;
      rest = A.rest;
    }

-- ---- all groups

-- the groups of a table, each with its outputs
abbrev pub rows_of : TableRecord → List (GroupRow × List OutputRow)
rows_of e = zip e.groups e.outputs

-- the groups before group i have the tables that the lines state, if those that follow have them too
pub record AreFollowedTo (p q : Proposed) (lines rest : List (List ℕ)) (i : ℕ) : Type 0 where
  pub station : q.station ≡ p.station
  pub count : length (groups_of q.plan) ≡ length (groups_of p.plan)
  pub left : StateFewest p.station (drop i (rows_of p.station)) rest
  pub done : (ts : List SlotTable) → AreStatedTables p.station (drop i (rows_of p.station)) ts rest → AreStatedTables p.station (rows_of p.station) (take i (groups_of q.plan) ++ ts) lines

pub none_followed : (p : Proposed) (lines : List (List ℕ)) → StateFewest p.station (rows_of p.station) lines → AreFollowedTo p p lines lines 0
none_followed p lines states = record { station = refl; count = refl; left = states; done = λ ts later. later }

module _ (p q : Proposed) (lines rest : List (List ℕ)) (i : ℕ) (A : AreFollowedTo p q lines rest i) where
  cut : (group : GroupRow) (rows : List OutputRow) → slice_get p.station.groups i ≡ Some group → slice_get p.station.outputs i ≡ Some rows
      → drop i (rows_of p.station) ≡ (group, rows) ∷ drop (i + 1) (rows_of p.station)
  cut group rows row outputs = drop_at (rows_of p.station) i (group, rows) (zip_at p.station.groups p.station.outputs i group rows row outputs)

  now : (group : GroupRow) (rows : List OutputRow) → slice_get p.station.groups i ≡ Some group → slice_get p.station.outputs i ≡ Some rows
      → StatesFewest p.station group rows rest × StateFewest p.station (drop (i + 1) (rows_of p.station)) (drop (length rows + 2) rest)
  now group rows row outputs = subst (λ (gs : List (GroupRow × List OutputRow)). StateFewest p.station gs rest) (cut group rows row outputs) A.left

  -- the lines that are left state the plan of the next group
  pub states_next : IsSound p.station → i < length (groups_of p.plan) → length (groups_of p.plan) ≡ length p.station.groups → StatesGroup q.station i rest
  states_next sound below many =
      let (group, row) = get_within p.station.groups i (omega (arith, below, many)) in
      let (rows, outputs) = get_within p.station.outputs i (omega (arith, below, many, sound.outputs_of_groups)) in
      let here : StatesGroup p.station i rest = record { group = group; rows = rows; row = row; outputs = outputs; states = (now group rows row outputs).0 } in
      subst (λ (e : TableRecord). StatesGroup e i rest) (sym A.station) here

  pub followed_next : (r : Proposed) (more : List (List ℕ)) → i < length (groups_of q.plan) → IsGroupFollowed q r i rest more → AreFollowedTo p r lines more (i + 1)
  followed_next r more below N =
      let row : slice_get p.station.groups i ≡ Some N.group = ap (λ (e : TableRecord). slice_get e.groups i) (sym A.station) ∙ N.row in
      let outputs : slice_get p.station.outputs i ≡ Some N.rows = ap (λ (e : TableRecord). slice_get e.outputs i) (sym A.station) ∙ N.outputs in
      let stated : IsStatedTable p.station N.group N.rows rest N.table = subst (λ (e : TableRecord). IsStatedTable e N.group N.rows rest N.table) A.station N.stated in
      let here : take (i + 1) (groups_of r.plan) ≡ take i (groups_of q.plan) ++ N.table ∷ [] = ap (take (i + 1)) N.groups ∙ take_more_set (groups_of q.plan) i N.table below in
      record {
        station = N.station ∙ A.station;
        count = ap length N.groups ∙ length-set (groups_of q.plan) i N.table ∙ A.count;
        left = subst (λ (ls : List (List ℕ)). StateFewest p.station (drop (i + 1) (rows_of p.station)) ls) (sym N.rest) (now N.group N.rows row outputs).1;
        done = λ ts later.
            let others : AreStatedTables p.station (drop (i + 1) (rows_of p.station)) ts (drop (length N.rows + 2) rest) =
            subst (λ (ls : List (List ℕ)). AreStatedTables p.station (drop (i + 1) (rows_of p.station)) ts ls) N.rest later in
            let both : AreStatedTables p.station (drop i (rows_of p.station)) (N.table ∷ ts) rest =
            subst (λ (gs : List (GroupRow × List OutputRow)). AreStatedTables p.station gs (N.table ∷ ts) rest) (sym (cut N.group N.rows row outputs)) (stated, others) in
            let tables : take i (groups_of q.plan) ++ N.table ∷ ts ≡ take (i + 1) (groups_of r.plan) ++ ts =
            sym (append_assoc (take i (groups_of q.plan)) (N.table ∷ []) ts) ∙ ap (λ (us : List SlotTable). us ++ ts) (sym here) in
            subst (λ (us : List SlotTable). AreStatedTables p.station (rows_of p.station) us lines) tables (A.done (N.table ∷ ts) both);
      }

  pub all_followed : length (rows_of p.station) ≤ i → length (groups_of q.plan) ≤ i → AreStatedTables p.station (rows_of p.station) (groups_of q.plan) lines
  all_followed none over =
      let none_left : drop i (rows_of p.station) ≡ [] = drop_of_length-le (rows_of p.station) {i = i} none in
      let end : rest ≡ [] = subst (λ (gs : List (GroupRow × List OutputRow)). StateFewest p.station gs rest) none_left A.left in
      let both : AreStatedTables p.station (drop i (rows_of p.station)) [] rest = subst (λ (gs : List (GroupRow × List OutputRow)). AreStatedTables p.station gs [] rest) (sym none_left) end in
      subst (λ (us : List SlotTable). AreStatedTables p.station (rows_of p.station) us lines) (append-nil (take i (groups_of q.plan)) ∙ take_all i (groups_of q.plan) over) (A.done [] both)
