-- Two proposals with one plan text, one station and the same intervals: `diff` has no row.
use Rattle.std.proofs.Common.{◌≡◌, ◌==◌, ℕ, zero, suc, ◌^◌, ◌<◌, ◌≤◌, Bool, true, false, List, [], ◌∷◌, ◌++◌, length, map, drop, get_or, Option, Some, None, ap, ap₂, sym, subst, refl, arith, inl, inr, ◌⊎◌, ◌∙◌, append_assoc, eq-eqb}
use Rattle.std.specs.Prelude.{◌&&◌, IfSome, codes, if◌then◌else◌, is_some, option_map, position, slice_get, slice_index}
use Rattle.std.specs.List.{AllByRecursion}
use Rattle.std.specs.Option.{option_map_or}
use Rattle.std.specs.Str.{bytes_eq}
use Rattle.std.proofs.lemmas.List.{length-map}
use Rattle.std.proofs.lemmas.List.Quantifiers.{position-Some}
use Rattle.std.proofs.lemmas.Option.{get_or_from_slice_get, none-some, same_Some, slice_get-map, slice_get_within}
use Rattle.std.proofs.lemmas.Slice.Eq.{bytes_eq-Decides}
use Rattle.a429_word.proofs.Lists.{all_at, clash, get_within, none_passes, same_power}
use Rattle.a429_equipment.specs.SameStation.{same_station}
use Rattle.a429_equipment.specs.Sound.{HaveOwnSources, IsGroupRow, IsHold, IsRate, IsSound}
use Rattle.a429_equipment.specs.TableRecord.{TableRecord, outputs_in}
use Rattle.a429_equipment.specs.declared.rows.GroupRow.{GroupRow}
use Rattle.a429_equipment.specs.declared.rows.OutputRow.{OutputRow}
use Rattle.a429_equipment.specs.declared.rows.SourceRow.{SourceRow}
use Rattle.a429_equipment.proofs.Stations.{same_station_is}
use Rattle.a429_slots.specs.Planned.{HaveSources, IsPlanOf}
use Rattle.a429_slots.specs.Proposed.{Proposed}
use Rattle.a429_slots.specs.Tables.{Placed, SlotTable, buses_of, frame_of, groups_of, no_table, order_of, outputs_of, placed_at, unplaced}
use Rattle.a429_slots.proofs.Cells.{output_is}
use Rattle.a429_cert.specs.Checked.{Stated}
use Rattle.a429_cert.specs.Lines.{lines_of}
use Rattle.a429_cert.specs.PlanText.{groups_text, listing_of, plan_text_of, source_name, stated_groups, stated_of}
use Rattle.a429_cert.specs.Reading.{plan_line, rate_line}
use Rattle.a429_cert.specs.Spelling.{IsShort, Listing, rate_text, said_in, version_text}
use Rattle.a429_cert.proofs.Again.{FitsStated}
use Rattle.a429_cert.proofs.LineLaws.{plan_again, rate_again}
use Rattle.a429_cert.proofs.LinesOfText.{rate_is_line, version_is_line}
use Rattle.a429_cert.proofs.OwnGroups.{FewestCarry, rate_short}
use Rattle.a429_documents.specs.Diff.{Both, Sent, both_of, both_rows, change_row, change_rows, compared_at, compared_change, count_rows, diff_rows, each_of, equipment_rows, group_both_rows, group_moved, only_rows, groups_rows, has_moved, is_moved, kept_rows, kept_subject, lists_rows, moved_count, moved_in, name_at, no_gap, number_named, of_group, of_kind, of_output, other_of, output_named, outputs_rows, plan_rows, rate_in, sent_by, size_change, size_rows, station_rows, table_change, table_rows, with_number}
use Rattle.a429_documents.specs.Unchanged.{HaveSameIntervals}
use Rattle.a429_documents.proofs.Changes.{both_is}
use Rattle.a429_documents.proofs.Differences.{named_at, no_lists}
use Rattle.a429_documents.proofs.Losses.{found_or_not}
use Rattle.a429_documents.proofs.PlannedGroups.{planned_group}
use Rattle.a429_documents.proofs.NoRows.{compared_none, counted_none, each_none, each_sum, none_both, none_if, none_row, not_moved, number_none}
use Rattle.a429_documents.proofs.SameOrder.{Same}
use Rattle.a429_documents.proofs.SameTables.{IsPlanned, each_once, group_of, one_named, row_of, sent, source_of_row}
use Rattle.a429_documents.proofs.StatedTexts.{stated_back, stated_fits}

-- ---- outputs

-- an output is found by the name of its source
output_found : (e : TableRecord) (rate : ℕ) (rows : List OutputRow) (t : SlotTable) → IsPlanned e rate rows t → (p : ℕ) → p < length (outputs_of t) → (name : List ℕ) → name_at (sent e.sources rows t) p ≡ name
    → output_named (sent e.sources rows t) name ≡ Some p
unfolding number_named
output_found e rate rows t P p below name same =
    let test : Placed → Bool = λ (x : Placed). bytes_eq (source_name e.sources x.source) name in
    let passes : test (placed_at t p) ≡ true = (bytes_eq-Decides (name_at (sent e.sources rows t) p) name).1 same in
    elim (found_or_not (position test (outputs_of t))) [
      | inl none ↦ absurd (clash (sym (none_passes test (outputs_of t) none p (placed_at t p) (output_is t p below)) ∙ passes))
      | inr (q, found) ↦
          let facts = position-Some test (outputs_of t) q unplaced found in
          let name2 : name_at (sent e.sources rows t) q ≡ name = (bytes_eq-Decides (name_at (sent e.sources rows t) q) name).0 facts.1 in
          let one : q ≡ p = one_named e rate rows t P q p facts.0 below (name2 ∙ sym same) in
          found ∙ ap (λ (k : ℕ). Some k) one
    ]

-- ---- a group of which both state the same

hold_said : (version : ℕ) (a b : Option ℕ) → (version ≡ 1) ⊎ (version ≡ 2) → (version ≡ 1 → (a ≡ None) × (b ≡ None)) → said_in version a ≡ said_in version b → a ≡ b
hold_said version a b (inl one) none h = (none one).0 ∙ sym (none one).1
hold_said version a b (inr two) none h =
    same_Some a b (subst (λ (v : ℕ). said_in v a ≡ said_in v b) two h)

-- two slot tables of a group that state the same
pub record IsOneStated (a b : TableRecord) (version : ℕ) (row : GroupRow) (rows others : List OutputRow) (t u : SlotTable) : Type 0 where
  pub first : IsPlanned a row.rate rows t
  pub second : IsPlanned b row.rate others u
  pub sources : a.sources ≡ b.sources
  pub intervals : (o p : ℕ) (x y : OutputRow) → slice_get rows o ≡ Some x → slice_get others p ≡ Some y → x.source ≡ y.source → (x.min_us ≡ y.min_us) × (x.max_us ≡ y.max_us)
  pub stated : stated_of version a.sources row t ≡ stated_of version b.sources row u
  pub version_is : (version ≡ 1) ⊎ (version ≡ 2)
  pub no_holds : version ≡ 1 → AllByRecursion (λ (o : OutputRow). o.hold ≡ None) rows
  pub none_held : version ≡ 1 → AllByRecursion (λ (o : OutputRow). o.hold ≡ None) others

module _ (a b : TableRecord) (version : ℕ) (row : GroupRow) (rows others : List OutputRow) (t u : SlotTable) (O : IsOneStated a b version row rows others t u) where
  listings : map (listing_of version a.sources t) (order_of t) ≡ map (listing_of version b.sources u) (order_of u)
  listings = ap (λ (s : Stated). s.outputs) O.stated

  as_many : length (order_of t) ≡ length (order_of u)
  as_many = sym (length-map (order_of t) (listing_of version a.sources t)) ∙ ap length listings ∙ length-map (order_of u) (listing_of version b.sources u)

  -- what is listed alike is the same
  same_of : (o p : ℕ) → o < length (outputs_of t) → p < length (outputs_of u) → listing_of version a.sources t o ≡ listing_of version b.sources u p → Same a.sources b.sources (placed_at t o) (placed_at u p)
  same_of o p below under same =
      let mine = row_of a row.rate rows t O.first o below in
      let theirs = row_of b row.rate others u O.second p under in
      let period : (placed_at t o).place.period ≡ (placed_at u p).place.period = same_power (placed_at t o).place.period (placed_at u p).place.period (ap (λ (l : Listing). l.period) same) in
      let bus : (placed_at t o).place.bus ≡ (placed_at u p).place.bus = ap (λ (l : Listing). l.bus) same in
      let offset : (placed_at t o).place.offset ≡ (placed_at u p).place.offset = ap (λ (l : Listing). l.offset) same in
      record {
        name = ap (λ (l : Listing). l.source) same;
        place = λ i. record { bus = bus i; offset = offset i; period = period i };
        hold = hold_said version (placed_at t o).limits.hold (placed_at u p).limits.hold O.version_is
            (λ one. (mine.3 ∙ all_at (λ (o : OutputRow). o.hold ≡ None) rows o mine.0 (O.no_holds one) mine.1, theirs.3 ∙ all_at (λ (o : OutputRow). o.hold ≡ None) others p theirs.0 (O.none_held one) theirs.1))
            (ap (λ (l : Listing). l.hold) same);
      }

  listed_at : (k : ℕ) → k < length (order_of t) → listing_of version a.sources t (slice_index (order_of t) k) ≡ listing_of version b.sources u (slice_index (order_of u) k)
  listed_at k below =
      let under : k < length (order_of u) = omega (arith, below, as_many) in
      let o = get_within (order_of t) k below in
      let p = get_within (order_of u) k under in
      let both : listing_of version a.sources t o.0 ≡ listing_of version b.sources u p.0 =
      same_Some _ _ (sym (slice_get-map (listing_of version a.sources t) (order_of t) k ∙ ap (option_map (listing_of version a.sources t)) o.1)
      ∙ ap (λ (ls : List Listing). slice_get ls k) listings ∙ slice_get-map (listing_of version b.sources u) (order_of u) k ∙ ap (option_map (listing_of version b.sources u)) p.1) in
      ap (listing_of version a.sources t) (get_or_from_slice_get (order_of t) k o.0 0 o.1) ∙ both ∙ sym (ap (listing_of version b.sources u) (get_or_from_slice_get (order_of u) k p.0 0 p.1))

  pair_at : (k : ℕ) → k < length (order_of t) → Same a.sources b.sources (placed_at t (slice_index (order_of t) k)) (placed_at u (slice_index (order_of u) k))
  pair_at k below =
      let once = each_once a row.rate rows t O.first in
      let twice = each_once b row.rate others u O.second in
      same_of (slice_index (order_of t) k) (slice_index (order_of u) k) (once.below k (omega (arith, below, once.length))) (twice.below k (omega (arith, below, as_many, twice.length))) (listed_at k below)

  -- nothing of them differs
  compared_same : (o p : ℕ) → o < length (outputs_of t) → p < length (outputs_of u) → Same a.sources b.sources (placed_at t o) (placed_at u p) → compared_at (sent a.sources rows t) o ≡ compared_at (sent b.sources others u) p
  compared_same o p below under S =
      let mine = row_of a row.rate rows t O.first o below in
      let theirs = row_of b row.rate others u O.second p under in
      let own = source_of_row a row.rate rows t O.first mine.0 o mine.1 in
      let other = source_of_row b row.rate others u O.second theirs.0 p theirs.1 in
      let name : own.0.name ≡ other.0.name = sym own.2 ∙ ap (source_name a.sources) (sym mine.2) ∙ S.name ∙ ap (source_name b.sources) theirs.2 ∙ other.2 in
      let source : mine.0.source ≡ theirs.0.source =
      O.second.sound.own_names mine.0.source theirs.0.source own.0 other.0 (ap (λ (ss : List SourceRow). slice_get ss mine.0.source) (sym O.sources) ∙ own.1) other.1 name in
      let interval = O.intervals o p mine.0 theirs.0 mine.1 theirs.1 source in
      let min_us = ap (option_map (λ (r : OutputRow). r.min_us)) mine.1 ∙ ap (λ (n : ℕ). Some n) interval.0 ∙ sym (ap (option_map (λ (r : OutputRow). r.min_us)) theirs.1) in
      let max_us = ap (option_map (λ (r : OutputRow). r.max_us)) mine.1 ∙ ap (λ (n : ℕ). Some n) interval.1 ∙ sym (ap (option_map (λ (r : OutputRow). r.max_us)) theirs.1) in
      λ i. record { min_us = min_us i; max_us = max_us i; period = Some (2 ^ (S.place i).period); hold = S.hold i; bus = Some (S.place i).bus; offset = Some (S.place i).offset }

  module _ (all has_gap : Bool) (name : List ℕ) (rate new_rate : ℕ) (one_rate : rate ≡ new_rate) where
    abbrev g : Both
    g = group_of name rate new_rate a rows t b others u

    -- the output of the second for one of the first
    partner : (o : ℕ) → o < length (outputs_of t) → (p : ℕ) × (other_of g o ≡ Some p) × (compared_at g.first o ≡ compared_at g.second p)
    partner o below =
        let once = each_once a row.rate rows t O.first in
        let twice = each_once b row.rate others u O.second in
        let place = once.place o below in
        let within : place.0 < length (order_of t) = omega (arith, place.1, once.length) in
        let p : ℕ = slice_index (order_of u) place.0 in
        let under : p < length (outputs_of u) = twice.below place.0 (omega (arith, within, as_many, twice.length)) in
        let same : Same a.sources b.sources (placed_at t o) (placed_at u p) = subst (λ (k : ℕ). Same a.sources b.sources (placed_at t k) (placed_at u p)) place.2 (pair_at place.0 within) in
        (p, output_found b row.rate others u O.second p under (name_at (sent a.sources rows t) o) (sym same.name), compared_same o p below under same)

    output_kept : (o : ℕ) → o < length (outputs_of t) → kept_rows all has_gap g o ≡ []
    output_kept o below =
        let (p, found, same) = partner o below in
        ap (λ (q : Option ℕ). option_map_or (λ p. change_rows (kept_subject has_gap g o p) (compared_change all (compared_at g.first o) (compared_at g.second p))) q []) found
        ∙ none_row (kept_subject has_gap g o p) (compared_change all (compared_at g.first o) (compared_at g.second p)) (compared_none all (compared_at g.first o) (compared_at g.second p) same)

    output_there : (o : ℕ) → o < length (outputs_of t) → only_rows (codes "removed") g.name g.first g.second o ≡ []
    output_there o below =
        let (p, found, same) = partner o below in
        none_if (is_some (other_of g o)) (change_row (of_output g.name (name_at g.first o) no_gap) (codes "removed") ∷ []) (ap is_some found)

    output_old : (p : ℕ) → p < length (outputs_of u) → only_rows (codes "added") g.name g.second g.first p ≡ []
    output_old p below =
        let once = each_once a row.rate rows t O.first in
        let twice = each_once b row.rate others u O.second in
        let place = twice.place p below in
        let within : place.0 < length (order_of t) = omega (arith, place.1, twice.length, as_many) in
        let o : ℕ = slice_index (order_of t) place.0 in
        let same : Same a.sources b.sources (placed_at t o) (placed_at u p) = subst (λ (k : ℕ). Same a.sources b.sources (placed_at t o) (placed_at u k)) place.2 (pair_at place.0 within) in
        let found : output_named g.first (name_at g.second p) ≡ Some o =
        output_found a row.rate rows t O.first o (once.below place.0 (omega (arith, within, once.length))) (name_at g.second p) same.name in
        none_if (is_some (output_named g.first (name_at g.second p))) (change_row (of_output g.name (name_at g.second p) no_gap) (codes "added") ∷ []) (ap is_some found)

    same_size : size_rows g ≡ []
    same_size =
        let rates : List ℕ = with_number (codes "rate") (Some rate) (Some new_rate) [] in
        none_row (of_group name) (size_change g)
        (number_none (codes "frame_slots") (Some (frame_of t)) (Some (frame_of u)) (with_number (codes "buses") (Some (buses_of t)) (Some (buses_of u)) rates) (ap (λ (s : Stated). Some s.heading.frame) O.stated)
        (number_none (codes "buses") (Some (buses_of t)) (Some (buses_of u)) rates (ap (λ (s : Stated). Some s.heading.buses) O.stated)
        (number_none (codes "rate") (Some rate) (Some new_rate) [] (ap (λ (n : ℕ). Some n) one_rate) refl)))

    pub group_kept : both_rows all has_gap g ≡ []
    group_kept =
        none_both (size_rows g) (outputs_rows all has_gap g) same_size
        (none_both (each_of (length (outputs_of t)) (kept_rows all has_gap g)) (each_of (length (outputs_of t)) (only_rows (codes "removed") g.name g.first g.second) ++ each_of (length (outputs_of u)) (only_rows (codes "added") g.name g.second g.first))
        (each_none (kept_rows all has_gap g) (length (outputs_of t)) output_kept)
        (none_both (each_of (length (outputs_of t)) (only_rows (codes "removed") g.name g.first g.second)) (each_of (length (outputs_of u)) (only_rows (codes "added") g.name g.second g.first))
        (each_none (only_rows (codes "removed") g.name g.first g.second) (length (outputs_of t)) output_there) (each_none (only_rows (codes "added") g.name g.second g.first) (length (outputs_of u)) output_old)))

    pub none_moved : moved_in g ≡ 0
    none_moved =
        counted_none (is_moved g) (length (outputs_of t))
        (λ o below.
        let (p, found, same) = partner o below in
        ap (λ (q : Option ℕ). option_map_or (λ p. has_moved (compared_at g.first o) (compared_at g.second p)) q false) found ∙ not_moved (compared_at g.first o) (compared_at g.second p) same)

-- ---- the lists of what groups state

stated_at : (version : ℕ) (sources : List SourceRow) (groups : List GroupRow) (ts : List SlotTable) (g : ℕ) (row : GroupRow) (t : SlotTable) → slice_get groups g ≡ Some row → slice_get ts g ≡ Some t
    → slice_get (stated_groups version sources groups ts) g ≡ Some (stated_of version sources row t)
stated_at version sources [] ts g row t here there = absurd (none-some row here)
stated_at version sources (h ∷ groups) [] g row t here there = absurd (none-some t there)
stated_at version sources (h ∷ groups) (u ∷ ts) zero row t here there = ap₂ (λ (r : GroupRow) (v : SlotTable). Some (stated_of version sources r v)) (same_Some h row here) (same_Some u t there)
stated_at version sources (h ∷ groups) (u ∷ ts) (suc g) row t here there = stated_at version sources groups ts g row t here there

all_stated : (P : Stated → Type 0) (version : ℕ) (sources : List SourceRow) (groups : List GroupRow) (ts : List SlotTable)
    → ((g : ℕ) (row : GroupRow) (t : SlotTable) → slice_get groups g ≡ Some row → slice_get ts g ≡ Some t → P (stated_of version sources row t)) → AllByRecursion P (stated_groups version sources groups ts)
all_stated P version sources [] ts each = tt
all_stated P version sources (h ∷ groups) [] each = tt
all_stated P version sources (h ∷ groups) (t ∷ ts) each = (each 0 h t refl refl, all_stated P version sources groups ts (λ g row t here there. each (suc g) row t here there))

-- ---- a proposal

pub record IsProposal (q : Proposed) : Type 0 where
  pub sound : IsSound q.station
  pub plan : IsPlanOf q.station q.plan

module _ (q : Proposed) (Q : IsProposal q) where
  rows_at : (g : ℕ) (row : GroupRow) → slice_get q.station.groups g ≡ Some row → (rows : List OutputRow) × (slice_get q.station.outputs g ≡ Some rows)
  rows_at g row here = get_within q.station.outputs g (omega (arith, slice_get_within q.station.groups g row here, Q.sound.outputs_of_groups))

  planned_at : (g : ℕ) (row : GroupRow) (rows : List OutputRow) (t : SlotTable) → slice_get q.station.groups g ≡ Some row → slice_get q.station.outputs g ≡ Some rows → slice_get (groups_of q.plan) g ≡ Some t
      → IsPlanned q.station row.rate rows t
  planned_at g row rows t here listed there = record {
    sound = Q.sound;
    planned = planned_group q.station q.plan g row rows t Q.plan here listed there;
    known = all_at (HaveSources q.station.sources) q.station.outputs g rows Q.sound.known_sources listed;
    own = all_at HaveOwnSources q.station.outputs g rows Q.sound.own_sources listed;
  }

  unheld_at : (g : ℕ) (rows : List OutputRow) → slice_get q.station.outputs g ≡ Some rows → q.station.version ≡ 1 → AllByRecursion (λ (o : OutputRow). o.hold ≡ None) rows
  unheld_at g rows listed one = all_at (AllByRecursion (λ (o : OutputRow). o.hold ≡ None)) q.station.outputs g rows (Q.sound.no_holds one) listed

  all_fit : FewestCarry → AllByRecursion (FitsStated q.station.version) (stated_groups q.station.version q.station.sources q.station.groups (groups_of q.plan))
  all_fit law =
      all_stated (FitsStated q.station.version) q.station.version q.station.sources q.station.groups (groups_of q.plan)
      (λ g row t here there.
      let rows = rows_at g row here in
      stated_fits q.station row rows.0 t (record {
        table = planned_at g row rows.0 t here rows.1 there;
        group = all_at IsGroupRow q.station.groups g row Q.sound.group_rows here;
        some = (all_at (λ (os : List OutputRow). (1 ≤ length os) × (length os ≤ 128)) q.station.outputs g rows.0 Q.sound.some_outputs rows.1).0;
        holds = all_at (AllByRecursion IsHold) q.station.outputs g rows.0 Q.sound.holds rows.1;
        law = law;
      }) q.station.version)

version_short : (version : ℕ) → (version ≡ 1) ⊎ (version ≡ 2) → IsShort version
version_short version (inl one) = omega (arith, one)
version_short version (inr two) = omega (arith, two)

-- the lines of a text with this head
one_line : (version : ℕ) (rest : List ℕ) → IsShort version → lines_of ((version_text version ++ []) ++ rest) ≡ version_text version ∷ lines_of rest
one_line version rest short = ap lines_of (append_assoc (version_text version) [] rest) ∙ version_is_line version short rest

two_lines : (version rate : ℕ) (rest : List ℕ) → IsShort version → IsShort rate → lines_of ((version_text version ++ rate_text rate) ++ rest) ≡ version_text version ∷ (rate_text rate ∷ lines_of rest)
two_lines version rate rest short small =
    ap lines_of (append_assoc (version_text version) (rate_text rate) rest) ∙ version_is_line version short (rate_text rate ++ rest)
    ∙ ap (λ (ls : List (List ℕ)). version_text version ∷ ls) (rate_is_line rate small rest)

-- what begins with the line of a version
first_line : (version : ℕ) (rate : Option ℕ) (rest : List ℕ) → IsShort version → (rate_small : IfSome rate IsShort) → get_or (lines_of ((version_text version ++ option_map_or rate_text rate []) ++ rest)) 0 [] ≡ version_text version
first_line version None rest short small = ap (λ (ls : List (List ℕ)). get_or ls 0 []) (one_line version rest short)
first_line version (Some rate) rest short small = ap (λ (ls : List (List ℕ)). get_or ls 0 []) (two_lines version rate rest short small)

rest_lines : (version : ℕ) (rate other : Option ℕ) (rest more : List ℕ) → IsShort version → IfSome rate IsShort → IfSome other IsShort → is_some rate ≡ is_some other
    → lines_of ((version_text version ++ option_map_or rate_text rate []) ++ rest) ≡ lines_of ((version_text version ++ option_map_or rate_text other []) ++ more) → (rate ≡ other) × (lines_of rest ≡ lines_of more)
rest_lines version None None rest more short small few alike h = (refl, ap (drop 1) (sym (one_line version rest short) ∙ h ∙ one_line version more short))
rest_lines version None (Some other) rest more short small few alike h = absurd (clash alike)
rest_lines version (Some rate) None rest more short small few alike h = absurd (clash (sym alike))
rest_lines version (Some rate) (Some other) rest more short small few alike h =
    let both = sym (two_lines version rate rest short small) ∙ h ∙ two_lines version other more short few in
    let text : rate_text rate ≡ rate_text other = ap (λ (ls : List (List ℕ)). get_or ls 1 []) both in
    (sym (rate_again rate small) ∙ ap rate_line text ∙ rate_again other few, ap (drop 2) both)

small_rate : (rate : Option ℕ) → IfSome rate IsRate → IfSome rate IsShort
small_rate None h = tt
small_rate (Some rate) h = rate_short rate h

rate_there : (e : TableRecord) → IsSound e → (other : TableRecord) → IsSound other → e.version ≡ other.version → is_some e.rate ≡ is_some other.rate
rate_there e sound other more version = elim sound.version [
  | inl one ↦
      let first = (sound.one_rate one).1 in
      let second = (more.one_rate (sym version ∙ one)).1 in
      ap is_some first ∙ sym (ap is_some second)
  | inr two ↦ ap is_some (sound.own_rates two) ∙ sym (ap is_some (more.own_rates (sym version ∙ two)))
]

-- ---- the proposals

module _ (a b : Proposed) (A : IsProposal a) (B : IsProposal b) (law : FewestCarry) (text : plan_text_of a.station a.plan ≡ plan_text_of b.station b.plan) (station : same_station a.station b.station ≡ true) (intervals : HaveSameIntervals a.station b.station) where
  sources : a.station.sources ≡ b.station.sources
  sources = ((same_station_is a.station b.station).0 station).1

  groups : a.station.groups ≡ b.station.groups
  groups = ((same_station_is a.station b.station).0 station).2

  version : a.station.version ≡ b.station.version
  version =
      let short = version_short a.station.version A.sound.version in
      let small = version_short b.station.version B.sound.version in
      let first : version_text a.station.version ≡ version_text b.station.version =
      sym (first_line a.station.version a.station.rate (groups_text a.station a.plan) short (small_rate a.station.rate A.sound.rate))
      ∙ ap (λ (t : List ℕ). get_or (lines_of t) 0 []) text
      ∙ first_line b.station.version b.station.rate (groups_text b.station b.plan) small (small_rate b.station.rate B.sound.rate) in
      same_Some _ _ (sym (plan_again a.station.version short) ∙ ap plan_line first ∙ plan_again b.station.version small)

  rest : (a.station.rate ≡ b.station.rate) × (lines_of (groups_text a.station a.plan) ≡ lines_of (groups_text b.station b.plan))
  rest =
      rest_lines a.station.version a.station.rate b.station.rate (groups_text a.station a.plan) (groups_text b.station b.plan) (version_short a.station.version A.sound.version)
      (small_rate a.station.rate A.sound.rate) (small_rate b.station.rate B.sound.rate) (rate_there a.station A.sound b.station B.sound version)
      (ap lines_of text ∙ ap (λ (v : ℕ). lines_of ((version_text v ++ option_map_or rate_text b.station.rate []) ++ groups_text b.station b.plan)) (sym version))

  stated : stated_groups a.station.version a.station.sources a.station.groups (groups_of a.plan) ≡ stated_groups b.station.version b.station.sources b.station.groups (groups_of b.plan)
  stated =
      stated_back a.station.version (stated_groups a.station.version a.station.sources a.station.groups (groups_of a.plan)) (stated_groups b.station.version b.station.sources b.station.groups (groups_of b.plan))
      (all_fit a A law) (subst (λ (v : ℕ). AllByRecursion (FitsStated v) (stated_groups b.station.version b.station.sources b.station.groups (groups_of b.plan))) (sym version) (all_fit b B law)) rest.1

  rows_of : (e : TableRecord) (g : ℕ) (rows : List OutputRow) → slice_get e.outputs g ≡ Some rows → outputs_in e g ≡ rows
  rows_of e g rows there = get_or_from_slice_get e.outputs g rows [] there

  one_stated : (g : ℕ) → g < length a.station.groups → (row : GroupRow) × (rows : List OutputRow) × (news : List OutputRow) × (t : SlotTable) × (u : SlotTable)
      × (rate_in a g ≡ rate_in b g) × (both_of a b g ≡ Some (group_of row.name (rate_in a g) (rate_in b g) a.station rows t b.station news u)) × IsOneStated a.station b.station a.station.version row rows news t u
  one_stated g below =
      let row = get_within a.station.groups g below in
      let again : slice_get b.station.groups g ≡ Some row.0 = ap (λ (gs : List GroupRow). slice_get gs g) (sym groups) ∙ row.1 in
      let rows = rows_at a A g row.0 row.1 in
      let news = rows_at b B g row.0 again in
      let t = get_within (groups_of a.plan) g (omega (arith, below, A.plan.count)) in
      let u = get_within (groups_of b.plan) g (omega (arith, slice_get_within b.station.groups g row.0 again, B.plan.count)) in
      let one : stated_of a.station.version a.station.sources row.0 t.0 ≡ stated_of b.station.version b.station.sources row.0 u.0 =
      same_Some _ _ (sym (stated_at a.station.version a.station.sources a.station.groups (groups_of a.plan) g row.0 t.0 row.1 t.1) ∙ ap (λ (ss : List Stated). slice_get ss g) stated
      ∙ stated_at b.station.version b.station.sources b.station.groups (groups_of b.plan) g row.0 u.0 again u.1) in
      let first : sent_by a g ≡ sent a.station.sources rows.0 t.0 =
      ap₂ (λ (os : List OutputRow) (v : SlotTable). sent a.station.sources os v) (rows_of a.station g rows.0 rows.1) (get_or_from_slice_get (groups_of a.plan) g t.0 no_table t.1) in
      let second : sent_by b g ≡ sent b.station.sources news.0 u.0 =
      ap₂ (λ (os : List OutputRow) (v : SlotTable). sent b.station.sources os v) (rows_of b.station g news.0 news.1) (get_or_from_slice_get (groups_of b.plan) g u.0 no_table u.1) in (
        row.0,
        rows.0,
        news.0,
        t.0,
        u.0,
        ap (λ (o : Option GroupRow). option_map_or (λ (r : GroupRow). r.rate) o 0) (row.1 ∙ sym again),
        both_is a b g g row.0 row.1 (named_at (λ (h : GroupRow). h.name) b.station.groups B.sound.own_groups g row.0 again row.0.name refl)
            ∙ ap₂ (λ (s v : Sent). Some (record { name = row.0.name; rate = rate_in a g; new_rate = rate_in b g; first = s; second = v })) first second,
        record {
          first = planned_at a A g row.0 rows.0 t.0 row.1 rows.1 t.1;
          second = planned_at b B g row.0 news.0 u.0 again news.1 u.1;
          sources = sources;
          intervals = λ o p x y here there source.
              intervals g o p x y (ap (λ (os : List OutputRow). slice_get os o) (rows_of a.station g rows.0 rows.1) ∙ here) (ap (λ (os : List OutputRow). slice_get os p) (rows_of b.station g news.0 news.1) ∙ there) source;
          stated = one ∙ ap (λ (v : ℕ). stated_of v b.station.sources row.0 u.0) (sym version);
          version_is = A.sound.version;
          no_holds = unheld_at a A g rows.0 rows.1;
          none_held = λ is. unheld_at b B g news.0 news.1 (sym version ∙ is);
        },
      )

  no_groups : (all has_gap : Bool) → groups_rows all has_gap a b ≡ []
  no_groups all has_gap =
      each_none (group_both_rows all has_gap a b) (length a.station.groups)
      (λ g below.
      let (row, rows, news, t, u, rate, both, one) = one_stated g below in
      ap (λ (o : Option Both). option_map_or (both_rows all has_gap) o []) both ∙ group_kept a.station b.station a.station.version row rows news t u one all has_gap row.name (rate_in a g) (rate_in b g) rate)

  no_move : moved_count a b ≡ 0
  no_move =
      each_sum (group_moved a b) (length a.station.groups)
      (λ g below.
      let (row, rows, news, t, u, rate, both, one) = one_stated g below in
      ap (λ (o : Option Both). option_map_or moved_in o 0) both ∙ none_moved a.station b.station a.station.version row rows news t u one true true row.name (rate_in a g) (rate_in b g) rate)

  abbrev to_version : List ℕ
  to_version = with_number (codes "version") (Some a.station.version) (Some b.station.version) []

  no_version : to_version ≡ []
  no_version = number_none (codes "version") (Some a.station.version) (Some b.station.version) [] (ap (λ (n : ℕ). Some n) version) refl

  no_table_change : table_change a.station b.station ≡ []
  no_table_change =
      either (length a.station.groups == 0 && length b.station.groups == 0) (number_none (codes "rate") a.station.rate b.station.rate to_version rest.0 no_version) no_version
    where
      either : (c : Bool) → with_number (codes "rate") a.station.rate b.station.rate to_version ≡ [] → to_version ≡ [] → (if c then with_number (codes "rate") a.station.rate b.station.rate to_version else to_version) ≡ []
      either true h none = h
      either false h none = none

  pub no_rows : (all : Bool) → diff_rows a b all ≡ []
  no_rows all =
      none_both (equipment_rows a.station b.station) (plan_rows a b all)
      (none_both (table_rows a.station b.station) (station_rows a.station b.station ++ lists_rows a.station b.station)
      (none_row (of_kind (codes "table")) (table_change a.station b.station) no_table_change)
      (none_both (station_rows a.station b.station) (lists_rows a.station b.station)
      (none_if (same_station a.station b.station) (change_row (of_kind (codes "station")) (codes "another") ∷ []) station) (no_lists a.station b.station A.sound station)))
      (none_both (groups_rows all (same_station a.station b.station) a b) (if all then [] else count_rows (moved_count a b)) (no_groups all (same_station a.station b.station))
      (either all (none_if (moved_count a b == 0) _ (eq-eqb (moved_count a b) 0 no_move))))
    where
      either : (c : Bool) → count_rows (moved_count a b) ≡ [] → (if c then [] else count_rows (moved_count a b)) ≡ []
      either true h = refl
      either false h = h
