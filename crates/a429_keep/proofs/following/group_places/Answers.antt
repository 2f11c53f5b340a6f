use Rattle.std.proofs.Common.{◌≡◌, ◌∙◌, ◌<◌, ◌+◌, ℕ, List, ap, drop, length, subst, sym}
use Rattle.std.specs.Prelude.{Some, slice_get}
use Rattle.std.proofs.lemmas.Option.{same_Some}
use Rattle.a429_equipment.specs.Sound.{IsSound}
use Rattle.a429_equipment.specs.TableRecord.{TableRecord}
use Rattle.a429_equipment.specs.declared.rows.OutputRow.{OutputRow}
use Rattle.a429_equipment.specs.declared.rows.SourceRow.{SourceRow}
use Rattle.a429_slots.specs.Tables.{PlanTable, groups_of}
use Rattle.a429_cert.specs.Lines.{line_at}
use Rattle.a429_keep.specs.Following.{ArePlacesByLines, ListsOutput, rest_lines}
use Rattle.a429_keep.proofs.FollowedGroups.{group_of, group_placed, lines_after, of_equal}
use Rattle.a429_keep.proofs.StatedGroups.{IsStatedGroup, lists, table_count}
use Rattle.a429_keep.proofs.following.group_places.Goals as goal
use Rattle.a429_keep.proofs.following.group_places.Goals.{After-sources}

-- the slot table of the group
table_there : (c : After-sources) → slice_get (groups_of c.args.proposal.now.plan) c.args.group ≡ Some c.group-table.result.now
table_there c = ap (λ (p : PlanTable). slice_get (groups_of p) c.args.group) (sym c.plan.ensures.plan) ∙ c.group-table.ensures

-- its rows
rows_there : (c : After-sources) → c.requires.states.rows ≡ c.outputs-rows.result.now
rows_there c =
    let S = c.requires.states in
    same_Some S.rows c.outputs-rows.result.now (sym S.outputs ∙ ap (λ (e : TableRecord). slice_get e.outputs c.args.group) (sym c.equipment-equipment.ensures.equipment) ∙ c.outputs-rows.ensures.rows)

-- what is known of it
known : (c : After-sources) → IsStatedGroup c.args.proposal.now.station c.requires.states.group c.requires.states.rows (rest_lines c.args.lines.now) c.group-table.result.now
known c =
    let p = c.args.proposal.now in
    let sound : IsSound p.station = subst IsSound c.equipment-equipment.ensures.equipment c.rows_are_sound.ensures in
    group_of p.station p.plan c.args.group (rest_lines c.args.lines.now) c.group-table.result.now sound c.plan.ensures.own c.planned_tables_are_spaced.ensures c.fewest_by_demand.ensures.one c.requires.states (table_there c)

pub stated_places-requires-clause-count : goal.stated_places-requires-clause-count
stated_places-requires-clause-count c =
    let S = c.requires.states in
    table_count c.args.proposal.now.station S.group S.rows (rest_lines c.args.lines.now) c.group-table.result.now (known (goal.at.stated_places-requires-clause-count c).After-sources) ∙ ap (λ (rs : List OutputRow). length rs) (rows_there (goal.at.stated_places-requires-clause-count c).After-sources)

pub stated_places-requires-clause-lines : goal.stated_places-requires-clause-lines
stated_places-requires-clause-lines c =
    let e : TableRecord = c.args.proposal.now.station in
    let S = c.requires.states in
    let lines : List (List ℕ) = rest_lines c.args.lines.now in
    let same = c.equipment-equipment.ensures.equipment in
    let version : e.version ≡ c.version.result = ap (λ (x : TableRecord). x.version) (sym same) ∙ sym c.version.ensures.version in
    let sources : e.sources ≡ c.sources.result.now = ap (λ (x : TableRecord). x.sources) (sym same) ∙ sym c.sources.ensures.rows in
    of_equal (λ (v : ℕ) (ss : List SourceRow) (rs : List OutputRow) (ls : List (List ℕ)). (k : ℕ) → k < length rs → ListsOutput v ss rs (line_at ls k))
    e.version c.version.result e.sources c.sources.result.now S.rows c.outputs-rows.result.now (drop 1 lines) (rest_lines c.next_line.new.self)
    version sources (rows_there (goal.at.stated_places-requires-clause-lines c).After-sources) (sym c.next_line.ensures.rest) (lists e S.group S.rows lines c.group-table.result.now (known (goal.at.stated_places-requires-clause-lines c).After-sources))

pub returns : goal.returns
returns c =
    let e : TableRecord = c.args.proposal.now.station in
    let S = c.requires.states in
    let lines : List (List ℕ) = rest_lines c.args.lines.now in
    let t = c.group-table.result.now in
    let same = c.equipment-equipment.ensures.equipment in
    let rows = rows_there (goal.at.returns c).After-sources in
    let version : c.version.result ≡ e.version = c.version.ensures.version ∙ ap (λ (x : TableRecord). x.version) same in
    let sources : c.sources.result.now ≡ e.sources = c.sources.ensures.rows ∙ ap (λ (x : TableRecord). x.sources) same in
    let places : ArePlacesByLines e.version e.sources S.rows (drop 1 lines) t c.in_ok-places.places.items =
    of_equal (λ (v : ℕ) (ss : List SourceRow) (rs : List OutputRow) (ls : List (List ℕ)). ArePlacesByLines v ss rs ls t c.in_ok-places.places.items)
    c.version.result e.version c.sources.result.now e.sources c.outputs-rows.result.now S.rows (rest_lines c.next_line.new.self) (drop 1 lines)
    version sources (sym rows) c.next_line.ensures.rest c.in_ok-places.ensures.places in
    let left : rest_lines c.next_line-2.new.self ≡ drop (length S.rows + 2) lines
    = c.next_line-2.ensures.rest
    ∙ ap (drop 1) c.in_ok-places.ensures.rest
    ∙ ap (λ (rs : List OutputRow). drop 1 (drop (length rs) (rest_lines c.next_line.new.self))) (sym rows)
    ∙ ap (λ (ls : List (List ℕ)). drop 1 (drop (length S.rows) ls)) c.next_line.ensures.rest
    ∙ lines_after (length S.rows) lines in
    group_placed c.args.proposal.now c.args.group lines (rest_lines c.next_line-2.new.self) t S (known (goal.at.returns c).After-sources) (table_there (goal.at.returns c).After-sources) c.in_ok-places.places.items places left
