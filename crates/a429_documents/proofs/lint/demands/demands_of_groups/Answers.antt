use Rattle.std.proofs.Common.{◌≡◌, ◌+◌, ◌++◌, ◌∷◌, [], ◌≤◌, ◌∙◌, ap, length, map, take, subst, sym, ℕ, List, arith}
use Rattle.std.specs.List.{AllZip}
use Rattle.std.specs.declared.alloc.Global.{Global}
use Rattle.std.specs.declared.vec.Vec.{Vec}
use Rattle.std.proofs.lemmas.List.{map_push, take_all}
use Rattle.a429_word.proofs.Lists.{zip_next}
use Rattle.a429_equipment.specs.TableRecord.{TableRecord}
use Rattle.a429_equipment.specs.declared.rows.OutputRow.{OutputRow}
use Rattle.a429_equipment.specs.declared.rows.SourceRow.{SourceRow}
use Rattle.a429_pack.specs.declared.demands.Demand.{Demand}
use Rattle.a429_slots.specs.Asked.{IsAsked}
use Rattle.a429_slots.specs.Planned.{rated_outputs}
use Rattle.a429_slots.proofs.Planning.{length-rated, rated_at}
use Rattle.a429_documents.proofs.lint.demands.demands_of_groups.Goals as goal

pub loop-group-preserved : goal.loop-group-preserved
loop-group-preserved c =
    let e : TableRecord = c.args.equipment.now in
    let i = c.loop-group.group in
    let rate = c.group_rate-rate.result in
    let rows : List OutputRow = c.outputs.result.now in
    let v : Vec Demand Global = c.in_ok-demands_of.field-0 in
    let R : ℕ × List OutputRow → List Demand → Type 0 = λ rated demands. AllZip (IsAsked rated.0 e.sources) rated.1 demands in
    let there = rated_at e i rate rows c.group_rate-rate.ensures.rate c.outputs.ensures.rows in
    let one : AllZip (IsAsked rate e.sources) rows v.items = subst (λ (ss : List SourceRow). AllZip (IsAsked rate ss) rows v.items) c.sources-sources.ensures.rows c.in_ok-demands_of.ensures in
    let more : map (λ v. v.items) c.push.new.self.items ≡ map (λ v. v.items) c.loop-group.all.items ++ v.items ∷ [] =
    ap (map (λ (v : Vec Demand Global). v.items)) c.in_ok-push.ensures.items ∙ map_push (λ (v : Vec Demand Global). v.items) c.loop-group.all.items v in
    subst (λ (asked : List (List Demand)). AllZip R (take (i + 1) (rated_outputs e)) asked) (sym more)
    (zip_next R (rated_outputs e) (map (λ v. v.items) c.loop-group.all.items) i (rate, rows) v.items there c.loop-group.invariant one)

pub returns : goal.returns
returns c =
    let e : TableRecord = c.args.equipment.now in
    let long : length (rated_outputs e) ≡ length e.outputs = length-rated e c.rows_are_sound.ensures.outputs_of_groups in
    let past : length (rated_outputs e) ≤ c.loop-group.group = omega (arith, long, c.rows_are_sound.ensures.outputs_of_groups, ap length c.groups-group-end.ensures.rows, c.loop-group-test.false) in
    subst (λ (rated : List (ℕ × List OutputRow)). AllZip (λ (rated : ℕ × List OutputRow) (demands : List Demand). AllZip (IsAsked rated.0 e.sources) rated.1 demands) rated (map (λ v. v.items) c.loop-group.all.items)) (take_all c.loop-group.group (rated_outputs e) past)
    c.loop-group.invariant
