use Rattle.std.proofs.Common.{◌≡◌, ◌∙◌, ◌^◌, ◌<◌, List, ap, length, subst, sym}
use Rattle.std.specs.Prelude.{slice_get}
use Rattle.a429_word.proofs.Lists.{read_is}
use Rattle.a429_grid.specs.Grid.{IsGridPeriod}
use Rattle.a429_equipment.specs.declared.rows.SourceRow.{SourceRow}
use Rattle.a429_cert.proofs.due.due_output.Goals as goal

pub returns : goal.returns
returns c =
    let rows : List SourceRow = c.sources.result.now in
    let same : rows ≡ c.args.equipment.now.sources = c.sources.ensures.rows in
    let below : c.args.row.now.source < length rows = subst (λ (rs : List SourceRow). c.args.row.now.source < length rs) (sym same) c.requires in
    let slots : c.from.result ≡ 2 ^ c.in_ok-period.period = c.from.ensures ∙ c.slots.ensures.value in
    record {
      source = c.index-sources-row.result;
      there = ap (λ (rs : List SourceRow). slice_get rs c.args.row.now.source) (sym same) ∙ read_is rows c.args.row.now.source c.index-sources-row.result below c.index-sources-row.is;
      name = ap (λ (s : SourceRow). s.name) (sym c.index-sources-row.is);
      period = subst (IsGridPeriod c.args.row.now.min_us c.args.row.now.max_us c.args.rate) (sym slots) c.in_ok-period.ensures;
      hold = c.to_u64.ensures;
    }
