use Rattle.std.proofs.Common.{◌∙◌, ap, map, sym}
use Rattle.std.specs.Prelude.{filter_map}
use Rattle.std.proofs.lemmas.Result.{IfOk-weaker}
use Rattle.a429_documents.specs.KeptColumns.{all_lines, kept_in, kept_texts, said_by}
use Rattle.a429_documents.proofs.KeptLines.{last_added, line_added}
use Rattle.a429_documents.proofs.kept.kept_texts.Goals as goal

pub loop-line-preserved : goal.loop-line-preserved
loop-line-preserved c =
    line_added (map said_by c.loop-line.texts) (map said_by c.add_line.new.texts) (filter_map kept_in (all_lines c.args.table.now)) c.loop-line.rest.now c.in-Some.line.now c.in-Some.next.now
    (sym c.in-Some.ensures.cut) c.loop-line.invariant c.add_line.ensures

pub returns : goal.returns
unfolding kept_texts
returns c =
    let known = last_added (map said_by c.loop-line.texts) (map said_by c.add_line-2.new.texts) (filter_map kept_in (all_lines c.args.table.now)) c.loop-line.rest.now
    (sym c.in_default.ensures.cut) c.loop-line.invariant c.add_line-2.ensures in
    IfOk-weaker c.into_vec.result _ _ (λ list same. ap (map said_by) same ∙ known) c.into_vec.ensures
