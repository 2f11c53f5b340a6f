use Rattle.std.proofs.Common.{◌≡◌, ◌∙◌, ℕ, ap, subst, sym}
use Rattle.std.specs.Prelude.{Option}
use Rattle.a429_equipment.specs.TableRecord.{TableRecord}
use Rattle.a429_slots.specs.Tables.{groups_of}
use Rattle.a429_cert.specs.Judged.{IsNoVerdict, ShowsFewest}
use Rattle.a429_cert.specs.Lines.{lines_of, lines_of_groups}
use Rattle.a429_cert.specs.declared.judging.NoVerdict.{NoVerdict}
use Rattle.a429_cert.specs.declared.verdicts.Verdict.{Verdict}
use Rattle.a429_keep.specs.Followed.{IsVerdictOn}
use Rattle.a429_keep.specs.Following.{AreTablesByLines, StateGroups, rest_lines}
use Rattle.a429_keep.proofs.Planned.{planned_fits}
use Rattle.a429_keep.proofs.following.follow.Goals as goal

pub unreachable-requires : goal.unreachable-requires
unreachable-requires c =
    let same = c.equipment-equipment.ensures.equipment in
    let fault = subst (λ (e : TableRecord). IsNoVerdict e c.in-Err-Unfit.field-0) same c.in-Err-Unfit.ensures.fault in
    planned_fits c.args.proposal.now.station c.args.proposal.now.plan c.in-Err-Unfit.field-0-0 c.in-Err-Unfit.field-0-1 c.equipment-equipment.ensures.own
    (subst (λ (none : NoVerdict). IsNoVerdict c.args.proposal.now.station none) c.in-Err-Unfit.field-0-is fault)

pub follow_groups-requires : goal.follow_groups-requires
follow_groups-requires c =
    let e = c.args.proposal.now.station in
    let same = c.equipment-equipment.ensures.equipment in
    let shown : ShowsFewest e c.args.text.now = subst (λ (e : TableRecord). ShowsFewest e c.args.text.now) same (c.in-Ok-Fewest.ensures.fewest c.in-Ok-Fewest.field-0-is) in
    let lines : rest_lines c.group_lines.result ≡ lines_of_groups e.rate (lines_of c.args.text.now)
    = c.group_lines.ensures ∙ ap (λ (rate : Option ℕ). lines_of_groups rate (lines_of c.args.text.now)) (c.rate-rate.ensures.rate ∙ ap (λ (e : TableRecord). e.rate) same) in
    subst (StateGroups e) (sym lines) shown

pub returns-in-Ok-clause-followed : goal.returns-in-Ok-clause-followed
returns-in-Ok-clause-followed c =
    let e = c.args.proposal.now.station in
    let same = c.equipment-equipment.ensures.equipment in
    let answer = subst (λ (e : TableRecord). IsVerdictOn e c.args.text.now c.in-Ok-Fewest.field-0) same c.in-Ok-Fewest.ensures.answer in
    let lines : rest_lines c.group_lines.result ≡ lines_of_groups e.rate (lines_of c.args.text.now)
    = c.group_lines.ensures ∙ ap (λ (rate : Option ℕ). lines_of_groups rate (lines_of c.args.text.now)) (c.rate-rate.ensures.rate ∙ ap (λ (e : TableRecord). e.rate) same) in
    record {
      verdict = subst (λ (v : Verdict). IsVerdictOn e c.args.text.now v) c.in-Ok-Fewest.field-0-is answer;
      station = c.in-Ok.ensures.station;
      tables = subst (AreTablesByLines e (groups_of c.follow_groups.new.proposal.plan)) lines c.in-Ok.ensures.tables;
    }

pub returns-in-Ok-No-clause-fault : goal.returns-in-Ok-No-clause-fault
returns-in-Ok-No-clause-fault c =
    let answer = subst (λ (e : TableRecord). IsVerdictOn e c.args.text.now c.in-Ok-No.field-0) c.equipment-equipment.ensures.equipment c.in-Ok-No.ensures.answer in
    subst (λ (v : Verdict). IsVerdictOn c.args.proposal.now.station c.args.text.now v) c.in-Ok-No.field-0-is answer
