use Rattle.std.proofs.Common.{◌≡◌, ◌+◌, ◌++◌, ◌∙◌, [], ℕ, suc, List, ap, append-nil, append_assoc, arith, length, refl, subst, sym}
use Rattle.a429_text.specs.Fields.{Field}
use Rattle.a429_slots.specs.Tables.{PlanTable, groups_of}
use Rattle.a429_documents.specs.Margins.{AreMargins, IsGroupMargin}
use Rattle.a429_documents.specs.PlannedGroups.{PlannedGroup}
use Rattle.a429_documents.proofs.margin.add_groups.Goals as goal

pub loop-number-init : goal.loop-number-init
loop-number-init c = ([], refl, sym (append-nil c.args.rows.now))

pub loop-number-preserved : goal.loop-number-preserved
loop-number-preserved c =
    let (part, are, so) = c.loop-number.invariant in
    let (last, is, now) = c.in_ok-add_group.ensures in
    let more : suc c.loop-number.number ≡ c.loop-number.number + 1 = omega arith in
    let one = subst (λ (g : PlannedGroup). IsGroupMargin g last) c.of.ensures is in (
      part ++ last,
      subst (λ (n : ℕ). AreMargins c.args.proposal.now.station c.args.proposal.now.plan n (part ++ last)) more (part, last, are, one, refl),
      now ∙ ap (λ (rows : List (List Field)). rows ++ last) so ∙ append_assoc c.args.rows.now part last,
    )

pub returns : goal.returns
returns c =
    let (part, are, so) = c.loop-number.invariant in
    let count = ap (λ (p : PlanTable). length (groups_of p)) c.plan.ensures.plan in
    let all : c.loop-number.number ≡ length (groups_of c.args.proposal.now.plan) =
    omega (arith, c.loop-number-test.false, c.loop-number.auto.number-end, c.groups-number-end.ensures.value, count) in
    (part, subst (λ (n : ℕ). AreMargins c.args.proposal.now.station c.args.proposal.now.plan n part) all are, so)
