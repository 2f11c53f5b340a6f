use Rattle.std.proofs.Common.{◌∙◌, ◌∷◌, ◌+◌, ◌<◌, ◌^◌, ℕ, ap, sym, drop, length, rules}
use Rattle.std.proofs.Math.ListN.{drop_of_length-le}
use Rattle.std.proofs.lemmas.Bool.{ltb-true}
use Rattle.std.proofs.lemmas.List.{drop_more}
use Rattle.a429_live.proofs.Resubmits.{all_told, none_told, one_told, some_answer}
use Rattle.a429_live.proofs.report.push_all_resubmitted.Goals as goal

pub loop-place-init : goal.loop-place-init
loop-place-init c = λ begin end zero all. none_told begin end c.args.further.now c.args.answers.now c.args.text.now.items zero all

pub loop-place-preserved : goal.loop-place-preserved
loop-place-preserved c = λ begin end zero all.
    let further = c.args.further.now in
    let answers = c.args.answers.now in
    let i : ℕ = c.loop-place.place in
    let table = c.index-further-place.result in
    let answer = c.in-Some.answer.now in
    let mid = c.loop-place.text.items in
    let new = c.push_resubmitted.new.text.items in
    let look = c.in-Some.ensures.lookup in
    let at = drop_more further i table c.loop-place-test.true ∙ ap (λ x. x ∷ drop (i + 1) further) (sym c.index-further-place.is) in
    let at' = drop_more answers i answer (ltb-true i (length answers) (sym look.0)) ∙ ap (λ x. x ∷ drop (i + 1) answers) (sym look.1) in
    let room : i + 1 < 2 ^ 64 = search rules in
    one_told begin end further answers i table answer c.args.text.now.items mid new at at' room
    (λ v w A few. c.in_ok-push_resubmitted.ensures v w table.items A few)
    (c.loop-place.invariant begin end zero all)

pub returns-in_default : goal.returns-in_default
returns-in_default c = λ begin end zero all.
    let further = c.args.further.now in
    let answers = c.args.answers.now in
    let i : ℕ = c.loop-place.place in
    let table = c.index-further-place.result in
    let (below, unit, inside, past, more) = c.in_default.ensures.lookup in
    let at = drop_more further i table c.loop-place-test.true ∙ ap (λ x. x ∷ drop (i + 1) further) (sym c.index-further-place.is) in
    absurd (some_answer begin end further answers i table c.args.text.now.items c.loop-place.text.items at (drop_of_length-le answers past) (c.loop-place.invariant begin end zero all))

pub returns : goal.returns
returns c = λ begin end zero all.
    let further = c.args.further.now in
    all_told begin end further c.args.answers.now c.loop-place.place c.args.text.now.items c.loop-place.text.items (drop_of_length-le further c.loop-place-test.false) (c.loop-place.invariant begin end zero all)
