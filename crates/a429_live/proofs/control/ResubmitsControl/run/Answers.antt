use Rattle.std.proofs.Common.{◌≡◌, ◌∙◌, ◌∷◌, [], ◌+◌, ℕ, List, ap, drop, sym, subst, refl, append-nil}
use Rattle.std.specs.declared.vec.Vec.{Vec}
use Rattle.std.specs.declared.alloc.Global.{Global}
use Rattle.std.proofs.Math.ListN.{drop_of_length-le}
use Rattle.std.proofs.lemmas.List.{drop_more}
use Rattle.a429_console.specs.Files.{bytes_of}
use Rattle.a429_live.specs.declared.control.SubmitAnswer.{SubmitAnswer}
use Rattle.a429_live.specs.Resubmitted.{AreAnswers, IsAnswer}
use Rattle.a429_live.proofs.Resubmits.{one_more_answer}
use Rattle.a429_live.proofs.control.ResubmitsControl.run.Goals as goal
use Rattle.a429_station.proofs.Plans.{goes_further, GoesOn-refl}

pub loop-table-init : goal.loop-table-init
loop-table-init g c = (GoesOn-refl _, refl, λ none rest w all. rw none all)

pub loop-table-preserved : goal.loop-table-preserved
loop-table-preserved g c =
    let tables = c.args.self.now.tables.now in
    let i : ℕ = c.loop-table.table-index in
    let (on, same, answered) = c.loop-table.invariant in
    let table = c.table-item.result in
    let answer = c.in_ok-answer.answer in
    let told : IsAnswer c.loop-table.station table.items answer c.answer_and_note.new.station =
    subst (λ bytes. IsAnswer c.loop-table.station bytes answer c.answer_and_note.new.station) c.deref.ensures.value c.in_ok-answer.ensures.answer in
    let at : drop i tables ≡ table ∷ drop (i + 1) tables = drop_more tables i table c.loop-table-test.true ∙ ap (λ x. x ∷ drop (i + 1) tables) (sym c.table-item.is) in (
      goes_further c.args.station.now c.loop-table.station c.answer_and_note.new.station on c.answer_and_note.ensures.on,
      same,
      λ none rest w all.
          one_more_answer c.args.station.now w (bytes_of tables) c.loop-table.self.answers.items c.push.new.self.items rest answer c.in_ok-push.ensures.items
          (answered none (answer ∷ rest) w
          (subst (λ (ts : List (Vec ℕ Global)). AreAnswers c.loop-table.station (bytes_of ts) (answer ∷ rest) w) (sym at) (c.answer_and_note.new.station, told, all))),
    )

pub returns-clause-did : goal.returns-clause-did
returns-clause-did g c =
    let tables = c.args.self.now.tables.now in
    let over : drop c.loop-table.table-index tables ≡ [] = drop_of_length-le tables c.loop-table-test.false in
    let (on, same, answered) = c.loop-table.invariant in
    λ none. subst (λ (xs : List SubmitAnswer). AreAnswers c.args.station.now (bytes_of tables) xs c.loop-table.station) (append-nil c.loop-table.self.answers.items)
    (answered none [] c.loop-table.station (subst (λ (ts : List (Vec ℕ Global)). AreAnswers c.loop-table.station (bytes_of ts) [] c.loop-table.station) (sym over) refl))
