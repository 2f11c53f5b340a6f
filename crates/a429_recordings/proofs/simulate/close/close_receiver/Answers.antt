use Rattle.std.proofs.Common.{◌≡◌, ◌<◌, ◌≤◌, ◌++◌, ◌∷◌, [], ℕ, List, get_or, take, subst, sym, arith}
use Rattle.std.specs.Prelude.{Some, slice_get}
use Rattle.std.proofs.lemmas.List.{take_all}
use Rattle.std.proofs.lemmas.Option.{slice_get-get_or}
use Rattle.a429_word.proofs.Lists.{take_next}
use Rattle.a429_recordings.specs.CloseWords.{KeepsRuns, closest_after}
use Rattle.a429_recordings.specs.declared.simulate.log.LogWord.{LogWord}
use Rattle.a429_recordings.proofs.CloseRuns.{are_spaced, runs_more, too_close}
use Rattle.a429_recordings.proofs.simulate.close.close_receiver.Goals as goal

abbrev no_word : LogWord
no_word = record { time = 0; receiver = 0; raw = 0 }

pub returns-then-note_word-gt-MOST_CLOSE-clause-none : goal.returns-then-note_word-gt-MOST_CLOSE-clause-none
returns-then-note_word-gt-MOST_CLOSE-clause-none c = λ spaced.
    let words = c.args.words.now in
    let n : ℕ = c.loop-word.word-index in
    let here : slice_get words n ≡ Some (get_or words n no_word) = slice_get-get_or words n no_word c.loop-word-test.true in
    let many : 100 < closest_after c.loop-word.runs (get_or words n no_word) = omega (arith, c.note_word.ensures.count, c.if-note_word-gt-MOST_CLOSE.true) in
    absurd (too_close words n c.loop-word.runs (get_or words n no_word) c.loop-word.invariant here many spaced)

pub returns-clause-spaced : goal.returns-clause-spaced
returns-clause-spaced c =
    let words = c.args.words.now in
    let all : take c.loop-word.word-index words ≡ words = take_all c.loop-word.word-index words c.loop-word-test.false in
    λ none. are_spaced words c.loop-word.runs (subst (λ (ws : List LogWord). KeepsRuns ws c.loop-word.runs) all c.loop-word.invariant)

pub loop-word-preserved : goal.loop-word-preserved
loop-word-preserved c =
    let words = c.args.words.now in
    let n : ℕ = c.loop-word.word-index in
    let w : LogWord = get_or words n no_word in
    let here : slice_get words n ≡ Some w = slice_get-get_or words n no_word c.loop-word-test.true in
    let few : closest_after c.loop-word.runs w ≤ 100 = omega (arith, c.note_word.ensures.count, c.if-note_word-gt-MOST_CLOSE.false) in
    subst (λ (ws : List LogWord). KeepsRuns ws c.note_word.new.runs) (sym (take_next words n w here))
    (subst (KeepsRuns (take n words ++ w ∷ [])) (sym c.note_word.ensures.runs) (runs_more (take n words) c.loop-word.runs w c.loop-word.invariant few))
