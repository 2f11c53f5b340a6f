use Rattle.std.proofs.Common.{◌≡◌, ◌+◌, ℕ, List, refl}
use Rattle.std.specs.Prelude.{Some}
use Rattle.a429_logs.specs.LogRows.{Stated}
use Rattle.a429_console.specs.Files.{logs_of}
use Rattle.a429_console.specs.Names.{Naming, number_named}
use Rattle.a429_recordings.specs.LogViews.{one_item, view_of}
use Rattle.a429_recordings.specs.SimulationLog.{log_words, word_for}
use Rattle.a429_recordings.specs.declared.simulate.log.LogWord.{LogWord}
use Rattle.a429_recordings.proofs.LogTimes.{HasTime, HaveTime, items_timed, moved_to, one_has, timed_few, timed_if, timed_in_order}
use Rattle.a429_recordings.proofs.simulate.log.read_words.Goals as goal

abbrev time_of : LogWord → ℕ
time_of w = w.time

has_time : (names : Naming) (w : Stated) (v : LogWord) → word_for names w ≡ Some v → HasTime time_of w.time v
unfolding word_for
has_time names w v is =
    timed_if time_of w.time (λ (r : ℕ). record { time = w.time; receiver = r; raw = w.raw }) (number_named names.receivers w.name) v (λ r. refl) is

have_time : (names : Naming) (w : Stated) (vs : List LogWord) → one_item (word_for names) w ≡ Some vs → HaveTime time_of w.time vs
have_time names w vs is = one_has time_of w.time (word_for names w) vs (has_time names w) is

pub returns-in-Ok-clause-words : goal.returns-in-Ok-clause-words
unfolding log_words
returns-in-Ok-clause-words g c = c.in-Ok.ensures.kept.0

pub returns-in-Ok-clause-in_time : goal.returns-in-Ok-clause-in_time
returns-in-Ok-clause-in_time g c =
    let names = c.args.names.now in
    let view = view_of c.args.view in
    let last = moved_to view c.args.reading.clock.last in
    let words = c.keep_logs.new.keeper.words.items in
    let are = items_timed time_of view (one_item (word_for names)) c.args.reading (logs_of c.args.logs.now) words (have_time names) c.in-Ok.ensures.kept.0 in
    record {
      in_order = λ i w v here next. timed_in_order time_of last words i (i + 1) w v are refl here next;
      few = λ i w here. timed_few time_of last words i w are here;
    }
