use Rattle.a429_callers.proofs.KnownWords.{AreLaws, known_in_time}
use Rattle.a429_callers.proofs.latency.known_words_go_out_in_time.Goals as goal

pub returns : goal.returns
returns c =
    let law : AreLaws = record {
      run = c.one_run.ensures;
      pass = c.frames_go_on.ensures.other;
      next = c.frames_go_on.ensures.next;
      alike = c.cut_histories_answer_alike.ensures;
      words = c.words_are_accepted_one_by_one.ensures;
      out = c.accepted_words_go_out_in_time.ensures.settled;
    } in
    known_in_time law
