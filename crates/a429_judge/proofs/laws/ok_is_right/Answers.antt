use Rattle.std.specs.Prelude.{◌==◌}
use Rattle.a429_judge.specs.declared.duties.Heard.{Heard}
use Rattle.a429_judge.specs.Judging.{no_mark}
use Rattle.a429_judge.specs.Judgements.{accepted_by, sent_by}
use Rattle.a429_judge.specs.Recordings.{span_of}
use Rattle.a429_judge.proofs.Logs.{taken_rise}
use Rattle.a429_judge.proofs.RightWords.{ends_in_time, ok_finds_none, sends_are_in_time, sends_are_right}
use Rattle.a429_judge.proofs.laws.ok_is_right.Goals as goal

pub returns : goal.returns
returns c = λ duties d r kept ok.
    let none = ok_finds_none duties d r ok in
    let rise = taken_rise (λ (h : Heard). h.source == d.source) (λ h. h.mark) r.heard (record { source = 0; mark = no_mark }) kept.heard in record {
      words = λ k lt within. sends_are_right d.facts (span_of d.group r) (accepted_by d r) (sent_by d r) k rise none.0 lt within;
      intervals = λ k more lt. sends_are_in_time d.facts (span_of d.group r) (accepted_by d r) (sent_by d r) k none.0 more lt;
      some = none.1;
      end = ends_in_time d.facts (span_of d.group r) (accepted_by d r) (sent_by d r) none.0 none.1;
    }
