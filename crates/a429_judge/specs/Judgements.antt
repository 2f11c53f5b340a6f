-- What is said of an output, and of words that are of none (profile: docs/FORMATS.md, Output of `judge`).
use Rattle.std.specs.Prelude.{ℕ, ◌==◌, ◌&&◌, List, [], Bool, count_by, if◌then◌else◌, length, nat_le, nat_lt}
use Rattle.a429_judge.specs.declared.duties.Duty.{Duty}
use Rattle.a429_judge.specs.declared.facts.Facts.{Facts}
use Rattle.a429_judge.specs.declared.facts.Mark.{Mark}
use Rattle.a429_judge.specs.declared.facts.Span.{Span}
use Rattle.a429_judge.specs.declared.findings.Finding.{Finding}
use Rattle.a429_judge.specs.declared.findings.Kind.TheVariants.{Wrong, Stale, Soon, Late, Again, Silent, Missed}
use Rattle.a429_judge.specs.declared.judgements.Judgement.{Judgement}
use Rattle.a429_judge.specs.declared.judgements.Verdict.{Verdict}
use Rattle.a429_judge.specs.declared.judgements.Verdict.TheVariants as verdict
use Rattle.a429_judge.specs.Figures.{count_of, delays, greatest_of, intervals, least_of}
use Rattle.a429_judge.specs.Judging.{findings, is_known}
use Rattle.a429_judge.specs.Recordings.{Recording, accepted_of, overlapping, sends_of, span_of}

-- two outputs or more of a list may have the label and the SDI of this one
abbrev pub is_alike : List Duty → Duty → Bool
is_alike duties d = nat_lt 1 (overlapping d duties)

-- the words that an output's source accepted, and those that it sent
abbrev pub accepted_by : Duty → Recording → List Mark
accepted_by d r = accepted_of d.source r.heard

abbrev pub sent_by : Duty → Recording → List Mark
sent_by d r = sends_of d r.sent

-- what is found at an output of a group with these outputs; an output that is alike another is not judged
abbrev pub found_by : List Duty → Duty → Span → List Mark → List Mark → List Finding
found_by duties d span accepted sends = if is_alike duties d then [] else findings d.facts span accepted sends

abbrev pub found_at : List Duty → Duty → Recording → List Finding
found_at duties d r = found_by duties d (span_of d.group r) (accepted_by d r) (sent_by d r)

-- of how many sends the log of what came in knows the word
abbrev pub known_sends : Facts → Span → List Mark → List Mark → ℕ
known_sends f span accepted sends = count_by (λ s. is_known f span accepted s.time) sends

-- The verdict if nothing is found, by how many words were accepted and sent, and by how many sends have a known word. One send has no
-- interval, and without a known word none can be wrong: then the logs are too short.
abbrev pub quiet_verdict : ℕ → ℕ → ℕ → Verdict
quiet_verdict heard sent known =
    if sent == 0 then (if heard == 0 then verdict.NotSent else verdict.TooShort)
    else if nat_le 2 sent && nat_lt 0 known then verdict.Ok else verdict.TooShort

abbrev pub verdict_of : Bool → ℕ → ℕ → ℕ → List Finding → Verdict
verdict_of alike heard sent known found =
    if alike then verdict.Alike
    else if length found == 0 then quiet_verdict heard sent known
    else if sent == 0 then verdict.NotSent else verdict.Bad

-- the judgement by these words and findings
unfoldable pub judgement_by : List Duty → Duty → Span → List Mark → List Mark → List Finding → Judgement
judgement_by duties d span accepted sends found = record {
  sent = length sends;
  known = known_sends d.facts span accepted sends;
  least = least_of (intervals sends);
  greatest = greatest_of (intervals sends);
  delay = greatest_of (delays d.facts accepted sends);
  wrong = count_of Wrong found;
  stale = count_of Stale found;
  soon = count_of Soon found;
  late = count_of Late found;
  again = count_of Again found;
  silent = count_of Silent found;
  missed = count_of Missed found;
  found = length found;
  tolerance = d.facts.tolerance;
  verdict = verdict_of (is_alike duties d) (length accepted) (length sends) (known_sends d.facts span accepted sends) found;
}

-- the judgement of an output of a group with these outputs
abbrev pub judgement_of : List Duty → Duty → Recording → Judgement
judgement_of duties d r = judgement_by duties d (span_of d.group r) (accepted_by d r) (sent_by d r) (found_at duties d r)
