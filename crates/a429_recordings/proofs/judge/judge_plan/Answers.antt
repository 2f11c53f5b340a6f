use Rattle.std.proofs.Common.{◌∙◌, rules}
use Rattle.a429_recordings.specs.JudgeReplies.{files_of}
use Rattle.a429_recordings.proofs.JudgedFiles.{unprinted}
use Rattle.a429_recordings.proofs.judge.judge_plan.Goals as goal

pub returns-in-Ok-clause-judged : goal.returns-in-Ok-clause-judged
returns-in-Ok-clause-judged g c = (c.requires.groups, search rules, (c.in_ok-found.found, c.in_ok-found.ensures, c.in-Ok.ensures.printed))

pub returns-in-Err-clause-judged : goal.returns-in-Err-clause-judged
returns-in-Err-clause-judged g c =
    unprinted c.args.proposal.now (files_of c.args.input) c.in_ok-found.found c.in-Err.refusal c.requires.groups (search rules) c.in_ok-found.ensures c.in-Err.ensures.printed

pub returns-in-Ok-clause-silent : goal.returns-in-Ok-clause-silent
returns-in-Ok-clause-silent g c = λ quiet. c.note_clock.ensures quiet.0 ∙ c.in-Ok.ensures.silent quiet.1
