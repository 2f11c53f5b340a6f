use Rattle.a429_console.proofs.ReadingParts.{read_weaker}
use Rattle.std.proofs.Common.{◌++◌, ◌∷◌, [], inl, inr, map, refl, subst, List}
use Rattle.std.specs.Prelude.{Option}
use Rattle.std.proofs.lemmas.Result.{IfOk-weaker}
use Rattle.a429_filter.specs.declared.filters.Filter.{Filter}
use Rattle.a429_line.specs.LineBytes.{symbols_of}
use Rattle.a429_cli.specs.LineReplies.{IsLinesRefusal, IsTold}
use Rattle.a429_console.specs.RefusalText.{refusal_line}
use Rattle.a429_console.proofs.Refused.{both_ok, told_or_memory}
use Rattle.a429_cli.proofs.lines.tell_lines.Goals as goal

pub returns-in-Ok-clause-told : goal.returns-in-Ok-clause-told
returns-in-Ok-clause-told g c =
    let content = c.in-Ok.line.bytes.items in
    rw c.plain_answer.ensures (read_weaker c.in-Ok.ensures (λ file read. IfOk-weaker c.tell_line.result _ _
    (λ status told. (told.0, inr (content, read.0, read.1, subst (λ (fs : Option (List Filter)). IsTold c.args.form fs (symbols_of content) status told.0) read.2 told.1), told.2)) c.tell_line.ensures.told))

pub returns-in-Err-clause-told : goal.returns-in-Err-clause-told
returns-in-Err-clause-told g c = read_weaker c.in-Err.ensures (λ file why.
    let refused = IsLinesRefusal file c.args.name.now (map (λ f. f.now) c.args.filters.now) in
    both_ok c.refuse.result _ _
    (λ status is line. (refusal_line line.0 ++ 10 ∷ [], inl (line.0, told_or_memory refused c.in-Err.refusal line.0 line.1 why, is, refl), line.2)) c.refuse.ensures.status c.refuse.ensures.line)
