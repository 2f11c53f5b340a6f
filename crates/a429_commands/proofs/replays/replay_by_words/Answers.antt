use Rattle.std.proofs.Common.{rules, ◌≡◌, ◌∙◌, ◌<◌, ◌-◌, ◌^◌, ℕ, [], refl, ap}
use Rattle.std.specs.declared.vec.Vec.{Vec}
use Rattle.std.specs.declared.alloc.Global.{Global}
use Rattle.a429_console.specs.MemoryFile.{file_of}
use Rattle.a429_arguments.specs.Requests.{asked_by_names}
use Rattle.a429_arguments.specs.declared.forms.Verb.TheVariants as verb
use Rattle.a429_cli.specs.Replies.{IsReplyOrMemory}
use Rattle.a429_commands.proofs.RequestAnswers.{all_is_put, replay_has_words, replay_is_answered}
use Rattle.a429_commands.proofs.ToTheEnd.{played_to_the_end}
use Rattle.a429_commands.proofs.replays.replay_by_words.Goals as goal

pub returns-clause-replied : goal.returns-clause-replied
returns-clause-replied g c =
    let asks = c.plain_words_ask.ensures (asked_by_names verb.Replay c.args.table.now c.args.script.now []) (replay_has_words c.args.table.now c.args.script.now c.requires.table c.requires.script) in
    let whole : (c.new-out.result.failures < 2 ^ 64 - 1) × (c.run_on_words-status.new.out.failures ≡ c.new-out.result.failures) = search rules in
    let gets = rw (c.as_bytes.ensures.value, c.as_bytes-2.ensures.value) at c.run_on_words-status.ensures in
    let told = replay_is_answered _ _ _ _ _ c.args.path.now c.args.table.now c.args.script.now c.utf8.table c.utf8.script asks refl whole gets in
    let none : c.new-out.result.writer.items ≡ [] = ap (λ (v : Vec ℕ Global). v.items) c.new-out.ensures.writer ∙ c.new.ensures.items in
    all_is_put (IsReplyOrMemory (file_of c.args.files.now.files.items) (asked_by_names verb.Replay c.args.table.now c.args.script.now [])) c.run_on_words-status.result c.new-out.result.writer.items
    c.run_on_words-status.new.out.writer.items none told

pub returns-clause-done : goal.returns-clause-done
returns-clause-done g c done =
    played_to_the_end (file_of c.args.files.now.files.items) c.args.table.now c.args.script.now c.run_on_words-status.new.out.writer.items c.run_on_words-status.result
    (returns-clause-replied g c) done
