use Rattle.std.proofs.Common.{rules, ◌≡◌, ◌∙◌, ◌∷◌, [], ◌++◌, List, ℕ, ap, sym}
use Rattle.std.specs.Prelude.{codes}
use Rattle.a429_replay.specs.declared.script.ScriptEvent.TheVariants.{Arrive}
use Rattle.a429_replay.proofs.PlainTexts.{whole_rest}
use Rattle.a429_replay.proofs.QuickLines.{arrive_line}
use Rattle.a429_replay.proofs.reading.keep_arrive.Goals as goal

pub returns-in-Ok-clause-line : goal.returns-in-Ok-clause-line
returns-in-Ok-clause-line c =
    let text = c.args.text.now in
    let pushed : c.push.new.self.items ≡ c.args.kept.now.items ++ c.arrive.result ∷ [] = search rules in
    record {
      event = Arrive c.in_ok-receiver.receiver c.in_ok-raw.raw;
      starts = arrive_line c.args.names.now text _ c.in_ok-receiver.words.now c.in_ok-raw.rest.now c.in_ok-receiver.receiver c.in_ok-raw.raw
          (c.requires.verb ∙ ap (λ (w : List ℕ). codes "arrive " ++ w) (sym (whole_rest 7 text))) c.in_ok-receiver.ensures c.in_ok-raw.ensures;
      last = record { kept = c.arrive.result; pushed = pushed; is = c.arrive.ensures };
    }
