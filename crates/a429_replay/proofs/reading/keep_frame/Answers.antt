use Rattle.std.proofs.Common.{rules, ◌≡◌, ◌∙◌, ◌∷◌, [], ◌++◌, List, ℕ, ap, sym}
use Rattle.std.specs.Prelude.{codes}
use Rattle.a429_replay.specs.declared.script.ScriptEvent.TheVariants.{Frame}
use Rattle.a429_replay.proofs.PlainTexts.{whole_rest}
use Rattle.a429_replay.proofs.QuickLines.{frame_line}
use Rattle.a429_replay.proofs.reading.keep_frame.Goals as goal

pub returns-in-Ok-clause-line : goal.returns-in-Ok-clause-line
returns-in-Ok-clause-line c =
    let text = c.args.text.now in
    let pushed : c.push.new.self.items ≡ c.args.kept.now.items ++ c.frame.result ∷ [] = search rules in
    record {
      event = Frame c.in_ok-group.group;
      starts = frame_line c.args.names.now text _ c.in_ok-group.rest.now c.in_ok-group.group (c.requires.verb ∙ ap (λ (w : List ℕ). codes "frame " ++ w) (sym (whole_rest 6 text))) c.in_ok-group.ensures;
      last = record { kept = c.frame.result; pushed = pushed; is = c.frame.ensures };
    }
