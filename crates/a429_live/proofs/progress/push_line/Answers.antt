use Rattle.std.proofs.Common.{◌∙◌, ◌++◌, ℕ, List, ap, append_assoc, min}
use Rattle.std.proofs.lemmas.Result.{on_ok_weaker}
use Rattle.a429_console.specs.Shown.{rest_text}
use Rattle.a429_live.specs.ProgressLines.{counts_text}
use Rattle.a429_live.proofs.progress.push_line.Goals as goal

pub returns : goal.returns
returns c =
    let counts = counts_text c.args.cells c.args.all c.args.words in
    let rest = rest_text (min c.args.cells c.args.all) c.args.all c.args.spent in
    on_ok_weaker c.push_rest.result
    (λ added. added ∙ ap (λ (bytes : List ℕ). bytes ++ rest) c.in_ok-push_counts.ensures ∙ append_assoc c.args.text.now.items counts rest)
    (rw c.min.ensures at c.push_rest.ensures)
