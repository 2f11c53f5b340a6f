use Rattle.std.proofs.Common.{◌≡◌, ◌∙◌, ◌++◌, ℕ, List, ap, ap₂, append_assoc, drop}
use Rattle.std.specs.Fmt.{decimal}
use Rattle.a429_console.specs.Names.{name_at, naming_of}
use Rattle.a429_recordings.specs.Simulating.{sent_end, separator}
use Rattle.a429_recordings.proofs.simulate.lines.LineWriter.put_origin.Goals as goal

pub returns-clause-written : goal.returns-clause-written
returns-clause-written c =
    let q = c.args.self.now.proposal in
    let style = c.args.self.now.style in
    let age : ℕ = c.args.age in
    let name = name_at (naming_of q.station).sources c.args.source in
    let end = drop c.args.end c.args.room.now in
    let aged : drop c.put_decimal-at.result c.put_decimal-at.new.room ≡ decimal age ++ (sent_end style ++ end) = c.put_decimal-at.ensures.written ∙ ap (λ (xs : List ℕ). decimal age ++ xs) c.put_end-at.ensures.written in
    let first : drop c.put_separator-at.result c.put_separator-at.new.room ≡ separator style ++ (decimal age ++ (sent_end style ++ end)) = c.put_separator-at.ensures.written ∙ ap (λ (xs : List ℕ). separator style ++ xs) aged in
    let named : drop c.put_text-at.result c.put_text-at.new.room ≡ name ++ (separator style ++ (decimal age ++ (sent_end style ++ end))) =
    c.put_text-at.ensures.written ∙ ap₂ (λ (x y : List ℕ). x ++ y) c.source_name.ensures.name first in
    c.put_separator.ensures.written ∙ (ap (λ (xs : List ℕ). separator style ++ xs) named ∙ simp append_assoc)
