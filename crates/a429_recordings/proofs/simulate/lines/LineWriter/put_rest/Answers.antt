use Rattle.std.proofs.Common.{◌≡◌, ◌∙◌, ◌++◌, ℕ, List, ap, ap₂, append_assoc, drop, sym}
use Rattle.std.specs.Fmt.{decimal}
use Rattle.a429_word.specs.Hexadecimal.{hex}
use Rattle.a429_recordings.specs.CellLines.{rest_of, word_end}
use Rattle.a429_recordings.specs.Simulating.{separator}
use Rattle.a429_recordings.proofs.simulate.lines.LineWriter.put_rest.Goals as goal

pub returns-clause-written : goal.returns-clause-written
returns-clause-written c =
    let q = c.args.self.now.proposal in
    let style = c.args.self.now.style in
    let s = c.args.sent in
    let age : ℕ = c.args.age in
    let end = drop c.args.end c.args.room.now in
    let last = word_end q style s.source age in
    let word = c.put_hex-at.ensures.written ∙ ap (λ (xs : List ℕ). hex s.raw ++ xs) c.put_word_end-at.ensures.written in
    let parted = c.put_separator-at.ensures.written ∙ ap (λ (xs : List ℕ). separator style ++ xs) word in
    let whole : rest_of q style s.bus s.raw s.source age ++ end ≡ decimal s.bus ++ (separator style ++ (hex s.raw ++ (last ++ end))) = simp append_assoc in
    c.put_decimal.ensures.written ∙ (ap₂ (λ (n : ℕ) (xs : List ℕ). decimal n ++ xs) c.from.ensures parted ∙ sym whole)
