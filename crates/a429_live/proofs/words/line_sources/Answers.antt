use Rattle.std.proofs.Common.{◌≡◌, ◌∙◌, ◌+◌, ◌-◌, ◌∷◌, [], ◌++◌, ap, sym, length, map, rules, arith, append_assoc}
use Rattle.std.specs.List.{range_with_len}
use Rattle.std.proofs.lemmas.List.FromFn.{length-map-range_with_len}
use Rattle.a429_filter.specs.Sources.{Memory, at_start}
use Rattle.a429_live.specs.WordsFile.{words_for}
use Rattle.a429_live.proofs.WordsLines.{numbers_left}
use Rattle.a429_live.proofs.words.line_sources.Goals as goal

pub loop-receiver-preserved : goal.loop-receiver-preserved
loop-receiver-preserved c =
    let n = c.loop-receiver.receiver in
    let lines = c.loop-receiver.lines.items in
    let one : Memory = at_start (words_for c.args.arrivals.now n) in
    let rest = map (λ r. at_start (words_for c.args.arrivals.now r)) (range_with_len (n + 1) (c.args.receivers - (n + 1))) in
    let pushed : c.push.new.self.items ≡ lines ++ one ∷ [] = search rules in
    let left = numbers_left (λ r. at_start (words_for c.args.arrivals.now r)) n c.args.receivers c.loop-receiver-test.true in
    ap (λ l. l ++ rest) pushed ∙ (append_assoc lines (one ∷ []) rest ∙ (ap (λ l. lines ++ l) (sym left) ∙ c.loop-receiver.invariant))

pub returns-clause-many : goal.returns-clause-many
returns-clause-many c =
    let words : c.loop-receiver.lines.items ≡ map (λ r. at_start (words_for c.args.arrivals.now r)) (range_with_len 0 c.args.receivers) = search rules in
    let many : length c.loop-receiver.lines.items ≡ c.args.receivers =
    ap length words ∙ length-map-range_with_len (λ r. at_start (words_for c.args.arrivals.now r)) 0 c.args.receivers in
    omega (arith, c.loop-receiver.lines.ok, many)
