use Rattle.std.proofs.Common.{◌≡◌, ◌-◌, ◌++◌, map}
use Rattle.std.specs.List.{range_with_len}
use Rattle.a429_filter.specs.Sources.{at_start}
use Rattle.a429_live.specs.WordsFile.{words_for}
use Rattle.a429_live.proofs.words.line_sources.Given as goal

abbrev pub invariant-loop-receiver : goal.invariant-loop-receiver
invariant-loop-receiver l =
    l.lines.items ++ map (λ r. at_start (words_for l.arrivals r)) (range_with_len l.receiver (l.receivers - l.receiver)) ≡ map (λ r. at_start (words_for l.arrivals r)) (range_with_len 0 l.receivers)
