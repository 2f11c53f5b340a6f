use Rattle.std.proofs.Common.{◌≡◌, ◌∙◌, sym, ap, [], refl}
use Rattle.std.specs.Prelude.{filter_map}
use Rattle.a429_line.specs.Reports.{reports, runs, runs_from, first_piece, later_pieces}
use Rattle.a429_filter.specs.Sources.{raw_found, at_start}
use Rattle.a429_filter.proofs.lines.MemoryLine.from_symbols.Goals as goal

none_reported : reports [] ≡ []
unfolding reports runs runs_from first_piece later_pieces
none_reported = refl

pub returns : goal.returns
returns c =
    let told = c.in_ok-feed.ensures.reports [] c.new.ensures in
    let all = rw none_reported at told.2 in
    let found = rw c.new-found.ensures.items at told.1 in
    c.from_words.ensures ∙ ap at_start (c.in_ok-raws_of.ensures ∙ ap (filter_map raw_found) (c.deref.ensures.value ∙ found ∙ sym all))
