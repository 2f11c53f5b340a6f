use Rattle.std.proofs.Common.{lit<, rules, tests}
use Rattle.std.proofs.lemmas.Iterator.Search.{all_from_yields_List}
use Rattle.std.proofs.lemmas.Iterator.Splits.{YieldsList-from_str_split}
use Rattle.a429_import.specs.ImportFields.{is_filter_part}
use Rattle.a429_import.proofs.fields.are_filters.Goals as goal

pub returns : goal.returns
returns c =
    all_from_yields_List is_filter_part c.all.new.self _ c.all.result c.all.ensures.ran (YieldsList-from_str_split 32 c.args.text.now (lit< tt) c.split.ensures.text c.split.ensures.has_more c.split.ensures.pattern) (λ x b q k. search (rules, tests))
