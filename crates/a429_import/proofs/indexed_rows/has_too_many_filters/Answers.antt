use Rattle.std.proofs.Common.{◌≡◌, ◌==◌, ap, lit<, rules, subst, sym, tests}
use Rattle.std.specs.Prelude.{nat_lt}
use Rattle.std.specs.List.{slice_split}
use Rattle.std.specs.Str.Iter.{split_steps}
use Rattle.std.specs.Str.Pattern.{FindsChar}
use Rattle.std.proofs.lemmas.Iterator.{YieldsList}
use Rattle.std.proofs.lemmas.Iterator.Consumers.{YieldsList-from_filter, count_from_yields_List}
use Rattle.std.proofs.lemmas.Iterator.Splits.{YieldsList-from_str_split}
use Rattle.a429_import.specs.ImportTables.{is_word, words}
use Rattle.a429_import.proofs.indexed_rows.has_too_many_filters.Goals as goal

pub returns : goal.returns
unfolding words
returns c =
    ap (nat_lt 32) (count_from_yields_List c.filter.result c.count.result c.count.ensures.ran
    (YieldsList-from_filter {s = c.filter.result} _ is_word
    (subst (λ i. YieldsList (split_steps FindsChar (λ a b. b ≡ a)) (λ x. x.now) i (slice_split (λ b. b == 32) c.args.text.now)) (sym c.filter.ensures.source)
    (YieldsList-from_str_split 32 c.args.text.now (lit< tt) c.split.ensures.text c.split.ensures.has_more c.split.ensures.pattern))
    c.filter.ensures.closure (λ x b q k. search (rules, tests))))
