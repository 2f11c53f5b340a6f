use Rattle.std.proofs.Common.{◌≡◌, ◌==◌, ◌∙◌, ◌++◌, Bor, List, ℕ, ap, lit<, map, rules, subst, sym, tests}
use Rattle.std.specs.Prelude.{IfOk}
use Rattle.std.specs.List.{slice_split}
use Rattle.std.specs.Str.Iter.{split_steps}
use Rattle.std.specs.Str.Pattern.{FindsChar}
use Rattle.std.proofs.lemmas.Iterator.{YieldsList}
use Rattle.std.proofs.lemmas.Iterator.Consumers.{YieldsList-from_filter, map_from_collect}
use Rattle.std.proofs.lemmas.Iterator.Splits.{YieldsList-from_str_split}
use Rattle.std.proofs.lemmas.List.{append-nil, drop_all}
use Rattle.toml.specs.Data.{Data, string}
use Rattle.toml.specs.View.{view}
use Rattle.a429_import.specs.ImportTables.{is_word, words}
use Rattle.a429_import.proofs.tables.words.Goals as goal

pub returns : goal.returns
unfolding words
returns c =
    let text : List ℕ = c.args.text.now in
    let found = map_from_collect _ c.collect.ensures.ran
    (YieldsList-from_filter {s = c.filter.result} _ is_word
    (subst (λ i. YieldsList (split_steps FindsChar (λ a b. b ≡ a)) (λ x. x.now) i (slice_split (λ b. b == 32) text)) (sym c.filter.ensures.source)
    (YieldsList-from_str_split 32 text (lit< tt) c.split.ensures.text c.split.ensures.has_more c.split.ensures.pattern))
    c.filter.ensures.closure (λ x b q k. search (rules, tests))) in
    let texts : map (λ p. p.now) c.in_ok-words.words.items ≡ words text = subst (λ r. IfOk r (λ ws. map (λ p. p.now) ws.items ≡ words text)) c.in_ok-words.was found in
    let items : List (Bor (List ℕ)) = c.deref-word-items.result.now in
    let old : List Data = map view c.loop-word.values.items in
    sym (append-nil old) ∙ ap (λ (ps : List (Bor (List ℕ))). old ++ map (λ w. string w) (map (λ p. p.now) ps)) (sym (drop_all c.loop-word.word-index items c.loop-word-test.false))
    ∙ c.loop-word.invariant ∙ ap (λ (ps : List (Bor (List ℕ))). map (λ w. string w) (map (λ p. p.now) ps)) c.deref-word-items.ensures.value
    ∙ ap (map (λ w. string w)) texts
