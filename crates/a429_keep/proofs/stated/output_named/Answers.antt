use Rattle.std.proofs.Common.{◌≡◌, ◌∙◌, drop, take, rules, Some, None}
use Rattle.std.specs.Prelude.{position}
use Rattle.a429_keep.specs.Following.{has_source_name}
use Rattle.a429_keep.proofs.FoundOutputs.{found_at, found_later, maybe_earlier, none_found}
use Rattle.a429_keep.proofs.stated.output_named.Goals as goal

pub returns-in-Some-clause-found : goal.returns-in-Some-clause-found
returns-in-Some-clause-found c =
    let there : position (has_source_name c.args.sources.now c.args.name.now) (drop c.args.first c.args.rows.now) ≡ Some c.in-Some.place = search rules in
    found_later c.args.sources.now c.args.rows.now c.args.name.now c.args.first c.in-Some.place (found_at c.args.sources.now (drop c.args.first c.args.rows.now) c.args.name.now c.in-Some.place there)

pub returns-in-None-clause-found : goal.returns-in-None-clause-found
returns-in-None-clause-found c =
    let before : position (has_source_name c.args.sources.now c.args.name.now) (take c.args.first c.args.rows.now) ≡ c.first_named-in-None.result = search rules in
    maybe_earlier c.args.sources.now c.args.rows.now c.args.name.now c.args.first c.first_named-in-None.result before

pub returns-in-None-clause-none : goal.returns-in-None-clause-none
returns-in-None-clause-none c = λ none o named.
    let after : position (has_source_name c.args.sources.now c.args.name.now) (drop c.args.first c.args.rows.now) ≡ None = search rules in
    let before : position (has_source_name c.args.sources.now c.args.name.now) (take c.args.first c.args.rows.now) ≡ c.first_named-in-None.result = search rules in
    none_found c.args.sources.now c.args.rows.now c.args.name.now c.args.first after (before ∙ none) o named
