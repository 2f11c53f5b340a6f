use Rattle.std.proofs.Common.{rules, arith, ◌≡◌, ◌∙◌, ◌++◌, ◌∷◌, [], ℕ, List, Some, option_map, get_or, take, drop, refl, ap, sym}
use Rattle.std.proofs.lemmas.List.{append-nil, drop_all, map_push}
use Rattle.a429_arguments.specs.Texts.{texts_of}
use Rattle.a429_page.specs.Parts.{parts_of}
use Rattle.a429_page.proofs.PartLists.{parts_of-cut, parts_of-taken}
use Rattle.a429_page.proofs.parts.parts.Goals as goal

pub returns-then-size-rest-clause-unstated : goal.returns-then-size-rest-clause-unstated
returns-then-size-rest-clause-unstated c is =
    sym c.loop-size.invariant ∙ ap (option_map (λ (more : List (List ℕ)). texts_of c.loop-size.parts.items ++ more))
    (parts_of-cut c.args.sizes.now c.loop-size.size-index c.loop-size.rest.now c.loop-size-test.true c.if-size-rest.true)

pub loop-size-preserved : goal.loop-size-preserved
loop-size-preserved c =
    let size = get_or c.args.sizes.now c.loop-size.size-index 0 in
    let taken = parts_of-taken (texts_of c.loop-size.parts.items) c.args.sizes.now c.loop-size.size-index c.loop-size.rest.now c.loop-size-test.true (omega (arith, c.if-size-rest.false)) in
    let part : c.split_at.result.0.now ≡ take size c.loop-size.rest.now = c.split_at.ensures.front in
    let left : c.split_at.result.1.now ≡ drop size c.loop-size.rest.now = c.split_at.ensures.back in
    let pushed : texts_of c.push.new.self.items ≡ texts_of c.loop-size.parts.items ++ take size c.loop-size.rest.now ∷ [] = search (rules, map_push, part) in
    rw (pushed, left) taken ∙ c.loop-size.invariant

pub returns-clause-parts : goal.returns-clause-parts
unfolding parts_of
returns-clause-parts c =
    let none : drop c.loop-size.size-index c.args.sizes.now ≡ [] = drop_all c.loop-size.size-index c.args.sizes.now (omega (arith, c.loop-size-test.false)) in
    let all = rw none at c.loop-size.invariant in
    sym all ∙ ap Some (append-nil (texts_of c.loop-size.parts.items))
