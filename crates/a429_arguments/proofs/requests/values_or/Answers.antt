use Rattle.std.proofs.Common.{◌≡◌, ◌∙◌, List, ap, refl}
use Rattle.std.specs.Borrow.{Bor}
use Rattle.std.specs.Prelude.{None, Option, Some, option_map, unwrap_or}
use Rattle.clap.specs.Words.{Text, found_of}
use Rattle.clap.proofs.WalkLemmas.{raw_values-rows}
use Rattle.a429_arguments.specs.Texts.{texts_of}
use Rattle.a429_arguments.proofs.requests.values_or.Goals as goal

map-unwrap_or : {A B : Type 0} (f : A → B) (found : Option A) (default : A) → f (unwrap_or found default) ≡ unwrap_or (option_map f found) (f default)
map-unwrap_or f None default = refl
map-unwrap_or f (Some x) default = refl

pub returns : goal.returns
returns c =
    let texts = λ (values : Bor (List (Bor Text))). texts_of values.now in
    ap texts c.unwrap_or.ensures ∙ (map-unwrap_or texts c.get_strs.result c.args.none
    ∙ ap (λ (values : Option (List Text)). unwrap_or values (texts c.args.none)) (c.get_strs.ensures ∙ raw_values-rows (found_of c.args.found.now) c.args.id.now))
