use Rattle.std.proofs.Common.{rules, tests, ◌≡◌, refl}
use Rattle.std.specs.Prelude.{position}
use Rattle.std.specs.Str.{bytes_eq}
use Rattle.std.proofs.lemmas.Iterator.Search.{position_from_yields_List}
use Rattle.std.proofs.lemmas.Iterator.{YieldsList-from_slice}
use Rattle.a429_page.proofs.Places.{position-map}
use Rattle.a429_page.proofs.files.place_of.Goals as goal

pub returns : goal.returns
returns c =
    let at : c.position.result ≡ position (λ n. bytes_eq n.now c.args.name.now) c.args.names.now =
    position_from_yields_List (λ n. bytes_eq n.now c.args.name.now) _ _ c.position.result c.position.ensures.ran (YieldsList-from_slice c.args.names.now cc) (λ x b q k. search (rules, tests)) in
    rw (position-map (λ n. n.now) (λ own. bytes_eq own c.args.name.now) c.args.names.now, ← at) refl
