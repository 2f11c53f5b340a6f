use Rattle.std.proofs.Common.{rules, tests, ◌≡◌, refl}
use Rattle.std.specs.Prelude.{position}
use Rattle.std.specs.Str.{bytes_eq}
use Rattle.std.proofs.lemmas.Iterator.Search.{position_from_yields_List}
use Rattle.std.proofs.lemmas.Iterator.{YieldsList-from_slice}
use Rattle.a429_console.specs.Names.{number_named}
use Rattle.a429_c.proofs.Numbers.{place-map}
use Rattle.a429_c.proofs.machine.group_number.Goals as goal

pub returns : goal.returns
unfolding number_named
returns c =
    let at : c.position.result ≡ position (λ r. bytes_eq r.name c.args.name.now) c.args.rows.now =
    position_from_yields_List (λ r. bytes_eq r.name c.args.name.now) _ _ c.position.result c.position.ensures.ran (YieldsList-from_slice c.args.rows.now cc) (λ x b q k. search (rules, tests)) in
    rw (place-map (λ r. r.name) (λ own. bytes_eq own c.args.name.now) c.args.rows.now, ← at) refl
