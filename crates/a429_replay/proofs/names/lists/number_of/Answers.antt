use Rattle.std.proofs.Common.{rules, tests, ◌≡◌, string_bytes}
use Rattle.std.specs.Prelude.{None, Some, position}
use Rattle.std.specs.Str.{bytes_eq}
use Rattle.std.proofs.lemmas.Iterator.Search.{position_from_yields_List}
use Rattle.std.proofs.lemmas.Iterator.{YieldsList-from_slice}
use Rattle.a429_console.specs.Names.{number_named}
use Rattle.a429_replay.proofs.Numbered.{position-map}
use Rattle.a429_replay.proofs.names.lists.number_of.Goals as goal

pub returns-in_err-number : goal.returns-in_err-number
unfolding number_named
returns-in_err-number c =
    let at : c.position.result ≡ position (λ s. bytes_eq (string_bytes s) c.args.name.now) c.args.names.now =
    position_from_yields_List (λ s. bytes_eq (string_bytes s) c.args.name.now) _ _ c.position.result c.position.ensures.ran (YieldsList-from_slice c.args.names.now cc) (λ x b q k. search (rules, tests)) in
    let none : c.position.result ≡ None = c.in_err-number.was in
    rw (c.from_residual.ensures, position-map string_bytes (λ own. bytes_eq own c.args.name.now) c.args.names.now, ← at, none)

pub returns : goal.returns
unfolding number_named
returns c =
    let at : c.position.result ≡ position (λ s. bytes_eq (string_bytes s) c.args.name.now) c.args.names.now =
    position_from_yields_List (λ s. bytes_eq (string_bytes s) c.args.name.now) _ _ c.position.result c.position.ensures.ran (YieldsList-from_slice c.args.names.now cc) (λ x b q k. search (rules, tests)) in
    let found : c.position.result ≡ Some c.in_ok-number.number = c.in_ok-number.was in
    rw (position-map string_bytes (λ own. bytes_eq own c.args.name.now) c.args.names.now, ← at, found)
