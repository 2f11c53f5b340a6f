use Rattle.std.proofs.Common.{◌≡◌, drop, take, rules, sym, Some, None}
use Rattle.a429_cert.specs.Faults.{place_of}
use Rattle.a429_cert.proofs.Noted.{found_after, found_before}
use Rattle.a429_cert.proofs.earlier.place_from.Goals as goal

pub returns-in-Some : goal.returns-in-Some
returns-in-Some c =
    let there : place_of c.args.source.now (drop c.args.from c.args.outputs.now) ≡ Some c.in-Some.place = search rules in
    sym (found_after c.args.source.now c.args.outputs.now c.args.from c.in-Some.place c.requires.own there)

pub returns-in-None : goal.returns-in-None
returns-in-None c =
    let none : place_of c.args.source.now (drop c.args.from c.args.outputs.now) ≡ None = search rules in
    let before : place_of c.args.source.now (take c.args.from c.args.outputs.now) ≡ c.first_place-in-None.result = search rules in
    sym (found_before c.args.source.now c.args.outputs.now c.args.from c.first_place-in-None.result c.requires.from none before)
