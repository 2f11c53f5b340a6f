use Rattle.std.proofs.Common.{◌∙◌, ap, map}
use Rattle.a429_console.proofs.NamesFound.{name_found, no_name}
use Rattle.a429_console.specs.Names.{name_at}
use Rattle.a429_console.proofs.refusals.names.group_name.Goals as goal

pub returns-in-Some : goal.returns-in-Some
returns-in-Some c =
    let read = c.in-Some.ensures.lookup in
    name_found (λ g. g.name) c.groups.result.now c.args.group c.in-Some.row.now read.3.0 read.1
    ∙ ap (λ groups. name_at (map (λ g. g.name) groups) c.args.group) c.groups.ensures.rows

pub returns-in-None : goal.returns-in-None
returns-in-None c =
    c.of.ensures
    ∙ (no_name (λ g. g.name) c.groups.result.now c.args.group c.in-None.ensures.lookup.3
    ∙ ap (λ groups. name_at (map (λ g. g.name) groups) c.args.group) c.groups.ensures.rows)
