use Rattle.std.proofs.Common.{◌≤◌, ◌∙◌, ap, length, map, subst}
use Rattle.a429_console.proofs.NamesFound.{name_found, no_group, no_name, no_output, source_of}
use Rattle.a429_console.specs.Names.{name_at}
use Rattle.a429_console.proofs.refusals.names.source_name.Goals as goal

pub returns-then-group-groups : goal.returns-then-group-groups
returns-then-group-groups c =
    let past = subst (λ rows. length rows ≤ c.args.group) c.groups.ensures.rows c.if-group-groups.true in
    c.of.ensures ∙ no_group c.args.equipment.now c.args.group c.args.output c.rows_are_sound.ensures past

pub returns-in_default : goal.returns-in_default
returns-in_default c =
    c.of-in_default.ensures ∙ no_output c.args.equipment.now c.args.group c.args.output c.outputs.result.now c.outputs.ensures.rows c.in_default.ensures.lookup.3

pub returns-in-Some-get : goal.returns-in-Some-get
returns-in-Some-get c =
    let row = c.in-Some.output.now in
    let found = c.in-Some.ensures.lookup in
    let read = c.in-Some-get.ensures.lookup in
    name_found (λ s. s.name) c.sources.result.now row.source c.in-Some-get.row.now read.3.0 read.1
    ∙ (ap (λ sources. name_at (map (λ s. s.name) sources) row.source) c.sources.ensures.rows
    ∙ source_of c.args.equipment.now c.args.group c.args.output c.outputs.result.now row c.outputs.ensures.rows found.3.0 found.1)

pub returns-in-None : goal.returns-in-None
returns-in-None c =
    let row = c.in-Some.output.now in
    let found = c.in-Some.ensures.lookup in
    c.of-in-None.ensures
    ∙ (no_name (λ s. s.name) c.sources.result.now row.source c.in-None.ensures.lookup.3
    ∙ (ap (λ sources. name_at (map (λ s. s.name) sources) row.source) c.sources.ensures.rows
    ∙ source_of c.args.equipment.now c.args.group c.args.output c.outputs.result.now row c.outputs.ensures.rows found.3.0 found.1))
