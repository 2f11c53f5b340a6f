use Rattle.std.proofs.Common.{◌∙◌, ◌<◌, arith, ap, not, sym}
use Rattle.std.specs.Prelude.{◌&&◌, nat_lt}
use Rattle.std.specs.List.{count_by}
use Rattle.std.proofs.lemmas.Option.{get_or_from_slice_get, slice_get_read}
use Rattle.a429_import.specs.declared.firsts.Part.TheVariants.{Groups}
use Rattle.a429_import.specs.ImportTables.{same_name}
use Rattle.a429_import.specs.ImportRows.{row_view}
use Rattle.a429_import.proofs.KnownClashes.{no_outputs, outputs_known}
use Rattle.a429_import.proofs.KnownRows.{group_within}
use Rattle.a429_import.proofs.indexed_rows.IndexedRows.has_too_many_outputs.Goals as goal

pub returns-then-not-is_empty : goal.returns-then-not-is_empty
returns-then-not-is_empty c =
    let known = c.args.self.now in
    let row = row_view c.args.row.now in
    let below : c.in-Some.place < known.outputs.len = omega (arith, c.len.ensures, c.if-place-len.true) in
    let there = slice_get_read known.outputs.items known.outputs.len c.in-Some.place c.index.result.now known.outputs.ok.0 below c.index.ensures in
    ap (nat_lt 128) (c.from.ensures ∙ sym (get_or_from_slice_get known.outputs.items c.in-Some.place c.index.result.now 0 there)) ∙ outputs_known known row c.in-Some.place c.requires (sym c.find.ensures ∙ c.in-Some.is)
    ∙ sym (ap (λ b. not b && nat_lt 128 (count_by (same_name Groups row) known.rows.items)) (sym c.is_empty.ensures ∙ c.if-not-is_empty.true))

pub returns-in_default : goal.returns-in_default
returns-in_default c =
    let within = group_within c.args.self.now.groups c.args.self.now.rows.items c.args.row.now.texts.group.now c.in-Some.place c.args.self.now.outputs.items c.requires.groups c.requires.outputs (sym c.find.ensures ∙ c.in-Some.is) in
    absurd (omega (arith, within, c.len.ensures, c.if-place-len.false, c.args.self.now.outputs.ok.0))

pub returns-in_default-2 : goal.returns-in_default-2
returns-in_default-2 c = sym (no_outputs c.args.self.now (row_view c.args.row.now) c.requires (sym c.find.ensures ∙ c.in_default.is))
