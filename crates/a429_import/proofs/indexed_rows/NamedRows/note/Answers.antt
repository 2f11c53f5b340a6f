use Rattle.std.proofs.Common.{◌∙◌, ap, rules, sym}
use Rattle.std.specs.Prelude.{is_some}
use Rattle.a429_import.proofs.Knowing.{known_again, known_more, place_found}
use Rattle.a429_import.proofs.indexed_rows.NamedRows.note.Goals as goal

pub returns-in_ok-insert-clause-known : goal.returns-in_ok-insert-clause-known
returns-in_ok-insert-clause-known c =
    let found = c.get_index_of-place.ensures in
    known_more c.args.self.now (record { firsts = c.insert.new.self }) c.in_ok-from_str.field-0 c.args.name.now c.args.number
    (ap is_some (sym (place_found c.args.self.now c.args.name.now) ∙ sym found.index) ∙ c.if-is_none.ensures) (sym found.found ∙ c.if-is_none.ensures) c.in_ok-from_str.ensures.ok c.in_ok-insert.ensures.entries

pub returns-else-is_none-clause-known : goal.returns-else-is_none-clause-known
returns-else-is_none-clause-known c =
    known_again c.args.self.now c.args.name.now c.args.number (ap is_some (sym (place_found c.args.self.now c.args.name.now) ∙ sym c.get_index_of-place.ensures.index) ∙ search rules)

pub returns-in_ok-insert-clause-place : goal.returns-in_ok-insert-clause-place
returns-in_ok-insert-clause-place c = c.get_index_of-place.ensures.index ∙ place_found c.args.self.now c.args.name.now

pub returns-else-is_none-clause-place : goal.returns-else-is_none-clause-place
returns-else-is_none-clause-place c = c.get_index_of-place.ensures.index ∙ place_found c.args.self.now c.args.name.now
