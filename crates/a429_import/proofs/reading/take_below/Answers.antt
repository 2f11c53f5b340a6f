use Rattle.std.proofs.Common.{◌≡◌, ◌∙◌, ◌∷◌, ◌++◌, [], Bool, Err, List, ℕ, None, Ok, Result, Some, ap, cond, subst, sym}
use Rattle.csv.specs.Records.{fields_of}
use Rattle.a429_import.specs.declared.fault.CsvFaultKind.TheVariants.{TooMany}
use Rattle.a429_import.specs.declared.fault.ImportFault.{ImportFault}
use Rattle.a429_import.specs.declared.rows.ImportRow.{ImportRow}
use Rattle.a429_import.specs.ImportLimits.{too_many}
use Rattle.a429_import.specs.ImportRows.{◌>>=◌, CsvFault, limited, next_row, row_view, with_line, with_row}
use Rattle.a429_import.specs.Imports.{States}
use Rattle.a429_import.proofs.ImportClashes.{agree_with, next_agrees}
use Rattle.a429_import.proofs.ImportReading.{row_added}
use Rattle.a429_import.proofs.reading.take_below.Goals as goal

pub returns-then-has_all_of : goal.returns-then-has_all_of
returns-then-has_all_of c = λ agree.
    let heading : List (List ℕ) = fields_of c.args.heading.now.line.fields in
    let rows : List ImportRow = c.args.known.now.rows.items in
    let row : ImportRow = row_view c.in-Ok.row in
    let number : ℕ = c.args.line.now.number in
    let all : List ImportRow = rows ++ row ∷ [] in
    let next : next_row heading rows c.args.line.now ≡ Ok row = sym (c.in-Ok.ensures agree) in (
      ap (λ (r : Result ImportRow CsvFault). r >>= λ (x : ImportRow). with_row number rows x) next
          ∙ ap (λ (b : Bool). cond b (Ok rows) (limited number all (too_many all row))) (sym c.has_all_of.ensures ∙ c.if-has_all_of.true),
      agree,
      c.requires,
    )

pub returns-in-None : goal.returns-in-None
returns-in-None c = λ agree.
    let heading : List (List ℕ) = fields_of c.args.heading.now.line.fields in
    let rows : List ImportRow = c.args.known.now.rows.items in
    let all : List ImportRow = c.push.new.self.rows.items in
    let row : ImportRow = row_view c.in-Ok.row in
    let number : ℕ = c.args.line.now.number in
    let next : next_row heading rows c.args.line.now ≡ Ok row = sym (c.in-Ok.ensures agree) in
    let added : with_row number rows row ≡ Ok all = row_added number rows all row None (sym c.has_all_of.ensures ∙ c.if-has_all_of.false) c.in_ok-push.ensures.rows (sym c.in-None.is ∙ c.too_many.ensures) in (
      ap (λ (r : Result ImportRow CsvFault). r >>= λ (x : ImportRow). with_row number rows x) next ∙ added,
      agree_with number rows row all agree (next_agrees heading rows c.args.line.now row next) added,
      c.in_ok-push.ensures.known,
    )

pub returns-in-Some : goal.returns-in-Some
returns-in-Some c = λ agree.
    let heading : List (List ℕ) = fields_of c.args.heading.now.line.fields in
    let rows : List ImportRow = c.args.known.now.rows.items in
    let all : List ImportRow = c.push.new.self.rows.items in
    let row : ImportRow = row_view c.in-Ok.row in
    let number : ℕ = c.args.line.now.number in
    let next : next_row heading rows c.args.line.now ≡ Ok row = sym (c.in-Ok.ensures agree) in
    let refused : with_row number rows row ≡ Err (number, TooMany, Some c.in-Some.column) =
    row_added number rows all row (Some c.in-Some.column) (sym c.has_all_of.ensures ∙ c.if-has_all_of.false) c.in_ok-push.ensures.rows (sym c.in-Some.is ∙ c.too_many.ensures) in
    subst (λ (fault : ImportFault). States {X = List ImportRow} (λ rs. rs) (Err fault) (with_line heading rows c.args.line.now)) (sym c.csv_fault-in-Some.ensures)
    (ap (λ (r : Result ImportRow CsvFault). r >>= λ (x : ImportRow). with_row number rows x) next ∙ refused)
