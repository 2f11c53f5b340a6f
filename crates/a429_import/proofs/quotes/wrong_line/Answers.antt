use Rattle.std.proofs.Common.{◌∙◌, ℕ, List, Some, ap, drop, subst, sym}
use Rattle.std.specs.Option.{option_map}
use Rattle.csv.specs.declared.parser.Config.{Config}
use Rattle.a429_text.specs.CutText.{without_byte_order_mark}
use Rattle.a429_import.specs.Imports.{separated}
use Rattle.a429_import.specs.LineCounts.{IsEnd}
use Rattle.a429_import.specs.RowLines.{from_row, line_of}
use Rattle.a429_import.proofs.FaultLines.{line_found}
use Rattle.a429_import.proofs.ImportQuotes.{same_mark}
use Rattle.a429_import.proofs.RowLines.{end_of, end_of_end, mark_end}
use Rattle.a429_import.proofs.quotes.wrong_line.Goals as goal

pub line_at-requires : goal.line_at-requires
line_at-requires c =
    let text : List ℕ = c.args.text.now in
    let rows : List ℕ = without_byte_order_mark c.args.end.now in
    let is = c.from_place.ensures ∙ ap (λ (xs : List ℕ). drop c.in-Some.place xs) c.without_byte_order_mark-rows.ensures in
    subst (λ (xs : List ℕ). IsEnd text xs) (sym is) (end_of_end c.in-Some.place text rows (end_of text c.args.end.now rows c.requires (mark_end c.args.end.now)))

pub returns-in-Some : goal.returns-in-Some
returns-in-Some c =
    let cfg : Config = separated c.args.separator in
    let text : List ℕ = c.args.text.now in
    let lines : List ℕ = c.without_byte_order_mark-rows.result.now in
    ap Some (c.line_at.ensures ∙ ap (λ (xs : List ℕ). line_of text (from_row xs)) c.from_place.ensures)
    ∙ sym (ap (option_map (λ (p : ℕ). line_of text (from_row (drop p lines)))) c.in-Some.is)
    ∙ line_found c.args.of_rows cfg text c.args.end.now lines c.misquoted_place.result (c.without_byte_order_mark-rows.ensures ∙ sym (same_mark c.args.end.now)) c.misquoted_place.ensures

pub returns-in-None : goal.returns-in-None
returns-in-None c =
    let cfg : Config = separated c.args.separator in
    let text : List ℕ = c.args.text.now in
    let lines : List ℕ = c.without_byte_order_mark-rows.result.now in
    sym (ap (option_map (λ (p : ℕ). line_of text (from_row (drop p lines)))) c.in-None.is)
    ∙ line_found c.args.of_rows cfg text c.args.end.now lines c.misquoted_place.result (c.without_byte_order_mark-rows.ensures ∙ sym (same_mark c.args.end.now)) c.misquoted_place.ensures
