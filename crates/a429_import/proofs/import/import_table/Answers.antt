use Rattle.std.proofs.Common.{◌≡◌, ◌∙◌, List, Option, Some, None, ap, ap₂, is_some, subst, sym, ℕ}
use Rattle.std.specs.Option.{option_or}
use Rattle.a429_import.specs.ImportForms.{from_heading, separator_in}
use Rattle.a429_import.specs.ImportMaps.{given_texts}
use Rattle.a429_import.specs.FaultLines.{data_line_above, quotes_line}
use Rattle.a429_import.specs.Imports.{separated, text_fault_line}
use Rattle.a429_import.specs.LineCounts.{IsEnd}
use Rattle.a429_import.proofs.FaultLines.{some_fault}
use Rattle.a429_import.proofs.Imports.{unfit_import}
use Rattle.a429_import.proofs.RowLines.{from_heading_end}
use Rattle.a429_import.proofs.import.import_table.Goals as goal

pub misquoted_line_of-requires : goal.misquoted_line_of-requires
misquoted_line_of-requires g c = subst (λ (xs : List ℕ). IsEnd c.args.bytes.now xs) (sym c.form_of-form.ensures.text) (from_heading_end (given_texts c.args.maps.now) c.args.bytes.now)

pub line_above-requires : goal.line_above-requires
line_above-requires g c = subst (λ (xs : List ℕ). IsEnd c.args.bytes.now xs) (sym c.form_of-form.ensures.text) (from_heading_end (given_texts c.args.maps.now) c.args.bytes.now)

pub returns-in-Some : goal.returns-in-Some
returns-in-Some g c =
    let maps : List (List ℕ) = given_texts c.args.maps.now in
    let text : List ℕ = c.args.bytes.now in
    let form = c.form_of-form.ensures in
    let above : Option ℕ = data_line_above (separated (separator_in maps text)) maps (from_heading maps text) text in
    let quotes : quotes_line (separated (separator_in maps text)) (from_heading maps text) text ≡ Some c.in-Some.line =
    sym (ap₂ (λ (s : ℕ) (xs : List ℕ). quotes_line (separated s) xs text) form.separator form.text) ∙ sym c.misquoted_line_of.ensures ∙ c.in-Some.is in
    let line : text_fault_line maps text ≡ Some c.in-Some.line = ap (λ (o : Option ℕ). option_or o above) quotes in
    unfit_import maps c.args.options text c.in-Some.line c.csv_fault.result line (sym (some_fault (separated (separator_in maps text)) maps (from_heading maps text) text) ∙ ap is_some line) c.csv_fault.ensures

pub returns-in-Some-2 : goal.returns-in-Some-2
returns-in-Some-2 g c =
    let maps : List (List ℕ) = given_texts c.args.maps.now in
    let text : List ℕ = c.args.bytes.now in
    let form = c.form_of-form.ensures in
    let quotes : quotes_line (separated (separator_in maps text)) (from_heading maps text) text ≡ None =
    sym (ap₂ (λ (s : ℕ) (xs : List ℕ). quotes_line (separated s) xs text) form.separator form.text) ∙ sym c.misquoted_line_of.ensures ∙ c.in_default.is in
    let above : data_line_above (separated (separator_in maps text)) maps (from_heading maps text) text ≡ Some c.in-Some-2.line =
    sym (ap₂ (λ (s : ℕ) (xs : List ℕ). data_line_above (separated s) maps xs text) form.separator form.text) ∙ sym c.in_ok-line.ensures ∙ c.in-Some-2.is in
    let line : text_fault_line maps text ≡ Some c.in-Some-2.line = ap₂ (λ (q a : Option ℕ). option_or q a) quotes above in
    unfit_import maps c.args.options text c.in-Some-2.line c.csv_fault-in-Some-2.result line (sym (some_fault (separated (separator_in maps text)) maps (from_heading maps text) text) ∙ ap is_some line) c.csv_fault-in-Some-2.ensures

pub returns-in-None : goal.returns-in-None
returns-in-None g c =
    let maps : List (List ℕ) = given_texts c.args.maps.now in
    let text : List ℕ = c.args.bytes.now in
    let form = c.form_of-form.ensures in
    let quotes : quotes_line (separated (separator_in maps text)) (from_heading maps text) text ≡ None =
    sym (ap₂ (λ (s : ℕ) (xs : List ℕ). quotes_line (separated s) xs text) form.separator form.text) ∙ sym c.misquoted_line_of.ensures ∙ c.in_default.is in
    let above : data_line_above (separated (separator_in maps text)) maps (from_heading maps text) text ≡ None =
    sym (ap₂ (λ (s : ℕ) (xs : List ℕ). data_line_above (separated s) maps xs text) form.separator form.text) ∙ sym c.in_ok-line.ensures ∙ c.in-None.is in
    let line : text_fault_line maps text ≡ None = ap₂ (λ (q a : Option ℕ). option_or q a) quotes above in
    c.table_of_text.ensures (sym (some_fault (separated (separator_in maps text)) maps (from_heading maps text) text) ∙ ap is_some line)
