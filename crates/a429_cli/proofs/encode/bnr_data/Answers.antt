use Rattle.std.proofs.Common.{◌≤◌, ◌-◌, drop, length, ap, sym, ◌∙◌, arith, length-drop}
use Rattle.std.proofs.lemmas.List.{take_all}
use Rattle.a429_word.specs.Decimal.{decimal_number}
use Rattle.a429_cli.proofs.BnrData.{negative_data_is, positive_data_is}
use Rattle.a429_cli.proofs.encode.bnr_data.Goals as goal

pub returns-in_ok-decimal_number-in-45 : goal.returns-in_ok-decimal_number-in-45
returns-in_ok-decimal_number-in-45 c =
    let text = c.args.text.now in
    let all : length (drop 1 text) ≤ length text - 1 = omega (arith, length-drop 1 text) in
    negative_data_is c.args.bits c.in_ok-decimal_number-in-45.field-0 text c.negative_data.result (omega arith) (omega arith) (omega arith) (omega arith)
    (ap decimal_number (sym (take_all (length text - 1) (drop 1 text) all)) ∙ sym c.decimal_number.ensures ∙ c.in_ok-decimal_number-in-45.was) c.negative_data.ensures

pub returns-in_ok-decimal_number-in_default : goal.returns-in_ok-decimal_number-in_default
returns-in_ok-decimal_number-in_default c =
    positive_data_is c.args.bits c.in_ok-decimal_number-in_default.field-0 c.args.text.now c.positive_data.result (omega arith) (omega arith)
    (sym c.decimal_number-in_default.ensures ∙ c.in_ok-decimal_number-in_default.was) c.positive_data.ensures
