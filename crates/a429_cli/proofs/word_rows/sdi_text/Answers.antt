use Rattle.std.proofs.Common.{◌∙◌, arith, sym}
use Rattle.std.proofs.lemmas.Fmt.{decimal_digit}
use Rattle.a429_cli.proofs.word_rows.sdi_text.Goals as goal

pub returns-in-0 : goal.returns-in-0
returns-in-0 c = rw (sym c.value.ensures.value ∙ c.in-0.is) (sym (decimal_digit 0 (omega arith)))

pub returns-in-1 : goal.returns-in-1
returns-in-1 c = rw (sym c.value.ensures.value ∙ c.in-1.is) (sym (decimal_digit 1 (omega arith)))

pub returns-in-2 : goal.returns-in-2
returns-in-2 c = rw (sym c.value.ensures.value ∙ c.in-2.is) (sym (decimal_digit 2 (omega arith)))

pub returns-in-3 : goal.returns-in-3
returns-in-3 c = rw (sym c.value.ensures.value ∙ c.in-3.is) (sym (decimal_digit 3 (omega arith)))
