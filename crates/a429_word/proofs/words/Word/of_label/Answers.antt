use Rattle.std.proofs.Common.{◌≡◌, ◌∙◌, arith}
use Rattle.std.specs.Int.{reverse_bits_onto}
use Rattle.a429_word.proofs.Building.{label_kept, bits_kept}
use Rattle.a429_word.proofs.words.Word.of_label.Goals as goal

pub returns-clause-label : goal.returns-clause-label
returns-clause-label c =
    let turned : c.from-low.result ≡ reverse_bits_onto 8 c.value.result 0 = c.from-low.ensures ∙ c.reverse_bits.ensures in
    label_kept c.with_parity.result c.value.result c.args.bits c.value.type_inv (omega arith) (omega arith) ∙ c.value.ensures

pub returns-clause-bits : goal.returns-clause-bits
returns-clause-bits c = bits_kept _ c.from-low.result c.args.bits (omega arith) (omega arith) (omega arith)
