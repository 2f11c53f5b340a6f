use Rattle.std.proofs.Common.{◌∙◌, ◌<◌, ◌^◌, ℕ, subst, arith}
use Rattle.std.specs.Prelude.{unwrap_or}
use Rattle.a429_documents.proofs.BoardWords.{board_word_is}
use Rattle.a429_documents.proofs.slots.board.board_word.Goals as goal

pub returns : goal.returns
returns c =
    let sdi : ℕ = unwrap_or c.args.sdi 0 in
    let few : c.args.label < 256 = omega arith in
    let small : sdi < 4 = subst (λ (n : ℕ). n < 4) c.sdi_bits.ensures.value c.sdi_bits.ensures.small in
    let below : c.of_label.result < 2 ^ 32 = omega arith in
    c.raw.ensures.raw
    ∙ board_word_is c.args.label sdi few small c.of_label.result below c.raw.ensures.odd c.of_label.ensures.label (c.of_label.ensures.bits ∙ c.sdi_bits.ensures.value)
