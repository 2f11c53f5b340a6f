use Rattle.std.proofs.Common.{ℕ, List, ◌-◌, length, ap, ◌∙◌}
use Rattle.a429_word.specs.Hexadecimal.{raw_word}
use Rattle.a429_word.proofs.HexNumbers.{hex_number_is, zeros}
use borrow.Rule.Slice.PartMut.{put_mid}
use Rattle.a429_word.proofs.hexadecimal.hex_number.Goals as goal

pub returns : goal.returns
returns c =
    let text = c.args.text.now in
    c.raw_word.ensures
    ∙ ap (λ (xs : List ℕ). raw_word (put_mid (8 - length text) (8 - (8 - length text)) zeros xs)) c.copy_from_slice.ensures.after
    ∙ hex_number_is text c.if-is_empty.ensures c.if-text-gt5.false
