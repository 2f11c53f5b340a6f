use Rattle.std.proofs.Common.{◌∙◌, ◌-◌, ℕ, List, ap, drop, length, sym}
use Rattle.a429_text.specs.CutText.{without_byte_order_mark}
use Rattle.a429_import.proofs.ImportQuotes.{same_mark}
use Rattle.a429_import.proofs.RowLines.{end_of, end_place, mark_end}
use Rattle.a429_import.proofs.lines.count_before.Goals as goal

pub returns : goal.returns
returns c =
    let text : List ℕ = c.args.text.now in
    let end : List ℕ = c.args.end.now in
    record {
      counted = c.before-2.ensures.counted;
      start = c.before-2.ensures.start;
      rest =
          ap (λ (n : ℕ). drop n text) c.before-2.ensures.at ∙ ap (λ (xs : List ℕ). drop (length text - length xs) text) c.without_byte_order_mark.ensures
          ∙ end_place text (without_byte_order_mark end) (end_of text end (without_byte_order_mark end) c.requires (mark_end end)) ∙ sym (same_mark end);
    }
