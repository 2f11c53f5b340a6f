use Rattle.std.proofs.Common.{◌≡◌, ◌∙◌, ◌+◌, ℕ, List, None, Some, ap, arith, cond, drop, length, sym, take}
use Rattle.std.specs.Prelude.{nat_lt}
use Rattle.a429_import.specs.ImportForms.{after_separator, field_len, names_column, names_in_row}
use Rattle.a429_import.specs.ImportMaps.{given_texts}
use Rattle.a429_import.proofs.ImportForms.{names_last, names_more, names_none, one_or_none}
use Rattle.a429_import.proofs.RowLines.{one_is}
use Rattle.a429_import.proofs.forms.is_heading.Goals as goal

pub loop-left-preserved : goal.loop-left-preserved
loop-left-preserved c =
    let maps : List (List ℕ) = given_texts c.args.maps.now in
    let separator : ℕ = c.args.separator in
    let rest : List ℕ = c.loop-left.rest.now in
    let drops : c.from_place.result.now ≡ drop (field_len separator rest) rest = c.from_place.ensures ∙ ap (λ (n : ℕ). drop n rest) c.field_len-len.ensures.len in
    let more : after_separator separator (drop (field_len separator rest) rest) ≡ Some c.in-Some.after.now = ap (after_separator separator) (sym drops) ∙ sym c.in-Some.ensures in
    let named : c.from-count.result ≡ cond (names_column maps (take (field_len separator rest) rest)) 1 0 =
    c.from-count.ensures ∙ one_is c.names_column.result ∙ ap (λ b. cond b 1 0) c.names_column.ensures ∙ ap (λ (n : ℕ). cond (names_column maps (take n rest)) 1 0) c.field_len-len.ensures.len in
    let counted = names_more maps separator c.loop-left.left rest c.in-Some.after.now c.loop-left-test.true more in
    record {
      few = omega (arith, c.loop-left.invariant.few, c.loop-left-test.true, named, one_or_none (names_column maps (take (field_len separator rest) rest)));
      same = omega (arith, c.loop-left.invariant.same, counted, named);
    }

pub returns-in-None : goal.returns-in-None
returns-in-None c =
    let maps : List (List ℕ) = given_texts c.args.maps.now in
    let separator : ℕ = c.args.separator in
    let rest : List ℕ = c.loop-left.rest.now in
    let drops : c.from_place.result.now ≡ drop (field_len separator rest) rest = c.from_place.ensures ∙ ap (λ (n : ℕ). drop n rest) c.field_len-len.ensures.len in
    let last : after_separator separator (drop (field_len separator rest) rest) ≡ None = ap (after_separator separator) (sym drops) ∙ sym c.in-None.ensures in
    let named : c.from-count.result ≡ cond (names_column maps (take (field_len separator rest) rest)) 1 0 =
    c.from-count.ensures ∙ one_is c.names_column.result ∙ ap (λ b. cond b 1 0) c.names_column.ensures ∙ ap (λ (n : ℕ). cond (names_column maps (take n rest)) 1 0) c.field_len-len.ensures.len in
    let counted = names_last maps separator c.loop-left.left rest c.loop-left-test.true last in
    let total : c.loop-left.count + c.from-count.result ≡ names_in_row maps separator (length c.args.text.now) c.args.text.now = omega (arith, c.loop-left.invariant.same, counted, named) in
    ap (nat_lt 1) total

pub returns : goal.returns
returns c =
    let maps : List (List ℕ) = given_texts c.args.maps.now in
    let ended : c.loop-left.left ≡ 0 = omega (arith, c.loop-left-test.false) in
    let none = names_none maps c.args.separator c.loop-left.left c.loop-left.rest.now ended in
    let total : c.loop-left.count ≡ names_in_row maps c.args.separator (length c.args.text.now) c.args.text.now = omega (arith, c.loop-left.invariant.same, none) in
    ap (nat_lt 1) total
