use Rattle.std.proofs.Common.{◌++◌, ◌∙◌, [], ap, sym, ℕ, List}
use Rattle.std.specs.Option.{option_map_or}
use Rattle.a429_word.proofs.Lists.{read_is}
use Rattle.a429_documents.specs.SlotNames.{constant_line, row_line}
use Rattle.a429_documents.proofs.Ranges.{gathered_more}
use Rattle.a429_documents.proofs.slots.header.names.put_lines.Goals as goal

pub loop-number-preserved : goal.loop-number-preserved
loop-number-preserved g c =
    let what : List ℕ = c.args.what.now in
    let i : ℕ = c.loop-number.number in
    let here = read_is c.args.rows.now i c.index-rows-number.result c.loop-number-test.true c.index-rows-number.is in
    let same = ap (λ (name : List ℕ). constant_line what name i) c.name.ensures ∙ sym (ap (λ row. option_map_or (λ row. constant_line what (g.T.Named.name_of row) i) row []) here) in
    gathered_more (row_line what g.T.Named.name_of c.args.rows.now) c.args.text.now c.loop-number.text c.put_constant_line.new.text i c.loop-number.invariant
    (c.put_constant_line.ensures ∙ ap (λ (line : List ℕ). c.loop-number.text ++ line) same)
