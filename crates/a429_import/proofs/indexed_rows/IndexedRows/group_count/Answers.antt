use Rattle.std.proofs.Common.{◌≡◌, ◌≤◌, ◌∙◌, ◌+◌, ℕ, Bool, List, ap, ap₂, arith, cond, length, not, sym}
use Rattle.std.specs.Prelude.{◌==◌}
use Rattle.std.specs.List.{count_by}
use Rattle.std.proofs.lemmas.List.{take_all}
use Rattle.std.proofs.lemmas.List.Sums.{length-filter}
use Rattle.a429_import.specs.declared.firsts.Part.TheVariants.{Groups}
use Rattle.a429_import.specs.declared.rows.ImportRow.{ImportRow}
use Rattle.a429_import.specs.ImportTables.{firsts, has_group}
use Rattle.a429_import.proofs.ChosenNames.{firsts_count}
use Rattle.a429_import.proofs.KnownRows.{count_more}
use Rattle.a429_import.proofs.RowLines.{one_is}
use Rattle.a429_import.proofs.indexed_rows.IndexedRows.group_count.Goals as goal

pub loop-place-preserved : goal.loop-place-preserved
loop-place-preserved c =
    let fs : List ImportRow = firsts Groups c.args.self.now.rows.items in
    let more = count_more has_group fs c.loop-place.place c.first_row-row.result.now c.first_row-row.ensures in
    let one : c.from-count.result ≡ cond (has_group c.first_row-row.result.now) 1 0 = c.from-count.ensures ∙ one_is (not c.is_empty.result) ∙ ap (λ (b : Bool). cond (not b) 1 0) (c.is_empty.ensures ∙ ap (λ (t : List ℕ). length t == 0) c.as_str.ensures) in
    ap₂ (λ (n m : ℕ). n + m) c.loop-place.invariant one ∙ sym more

pub returns : goal.returns
returns c =
    let rows : List ImportRow = c.args.self.now.rows.items in
    let fs : List ImportRow = firsts Groups rows in
    let many = firsts_count Groups c.args.self.now.groups rows c.requires.groups in
    let past : length fs ≤ c.loop-place.place = omega (arith, many, c.len-place-end.ensures, c.loop-place-test.false) in
    c.loop-place.invariant ∙ ap (count_by has_group) (take_all c.loop-place.place fs past) ∙ sym (length-filter has_group fs)
