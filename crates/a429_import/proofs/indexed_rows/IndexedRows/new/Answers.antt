use Rattle.std.proofs.Common.{◌∙◌, List, map, ap, subst, sym}
use Rattle.a429_import.specs.declared.firsts.Part.TheVariants.{Receivers, Sources, Groups}
use Rattle.a429_import.specs.declared.rows.ImportRow.{ImportRow}
use Rattle.a429_import.specs.ImportTables.{firsts}
use Rattle.a429_import.specs.IndexedRows.{IndexesFirsts, outputs_of}
use Rattle.a429_import.proofs.indexed_rows.IndexedRows.new.Goals as goal

pub returns-clause-known : goal.returns-clause-known
returns-clause-known c =
    let none = sym c.new.ensures.items in
    record {
      receivers = subst (IndexesFirsts Receivers c.new-2.result) none (c.new-2.ensures Receivers);
      sources = subst (IndexesFirsts Sources c.new-3.result) none (c.new-3.ensures Sources);
      groups = subst (IndexesFirsts Groups c.new-4.result) none (c.new-4.ensures Groups);
      outputs = c.new-5.ensures.items ∙ ap (λ (rows : List ImportRow). map (outputs_of rows) (firsts Groups rows)) none;
    }
