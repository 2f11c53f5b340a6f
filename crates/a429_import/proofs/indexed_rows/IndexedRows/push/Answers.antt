use Rattle.std.proofs.Common.{◌≡◌, ◌∙◌, ◌++◌, ◌∷◌, [], List, map, ap, refl, subst, sym}
use Rattle.a429_import.specs.declared.firsts.Part.TheVariants.{Receivers, Sources, Groups}
use Rattle.a429_import.specs.declared.rows.ImportRow.{ImportRow}
use Rattle.a429_import.specs.ImportTables.{firsts}
use Rattle.a429_import.specs.ImportRows.{row_view}
use Rattle.a429_import.specs.IndexedRows.{IndexesFirsts, outputs_of}
use Rattle.a429_import.proofs.KnownRows.{outputs_more}
use Rattle.a429_import.proofs.indexed_rows.IndexedRows.push.Goals as goal

pub returns-clause-known : goal.returns-clause-known
returns-clause-known c =
    let rows : List ImportRow = c.args.self.now.rows.items in
    let row : ImportRow = row_view c.args.row.now in
    let all : rows ++ row ∷ [] ≡ c.push.new.self.items = ap (λ (r : ImportRow). rows ++ r ∷ []) (sym c.in_ok-copy_of.ensures) ∙ sym c.in_ok-push.ensures.items in
    let number = c.len-number.ensures ∙ c.args.self.now.rows.ok.0 in
    record {
      receivers = subst (IndexesFirsts Receivers c.note.new.self) all (c.in_ok-note.ensures.known Receivers rows row refl number c.requires.receivers);
      sources = subst (IndexesFirsts Sources c.note-2.new.self) all (c.in_ok-note-2.ensures.known Sources rows row refl number c.requires.sources);
      groups = subst (IndexesFirsts Groups c.note-3.new.self) all (c.in_ok-group.ensures.known Groups rows row refl number c.requires.groups);
      outputs = c.in_ok-count_output.ensures ∙ outputs_more c.args.self.now.groups rows row c.args.self.now.outputs.items c.in_ok-group.group c.requires.groups c.requires.outputs c.in_ok-group.ensures.place
          ∙ ap (λ (rs : List ImportRow). map (outputs_of rs) (firsts Groups rs)) all;
    }
