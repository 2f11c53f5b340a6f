use Rattle.std.proofs.lemmas.Str.{is_utf8-from_IsUtf8}
use Rattle.toml.proofs.Views.{view-Table}
use Rattle.a429_table.proofs.Documents.{document-no_text, document-text}
use Rattle.a429_table.proofs.document.document.Goals as goal

pub returns-in_default : goal.returns-in_default
returns-in_default c = rw (document-no_text c.args.bytes.now c.in_default.ensures.cases.0)

pub returns-in-Ok-table_from_str : goal.returns-in-Ok-table_from_str
returns-in-Ok-table_from_str c =
    rw (document-text c.args.bytes.now _ c.in-Ok.ensures.cases.1 (rw c.in-Ok.ensures.cases.0 at c.in-Ok-table_from_str.ensures.ok), view-Table)

pub returns-then-is_memory : goal.returns-then-is_memory
returns-then-is_memory c = is_utf8-from_IsUtf8 c.args.bytes.now c.in-Ok.ensures.cases.1
