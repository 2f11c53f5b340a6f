use Rattle.std.proofs.Common.{false, string_bytes, subst}
use Rattle.toml.specs.Text.{IsDocumentText}
use Rattle.a429_import.proofs.PrintedTables.{pieces_whole}
use Rattle.a429_import.proofs.tables.table_text.Goals as goal

pub returns : goal.returns
returns c =
    let (head, first_is, printed) = c.in_ok-put_document.ensures in
    let (groups, then, g) = c.in_ok-put_tables.ensures in
    let (receivers, later, r) = c.in_ok-put_tables-2.ensures in
    let (sources, last, s) = c.in_ok-put_tables-3.ensures in
    record {
      head = head;
      groups = groups;
      receivers = receivers;
      sources = sources;
      whole = pieces_whole (string_bytes c.new-shown.result) (string_bytes c.put_document.new.shown) (string_bytes c.put_tables.new.shown) (string_bytes c.put_tables-2.new.shown) (string_bytes c.put_tables-3.new.shown)
          head groups receivers sources c.new-shown.ensures.bytes first_is then later last;
      pairs = subst (λ ms. IsDocumentText false ms head) c.in_ok-head.ensures printed;
      groups_are = g;
      receivers_are = r;
      sources_are = s;
    }
