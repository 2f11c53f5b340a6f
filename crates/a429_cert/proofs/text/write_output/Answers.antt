use Rattle.std.proofs.Common.{◌≡◌, ◌++◌, ◌<◌, ◌∙◌, ap, sym, subst, length, string_bytes, OnOk, ℕ, List}
use Rattle.std.specs.Prelude.{Option, Some, IfSome, slice_get}
use Rattle.a429_word.proofs.Lists.{read_is}
use Rattle.a429_equipment.specs.declared.rows.SourceRow.{SourceRow}
use Rattle.a429_cert.specs.Spelling.{Listing, output_text}
use Rattle.a429_cert.specs.PlanText.{placed_listing, listing_of}
use Rattle.a429_cert.proofs.PlanLines.{listing_is}
use Rattle.a429_cert.proofs.text.write_output.Goals as goal

pub returns : goal.returns
returns c =
    let below : c.source.result < length c.args.sources.now = subst (λ (s : Option ℕ). IfSome s (λ n. n < length c.args.sources.now)) c.source.ensures c.requires.source in
    let there : slice_get c.args.sources.now c.source.result ≡ Some c.index-sources-source.result = read_is c.args.sources.now c.source.result c.index-sources-source.result below c.index-sources-source.is in
    let is = listing_is c.args.version c.args.sources.now c.args.table.now c.args.output c.source.result c.place.result c.hold.result c.index-sources-source.result c.requires.known c.place.ensures.place c.source.ensures c.hold.ensures there in
    let named : placed_listing c.args.version c.as_str-source.result.now c.place.result c.hold.result ≡ listing_of c.args.version c.args.sources.now c.args.table.now c.args.output = ap (λ (w : List ℕ). placed_listing c.args.version w c.place.result c.hold.result) (c.as_str-source.ensures ∙ sym (ap (λ (r : SourceRow). r.name) c.index-sources-source.is)) ∙ is in
    subst (λ (l : Listing). OnOk c.write_place.result (string_bytes c.write_place.new.text ≡ string_bytes c.args.text.now ++ output_text l)) named c.write_place.ensures
