use Rattle.std.proofs.Common.{◌≡◌, ◌++◌, ◌∙◌, ap, ap₂, sym}
use Rattle.std.specs.Prelude.{codes}
use Rattle.std.specs.Option.{option_or}
use Rattle.toml.specs.View.{view}
use Rattle.a429_table.specs.declared.walk.Rows.TheVariants.{Receivers, Sources}
use Rattle.a429_table.specs.Early.{is_sought}
use Rattle.a429_table.specs.Tree.{rows_at}
use Rattle.a429_table.specs.Walk.{numbered, stops_of_groups}
use Rattle.a429_table.proofs.EarlyFaults.{place_in, place_in_more}
use Rattle.a429_table.proofs.early.place_below.Goals as goal

pub returns : goal.returns
returns c =
    let test = is_sought c.args.version c.args.sought in
    let root = view c.args.root.now in
    let receivers = numbered Receivers (rows_at (codes "receiver") root) in
    let sources = numbered Sources (rows_at (codes "source") root) in
    let groups = stops_of_groups (rows_at (codes "group") root) in
    let receivers_is : c.place_among-receivers.result ≡ place_in test receivers =
    c.place_among-receivers.ensures ∙ ap (λ rows. place_in test (numbered Receivers rows)) c.rows_at.ensures in
    let sources_is : c.place_among-sources.result ≡ place_in test sources = c.place_among-sources.ensures ∙ ap (λ rows. place_in test (numbered Sources rows)) c.rows_at-2.ensures in
    let groups_is : c.place_in_groups-groups.result ≡ place_in test groups = c.place_in_groups-groups.ensures ∙ ap (λ rows. place_in test (stops_of_groups rows)) c.rows_at-3.ensures in
    c.or-2.ensures ∙ (ap₂ option_or (c.or.ensures ∙ ap₂ option_or receivers_is sources_is) groups_is
    ∙ sym (place_in_more test (receivers ++ sources) groups ∙ ap (λ place. option_or place (place_in test groups)) (place_in_more test receivers sources)))
