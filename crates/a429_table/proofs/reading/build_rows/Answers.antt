use Rattle.std.proofs.Common.{◌≤◌, length, codes, refl}
use Rattle.toml.specs.View.{view}
use Rattle.a429_table.specs.Names.{name_of}
use Rattle.a429_table.specs.Stated.{stated}
use Rattle.a429_table.specs.Stops.{table_of}
use Rattle.a429_table.specs.Tree.{rows_at}
use Rattle.a429_table.proofs.Absence.{all_views}
use Rattle.a429_table.proofs.ShortNames.{short_groups, short_receivers, stated_sources}
use Rattle.a429_table.proofs.Soundness.{few_filters}
use Rattle.a429_table.proofs.reading.build_rows.Goals as goal

pub receiver_rows-requires-clause-filters : goal.receiver_rows-requires-clause-filters
receiver_rows-requires-clause-filters c =
    all_views (λ d. length (rows_at (codes "filters") d) ≤ 32) view c.rows_at.result.now (rw c.rows_at.ensures (few_filters (table_of c.args.index.now) c.requires.faultless))

pub receiver_rows-requires-clause-names : goal.receiver_rows-requires-clause-names
receiver_rows-requires-clause-names c =
    all_views (λ d. length (name_of d) ≤ 16) view c.rows_at.result.now (rw c.rows_at.ensures (short_receivers (table_of c.args.index.now) c.requires.faultless))

pub group_rows-requires : goal.group_rows-requires
group_rows-requires c =
    all_views (λ d. length (name_of d) ≤ 16) view c.rows_at-2.result.now (rw c.rows_at-2.ensures (short_groups (table_of c.args.index.now) c.requires.faultless))

pub returns : goal.returns
unfolding stated
returns c =
    rw (c.in_ok-receivers.ensures, c.rows_at.ensures, c.in_ok-groups.ensures, c.rows_at-2.ensures, c.rate_of-rate.ensures, c.requires.words.sources, stated_sources (table_of c.args.index.now) c.requires.faultless, c.requires.words.outputs, c.args.index.now.of_version)
    refl
