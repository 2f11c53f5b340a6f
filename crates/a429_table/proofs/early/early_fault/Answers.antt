use Rattle.std.proofs.Common.{◌≡◌, ◌∙◌, [], ap, drop, sym}
use Rattle.std.proofs.Math.ListN.{drop_of_length-le}
use Rattle.std.specs.Prelude.{is_some, not}
use Rattle.std.specs.List.{flat_map}
use Rattle.toml.specs.View.{view}
use Rattle.a429_table.specs.Early.{early_kinds, shows}
use Rattle.a429_table.specs.Faults.{faults_of, first, fits_columns}
use Rattle.a429_table.specs.Repeats.{found}
use Rattle.a429_table.specs.Walk.{walk}
use Rattle.a429_table.proofs.EarlyFaults.{none_fails, shown_are_faults}
use Rattle.a429_table.proofs.Firsts.{found_here, found_later}
use Rattle.a429_table.proofs.early.early_fault.Goals as goal

pub place_of_kind-requires : goal.place_of_kind-requires
place_of_kind-requires c = ap not c.is_some-has_misfit.ensures ∙ (ap (λ place. not (is_some place)) c.place_of.ensures ∙ none_fails (fits_columns c.args.version) (walk (view c.args.root.now)))

pub returns-in-Some : goal.returns-in-Some
unfolding early_kinds
returns-in-Some c =
    let root = view c.args.root.now in
    let shown : first (flat_map (found (shows c.args.version) (walk root)) early_kinds) ≡ first (flat_map (faults_of root) early_kinds) = rw c.requires (ap first (shown_are_faults root)) in
    sym (sym shown ∙ (c.loop-kind.invariant
    ∙ found_here (shows c.args.version) (walk root) early_kinds c.loop-kind.kind-index _ _ _ c.loop-kind-test.true c.place_of_kind.ensures c.in-Some.is))

pub loop-kind-preserved : goal.loop-kind-preserved
unfolding early_kinds
loop-kind-preserved c =
    c.loop-kind.invariant
    ∙ found_later (shows c.args.version) (walk (view c.args.root.now)) early_kinds c.loop-kind.kind-index _ _ c.loop-kind-test.true c.place_of_kind.ensures c.in_default.is

pub returns : goal.returns
unfolding early_kinds
returns c =
    let root = view c.args.root.now in
    let shown : first (flat_map (found (shows c.args.version) (walk root)) early_kinds) ≡ first (flat_map (faults_of root) early_kinds) = rw c.requires (ap first (shown_are_faults root)) in
    let none_left : drop c.loop-kind.kind-index early_kinds ≡ [] = drop_of_length-le early_kinds c.loop-kind-test.false in
    sym (sym shown ∙ (c.loop-kind.invariant ∙ ap (λ ks. first (flat_map (found (shows c.args.version) (walk root)) ks)) none_left))
