use Rattle.std.proofs.Common.{◌≡◌, ◌≤◌, map, take, drop}
use Rattle.a429_cli.specs.LineReplies.{filter_list, first_bad_filter}
use Rattle.a429_cli.proofs.lines.read_filters.Given as goal

abbrev pub invariant-loop-place : goal.invariant-loop-place
invariant-loop-place l = record {
  few : l.place ≤ 32;
  list : l.filters ≡ filter_list (map (λ t. t.now) (take l.place l.texts));
  first : first_bad_filter 0 (map (λ t. t.now) l.texts) ≡ first_bad_filter l.place (map (λ t. t.now) (drop l.place l.texts));
}
