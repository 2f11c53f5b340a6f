-- What changes from one plan text to another, output by output (profile: docs/RULES.md, Plans that stay).
use Rattle.std.specs.Prelude.{◌≡◌, ◌==◌, ◌&&◌, Bool, false, not, List, Option, Some, None, count_by, filter_map, find, if◌then◌else◌, is_some, map, option_and_then}
use Rattle.std.specs.Option.{option_map_or}
use Rattle.std.specs.Str.{bytes_eq}
use Rattle.a429_keep.specs.declared.changes.Changes.{Changes}
use Rattle.a429_keep.specs.declared.changes.Move.{Move}
use Rattle.a429_keep.specs.Rows.{Listed, row_view}

-- one output: one group, and one source of it
abbrev pub is_same_output : Listed → Listed → Bool
is_same_output a b = bytes_eq a.said.source b.said.source && bytes_eq a.group b.group

abbrev pub is_same_place : Listed → Listed → Bool
is_same_place a b = a.said.period == b.said.period && (a.said.bus == b.said.bus && a.said.offset == b.said.offset)

-- the same output among others
abbrev pub twin_of : Listed → List Listed → Option Listed
twin_of r rows = find (is_same_output r) rows

abbrev pub has_twin : List Listed → Listed → Bool
has_twin rows r = is_some (twin_of r rows)

-- the output was at this place before
abbrev pub stays : List Listed → Listed → Bool
stays earlier r = option_map_or (λ before. is_same_place before r) (twin_of r earlier) false

-- its place before and its place now, if these differ
abbrev pub move_of : List Listed → Listed → Option (Listed × Listed)
move_of earlier r = option_and_then (λ before. if is_same_place before r then None else Some (before, r)) (twin_of r earlier)

abbrev pub move_view : Move → Listed × Listed
move_view m = (row_view m.before, row_view m.after)

abbrev pub moves_of : List Move → List (Listed × Listed)
moves_of moves = map move_view moves

-- what changes from these outputs to those
pub record AreChanges (earlier later : List Listed) (c : Changes) : Type 0 where
  pub stay : c.stay ≡ count_by (stays earlier) later
  pub added : c.added ≡ count_by (λ r. not (has_twin earlier r)) later
  pub gone : c.gone ≡ count_by (λ r. not (has_twin later r)) earlier
  pub moved : moves_of c.moved.items ≡ filter_map (move_of earlier) later
