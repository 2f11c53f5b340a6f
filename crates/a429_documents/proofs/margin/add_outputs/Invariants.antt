use Rattle.std.proofs.Common.{◌≡◌, ◌++◌, option_map}
use Rattle.std.specs.List.{flat_map, range_with_len}
use Rattle.a429_slots.specs.Tables.{frame_of}
use Rattle.a429_documents.specs.Margins.{is_chosen, output_margin}
use Rattle.a429_documents.specs.PlannedGroups.{output_at}
use Rattle.a429_documents.proofs.margin.add_outputs.Given as goal

abbrev pub invariant-loop-number : goal.invariant-loop-number
invariant-loop-number l =
    l.rows ≡ l.fn.rows ++ flat_map (λ o. output_margin (frame_of l.group.table) (is_chosen (option_map (λ marks. marks.now) l.chosen) o) (output_at l.group o)) (range_with_len 0 l.number)
