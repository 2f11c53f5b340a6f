use Rattle.std.proofs.Common.{◌∙◌, ap, sym}
use Rattle.std.specs.Prelude.{fold}
use Rattle.a429_board.specs.Lists.{Known}
use Rattle.a429_board.proofs.Showing.{turns}
use Rattle.a429_board.proofs.planner.show.Goals as goal

pub publish_as-requires : goal.publish_as-requires
publish_as-requires g c next is =
    turns _ _ c.args.writer.desk.shown.value next (ap (λ (f : Known). f.book) (is ∙ ap (fold (λ (_ f : Known). f) c.args.writer.desk.shown.value.front) c.requires.pending) ∙ sym c.requires.book)
