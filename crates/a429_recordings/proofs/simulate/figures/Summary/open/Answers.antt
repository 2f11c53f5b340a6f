use Rattle.std.proofs.Common.{◌∙◌, ap, replicate}
use Rattle.a429_recordings.specs.declared.simulate.figures.OutputFigures.{OutputFigures}
use Rattle.a429_recordings.proofs.FigureSteps.{no_figures}
use Rattle.a429_recordings.proofs.simulate.figures.Summary.open.Goals as goal

pub returns : goal.returns
returns c = λ q.
    no_figures q c.in_ok-vec.field-0.items (c.in_ok-vec.ensures.items_if_clones_equal (λ y h. h) ∙ ap (λ (x : OutputFigures). replicate 2048 x) c.nothing.ensures)
