use Rattle.a429_slots.proofs.GoingOn.{cells_count, frames_turn, others_pass, next_cell_is, frame_answer_is}
use Rattle.a429_slots.proofs.laws.frames_go_on.Goals as goal

pub returns-clause-cell : goal.returns-clause-cell
returns-clause-cell c = cells_count

pub returns-clause-frame : goal.returns-clause-frame
returns-clause-frame c = frames_turn

pub returns-clause-other : goal.returns-clause-other
returns-clause-other c = others_pass

pub returns-clause-next : goal.returns-clause-next
returns-clause-next c = next_cell_is

pub returns-clause-answer : goal.returns-clause-answer
returns-clause-answer c = frame_answer_is
