use Rattle.a429_workers.proofs.Order.{has_run}
use Rattle.a429_workers.proofs.laws.one_run.Goals as goal

pub returns : goal.returns
returns c C o g p later calls heard H =
    let t = o.proposal.station in
    has_run C o g p later calls heard (record {
      words = c.tables_receive_for_sources.ensures.words t H.wired.apart;
      pieces = c.tables_receive_for_sources.ensures.pieces t;
      cell = c.frames_go_on.ensures.cell;
      frame = c.frames_go_on.ensures.frame;
      other = c.frames_go_on.ensures.other;
      next = c.frames_go_on.ensures.next;
      answer = c.frames_go_on.ensures.answer;
      answered = c.answered_cells_grow.ensures;
    }) H
