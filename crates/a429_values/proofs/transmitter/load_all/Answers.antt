use Rattle.std.proofs.Common.{rules, ap, add-one, sym, ◌∙◌, get_or, length, arith}
use Rattle.atomic_table.specs.declared.shared.Seat.{Seat}
use Rattle.a429_values.specs.declared.view.View.{View}
use Rattle.a429_values.proofs.Counted.{is_of_yes, is_of_not}
use Rattle.a429_values.proofs.Meeting.{turn_this, turn_other, row_here, met_all}
use Rattle.a429_values.proofs.transmitter.load_all.Goals as goal
use Rattle.a429_values.proofs.transmitter.load_all.Goals.{then-sources-source, else-sources-source}

pub loop-source-preserved : goal.loop-source-preserved
loop-source-preserved c =
    let t = c.args.wired.now.equipment in
    let view = c.look_step.ensures.view in
    let station = ap (λ (v : View). v.station) view ∙ c.requires.view.2 in
    let receives = ap (λ (v : View). v.receives) view ∙ c.requires.view.1 in
    let transmits = ap (λ (v : View). v.transmits) view ∙ c.requires.view.0 in
    let number = ap (λ (v : View). v.number) view ∙ c.requires.number in
    let row = get_or c.sources-sources.result.now c.loop-source.source c.index-sources-source.result in
    let there = row_here c.sources-sources.result.now t.sources c.loop-source.source c.index-sources-source.result c.sources-sources.ensures.rows c.loop-source-test.true in
    elim c.if-sources-source.branch [
      | then-sources-source w ↦ record {
        seat = search rules;
        turn = rw (add-one, w.seat-is)
            (turn_this _ _ c.loop-source.seat.me.0 _ c.loop-source.source w.load_step.result station receives transmits c.loop-source.invariant.turn
            (is_of_yes t _ c.loop-source.source row there (w.if-sources-source.true ∙ sym number)) w.load_step.ensures.found);
      }
      | else-sources-source w ↦ record {
        seat = search rules;
        turn = rw add-one (turn_other _ _ c.loop-source.seat.me.0 _ c.loop-source.source c.loop-source.invariant.turn
            (is_of_not t _ c.loop-source.source row there (λ e. w.if-sources-source.false (e ∙ number))) (ap (λ (s : Seat Unit View). s.me.0) w.seat-is));
      }
    ]

pub returns-clause-agrees : goal.returns-clause-agrees
returns-clause-agrees c =
    met_all _ c.args.seat.now.me.0 c.look_step.new.seat.me.0 c.loop-source.seat.me.0 c.loop-source.source c.args.number c.look_step.ensures.view c.requires.number c.loop-source.invariant.turn
    (omega (arith, c.loop-source-test.false, c.loop-source.auto.source-end, ap (λ (xs : _). length xs) c.sources-sources.ensures.rows))
