use Rattle.std.proofs.Common.{◌++◌, arith, ◌∷◌, [], refl, sym, subst}
use Rattle.std.specs.Prelude.{Option, MatchOption}
use Rattle.a429_recordings.specs.SimulationRuns.{AreHappenings, HasPlayed}
use Rattle.a429_recordings.specs.declared.simulate.machine.Happening.{Happening}
use Rattle.a429_recordings.proofs.Played.{moment_shorter, over_if, played_end, played_moment, played_on, still_playable, told_if, untold_if}
use Rattle.a429_recordings.proofs.simulate.playing.Player.next.Goals as goal

pub begin-refused-requires-clause-playable : goal.begin-refused-requires-clause-playable
begin-refused-requires-clause-playable c =
    let p = c.next_cell-sent.new.self in
    let e = c.in_ok-moment.ensures in
    still_playable c.args.proposal.now p (record p { timeline = c.next.new.self }) c.next_cell-sent.ensures.playable e.many e.sound e.words refl

pub loop-sent-preserved : goal.loop-sent-preserved
loop-sent-preserved c = record {
  told = λ words last told H.
      let q = c.args.proposal.now in
      let h = c.next_cell-sent.result in
      let p = c.next_cell-sent.new.self in
      let m = c.in_ok-moment.moment in
      let none = sym c.if-is_some.ensures in
      let cells = untold_if q words last told h p (played_on q words last told h c.loop-sent.self p (c.loop-sent.invariant.told words last told H) c.next_cell-sent.ensures.cells) none in
      untold_if q words last told c.begin-refused.result c.begin-refused.new.self
      (played_moment q words last told p c.begin-refused.new.self c.next.new.self m c.begin-refused.result cells (over_if h p.slot _ _ none c.next_cell-sent.ensures.fewer)
      c.in_ok-moment.ensures.taken c.begin-refused.ensures.begun)
      (sym c.if-is_some-2.ensures);
  playable = c.begin-refused.ensures.playable;
  shorter =
      let less = moment_shorter c.args.proposal.now c.loop-sent.self c.next_cell-sent.new.self c.begin-refused.new.self c.next.new.self c.in_ok-moment.moment c.begin-refused.result
      c.next_cell-sent.ensures.cells.1 c.in_ok-moment.ensures.shorter c.begin-refused.ensures.begun c.begin-refused.ensures.playable in
      omega (arith, less, c.loop-sent.invariant.shorter);
}

pub returns-then-is_some-clause-told : goal.returns-then-is_some-clause-told
returns-then-is_some-clause-told c = λ words last told H.
    let q = c.args.proposal.now in
    let h = c.next_cell-sent.result in
    let p = c.next_cell-sent.new.self in
    told_if q words last told h p (played_on q words last told h c.loop-sent.self p (c.loop-sent.invariant.told words last told H) c.next_cell-sent.ensures.cells) (sym c.if-is_some.ensures)

pub returns-in_err-moment-clause-told : goal.returns-in_err-moment-clause-told
returns-in_err-moment-clause-told c = λ words last told H.
    let q = c.args.proposal.now in
    let h = c.next_cell-sent.result in
    let p = c.next_cell-sent.new.self in
    let none = sym c.if-is_some.ensures in
    let cells = untold_if q words last told h p (played_on q words last told h c.loop-sent.self p (c.loop-sent.invariant.told words last told H) c.next_cell-sent.ensures.cells) none in
    subst (λ (x : Option Happening). MatchOption x (AreHappenings q words last told) (λ y. HasPlayed q words last (told ++ y ∷ []) (record p { timeline = c.next.new.self }))) (sym c.from_residual.ensures)
    (played_end q words last told p c.next.new.self cells (over_if h p.slot _ _ none c.next_cell-sent.ensures.fewer) c.in_err-moment.ensures.taken)

pub returns-then-is_some-2-clause-told : goal.returns-then-is_some-2-clause-told
returns-then-is_some-2-clause-told c = λ words last told H.
    let q = c.args.proposal.now in
    let h = c.next_cell-sent.result in
    let p = c.next_cell-sent.new.self in
    let none = sym c.if-is_some.ensures in
    let cells = untold_if q words last told h p (played_on q words last told h c.loop-sent.self p (c.loop-sent.invariant.told words last told H) c.next_cell-sent.ensures.cells) none in
    told_if q words last told c.begin-refused.result c.begin-refused.new.self
    (played_moment q words last told p c.begin-refused.new.self c.next.new.self c.in_ok-moment.moment c.begin-refused.result cells (over_if h p.slot _ _ none c.next_cell-sent.ensures.fewer)
    c.in_ok-moment.ensures.taken c.begin-refused.ensures.begun)
    (sym c.if-is_some-2.ensures)
