use Rattle.std.proofs.Common.{◌≡◌, ◌+◌, ℕ, get_or, subst, sym}
use Rattle.std.specs.Prelude.{Some, slice_get}
use Rattle.std.proofs.lemmas.Option.{slice_get-get_or}
use Rattle.a429_recordings.specs.Tracks.{IsNextTrack}
use Rattle.a429_recordings.specs.declared.simulate.tracks.Track.{Track}
use Rattle.a429_recordings.proofs.TrackOrder.{done_if, least_better, least_done, least_worse, left_if}
use Rattle.a429_recordings.proofs.simulate.tracks.first_group.Goals as goal
use Rattle.a429_recordings.proofs.simulate.tracks.first_group.Goals.{then-not-is_done+then-goes_before, else-not-is_done, else-not-is_done-via-then-not-is_done+else-goes_before, else-not-is_done-via-else-not-is_done}

pub loop-group-preserved : goal.loop-group-preserved
loop-group-preserved c =
    let ts = c.args.tracks.now in
    let n : ℕ = c.loop-group.group in
    let none : Track = record { rate = 0; slots = 0; next = 0 } in
    let x : Track = get_or ts n none in
    let at : slice_get ts n ≡ Some x = slice_get-get_or ts n none c.loop-group-test.true in
    elim c.if-not-is_done.branch [
      | then-not-is_done+then-goes_before w ↦ subst (IsNextTrack ts (n + 1)) (sym w.first-is)
          (least_better ts n x c.loop-group.first w.goes_before.result c.requires.sound at (left_if c.is_done.result x.slots x.next c.is_done.ensures w.if-not-is_done.true) w.goes_before.ensures w.if-goes_before.true c.loop-group.invariant)
      | else-not-is_done w ↦ subst (IsNextTrack ts (n + 1)) (sym w.first-is) (elim w.else-not-is_done.branch [
        | else-not-is_done-via-then-not-is_done+else-goes_before v ↦ least_worse ts n x c.loop-group.first v.goes_before.result at v.goes_before.ensures v.if-goes_before.false c.loop-group.invariant
        | else-not-is_done-via-else-not-is_done v ↦ least_done ts n x c.loop-group.first at (done_if c.is_done.result x.slots x.next c.is_done.ensures v.if-not-is_done.false) c.loop-group.invariant
      ])
    ]
