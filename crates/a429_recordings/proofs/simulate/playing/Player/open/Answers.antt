use Rattle.std.proofs.Common.{◌≡◌, ◌∙◌, ℕ, List, ap, append-nil, refl, subst, sym}
use Rattle.a429_recordings.specs.Simulating.{steps_of}
use Rattle.a429_recordings.specs.SimulationRuns.{StandsAfter, put_at}
use Rattle.a429_recordings.specs.Timeline.{end_of}
use Rattle.a429_recordings.specs.Tracks.{AreTracks, StartsAt, silent_until}
use Rattle.a429_recordings.specs.declared.simulate.log.LogWord.{LogWord}
use Rattle.a429_equipment.specs.Sound.{OfEach}
use Rattle.a429_recordings.proofs.SilentSlots.{starts_silent}
use Rattle.a429_recordings.proofs.simulate.playing.Player.open.Goals as goal

pub returns : goal.returns
returns c =
    let q = c.args.proposal.now in
    let words = c.args.words.items in
    let last : ℕ = end_of q words c.args.until in
    let tracks = c.in_ok-tracks.tracks.items in
    let same : c.end_of-last.result ≡ last = c.end_of-last.ensures ∙ ap (λ (ws : List LogWord). end_of q ws c.args.until) c.deref.ensures.value in
    let start : silent_until c.deref-2.result.now c.end_of-last.result ≡ silent_until words last =
    ap (λ (ws : List LogWord). silent_until ws c.end_of-last.result) c.deref-2.ensures.value ∙ ap (silent_until words) same in
    let made = c.in_ok-tracks.ensures in
    let are = subst (λ (n : ℕ). AreTracks q n tracks) same made.0 in
    let starts = subst (λ (n : ℕ). OfEach (StartsAt n) tracks) start made.3 in
    let S = starts_silent q words last tracks are made.2 starts c.calls_are_answered.ensures.answer c.calls_are_answered.ensures.stands c.sent_cells_are_answered.ensures.none
    c.in_ok-run.run' made.1 c.in_ok-run.ensures in
    let put = c.put_at.ensures ∙ ap (put_at c.in_ok-run.run') c.deref-3.ensures.value in (
      record {
        moments = S.moments;
        steps = steps_of q S.moments;
        timeline = record { words_are = refl; in_time = c.requires; tracks = are; happened = S.happened };
        begun = append-nil (steps_of q S.moments);
        run = subst (StandsAfter q (steps_of q S.moments)) (sym put) S.stands;
        told_is = sym S.quiet;
      },
      record { tracks = made.1; sound = made.2; in_time = c.requires; slot = tt },
    )
