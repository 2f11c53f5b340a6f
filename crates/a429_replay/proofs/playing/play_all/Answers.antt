use Rattle.std.proofs.Common.{rules, ◌≡◌, ◌∙◌, ◌++◌, [], ℕ, List, length, take, refl, sym, subst, arith, append-nil}
use Rattle.std.proofs.lemmas.List.{length-map}
use Rattle.std.specs.Io.KnownBytes.{Appends, append_known}
use Rattle.a429_replay.specs.Kept.{TakesAllTables, event_of, events_of}
use Rattle.a429_replay.specs.Playing.{Played, PlaysOne}
use Rattle.a429_replay.specs.declared.script.ScriptEvent.{ScriptEvent}
use Rattle.a429_replay.proofs.KeptEvents.{events_of-take, events_of-take_more, table_at}
use Rattle.a429_replay.proofs.PlayedLines.{played_push}
use Rattle.a429_replay.proofs.PutLines.{Appends-same, Appends-text, Appends-then}
use Rattle.a429_replay.proofs.playing.play_all.Goals as goal

pub loop-kept-init : goal.loop-kept-init
loop-kept-init g c = record { played = λ o E s. (E, [], (refl, refl), s, Appends-same _); few = λ h. h; kept = refl; same = refl }

pub play-requires : goal.play-requires
play-requires g c = table_at (length c.loop-kept.further) c.args.events.now c.loop-kept.kept-index _ c.event-event.result c.loop-kept-test.true
    (subst (λ (ts : List (List ℕ)). TakesAllTables (length ts) c.args.events.now) (sym c.loop-kept.invariant.same) c.requires) c.event-event.ensures

pub returns-in_default-clause-played : goal.returns-in_default-clause-played
returns-in_default-clause-played g c = λ o E s.
    let events = c.args.events.now in
    let n = c.loop-kept.kept-index in
    let (M, bytes, played, stands, put) = c.loop-kept.invariant.played o E s in
    let kept : c.play.new.lines.text.items ≡ c.loop-kept.lines.text.items = search rules in
    let first = subst (λ (es : List ScriptEvent). Played o c.args.view c.args.names.now c.args.further.now E es M bytes) (events_of-take n events) played in
    (n, M, bytes, first, rw kept put, λ no. cc)

pub loop-kept-preserved : goal.loop-kept-preserved
loop-kept-preserved g c = record {
  played = λ o E s.
      let (M, bytes, played, stands, put) = c.loop-kept.invariant.played o E s in
      let view = c.args.view in
      let names = c.args.names.now in
      let further = c.args.further.now in
      let events = c.args.events.now in
      let i = c.loop-kept.kept-index in
      let event = c.event-event.result in
      let one_played = subst (λ (ts : List (List ℕ)). PlaysOne view names ts event c.loop-kept.state c.play.new.state c.loop-kept.lines.text.items c.play.new.lines.text.items)
      c.loop-kept.invariant.same c.in-Ok.ensures.played in
      let (N, line, happens, stands_next, lines) = one_played o M stands in
      let one : Appends (append_known (g.O.Output.contents c.loop-kept.out) c.loop-kept.lines.text.items) (append_known (g.O.Output.contents c.loop-kept.out) c.play.new.lines.text.items) line =
      rw lines (Appends-text _ _ _) in
      let last = rw (append-nil line) at (Appends-then _ _ _ _ _ one c.in_ok-put_if_full.ensures.put) in
      let more = events_of-take_more events i _ event c.loop-kept-test.true c.event-event.ensures in (
        N,
        bytes ++ line,
        subst (λ (es : List ScriptEvent). Played o view names further E es N (bytes ++ line)) (sym more)
            (played_push o view names further E (events_of (take i events)) event M N bytes line played happens),
        stands_next,
        Appends-then _ _ _ _ _ put last,
      );
  few = λ h. c.in_ok-put_if_full.ensures.few;
  kept = c.in_ok-put_if_full.ensures.faults ∙ c.loop-kept.invariant.kept;
  same = c.in-Ok.ensures.same ∙ c.loop-kept.invariant.same;
}

pub returns-clause-played : goal.returns-clause-played
returns-clause-played g c = λ o E s.
    let events = c.args.events.now in
    let n = c.loop-kept.kept-index in
    let (M, bytes, played, stands, put) = c.loop-kept.invariant.played o E s in
    let first = subst (λ (es : List ScriptEvent). Played o c.args.view c.args.names.now c.args.further.now E es M bytes) (events_of-take n events) played in
    let every : n ≡ length events = omega arith in
    (n, M, bytes, first, put, λ sufficed. every ∙ sym (length-map events event_of))
