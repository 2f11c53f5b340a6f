use Rattle.std.proofs.Common.{◌≡◌, ◌++◌, [], List, ℕ, ap, length, take, subst, sym}
use Rattle.std.specs.Prelude.{IsTrue}
use Rattle.a429_slots.specs.History.{Opening}
use Rattle.a429_replay.specs.Kept.{events_of}
use Rattle.a429_replay.specs.Playing.{Played}
use Rattle.a429_replay.specs.declared.kept.KeptEvent.{KeptEvent}
use Rattle.a429_console.specs.Names.{Naming, naming_of}
use Rattle.a429_replay.specs.Opened.{input_of}
use Rattle.a429_console.specs.Outputs.{ending}
use Rattle.a429_replay.specs.Replaying.{IsOutcome}
use Rattle.a429_replay.proofs.PlayedLines.{played_ended}
use Rattle.a429_replay.specs.Views.{heading}
use Rattle.std.specs.Io.KnownBytes.{Appends, append_known}
use Rattle.a429_replay.proofs.PutLines.{Appends-ended, Appends-text, Appends-then}
use Rattle.a429_console.proofs.Refused.{both_ok}
use Rattle.a429_replay.proofs.replay.play_prepared.Goals as goal

pub returns-clause-played : goal.returns-clause-played
returns-clause-played g c =
    both_ok c.finish.result _ _ (λ status is put q start opened headed.
    let o : Opening = record { proposal = q; first = 0 } in
    let i = input_of c.args.input.now in
    let events = events_of c.args.prepared.now.events.items in
    let all = c.in_ok-sufficed.sufficed in
    let (n, E, lines, told, appended, every) = c.in_ok-sufficed.ensures.played o [] opened.1 in
    let view = c.args.prepared.now.view in
    let begun = c.args.prepared.now.lines.text.items in
    let contents = g.O.Output.contents c.args.out.now in
    let kept : Appends (append_known contents []) (append_known (g.O.Output.contents c.play_all.new.out) c.play_all.new.lines.text.items) (begun ++ lines) =
    Appends-then _ _ _ begun lines (Appends-text contents [] begun) appended in
    let sent = rw c.deref-2.ensures.value at put in
    let of_events : Played o view c.args.prepared.now.station.names c.deref_mut.result.now [] (take n events) E lines =
    subst (λ (ks : List KeptEvent). Played o view c.args.prepared.now.station.names c.deref_mut.result.now [] (take n (events_of ks)) E lines) c.deref.ensures.value told in
    let of_tables : Played o view c.args.prepared.now.station.names i.further [] (take n events) E lines =
    subst (λ (ts : List (List ℕ)). Played o view c.args.prepared.now.station.names ts [] (take n events) E lines) c.deref_mut.ensures.value of_events in
    let played : Played o view (naming_of q.station) i.further [] (take n events) E lines =
    subst (λ (names : Naming). Played o view names i.further [] (take n events) E lines) opened.0 of_tables in
    let answered : begun ++ lines ≡ heading view ++ lines = ap (λ (bs : List ℕ). bs ++ lines) headed in
    let whole : IsTrue all → n ≡ length events = subst (λ (ks : List KeptEvent). IsTrue all → n ≡ length (events_of ks)) c.deref.ensures.value every in
    let bytes = (begun ++ lines) ++ ending all in (
      bytes,
      subst (λ (n : ℕ). IsOutcome i view q events n bytes) (sym is) (played_ended i view q events n (begun ++ lines) all (E, lines, played, answered) whole),
      Appends-ended (g.O.Output.contents c.args.out.now) _ _ c.play_all.new.lines.text.items (begun ++ lines) (ending all) kept sent,
    ))
    c.finish.ensures.status c.finish.ensures.put
