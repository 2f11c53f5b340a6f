use Rattle.std.proofs.Common.{◌≡◌, ℕ, List, ◌<◌, length, take}
use Rattle.std.specs.Io.KnownBytes.{Appends, append_known}
use Rattle.a429_slots.specs.Events.{Event}
use Rattle.a429_slots.specs.History.{Opening}
use Rattle.a429_core.specs.MachineStates.{StandsForHistory}
use Rattle.a429_replay.specs.Kept.{events_of}
use Rattle.a429_replay.specs.Playing.{Played}
use Rattle.a429_replay.proofs.playing.play_all.Given as goal

abbrev pub invariant-loop-kept : goal.invariant-loop-kept
invariant-loop-kept g l = record {
  played : (o : Opening) (E : List Event) → StandsForHistory 41 o E l.initial.state
      → (M : List Event) × (bytes : List ℕ)
      × Played o l.view l.names l.initial.further E (events_of (take l.kept-index l.events)) M bytes × StandsForHistory 41 o M l.state
      × Appends (append_known (g.O.Output.contents l.initial.out) l.initial.lines.text.items) (append_known (g.O.Output.contents l.out) l.lines.text.items) bytes;
  few : length l.initial.lines.text.items < 65536 → length l.lines.text.items < 65536;
  kept : g.O.Output.failures l.out ≡ g.O.Output.failures l.initial.out;
  same : l.further ≡ l.initial.further;
}
