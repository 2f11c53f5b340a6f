-- Events that are kept one after another.
use Rattle.std.proofs.Common.{◌≡◌, ◌∙◌, ◌+◌, ◌<◌, ℕ, List, [], ◌∷◌, ◌++◌, length, take, get_or, ap, subst, sym}
use Rattle.std.proofs.lemmas.List.{map-append, take-map, take_more}
use Rattle.a429_slots.proofs.Rows.{all_below}
use Rattle.a429_console.specs.Names.{Naming}
use Rattle.a429_replay.specs.Kept.{KeepsEntry, KeepsLine, TakesAllTables, event_of, events_of}
use Rattle.a429_replay.specs.Playing.{HasTable}
use Rattle.a429_replay.specs.declared.kept.KeptEvent.{KeptEvent}
use Rattle.a429_replay.specs.declared.script.ScriptEvent.{ScriptEvent}

-- one more event
pub events_of-push : (before after : List KeptEvent) (k : KeptEvent) (event : ScriptEvent) → after ≡ before ++ k ∷ [] → event_of k ≡ event → events_of after ≡ events_of before ++ event ∷ []
events_of-push before after k event pushed is = ap events_of pushed ∙ (map-append event_of before (k ∷ []) ∙ ap (λ (e : ScriptEvent). events_of before ++ e ∷ []) is)

all_tables-push : (further : ℕ) (xs : List KeptEvent) (k : KeptEvent) → TakesAllTables further xs → HasTable further (event_of k) → TakesAllTables further (xs ++ k ∷ [])
all_tables-push further [] k all one = (one, tt)
all_tables-push further (x ∷ xs) k all one = (all.0, all_tables-push further xs k all.1 one)

pub tables-push : (further : ℕ) (before after : List KeptEvent) (k : KeptEvent) (event : ScriptEvent) → after ≡ before ++ k ∷ [] → event_of k ≡ event → TakesAllTables further before → HasTable further event
    → TakesAllTables further after
tables-push further before after k event pushed is all one =
    subst (λ (xs : List KeptEvent). TakesAllTables further xs) (sym pushed) (all_tables-push further before k all (subst (λ (e : ScriptEvent). HasTable further e) (sym is) one))

-- a line that publishes no table, with any number of them
pub entry_of_line : (names : Naming) (further : ℕ) (text : List ℕ) (before after : List KeptEvent) (rest : List ℕ) → KeepsLine names text before after rest → KeepsEntry names further text before after rest
entry_of_line names further text before after rest line = record {
  event = line.event;
  states = line.starts.states further;
  table = (line.starts.kept further).0;
  shorter = line.starts.shorter;
  last = line.last;
}

-- ---- played one after another

pub table_at : (further : ℕ) (events : List KeptEvent) (i : ℕ) (d : KeptEvent) (event : ScriptEvent) → i < length events → TakesAllTables further events → event ≡ event_of (get_or events i d) → HasTable further event
table_at further events i d event below all is =
    subst (λ (e : ScriptEvent). HasTable further e) (sym is) (all_below (λ (x : KeptEvent). HasTable further (event_of x)) events i d below all)

pub events_of-take_more : (events : List KeptEvent) (i : ℕ) (d : KeptEvent) (event : ScriptEvent) → i < length events → event ≡ event_of (get_or events i d)
    → events_of (take (i + 1) events) ≡ events_of (take i events) ++ event ∷ []
events_of-take_more events i d event below is = events_of-push (take i events) (take (i + 1) events) (get_or events i d) event (take_more events i d below) (sym is)

-- the first of the events, and all
pub events_of-take : (n : ℕ) (events : List KeptEvent) → events_of (take n events) ≡ take n (events_of events)
events_of-take n events = sym (take-map event_of n events)
