-- What the program writes of a script: a line for each event, of the machine's answer, or of the fault of a table that was to be published
-- (profile: docs/FORMATS.md, Output of `replay`).
use Rattle.std.specs.Prelude.{◌≡◌, ◌-◌, ◌≤◌, ◌++◌, ◌∷◌, [], ◌⊎◌, ℕ, List, Bool, Option, Some, Result, IfOk, IsTrue, ⊤, length, slice_get, take}
use Rattle.a429_equipment.specs.Limits.{count_bits}
use Rattle.a429_slots.specs.Events.{Event}
use Rattle.a429_slots.specs.Events as machine
use Rattle.a429_slots.specs.Proposed.{Proposed}
use Rattle.a429_slots.specs.History.{Opening}
use Rattle.a429_slots.specs.Answers.{answer}
use Rattle.a429_core.specs.MachineStates.{MachineState, StandsForHistory}
use Rattle.a429_replay.specs.Views.{told_answer, told_refusal}
use Rattle.a429_console.specs.Outputs.{AppendsPending}
use Rattle.a429_console.specs.Names.{Naming}
use Rattle.a429_console.specs.Tables.{IsProposedBy, IsTableRefusal}
use Rattle.a429_console.specs.declared.refusals.CommandRefusal.{CommandRefusal}
use Rattle.a429_replay.specs.declared.pending.Pending.{Pending}
use Rattle.a429_replay.specs.declared.script.ScriptEvent.{ScriptEvent}
use Rattle.a429_replay.specs.declared.views.View.{View}
use Rattle.a429_replay.specs.declared.script.ScriptEvent.TheVariants.{Arrive, Cell, Frame, Publish}

-- a table that is published is one of this number
abbrev pub HasTable : ℕ → ScriptEvent → Type 0
HasTable further (Publish n) = (1 ≤ n) × (n ≤ further)
HasTable further _ = ⊤

-- the event of a history that a script's event stands for; of the further tables, which are these, the one that is published has a plan
abbrev pub IsEventOf : List (List ℕ) → ScriptEvent → Event → Type 0
IsEventOf further (Arrive receiver raw) e = e ≡ machine.Arrive receiver raw
IsEventOf further (Cell group) e = e ≡ machine.Cell group
IsEventOf further (Frame group) e = e ≡ machine.Frame group
IsEventOf further (Publish n) e = (table : List ℕ) × (q : Proposed) × (slice_get further (n - 1) ≡ Some table) × IsProposedBy table q × (e ≡ machine.Publish q)

-- a table that was to be published is refused
abbrev pub IsUnread : List (List ℕ) → ScriptEvent → CommandRefusal → Type 0
IsUnread further (Publish n) refusal = (table : List ℕ) × (slice_get further (n - 1) ≡ Some table) × IsTableRefusal table refusal
IsUnread further _ refusal = ⊥

-- after the history E of a station an event of a script happens: the history goes on to E', and a line is printed
abbrev pub Happens : Opening → View → Naming → List (List ℕ) → List Event → ScriptEvent → List Event → List ℕ → Type 0
Happens o view names further E event E' line =
    ((e : Event) × IsEventOf further event e × (E' ≡ E ++ e ∷ []) × (line ≡ told_answer view names event (answer count_bits o E e)))
    ⊎ ((refusal : CommandRefusal) × IsUnread further event refusal × (E' ≡ E) × (line ≡ told_refusal view refusal))

-- events of a script happen one after another, from the history E to E', and these bytes are printed
abbrev pub Played : Opening → View → Naming → List (List ℕ) → List Event → List ScriptEvent → List Event → List ℕ → Type 0
Played o view names further E [] E' bytes = (E' ≡ E) × (bytes ≡ [])
Played o view names further E (event ∷ events) E' bytes =
    (M : List Event) × (line : List ℕ) × (rest : List ℕ) × Happens o view names further E event M line × Played o view names further M events E' rest × (bytes ≡ line ++ rest)

-- an event of a script happens to a state, whatever history the state stands for, and the line that is printed is appended to a text
abbrev pub PlaysOne : View → Naming → List (List ℕ) → ScriptEvent → MachineState → MachineState → List ℕ → List ℕ → Type 0
PlaysOne view names further event old new before after =
    (o : Opening) (E : List Event) → StandsForHistory count_bits o E old
    → (E' : List Event) × (line : List ℕ) × Happens o view names further E event E' line × StandsForHistory count_bits o E' new × (after ≡ before ++ line)

-- a table is published on a state, whatever history the state stands for, and the line that is printed is appended to a text
abbrev pub PlaysTable : View → Naming → List ℕ → MachineState → MachineState → List ℕ → List ℕ → Type 0
PlaysTable view names table = PlaysOne view names (table ∷ []) (Publish 1)

-- the first of these events happen to a state, whatever history the state stands for, and the bytes that are printed are put as Puts says; if memory
-- sufficed, all of them happen
abbrev pub PlaysEvents : View → Naming → List (List ℕ) → List ScriptEvent → MachineState → (List ℕ → Type 0) → Bool → Type 0
PlaysEvents view names further events old Puts sufficed =
    (o : Opening) (E : List Event) → StandsForHistory count_bits o E old
    → (n : ℕ) × (E' : List Event) × (bytes : List ℕ) × Played o view names further E (take n events) E' bytes × Puts bytes × (IsTrue sufficed → n ≡ length events)

-- the same of the lines that are printed: they are put out, or appended to those that are yet to be; the answer says whether memory sufficed for all
abbrev pub PlaysAll : {X E : Type 0} → (X → Option (List ℕ)) → View → Naming → List (List ℕ) → List ScriptEvent → MachineState → X → X → Pending → Pending → Result Bool E → Type 0
PlaysAll contents view names further events old out out' lines lines' result =
    IfOk result (PlaysEvents view names further events old (AppendsPending (contents out) lines.text.items (contents out') lines'.text.items))
