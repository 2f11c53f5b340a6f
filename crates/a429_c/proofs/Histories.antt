-- A station keeps the history of its calls.
use Rattle.std.proofs.Common.{List, [], ◌∷◌, ◌++◌, ap, sym, subst, append-nil, append_assoc}
use Rattle.std.specs.Prelude.{Option, Some, None}
use Rattle.std.specs.List.{AllByRecursion}
use Rattle.a429_equipment.specs.Limits.{count_bits}
use Rattle.a429_slots.specs.Events.{Event, Arrive, Cell, Frame, Publish}
use Rattle.a429_slots.specs.History.{Opening}
use Rattle.a429_core.specs.MachineStates.{IsWholeEvent, GoesOnByEvents, MachineState}
use Rattle.a429_core.specs.MachineSteps.{CallsAreAnswered, stepped}
use Rattle.a429_c.specs.Stations.{Held}
use Rattle.a429_c.specs.Calls.{cell_of, moved, plan_of, source_of}
use Rattle.a429_c.specs.Histories.{AnswersCalls, HasHistory, held_after}

module _ (answered : CallsAreAnswered) (goes : (e : Event) (v : MachineState) → IsWholeEvent e → GoesOnByEvents count_bits v (e ∷ []) (stepped count_bits v e).1) where
  pub calls_answered : (o : Opening) (E : List Event) (held : Option Held) → HasHistory o E held → AnswersCalls o E held
  calls_answered o E None h = absurd h
  calls_answered o E (Some m) h = record {
    arrives = λ r raw. ap source_of (answered count_bits o E (Arrive r raw) m.state tt h);
    cells = λ g. ap cell_of (answered count_bits o E (Cell g) m.state tt h);
    frames = λ g. ap plan_of (answered count_bits o E (Frame g) m.state tt h);
    publishes = λ q whole. ap plan_of (answered count_bits o E (Publish q) m.state whole h);
  }

  pub history_kept : (o : Opening) (E events : List Event) (held : Option Held) → HasHistory o E held → AllByRecursion IsWholeEvent events → HasHistory o (E ++ events) (held_after held events)
  history_kept o E [] held h w = subst (λ (F : List Event). HasHistory o F held) (sym (append-nil E)) h
  history_kept o E (e ∷ events) None h w = absurd h
  history_kept o E (e ∷ events) (Some m) h w =
      subst (λ (F : List Event). HasHistory o F (held_after (Some m) (e ∷ events))) (append_assoc E (e ∷ []) events)
      (history_kept o (E ++ e ∷ []) events (moved (λ s. stepped count_bits s e) (Some m)) (goes e m.state w.0 o E h) w.1)
