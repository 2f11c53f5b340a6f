-- The events that the program's values stand for (vocabulary of contracts).
use Rattle.a429_slots.specs.Events.{Event, Arrive, Cell, Frame, Publish}
use Rattle.a429_core.specs.declared.events.Event as code
use Rattle.a429_core.specs.declared.events.Event.TheVariants as code_event

-- the event that a value of the program stands for
abbrev pub event_of : code.Event → Event
event_of (code_event.Arrive r raw) = Arrive r raw
event_of (code_event.Cell g) = Cell g
event_of (code_event.Frame g) = Frame g
event_of (code_event.Publish q) = Publish q
