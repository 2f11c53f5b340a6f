-- A station may go to another thread: what it owns lies in a block that any thread may free.
use mir.Raw.{raw}
use base.Shift.{Keyless}
use denote.Memory.{lone}
use denote.RawPtr.{Ptr}
use denote.Param.Send.{IsSend, owning_send, struct_send, sendable}
use denote.Builtin.{RawPtr}
use denote.Struct.Struct.{exits_of}
use denote.Struct.Owning.{shape, fields, to}
use Rattle.std_alloc.proofs.SendSync.{quiet, lies}
use Rattle.std.proofs.Crossing.{crosses, frees}
use Rattle.std.specs.declared.option.Option.{Option}
use Rattle.std.specs.declared.option.Option.TheVariants.{None, Some}
use Rattle.a429_equipment.specs.Limits.{count_bits}
use Rattle.a429_c.specs.Held.{heap, held_at}
use denote.Param.{number}
use Rattle.a429_equipment.specs.contracts.equipment.Equipment as equipment
use Rattle.a429_slots.specs.contracts.plans.Plan as plan
use Rattle.a429_core.specs.contracts.state.State as state
use Rattle.a429_c.specs.contracts.machine.Machine as machine
use Rattle.a429_c.specs.contracts.handle.Handle.{the_row, the_type}

equipment_send : IsSend equipment.the_row
equipment_send = search (sendable, crosses) depth 40 fits 20000

plan_send : IsSend (plan.the_row (number 128))
plan_send = search (sendable, crosses) depth 40 fits 20000

state_send : IsSend (state.the_row (number count_bits))
state_send = search (equipment_send, sendable, crosses) depth 40 fits 20000

machine_send : IsSend machine.the_row
machine_send = search (state_send, equipment_send, sendable, crosses) depth 40 fits 20000

held_keyless : (p : Ptr) (x : Option (machine.the_row).Denot) → Keyless (held_at machine.the_row p x)
held_keyless p None = tt
held_keyless p (Some x) = (lies machine.the_row machine_send p x, frees.frees heap (raw (lone (machine.the_row).mir)) p)

pub handle_send : IsSend the_row
handle_send = let fields_send : IsSend RawPtr = search sendable in
    owning_send the_type (fields_send, tt) (λ d. held_keyless d.at d.held)
    (λ k. quiet (to the_type) (exits_of k (fields the_type)) ((struct_send (shape the_type) (fields_send, tt)).leaving k))
