use Rattle.std.proofs.Common.{◌≡◌, ◌≢◌, ◌∙◌, ◌+◌, ◌*◌, ◌^◌, ◌<◌, ℕ, arith, sym, refl, ap, ltb, subst, true}
use Rattle.a429_slots.specs.Tables.{buses_of, cells_of, frame_of}
use Rattle.a429_slots.specs.FrameStates.{cells_before, next_cell}
use Rattle.a429_slots.proofs.NextCells.{begins_slot, counted, has_bus, has_slot, next_in_slot, next_is, next_slot, none_counted}
use Rattle.a429_slots.proofs.senders.Sender.cell.Goals.{then-bus-buses, else-bus-buses}
use Rattle.a429_slots.proofs.senders.Sender.cell.Goals as goal

next_bus : (n bus slot : ℕ) → slot * n + (bus + 1) ≡ slot * n + bus + 1
next_bus n bus slot = omega arith

slot_fits : (first f slot from seen : ℕ) → first + f < 2 ^ 64 → slot < f → from ≡ slot → first ≡ seen → seen + from + 1 < 2 ^ 64
slot_fits first f slot from seen fits before is same = omega arith

pub returns-clause-due : goal.returns-clause-due
returns-clause-due c =
    let sender = c.self.inside in
    let mid : ltb (cells_before sender.plan sender.bus sender.slot) (cells_of sender.plan) ≡ true =
    ap (λ s. ltb s.sent (cells_of s.table)) c.self.view_is ∙ sym c.is_mid_frame.ensures ∙ c.if-not-is_mid_frame.false in
    let below = has_bus sender.plan sender.bus sender.slot c.self.invariant.1 mid in
    rw c.from.ensures
    (next_is (record { table = sender.plan; first = sender.first; sent = cells_before sender.plan sender.bus sender.slot }) sender.bus sender.slot below refl mid ∙ ap next_cell c.self.view_is)

pub returns-then-not-is_mid_frame-clause-after : goal.returns-then-not-is_mid_frame-clause-after
returns-then-not-is_mid_frame-clause-after c = none_counted c.args.self.now c.if-not-is_mid_frame.ensures

pub invariant_of-self : goal.invariant_of-self
invariant_of-self c =
    let sender = c.self.inside in
    let mid : ltb (cells_before sender.plan sender.bus sender.slot) (cells_of sender.plan) ≡ true = ap (λ s. ltb s.sent (cells_of s.table)) c.self.view_is ∙ sym c.if-not-is_mid_frame.ensures in
    (c.self.invariant.0, begins_slot sender.plan sender.slot (has_slot sender.plan sender.bus sender.slot c.self.invariant.1 mid))

pub invariant_of-self-else-bus-buses : goal.invariant_of-self-else-bus-buses
invariant_of-self-else-bus-buses c =
    let sender = c.self.inside in
    let mid : ltb (cells_before sender.plan sender.bus sender.slot) (cells_of sender.plan) ≡ true = ap (λ s. ltb s.sent (cells_of s.table)) c.self.view_is ∙ sym c.if-not-is_mid_frame.ensures in (
      c.self.invariant.0,
      next_in_slot sender.plan sender.bus sender.slot (has_slot sender.plan sender.bus sender.slot c.self.invariant.1 mid) (has_bus sender.plan sender.bus sender.slot c.self.invariant.1 mid)
          (subst (λ (n : ℕ). sender.bus + 1 ≢ n) c.buses.ensures.value c.if-bus-buses.false),
    )

pub returns-clause-after : goal.returns-clause-after
returns-clause-after c =
    let sender = c.self.inside in
    let n : ℕ = buses_of sender.plan in
    let counts = counted sender.plan sender.first (cells_before sender.plan sender.bus sender.slot) in
    elim c.if-bus-buses.branch [
      | then-bus-buses w ↦ w.self-is ∙ counts _ c.args.self.now c.self.view_is c.if-not-is_mid_frame.ensures (next_slot n sender.bus sender.slot (w.if-bus-buses.true ∙ c.buses.ensures.value))
      | else-bus-buses w ↦ w.self-is ∙ counts _ c.args.self.now c.self.view_is c.if-not-is_mid_frame.ensures (next_bus n sender.bus sender.slot)
    ]

pub returns-clause-fits : goal.returns-clause-fits
returns-clause-fits c =
    let sender = c.self.inside in
    let mid : ltb (cells_before sender.plan sender.bus sender.slot) (cells_of sender.plan) ≡ true = ap (λ s. ltb s.sent (cells_of s.table)) c.self.view_is ∙ sym c.if-not-is_mid_frame.ensures in
    slot_fits sender.first (frame_of sender.plan) sender.slot _ _ c.self.invariant.0 (has_slot sender.plan sender.bus sender.slot c.self.invariant.1 mid) c.from.ensures (ap (λ s. s.first) c.self.view_is)
