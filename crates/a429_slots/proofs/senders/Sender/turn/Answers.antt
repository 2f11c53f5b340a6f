use Rattle.std.proofs.Common.{◌≡◌, ◌∙◌, ◌+◌, ◌-◌, ◌*◌, ◌^◌, ◌<◌, ◌≤◌, ℕ, Fits, ap, arith, false, inl, nat_lt, refl, subst, sym, true, w64}
use Rattle.std.proofs.lemmas.Bool.{le-ltb, lt-ltb}
use Rattle.a429_slots.specs.Tables.{SlotTable, buses_of, frame_of}
use Rattle.a429_slots.specs.FrameStates.{FrameState, IsNextCell, fits_next, turned}
use Rattle.a429_slots.proofs.senders.Sender.turn.Goals as goal

start_fits : (first from f : ℕ) → first + f < 2 ^ 64 → from ≡ f → Fits w64 (first + from)
start_fits first from f fits is = omega arith

room_left : (first from from2 f f2 : ℕ) → from ≡ f → from2 ≡ f2 → first + f < 2 ^ 64 → from2 ≤ 18446744073709551615 - (first + from) → first + from + f2 < 2 ^ 64
room_left first from from2 f f2 is is2 fits room = omega arith

no_room : (first from from2 f f2 : ℕ) → from ≡ f → from2 ≡ f2 → 18446744073709551615 - (first + from) < from2 → 2 ^ 64 ≤ first + f + f2
no_room first from from2 f f2 is is2 over = omega arith

begins : (t : SlotTable) (n : ℕ) → 1 ≤ n → n ≡ frame_of t → IsNextCell t 0 0
begins t n some is = record { bus_of = inl refl; slot_of = inl (omega arith) }

-- the frame turns if there is room
turns : (s : FrameState) (t : SlotTable) (first sent from none : ℕ) (new : SlotTable) → none ≡ 0 → record { table = t; first = first; sent = sent } ≡ s → from ≡ frame_of t → first + from + frame_of new < 2 ^ 64
    → record { table = new; first = first + from; sent = none } ≡ turned s new
turns s t first sent from none new begun view is room =
    let there : nat_lt (first + from + frame_of new) (2 ^ 64) ≡ true = lt-ltb (first + from + frame_of new) (2 ^ 64) room in
    let step : record { table = new; first = first + from; sent = none } ≡ turned (record { table = t; first = first; sent = sent }) new = rw (begun, ← is, there) refl in
    step ∙ ap (λ (s : FrameState). turned s new) view

no_cell : (n : ℕ) → 0 * n + 0 ≡ 0
no_cell n = omega arith

stays : (s : FrameState) (new : SlotTable) → false ≡ fits_next s new → s ≡ turned s new
stays s new none = rw (← none) refl

pub overflow_add-first : goal.overflow_add-first
overflow_add-first c = start_fits _ _ _ c.self.invariant.0 (c.from.ensures ∙ c.frame.ensures.value)

pub returns-then-first-from-clause-room : goal.returns-then-first-from-clause-room
returns-then-first-from-clause-room c =
    let sender = c.self.inside in
    sym (le-ltb (sender.first + frame_of sender.plan + frame_of c.args.newest.now) (2 ^ 64) (no_room _ _ _ _ _ (c.from.ensures ∙ c.frame.ensures.value) (c.from-2.ensures ∙ c.frame-2.ensures.value) c.if-first-from.true))
    ∙ ap (λ (s : FrameState). fits_next s c.args.newest.now) c.self.view_is

pub returns-then-first-from-clause-after : goal.returns-then-first-from-clause-after
returns-then-first-from-clause-after c = stays c.args.self.now c.args.newest.now (returns-then-first-from-clause-room c)

pub invariant_of-self : goal.invariant_of-self
invariant_of-self c =
    let room = room_left _ _ _ _ _ (c.from.ensures ∙ c.frame.ensures.value) (c.from-2.ensures ∙ c.frame-2.ensures.value) c.self.invariant.0 c.if-first-from.false in
    (room, begins c.args.newest.now c.frame-2.result c.frame-2.ensures.some c.frame-2.ensures.value)

pub returns-clause-room : goal.returns-clause-room
returns-clause-room c =
    let sender = c.self.inside in
    let is = c.from.ensures ∙ c.frame.ensures.value in
    let room = room_left _ _ _ _ _ is (c.from-2.ensures ∙ c.frame-2.ensures.value) c.self.invariant.0 c.if-first-from.false in
    sym (lt-ltb (sender.first + frame_of sender.plan + frame_of c.args.newest.now) (2 ^ 64) (subst (λ (n : ℕ). sender.first + n + frame_of c.args.newest.now < 2 ^ 64) is room))
    ∙ ap (λ (s : FrameState). fits_next s c.args.newest.now) c.self.view_is

pub returns-clause-after : goal.returns-clause-after
returns-clause-after c =
    let sender = c.self.inside in
    let is = c.from.ensures ∙ c.frame.ensures.value in
    let room = room_left _ _ _ _ _ is (c.from-2.ensures ∙ c.frame-2.ensures.value) c.self.invariant.0 c.if-first-from.false in
    turns c.args.self.now sender.plan sender.first _ c.from.result _ c.args.newest.now (no_cell (buses_of c.args.newest.now)) c.self.view_is is room
