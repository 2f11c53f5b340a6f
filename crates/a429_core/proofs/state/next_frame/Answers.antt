use Rattle.std.proofs.Common.{◌≡◌, ◌∙◌, ◌<◌, ℕ, Bool, true, false, List, length, ap, refl, sym}
use Rattle.std.specs.Prelude.{Some, if◌then◌else◌, nat_lt, slice_get, slice_set}
use Rattle.a429_word.proofs.Lists.{get_within, read_is}
use Rattle.a429_slots.specs.FrameStates.{FrameState, fits_next, turned}
use Rattle.a429_slots.specs.Tables.{PlanTable, SlotTable, cells_of, groups_of}
use Rattle.a429_slots.specs.declared.answers.Answer.{Answer}
use Rattle.a429_slots.specs.declared.answers.Answer.TheVariants.{Changed, Refused}
use Rattle.a429_slots.specs.declared.answers.Refusal.TheVariants.{MidFrame, SlotsSpent}
use Rattle.a429_core.specs.MachineSteps.{frame_at}
use Rattle.a429_core.proofs.state.next_frame.Goals as goal

-- a cell of the frame is left
when_left : (groups : List FrameState) (newest : PlanTable) (g : ℕ) (s : FrameState) → slice_get groups g ≡ Some s → g < length (groups_of newest) → nat_lt s.sent (cells_of s.table) ≡ true
    → frame_at groups newest g ≡ (Refused MidFrame, slice_set groups g s)
when_left groups newest g s there planned left = let table = get_within (groups_of newest) g planned in rw (there, table.1, left) refl

-- all cells of the frame were sent
when_over : (groups : List FrameState) (newest : PlanTable) (g : ℕ) (s : FrameState) (p : SlotTable) → slice_get groups g ≡ Some s → slice_get (groups_of newest) g ≡ Some p
    → nat_lt s.sent (cells_of s.table) ≡ false → frame_at groups newest g ≡ ((if fits_next s p then Changed newest.number else Refused SlotsSpent), slice_set groups g (turned s p))
when_over groups newest g s p there planned over = rw (there, planned, over) refl

left : (c : goal.After-groups-1) → frame_at c.args.groups.now.items c.args.newest.now c.args.group ≡ (Refused MidFrame, slice_set c.args.groups.now.items c.args.group c.index_mut-sender.result.now)
left c =
    let groups = c.args.groups.now.items in
    let s = c.index_mut-sender.result.now in
    when_left groups c.args.newest.now c.args.group s (read_is groups c.args.group s c.requires.group c.index_mut-sender.ensures.value) c.requires.planned (sym c.if-is_mid_frame.ensures)

pub returns-then-is_mid_frame-clause-answer : goal.returns-then-is_mid_frame-clause-answer
returns-then-is_mid_frame-clause-answer c = ap (λ (p : Answer × List FrameState). p.0) (sym (left c))

pub returns-then-is_mid_frame-clause-after : goal.returns-then-is_mid_frame-clause-after
returns-then-is_mid_frame-clause-after c = ap (λ (p : Answer × List FrameState). p.1) (sym (left c))

pub returns-then-turn-clause-answer : goal.returns-then-turn-clause-answer
returns-then-turn-clause-answer c =
    let groups = c.args.groups.now.items in
    let s = c.index_mut-sender.result.now in
    let is = when_over groups c.args.newest.now c.args.group s c.group.result.now (read_is groups c.args.group s c.requires.group c.index_mut-sender.ensures.value) c.group.ensures (sym c.if-is_mid_frame.ensures) in
    ap (λ (n : ℕ). Changed n) c.number.ensures
    ∙ ap (λ (b : Bool). if b then Changed c.args.newest.now.number else Refused SlotsSpent) c.if-turn.ensures.room
    ∙ ap (λ (p : Answer × List FrameState). p.0) (sym is)

pub returns-then-turn-clause-after : goal.returns-then-turn-clause-after
returns-then-turn-clause-after c =
    let groups = c.args.groups.now.items in
    let s = c.index_mut-sender.result.now in
    let is = when_over groups c.args.newest.now c.args.group s c.group.result.now (read_is groups c.args.group s c.requires.group c.index_mut-sender.ensures.value) c.group.ensures (sym c.if-is_mid_frame.ensures) in
    ap (slice_set groups c.args.group) c.turn.ensures.after ∙ ap (λ (p : Answer × List FrameState). p.1) (sym is)

pub returns-else-turn-clause-answer : goal.returns-else-turn-clause-answer
returns-else-turn-clause-answer c =
    let groups = c.args.groups.now.items in
    let s = c.index_mut-sender.result.now in
    let is = when_over groups c.args.newest.now c.args.group s c.group.result.now (read_is groups c.args.group s c.requires.group c.index_mut-sender.ensures.value) c.group.ensures (sym c.if-is_mid_frame.ensures) in
    ap (λ (b : Bool). if b then Changed c.args.newest.now.number else Refused SlotsSpent) c.if-turn.ensures.room
    ∙ ap (λ (p : Answer × List FrameState). p.0) (sym is)

pub returns-else-turn-clause-after : goal.returns-else-turn-clause-after
returns-else-turn-clause-after c =
    let groups = c.args.groups.now.items in
    let s = c.index_mut-sender.result.now in
    let is = when_over groups c.args.newest.now c.args.group s c.group.result.now (read_is groups c.args.group s c.requires.group c.index_mut-sender.ensures.value) c.group.ensures (sym c.if-is_mid_frame.ensures) in
    ap (slice_set groups c.args.group) c.turn.ensures.after ∙ ap (λ (p : Answer × List FrameState). p.1) (sym is)
