use Rattle.std.proofs.Common.{◌≡◌, ◌∙◌, ◌+◌, ◌*◌, ◌-◌, ◌%◌, ◌<◌, ◌≤◌, ℕ, Bool, ap, ap₂, arith}
use Rattle.std.specs.Prelude.{if◌then◌else◌}
use Rattle.std.proofs.Math.Nat.{mod-le, mul_comm}
use Rattle.std.proofs.lemmas.Bool.{lt-ltb}
use Rattle.std.proofs.lemmas.Nat.{mod_below, mul-le}
use Rattle.a429_slots.specs.FrameStates.{FrameState, after_cell}
use Rattle.a429_slots.specs.Tables.{SlotTable, buses_of, cells_of, frame_of}
use Rattle.a429_core.specs.Passed.{after_slots}
use Rattle.a429_core.proofs.passed.pass_frames.Goals as goal

-- while cells are left, one more is sent
one_more : (t : SlotTable) (first n : ℕ) (s u : FrameState) → s ≡ record { table = t; first = first; sent = n } → u ≡ after_cell s → n < cells_of t → u ≡ record { table = t; first = first; sent = n + 1 }
one_more t first n s u is after left =
    after ∙ ap after_cell is ∙ ap (λ (b : Bool). if b then record { table = t; first = first; sent = n + 1 } else record { table = t; first = first; sent = n }) (lt-ltb n (cells_of t) left)

-- the cells before a slot of the frame are cells of the frame
cells_left : (t : SlotTable) (n frame buses k : ℕ) → k < n % frame * buses → frame ≡ frame_of t → buses ≡ buses_of t → 1 ≤ frame → k < cells_of t
cells_left t n frame buses k before long many some =
    let below : n % frame < frame = mod_below n frame some in
    let most : n % frame * buses ≤ frame_of t * buses_of t = mul-le (n % frame) buses (frame_of t) (buses_of t) (omega arith) (omega arith) in
    omega (arith, mul_comm (frame_of t) (buses_of t))

all_sent : (t : SlotTable) (n frame buses k : ℕ) (s : FrameState) → n % frame * buses ≤ k → k ≤ n % frame * buses → frame ≡ frame_of t → buses ≡ buses_of t → s ≡ record { table = t; first = n - n % frame; sent = k } → s ≡ after_slots t n
all_sent t n frame buses k s low high long many here =
    let is : k ≡ n % frame * buses = omega arith in
    here
    ∙ ap (λ (m : ℕ). record { table = t; first = n - n % frame; sent = m }) is
    ∙ ap₂ (λ (f b : ℕ). record { table = t; first = n - n % f; sent = n % f * b }) long many

pub overflow_sub-slots : goal.overflow_sub-slots
overflow_sub-slots c = mod-le c.args.slots c.from.result

pub loop-preserved : goal.loop-preserved
loop-preserved c =
    let t = c.args.table.now in
    let long : c.from.result ≡ frame_of t = c.from.ensures ∙ c.frame.ensures.value in
    let left = cells_left t c.args.slots c.from.result _ c.loop.counter c.loop-test.true long (omega arith) (omega arith) in
    one_more t (c.args.slots - c.args.slots % c.from.result) c.loop.counter c.loop.sender c.cell.new.self c.loop.invariant c.cell.ensures.after left

pub returns : goal.returns
returns c =
    let t = c.args.table.now in
    let long : c.from.result ≡ frame_of t = c.from.ensures ∙ c.frame.ensures.value in
    all_sent t c.args.slots c.from.result _ c.loop.counter c.loop.sender c.loop-test.false c.loop.auto.counter-end long (omega arith) c.loop.invariant
