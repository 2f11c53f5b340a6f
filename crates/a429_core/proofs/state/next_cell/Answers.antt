use Rattle.std.proofs.Common.{◌≡◌, ◌∙◌, ◌+◌, ℕ, Bool, true, false, List, ap, ap₂, arith, refl, sym}
use Rattle.std.specs.Prelude.{Option, None, Some, if◌then◌else◌, nat_lt, slice_get, slice_set, option_and_then, option_map}
use Rattle.std.specs.Option.{option_map_or}
use Rattle.std.proofs.lemmas.List.{length-set}
use Rattle.a429_word.proofs.Lists.{read_is}
use Rattle.a429_slots.specs.FrameStates.{FrameState, due_of, next_cell, after_cell}
use Rattle.a429_slots.specs.Tables.{cells_of, output_in}
use Rattle.a429_slots.specs.declared.senders.Due.{Due}
use Rattle.a429_core.specs.MachineSteps.{asked_cell, placed_cell, after_asked}
use Rattle.a429_core.proofs.state.next_cell.Goals as goal

-- the group is in this frame, and its next cell is this one
when_due : (groups : List FrameState) (g : ℕ) (s : FrameState) (cell : Option (ℕ × ℕ)) → slice_get groups g ≡ Some s → cell ≡ next_cell s → placed_cell s cell ≡ asked_cell groups g
when_due groups g s cell there is = ap (placed_cell s) is ∙ sym (ap (λ (x : Option FrameState). option_and_then (λ f. placed_cell f (next_cell f)) x) there)

when_after : (groups : List FrameState) (g : ℕ) (s t : FrameState) → slice_get groups g ≡ Some s → t ≡ after_cell s → slice_set groups g t ≡ after_asked groups g
when_after groups g s t there is = ap (slice_set groups g) is ∙ sym (ap (λ (x : Option FrameState). option_map_or (λ f. slice_set groups g (after_cell f)) x groups) there)

same_table : (s : FrameState) → (after_cell s).table ≡ s.table
same_table s = go (nat_lt s.sent (cells_of s.table))
  where
    go : (b : Bool) → (if b then record s { sent = s.sent + 1 } else s).table ≡ s.table
    go true = refl
    go false = refl

placed : (s t : FrameState) (bus slot first : ℕ) (due : Option Due) → t ≡ after_cell s → first ≡ s.first → due ≡ option_map due_of (output_in t.table bus slot)
    → ◌≡◌ {A = Option (ℕ × ℕ × Option Due)} (Some (bus, first + slot, due)) (placed_cell s (Some (bus, slot)))
placed s t bus slot first due after begins is =
    let there : due ≡ option_map due_of (output_in s.table bus slot) = is ∙ ap (λ p. option_map due_of (output_in p bus slot)) (ap (λ (f : FrameState). f.table) after ∙ same_table s) in
    ap₂ (λ (n : ℕ) (x : Option Due). Some (bus, n + slot, x)) begins there

pub returns-in_err-bus-clause-due : goal.returns-in_err-bus-clause-due
returns-in_err-bus-clause-due c =
    let groups = c.args.groups.now.items in
    let there = read_is groups c.args.group c.index_mut-sender.result.now c.requires c.index_mut-sender.ensures.value in
    c.from_residual.ensures ∙ when_due groups c.args.group c.index_mut-sender.result.now None there c.in_err-bus.ensures.due

pub returns-in_err-bus-clause-after : goal.returns-in_err-bus-clause-after
returns-in_err-bus-clause-after c =
    let groups = c.args.groups.now.items in
    let there = read_is groups c.args.group c.index_mut-sender.result.now c.requires c.index_mut-sender.ensures.value in
    when_after groups c.args.group c.index_mut-sender.result.now c.cell.new.self there c.cell.ensures.after

pub returns-in_err-bus-clause-len : goal.returns-in_err-bus-clause-len
returns-in_err-bus-clause-len c = length-set c.args.groups.now.items c.args.group c.cell.new.self

pub returns-in_err-bus-clause-room : goal.returns-in_err-bus-clause-room
returns-in_err-bus-clause-room c = rw c.from_residual.ensures tt

pub overflow_add-result : goal.overflow_add-result
overflow_add-result c =
    let fits = c.in_ok-bus.ensures.fits in
    omega (arith, c.first-first.ensures, fits)

pub returns-clause-due : goal.returns-clause-due
returns-clause-due c =
    let groups = c.args.groups.now.items in
    let s = c.index_mut-sender.result.now in
    let there = read_is groups c.args.group s c.requires c.index_mut-sender.ensures.value in
    placed s c.cell.new.self c.in_ok-bus.bus c.in_ok-bus.slot c.first-first.result c.output_in.result c.cell.ensures.after c.first-first.ensures c.output_in.ensures.output
    ∙ when_due groups c.args.group s (Some (c.in_ok-bus.bus, c.in_ok-bus.slot)) there c.in_ok-bus.ensures.due

pub returns-clause-after : goal.returns-clause-after
returns-clause-after c =
    let groups = c.args.groups.now.items in
    let there = read_is groups c.args.group c.index_mut-sender.result.now c.requires c.index_mut-sender.ensures.value in
    when_after groups c.args.group c.index_mut-sender.result.now c.cell.new.self there c.cell.ensures.after

pub returns-clause-len : goal.returns-clause-len
returns-clause-len c = length-set c.args.groups.now.items c.args.group c.cell.new.self

pub returns-clause-room : goal.returns-clause-room
returns-clause-room c = let fits = c.in_ok-bus.ensures.fits in (omega (arith, c.first-first.ensures, fits), c.output_in.ensures.some)
