use Rattle.std.proofs.Common.{◌≡◌, ◌∙◌, ◌-◌, ◌+◌, ◌^◌, ◌<◌, ◌≤◌, Fits, ℕ, ap, arith, sym, w32}
use Rattle.std.proofs.lemmas.Option.{same_Some}
use Rattle.a429_slots.specs.declared.group_plan.SlotPlace.{SlotPlace}
use Rattle.a429_slots.specs.Tables.{frame_of}
use Rattle.a429_slots.proofs.Gaps.{gap_is}
use Rattle.a429_slots.proofs.changes.gap.Goals as goal

pub returns-clause-gap : goal.returns-clause-gap
returns-clause-gap g c =
    let old : SlotPlace = c.place-old.result in
    let new : SlotPlace = c.place-new.result in
    gap_is c.args.before.now c.args.after.now c.args.output c.args.same old.bus new.bus old.offset new.offset old.period new.period (c.slots.result - old.offset + new.offset)
    c.place-old.ensures.cells c.place-old.ensures.frame c.place-new.ensures.cells c.place-new.ensures.frame
    (ap (λ (p : ℕ). p - old.offset + new.offset) c.slots.ensures.value)

pub returns-clause-places : goal.returns-clause-places
returns-clause-places g c old new before after =
    let first : c.place-old.result ≡ old = same_Some c.place-old.result old (sym c.place-old.ensures.place ∙ before) in
    let second : c.place-new.result ≡ new = same_Some c.place-new.result new (sym c.place-new.ensures.place ∙ after) in (
      omega (arith, c.slots.ensures.value, ap (λ (p : SlotPlace). p.offset) first, ap (λ (p : SlotPlace). p.offset) second, ap (λ (p : SlotPlace). 2 ^ p.period) first),
      omega (arith, c.slots.ensures.value, c.place-old.ensures.cells.within, c.place-new.ensures.cells.within, ap (λ (p : SlotPlace). 2 ^ p.period) first, ap (λ (p : SlotPlace). 2 ^ p.period) second),
    )

pub place-old-requires : goal.place-old-requires
place-old-requires g c = (assumption, c.requires.before)

pub place-new-requires : goal.place-new-requires
place-new-requires g c = (assumption, c.requires.after)

pub frame-requires : goal.frame-requires
frame-requires g c = assumption

-- an offset o in a period of s slots, and an offset n in a period of k slots; a frame has f slots, at least k
no_room : (n k t f : ℕ) → n < k → k ≤ t → f ≡ t → f ≤ n → ⊥
no_room n k t f below short frame past = omega arith

left : (s o h : ℕ) → o < h → s ≡ h → o ≤ s
left s o h below slots = omega arith

sum_fits : (s o n k t f : ℕ) → s ≤ 8192 → n < k → k ≤ t → f ≡ t → f ≤ 8192 → Fits w32 (s - o + n)
sum_fits s o n k t f few below short frame short_frame = omega arith

some : (s o n h : ℕ) → o < h → s ≡ h → 1 ≤ s - o + n
some s o n h below slots = omega arith

pub prove-unreachable-requires : goal.prove-unreachable-requires
prove-unreachable-requires g c =
    let new : SlotPlace = c.place-new.result in
    no_room new.offset (2 ^ new.period) (frame_of c.args.after.now) c.frame.result c.place-new.ensures.cells.within c.place-new.ensures.frame c.frame.ensures.value c.if-prove.true

pub overflow_sub-result : goal.overflow_sub-result
overflow_sub-result g c = left c.slots.result c.place-old.result.offset _ c.place-old.ensures.cells.within c.slots.ensures.value

pub overflow_add-result : goal.overflow_add-result
overflow_add-result g c =
    let new : SlotPlace = c.place-new.result in
    sum_fits c.slots.result c.place-old.result.offset new.offset (2 ^ new.period) (frame_of c.args.after.now) c.frame.result c.slots.ensures.few c.place-new.ensures.cells.within
    c.place-new.ensures.frame c.frame.ensures.value c.frame.ensures.few

pub returns-clause-some : goal.returns-clause-some
returns-clause-some g c = some c.slots.result c.place-old.result.offset c.place-new.result.offset _ c.place-old.ensures.cells.within c.slots.ensures.value
