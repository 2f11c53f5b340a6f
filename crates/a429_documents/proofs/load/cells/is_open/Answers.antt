use Rattle.std.proofs.Common.{◌≡◌, ◌+◌, ◌*◌, ◌/◌, ◌<◌, ◌∙◌, ℕ, Bool, true, false, Option, None, Some, ap, ap₂, refl, subst, sym}
use Rattle.std.specs.Prelude.{is_none, is_some}
use Rattle.a429_slots.specs.Tables.{SlotTable, cell_at, frame_of}
use Rattle.a429_documents.proofs.BusLoads.{range_all_more, range_not_all}
use Rattle.a429_documents.proofs.load.cells.is_open.Goals as goal

-- a cell that was looked up, in the slot of a number
empty_is : (t : SlotTable) (bus offset period number a b c : ℕ) (found : Option ℕ) (filled : Bool) → a ≡ offset → b ≡ number → c ≡ period → found ≡ cell_at t bus (a + b * c) → filled ≡ is_some found
    → (filled ≡ true → is_none (cell_at t bus (offset + number * period)) ≡ false) × (filled ≡ false → is_none (cell_at t bus (offset + number * period)) ≡ true)
empty_is t bus offset period number a b c found filled first second third is told =
    let slot : a + b * c ≡ offset + number * period = ap₂ (λ x y. x + y) first (ap₂ (λ x y. x * y) second third) in
    let cell : found ≡ cell_at t bus (offset + number * period) = is ∙ ap (λ s. cell_at t bus s) slot in
    (λ there. ap (λ (o : Option ℕ). is_none o) (sym cell) ∙ some_filled found (sym told ∙ there), λ none. ap (λ (o : Option ℕ). is_none o) (sym cell) ∙ none_filled found (sym told ∙ none))
  where
    some_filled : (o : Option ℕ) → is_some o ≡ true → is_none o ≡ false
    some_filled None is = absurd cc
    some_filled (Some x) is = refl

    none_filled : (o : Option ℕ) → is_some o ≡ false → is_none o ≡ true
    none_filled None is = refl
    none_filled (Some x) is = absurd cc

pub returns-then-is_some : goal.returns-then-is_some
returns-then-is_some c =
    let t = c.args.table.now in
    let below : c.loop-number.number < frame_of t / c.args.period = subst (λ (f : ℕ). c.loop-number.number < f / c.args.period) c.frame.ensures.value c.loop-number-test.true in
    sym (range_not_all (λ n. is_none (cell_at t c.args.bus (c.args.offset + n * c.args.period))) (frame_of t / c.args.period) c.loop-number.number below
    ((empty_is t c.args.bus c.args.offset c.args.period c.loop-number.number c.from.result c.from-in-loop-number.result c.from-in-loop-number-2.result c.at.result c.is_some.result
    c.from.ensures c.from-in-loop-number.ensures c.from-in-loop-number-2.ensures c.at.ensures.cell c.is_some.ensures).0 c.if-is_some.true))

pub loop-number-preserved : goal.loop-number-preserved
loop-number-preserved c =
    let t = c.args.table.now in
    range_all_more (λ n. is_none (cell_at t c.args.bus (c.args.offset + n * c.args.period))) c.loop-number.number c.loop-number.invariant
    ((empty_is t c.args.bus c.args.offset c.args.period c.loop-number.number c.from.result c.from-in-loop-number.result c.from-in-loop-number-2.result c.at.result c.is_some.result
    c.from.ensures c.from-in-loop-number.ensures c.from-in-loop-number-2.ensures c.at.ensures.cell c.is_some.ensures).1 c.if-is_some.false)
