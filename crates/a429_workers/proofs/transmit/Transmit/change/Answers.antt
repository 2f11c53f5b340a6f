use Rattle.std.proofs.Common.{◌≡◌, ◌∙◌, ◌∷◌, [], ◌++◌, ℕ, sym, ap, subst}
use Rattle.std.specs.Prelude.{Some, slice_get}
use Rattle.a429_word.proofs.Lists.{all_beginning}
use Rattle.a429_slots.specs.Tables.{PlanTable, groups_of}
use Rattle.a429_slots.specs.FrameStates.{FrameState}
use Rattle.a429_board.specs.Lists.{Watched}
use Rattle.a429_workers.specs.Calls.{Turns, StaysSpent, Takes, table_of}
use Rattle.a429_workers.specs.Transmitting.{Transmitting, Outset, HasMade, IsKnownPlan, StandsForCalls}
use Rattle.a429_workers.proofs.Changing.{IsOver, change_mid, change_spent, change_taken}
use Rattle.a429_workers.proofs.transmit.Transmit.change.Goals as goal

pub returns-then-is_mid_frame-clause-stands : goal.returns-then-is_mid_frame-clause-stands
returns-then-is_mid_frame-clause-stands c = λ b made S known.
    let inside = c.self.inside in
    let v : Transmitting = record { transmitter = inside.transmitter; watcher = inside.watcher; frame = inside.sender; number = inside.number; sends = inside.sends } in
    change_mid b made v (sym c.is_mid_frame.ensures ∙ c.if-is_mid_frame.true) (subst (StandsForCalls b made) (sym c.self.view_is) S known)

-- the group's opening table
opens : (b : Outset) (w : Watched) (g : ℕ) → g ≡ b.group → w.opened ≡ b.opened → slice_get (groups_of b.opened) b.group ≡ Some b.table → slice_get (groups_of w.opened) g ≡ Some b.table
opens b w g group opened is = ap (λ (q : PlanTable). slice_get (groups_of q) g) opened ∙ (ap (slice_get (groups_of b.opened)) group ∙ is)

pub returns-then-not-turn-clause-stands : goal.returns-then-not-turn-clause-stands
returns-then-not-turn-clause-stands c = λ b made S known.
    let inside = c.self.inside in
    let v : Transmitting = record { transmitter = inside.transmitter; watcher = inside.watcher; frame = inside.sender; number = inside.number; sends = inside.sends } in
    let w = c.look.new.self in
    let t = c.last_table.result.now in
    let M = subst (StandsForCalls b made) (sym c.self.view_is) S (all_beginning (IsKnownPlan v.transmitter.at.station) v.watcher.list w.list c.look.ensures.grows known) in
    let group : c.number.result ≡ b.group = c.number.ensures ∙ M.at.group in
    let O : IsOver b v w t = record {
      over = sym c.is_mid_frame.ensures ∙ c.if-is_mid_frame.false;
      grows = c.look.ensures.grows;
      book = c.look.ensures.book;
      opened = c.look.ensures.opened;
      table = c.last_table.ensures.table b.table (opens b w c.number.result group (c.look.ensures.opened ∙ M.at.opened) M.opens) ∙ ap (λ (g : ℕ). table_of g b.table w.list) group;
      known = c.last_table.ensures.known v.transmitter.at.station known;
    } in
    subst (λ (f : FrameState). HasMade b (made ++ Turns w.list StaysSpent ∷ []) (record v { watcher = w; frame = f })) (sym c.turn.ensures.after)
    (change_spent b made v w t O (sym c.turn.ensures.room ∙ c.if-not-turn.true) M)

pub returns-clause-stands : goal.returns-clause-stands
returns-clause-stands c = λ b made S known.
    let inside = c.self.inside in
    let v : Transmitting = record { transmitter = inside.transmitter; watcher = inside.watcher; frame = inside.sender; number = inside.number; sends = inside.sends } in
    let w = c.look.new.self in
    let t = c.last_table.result.now in
    let n = c.last_number-newest.result in
    let M = subst (StandsForCalls b made) (sym c.self.view_is) S (all_beginning (IsKnownPlan v.transmitter.at.station) v.watcher.list w.list c.look.ensures.grows known) in
    let group : c.number.result ≡ b.group = c.number.ensures ∙ M.at.group in
    let O : IsOver b v w t = record {
      over = sym c.is_mid_frame.ensures ∙ c.if-is_mid_frame.false;
      grows = c.look.ensures.grows;
      book = c.look.ensures.book;
      opened = c.look.ensures.opened;
      table = c.last_table.ensures.table b.table (opens b w c.number.result group (c.look.ensures.opened ∙ M.at.opened) M.opens) ∙ ap (λ (g : ℕ). table_of g b.table w.list) group;
      known = c.last_table.ensures.known v.transmitter.at.station known;
    } in
    subst (λ (f : FrameState). HasMade b (made ++ Turns w.list (Takes n) ∷ []) (record v { watcher = w; frame = f; number = n })) (sym c.turn.ensures.after)
    (change_taken b made v w t n O c.last_number-newest.ensures (sym c.turn.ensures.room ∙ c.if-not-turn.false) M)
