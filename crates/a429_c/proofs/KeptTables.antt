-- What a step of the machine does to the slot tables.
use Rattle.std.proofs.Common.{◌≡◌, ◌∙◌, ◌+◌, ◌-◌, ◌^◌, ℕ, zero, suc, List, [], ◌∷◌, refl, sym, ap, arith}
use Rattle.std.specs.Prelude.{Bool, true, false, Option, Some, None, Result, Ok, Err, if◌then◌else◌, nat_lt, nat_le, length, map, get_or, slice_get, slice_set, option_map}
use Rattle.std.specs.Option.{option_map_or}
use Rattle.std.proofs.lemmas.List.{length-map}
use Rattle.std.proofs.lemmas.Option.{same_Some, none-some, slice_get_within}
use Rattle.std.proofs.lemmas.Bool.{lt-ltb}
use Rattle.a429_equipment.specs.Limits.{count_bits}
use Rattle.a429_equipment.specs.declared.arrivals.ArrivalRefusal.{ArrivalRefusal}
use Rattle.a429_equipment.specs.Arrivals.{sorted}
use Rattle.a429_equipment.specs.SameStation.{same_station}
use Rattle.a429_slots.specs.Tables.{SlotTable, groups_of, cells_of, frame_of, no_table}
use Rattle.a429_slots.specs.Proposed.{Proposed}
use Rattle.a429_slots.specs.declared.senders.Due.{Due}
use Rattle.a429_slots.specs.declared.answers.Answer.{Answer}
use Rattle.a429_slots.specs.declared.answers.Answer.TheVariants.{Accepted, Sent, Changed, Published, Refused}
use Rattle.a429_slots.specs.declared.answers.Refusal.TheVariants.{NoSuch, CountSpent, MidFrame, SlotsSpent, StationDiffers}
use Rattle.a429_word.proofs.Lists.{none_cut}
use Rattle.a429_slots.specs.History.{Opening, current, last_of, numbers_left}
use Rattle.a429_slots.specs.FrameStates.{frame_state_of, FrameState, after_cell, fits_next, turned}
use Rattle.a429_core.specs.declared.sources.Kept.{Kept}
use Rattle.a429_core.specs.MachineStates.{MachineState, StandsForHistory}
use Rattle.a429_core.specs.MachineSteps.{kept_at, count_at, put_word, send_last, send_kept, sent_due, sent_in, asked_cell, after_asked, frame_of_both, frame_at, arrived, cell_asked, frame_asked, publish_asked}
use Rattle.a429_c.specs.SlotTables.{tables_in_force, newest_tables, followed}

-- the tables in force and the newest plan are as they were
pub record Same (v w : MachineState) : Type 0 where
  pub groups : tables_in_force w ≡ tables_in_force v
  pub newest : w.newest ≡ v.newest

abbrev f : FrameState → SlotTable
f s = s.table

same : (v : MachineState) → Same v v
same v = record { groups = refl; newest = refl }

either : {X : Type 0} (P : X → Type 0) (b : Bool) (x y : X) → P x → P y → P (if b then x else y)
either P true x y p q = p
either P false x y p q = q

put_same : (C : ℕ) (v : MachineState) (raw : ℕ) (s : Result ℕ ArrivalRefusal) → Same v (put_word C v raw s).1
put_same C v raw (Err why) = same v
put_same C v raw (Ok i) =
    either (λ (x : Answer × MachineState). Same v x.1) (nat_lt (count_at v.sources i) (2 ^ C - 1)) (Accepted i, record v { sources = kept_at v.sources i raw }) (Refused CountSpent, v)
    (record { groups = refl; newest = refl }) (same v)

pub arrive_same : (C : ℕ) (v : MachineState) (r raw : ℕ) → Same v (arrived C v r raw).1
arrive_same C v r raw = either (λ (x : Answer × MachineState). Same v x.1) (nat_le (length v.station.receivers) r) (Refused NoSuch, v) (put_word C v raw (sorted v.station r raw)) (same v) (put_same C v raw (sorted v.station r raw))

-- the tables stay if one is set to itself
set_same : (ss : List FrameState) (g : ℕ) (s t : FrameState) → slice_get ss g ≡ Some s → f t ≡ f s → map f (slice_set ss g t) ≡ map f ss
set_same [] g s t h e = absurd (none-some s h)
set_same (x ∷ ss) zero s t h e = ap (λ (y : SlotTable). y ∷ map f ss) (e ∙ ap f (sym (same_Some x s h)))
set_same (x ∷ ss) (suc g) s t h e = ap (λ (ys : List SlotTable). f x ∷ ys) (set_same ss g s t h e)

after_same : (ss : List FrameState) (g : ℕ) (x : Option FrameState) → slice_get ss g ≡ x → map f (option_map_or (λ s. slice_set ss g (after_cell s)) x ss) ≡ map f ss
after_same ss g None h = refl
after_same ss g (Some s) h = set_same ss g s (after_cell s) h (either (λ (t : FrameState). f t ≡ f s) (nat_lt s.sent (cells_of s.table)) (record s { sent = s.sent + 1 }) s refl refl)

word_same : (v : MachineState) (g slot count : ℕ) (due : Due) (x : Option ℕ) → Same v (send_last v g slot due count x).1
word_same v g slot count due None = same v
word_same v g slot count due (Some word) = record { groups = refl; newest = refl }

kept_same : (v : MachineState) (g slot : ℕ) (due : Due) (x : Option Kept) → Same v (send_kept v g slot due x).1
kept_same v g slot due None = same v
kept_same v g slot due (Some kept) = word_same v g slot kept.count due kept.last

due_same : (v : MachineState) (g bus slot : ℕ) (x : Option Due) → Same v (sent_due v g bus slot x).1
due_same v g bus slot None = same v
due_same v g bus slot (Some due) = kept_same v g slot due (slice_get v.sources due.source)

sent_same : (v : MachineState) (g : ℕ) (x : Option (ℕ × ℕ × Option Due)) → Same v (sent_in v g x).1
sent_same v g None = same v
sent_same v g (Some c) = due_same v g c.0 c.1 c.2

pub cell_same : (v : MachineState) (g : ℕ) → Same v (cell_asked v g).1
cell_same v g =
    let w : MachineState = record v { groups = after_asked v.groups g } in let S : Same w (sent_in w g (asked_cell v.groups g)).1 = sent_same w g (asked_cell v.groups g) in
    either (λ (x : Answer × MachineState). Same v x.1) (nat_lt g (length v.groups)) (sent_in w g (asked_cell v.groups g)) (Refused NoSuch, v)
    (record { groups = S.groups ∙ after_same v.groups g (slice_get v.groups g) refl; newest = S.newest }) (same v)

-- the tables in force after an answer to a frame
abbrev pub tables_by : Answer → List SlotTable → List SlotTable → ℕ → List SlotTable
tables_by (Changed n) tables newest g = followed tables newest g
tables_by _ tables newest g = tables

get_table : (ts : List SlotTable) (g : ℕ) (p : SlotTable) → slice_get ts g ≡ Some p → get_or ts g no_table ≡ p
get_table [] g p h = absurd (none-some p h)
get_table (t ∷ ts) zero p h = same_Some t p h
get_table (t ∷ ts) (suc g) p h = get_table ts g p h

set_map : (ss : List FrameState) (g : ℕ) (t : FrameState) (z : SlotTable) → z ≡ f t → slice_set (map f ss) g z ≡ map f (slice_set ss g t)
set_map [] g t z e = refl
set_map (x ∷ ss) zero t z e = ap (λ (y : SlotTable). y ∷ map f ss) e
set_map (x ∷ ss) (suc g) t z e = ap (λ (ys : List SlotTable). f x ∷ ys) (set_map ss g t z e)

inside : {X Y : Type 0} (k : X → Y) (xs : List X) (g : ℕ) (x : X) → slice_get xs g ≡ Some x → nat_lt g (length (map k xs)) ≡ true
inside k xs g x h = lt-ltb g (length (map k xs)) (omega (arith, slice_get_within xs g x h, length-map xs k))

followed_is : (ss : List FrameState) (ts : List SlotTable) (g : ℕ) (s t : FrameState) (p : SlotTable) → slice_get ss g ≡ Some s → slice_get ts g ≡ Some p → p ≡ f t
    → followed (map f ss) ts g ≡ map f (slice_set ss g t)
followed_is ss ts g s t p h there e = rw (inside f ss g s h, lt-ltb g (length ts) (slice_get_within ts g p there)) (set_map ss g t (get_or ts g no_table) (get_table ts g p there ∙ e))

turned_is : (ss : List FrameState) (ts : List SlotTable) (number g : ℕ) (s t : FrameState) (p : SlotTable) (b : Bool) → slice_get ss g ≡ Some s → slice_get ts g ≡ Some p → p ≡ f t
    → tables_by (if b then Changed number else Refused SlotsSpent) (map f ss) ts g ≡ map f (slice_set ss g (if b then t else s))
turned_is ss ts number g s t p true h there e = followed_is ss ts g s t p h there e
turned_is ss ts number g s t p false h there e = sym (set_same ss g s s h refl)

framed_is : (ss : List FrameState) (ts : List SlotTable) (number g : ℕ) (x : Option FrameState) (y : Option SlotTable) → slice_get ss g ≡ x → slice_get ts g ≡ y
    → tables_by (frame_of_both ss number g x y).0 (map f ss) ts g ≡ map f (frame_of_both ss number g x y).1
framed_is ss ts number g None y h there = refl
framed_is ss ts number g (Some s) None h there = refl
framed_is ss ts number g (Some s) (Some p) h there =
    either (λ (x : Answer × FrameState). tables_by x.0 (map f ss) ts g ≡ map f (slice_set ss g x.1)) (nat_lt s.sent (cells_of s.table))
    (Refused MidFrame, s) ((if fits_next s p then Changed number else Refused SlotsSpent), turned s p)
    (sym (set_same ss g s s h refl)) (turned_is ss ts number g s (record { table = p; first = s.first + frame_of s.table; sent = 0 }) p (fits_next s p) h there refl)

frame_is : (v : MachineState) (g : ℕ) → tables_by (frame_asked v g).0 (tables_in_force v) (newest_tables v) g ≡ tables_in_force (frame_asked v g).1
frame_is v g =
    either (λ (x : Answer × MachineState). tables_by x.0 (tables_in_force v) (newest_tables v) g ≡ tables_in_force x.1) (nat_lt g (length v.groups))
    ((frame_at v.groups v.newest g).0, record v { groups = (frame_at v.groups v.newest g).1 }) (Refused NoSuch, v)
    (framed_is v.groups (groups_of v.newest) v.newest.number g (slice_get v.groups g) (slice_get (groups_of v.newest) g) refl refl) refl

pub frame_newest : (v : MachineState) (g : ℕ) → (frame_asked v g).1.newest ≡ v.newest
frame_newest v g =
    either (λ (x : Answer × MachineState). x.1.newest ≡ v.newest) (nat_lt g (length v.groups))
    ((frame_at v.groups v.newest g).0, record v { groups = (frame_at v.groups v.newest g).1 }) (Refused NoSuch, v) refl refl

pub frame_changed : (v : MachineState) (g n : ℕ) (a : Answer) → a ≡ Changed n → a ≡ (frame_asked v g).0 → followed (tables_in_force v) (newest_tables v) g ≡ tables_in_force (frame_asked v g).1
frame_changed v g n a changed is = ap (λ (b : Answer). tables_by b (tables_in_force v) (newest_tables v) g) (sym changed ∙ is) ∙ frame_is v g

unchanged : (a : Answer) (tables newest : List SlotTable) (g : ℕ) → ((n : ℕ) → a ≡ Changed n → ⊥) → tables ≡ tables_by a tables newest g
unchanged (Accepted source) tables newest g other = refl
unchanged (Sent bus slot word) tables newest g other = refl
unchanged (Changed n) tables newest g other = absurd (other n refl)
unchanged (Published n) tables newest g other = refl
unchanged (Refused why) tables newest g other = refl

pub frame_stays : (v : MachineState) (g : ℕ) (a : Answer) → ((n : ℕ) → a ≡ Changed n → ⊥) → a ≡ (frame_asked v g).0 → tables_in_force v ≡ tables_in_force (frame_asked v g).1
frame_stays v g a other is =
    unchanged a (tables_in_force v) (newest_tables v) g other ∙ (ap (λ (b : Answer). tables_by b (tables_in_force v) (newest_tables v) g) is ∙ frame_is v g)

-- the newest tables after an answer to a publication
abbrev newest_by : Answer → List SlotTable → List SlotTable → List SlotTable
newest_by (Published n) old new = new
newest_by _ old new = old

publish_is : (v : MachineState) (q : Proposed) → newest_by (publish_asked v q).0 (newest_tables v) (groups_of q.plan) ≡ newest_tables (publish_asked v q).1
publish_is v q =
    let P : Answer × MachineState → Type 0 = λ x. newest_by x.0 (newest_tables v) (groups_of q.plan) ≡ newest_tables x.1 in
    let done : Answer × MachineState = (Published (v.newest.number + 1), record v { newest = record q.plan { number = v.newest.number + 1 } }) in
    either P (same_station v.station q.station) (if nat_lt v.newest.number (2 ^ 64 - 1) then done else (Refused CountSpent, v)) (Refused StationDiffers, v)
    (either P (nat_lt v.newest.number (2 ^ 64 - 1)) done (Refused CountSpent, v) refl refl) refl

pub publish_groups : (v : MachineState) (q : Proposed) → tables_in_force (publish_asked v q).1 ≡ tables_in_force v
publish_groups v q =
    let P : Answer × MachineState → Type 0 = λ x. tables_in_force x.1 ≡ tables_in_force v in
    let done : Answer × MachineState = (Published (v.newest.number + 1), record v { newest = record q.plan { number = v.newest.number + 1 } }) in
    either P (same_station v.station q.station) (if nat_lt v.newest.number (2 ^ 64 - 1) then done else (Refused CountSpent, v)) (Refused StationDiffers, v)
    (either P (nat_lt v.newest.number (2 ^ 64 - 1)) done (Refused CountSpent, v) refl refl) refl

pub publish_taken : (v : MachineState) (q : Proposed) (n : ℕ) (a : Answer) → a ≡ Published n → a ≡ (publish_asked v q).0 → groups_of q.plan ≡ newest_tables (publish_asked v q).1
publish_taken v q n a taken is = ap (λ (b : Answer). newest_by b (newest_tables v) (groups_of q.plan)) (sym taken ∙ is) ∙ publish_is v q

untaken : (a : Answer) (old new : List SlotTable) → ((n : ℕ) → a ≡ Published n → ⊥) → old ≡ newest_by a old new
untaken (Accepted source) old new other = refl
untaken (Sent bus slot word) old new other = refl
untaken (Changed n) old new other = refl
untaken (Published n) old new other = absurd (other n refl)
untaken (Refused why) old new other = refl

pub publish_left : (v : MachineState) (q : Proposed) (a : Answer) → ((n : ℕ) → a ≡ Published n → ⊥) → a ≡ (publish_asked v q).0 → newest_tables v ≡ newest_tables (publish_asked v q).1
publish_left v q a other is =
    untaken a (newest_tables v) (groups_of q.plan) other ∙ (ap (λ (b : Answer). newest_by b (newest_tables v) (groups_of q.plan)) is ∙ publish_is v q)

-- if each frame begins by the table of its group, the tables in force are these
same_tables : (ss : List FrameState) (ts : List SlotTable) (k : ℕ → SlotTable → FrameState) → ((g : ℕ) (p : SlotTable) → (k g p).table ≡ p)
    → ((g : ℕ) → slice_get ss g ≡ option_map (k g) (slice_get ts g)) → map f ss ≡ ts
same_tables [] [] k e h = refl
same_tables [] (t ∷ ts) k e h = absurd (none-some (k 0 t) (h 0))
same_tables (s ∷ ss) [] k e h = absurd (none-some s (sym (h 0)))
same_tables (s ∷ ss) (t ∷ ts) k e h =
    ap (λ (z : SlotTable). z ∷ map f ss) (ap f (same_Some s (k 0 t) (h 0)) ∙ e 0 t)
    ∙ ap (λ (zs : List SlotTable). t ∷ zs) (same_tables ss ts (λ g. k (suc g)) (λ g. e (suc g)) (λ g. h (suc g)))

pub opened_tables : (o : Opening) (v : MachineState) → StandsForHistory count_bits o [] v → groups_of o.proposal.plan ≡ tables_in_force v
opened_tables o v S = sym (same_tables v.groups (groups_of o.proposal.plan) (λ g p. frame_state_of g (current o g p [])) (λ g p. refl) S.groups)

pub opened_newest : (o : Opening) (v : MachineState) → StandsForHistory count_bits o [] v → groups_of o.proposal.plan ≡ newest_tables v
opened_newest o v S =
    let none = sym (ap (λ (ps : List Proposed). groups_of (option_map_or (λ q. q.plan) (last_of ps) o.proposal.plan)) (none_cut (numbers_left o))) in
    none ∙ sym S.newest
