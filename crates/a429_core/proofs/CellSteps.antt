-- One step of what is kept, by a Cell, over every history that it stands for.
use Rattle.std.proofs.Common.{◌≡◌, ℕ, ◌<◌, ◌≤◌, ◌+◌, ◌/◌, ◌%◌, Bool, false, List, [], ◌∷◌, ◌++◌, length, ◌∙◌, sym, ap, subst, refl, inl, inr, arith}
use Rattle.std.specs.Prelude.{Option, Some, None, ◌==◌, ◌||◌, is_some, slice_get, slice_set, option_map, option_and_then, min, if◌then◌else◌}
use Rattle.std.specs.Option.{option_map_or}
use Rattle.std.proofs.lemmas.Option.{none-some, same_Some, slice_get_within}
use Rattle.std.proofs.lemmas.List.{length-set}
use Rattle.std.proofs.lemmas.Bool.{cases_eq, cases_lt, cases_Bool, lt-ltb, le-ltb, eq-eqb, ne_eqb}
use Rattle.a429_word.proofs.Lists.{and_false, either_none, get_set_other, get_set_same, in_frame}
use Rattle.a429_equipment.specs.declared.rows.SourceRow.{SourceRow}
use Rattle.a429_slots.specs.Tables.{Placed, SlotTable, groups_of, cells_of, frame_of, buses_of, output_in}
use Rattle.a429_slots.specs.Events.{Event, Cell}
use Rattle.a429_slots.specs.History.{Opening, AnsweredCell, current, cells_since, accepted_in, accepted_by, last_of, proposal_for, numbers_left, newest_table, newest_number, answered_cells, answered_cell, has_sent, is_held, is_too_close}
use Rattle.a429_slots.specs.Recalling.{Recent, may_send, sent_again, recent_after}
use Rattle.a429_core.specs.declared.sources.Kept.{Kept}
use Rattle.a429_slots.specs.declared.senders.Due.{Due}
use Rattle.a429_slots.specs.declared.answers.Answer.{Answer}
use Rattle.a429_slots.specs.declared.answers.Answer.TheVariants.{Sent, Refused}
use Rattle.a429_slots.specs.declared.answers.Refusal.TheVariants.{NoSuch}
use Rattle.a429_slots.specs.Answers.{cell_answer}
use Rattle.a429_slots.specs.FrameStates.{due_of, FrameState, frame_state_of, next_cell, after_cell}
use Rattle.a429_core.specs.MachineStates.{MachineState, StandsForHistory, Remembers, recent_at, kept_of}
use Rattle.a429_core.specs.MachineSteps.{placed_cell, asked_cell, after_asked, group_sends, group_after, send_last, send_kept, word_at, sent_due, sent_in, cell_asked}
use Rattle.a429_core.proofs.Places.{inside, outside}
use Rattle.a429_core.proofs.Words.{accepted_none, kept_none}
use Rattle.a429_core.proofs.Frames.{cell_push}
use Rattle.a429_core.proofs.Answering.{AllRemember, IsReached, reached_by, remembers_unsent, remembers_sent, all_from_own}
use Rattle.a429_core.proofs.Leaving.{IsGroup, NoneCame, group_stays, with_groups, with_cell, Stepped, step_from}
use Rattle.a429_slots.proofs.Histories.{current_next}
use Rattle.a429_slots.proofs.Remembering.{AreRecalled}
use Rattle.a429_slots.proofs.Answered.{next_of}

-- what a group does in a cell, if v already counts the cell as asked for
pub record CellDone (C : ℕ) (o : Opening) (E : List Event) (k : ℕ) (p : SlotTable) (v : MachineState) (x : Answer × MachineState) : Type 0 where
  pub sends : List (List Recent)
  pub answer : x.0 ≡ cell_answer C o E k (answered_cells C o k p E) (current o k p E)
  pub after : x.1 ≡ record v { sends = sends }
  pub kept : AllRemember C o (E ++ Cell k ∷ []) sends

-- ---- no word is sent

unsent_by : (i : ℕ) (c : AnsweredCell) → c.word ≡ None → has_sent i c ≡ false
unsent_by i c none = rw none refl

-- the next cell has no word
abbrev IsUnsent : ℕ → Opening → List Event → ℕ → SlotTable → Type 0
IsUnsent C o E k p = (c : AnsweredCell) → next_of C o k p E ≡ Some c → c.word ≡ None

quiet : (C : ℕ) (o : Opening) (E : List Event) (k : ℕ) (p : SlotTable) (ss : List (List Recent)) → AreRecalled → slice_get (groups_of o.proposal.plan) k ≡ Some p → AllRemember C o E ss → IsUnsent C o E k p
    → AllRemember C o (E ++ Cell k ∷ []) ss
quiet C o E k p ss law here all unsent =
    all_from_own C o E k p ss ss here all (λ g i other. refl) (λ i s known.
    remembers_unsent C o E k p i (recent_at ss k i) law (all k p here i s known) (λ c is. unsent_by i c (unsent c is)))

-- ---- what is kept of a source changes

record InGroup (ss : List (List Recent)) (g i : ℕ) (r : Recent) : Type 0 where
  pub group : List Recent
  pub there : slice_get ss g ≡ Some group
  pub at : slice_get group i ≡ Some r

in_group : (ss : List (List Recent)) (g i : ℕ) (r : Recent) → recent_at ss g i ≡ Some r → InGroup ss g i r
in_group ss g i r h = go (slice_get ss g) refl h
  where
    go : (x : Option (List Recent)) → slice_get ss g ≡ x → option_and_then (λ rs. slice_get rs i) x ≡ Some r → InGroup ss g i r
    go None is h = absurd (none-some r h)
    go (Some rs) is h = record { group = rs; there = is; at = h }

record IsPut (ss ts : List (List Recent)) (g i : ℕ) (r : Recent) : Type 0 where
  pub own : recent_at ts g i ≡ Some r
  pub beside : (j : ℕ) → (i ≡ j → ⊥) → recent_at ts g j ≡ recent_at ss g j
  pub others : (h j : ℕ) → (g ≡ h → ⊥) → recent_at ts h j ≡ recent_at ss h j

put : (ss : List (List Recent)) (g i : ℕ) (r new : Recent) (G : InGroup ss g i r) → IsPut ss (slice_set ss g (slice_set G.group i new)) g i new
put ss g i r new G =
    let rs = slice_set G.group i new in
    let group : slice_get (slice_set ss g rs) g ≡ Some rs = get_set_same ss g rs (slice_get_within ss g G.group G.there) in
    record {
      own = rw group (get_set_same G.group i new (slice_get_within G.group i r G.at));
      beside = λ j other. rw (group, G.there) (get_set_other G.group i j new (λ q. other (sym q)));
      others = λ h j other. ap (λ (x : Option (List Recent)). option_and_then (λ zs. slice_get zs j) x) (get_set_other ss g h rs (λ q. other (sym q)));
    }

-- ---- the cell has an output

-- the answered cell of the output
abbrev cell_of : ℕ → Opening → List Event → ℕ → SlotTable → ℕ → Placed → AnsweredCell
cell_of C o E k p slot out = answered_cell C o E (answered_cells C o k p E) slot out

record IsWord (C : ℕ) (o : Opening) (E : List Event) (k : ℕ) (p : SlotTable) (v : MachineState) (slot : ℕ) (out : Placed) (x : Option ℕ × MachineState) : Type 0 where
  pub sends : List (List Recent)
  pub word : x.0 ≡ (cell_of C o E k p slot out).word
  pub after : x.1 ≡ record v { sends = sends }
  pub kept : AllRemember C o (E ++ Cell k ∷ []) sends

-- the last word of a source that accepted some, for which r is kept
word_sends : (C : ℕ) (o : Opening) (E : List Event) (k : ℕ) (p : SlotTable) (v : MachineState) (slot w : ℕ) (out : Placed) (s : SourceRow) → AreRecalled → slice_get (groups_of o.proposal.plan) k ≡ Some p
    → slice_get o.proposal.station.sources out.source ≡ Some s → AllRemember C o E v.sends → IsReached k (current o k p E) slot
    → ((r : Recent) → IsReached k (current o k p E) r.slot → r.slot ≤ slot)
    → next_of C o k p E ≡ Some (cell_of C o E k p slot out) → last_of (accepted_by C o out.source E) ≡ Some w
    → IsWord C o E k p v slot out (send_last v k slot (due_of out) (length (accepted_by C o out.source E)) (Some w))
word_sends C o E k p v slot w out s law here known all reached after next last =
    let i = out.source in
    let count = length (accepted_by C o i E) in
    let hold = out.limits.hold in
    let q = out.limits.spacing in
    let earlier = answered_cells C o k p E in
    let R = all k p here i s known in
    let r = R.recent in
    let G = in_group v.sends k i r R.there in
    let new = recent_after r slot count hold q in
    let ts = slice_set v.sends k (slice_set G.group i new) in
    let P : IsPut v.sends ts k i new = put v.sends k i r new G in
    let may = may_send r slot count hold q in
    let sends : group_sends v.sends k slot count (due_of out) ≡ may = rw (G.there, G.at) refl in
    let set : group_after v.sends k slot count (due_of out) ≡ ts = rw (G.there, G.at) refl in
    let told : (cell_of C o E k p slot out).word ≡ (if may then Some w else None) =
    law.decides earlier i r slot count hold q (last_of (accepted_by C o i E)) R.recalls R.counted ∙ ap (λ (x : Option ℕ). if may then x else None) last in
    record {
      sends = ts;
      word = ap (λ (b : Bool). if b then Some w else None) sends ∙ sym told;
      after = ap (λ (zs : List (List Recent)). record v { sends = zs }) set;
      kept = all_from_own C o E k p v.sends ts here all (λ g j other. P.others g j other) (λ j t heard. elim (cases_eq i j) [
        | inl same ↦
            subst (λ (n : ℕ). Remembers C o (E ++ Cell k ∷ []) k p n (recent_at ts k n)) same (elim (cases_Bool may) [
              | inl yes' ↦
                  let carries : (cell_of C o E k p slot out).word ≡ Some w = told ∙ rw yes' refl in
                  let is : next_of C o k p E ≡ Some (record { slot = slot; source = i; count = count; word = Some w }) =
                  next ∙ ap (λ (x : Option ℕ). Some (record { slot = slot; source = i; count = count; word = x })) carries in
                  let made : new ≡ sent_again r slot count = rw yes' refl in
                  remembers_sent C o E k p i slot w (recent_at v.sends k i) (recent_at ts k i) law R reached (after r (reached_by C o E k p i (recent_at v.sends k i) R)) is
                  (P.own ∙ ap (λ (x : Recent). Some x) made)
              | inr no' ↦
                  let empty : (cell_of C o E k p slot out).word ≡ None = told ∙ rw no' refl in
                  let made : new ≡ r = rw no' refl in
                  let back : recent_at ts k i ≡ recent_at v.sends k i = P.own ∙ (ap (λ (x : Recent). Some x) made ∙ sym R.there) in
                  subst (λ (x : Option Recent). Remembers C o (E ++ Cell k ∷ []) k p i x) (sym back)
                  (remembers_unsent C o E k p i (recent_at v.sends k i) law R (λ c is.
                  subst (λ (d : AnsweredCell). has_sent i d ≡ false) (same_Some (cell_of C o E k p slot out) c (sym next ∙ is)) (unsent_by i (cell_of C o E k p slot out) empty)))
            ])
        | inr other ↦
            subst (λ (x : Option Recent). Remembers C o (E ++ Cell k ∷ []) k p j x) (sym (P.beside j other))
            (remembers_unsent C o E k p j (recent_at v.sends k j) law (all k p here j t heard) (λ c is.
            subst (λ (d : AnsweredCell). has_sent j d ≡ false) (same_Some (cell_of C o E k p slot out) c (sym next ∙ is))
            (and_false (is_some (cell_of C o E k p slot out).word) (i == j) (ne_eqb i j other))))
      ]);
    }

last_none : (C : ℕ) (o : Opening) (E : List Event) (k : ℕ) (p : SlotTable) (slot : ℕ) (out : Placed) → last_of (accepted_by C o out.source E) ≡ None → (cell_of C o E k p slot out).word ≡ None
last_none C o E k p slot out none =
    let earlier = answered_cells C o k p E in
    let b = is_held earlier out.source out.limits.hold (length (accepted_by C o out.source E)) || is_too_close earlier slot out.source out.limits.spacing in
    ap (λ (x : Option ℕ). if b then None else x) none ∙ either_none b

-- no word was accepted
no_word : (C : ℕ) (o : Opening) (E : List Event) (k : ℕ) (p : SlotTable) (v : MachineState) (slot : ℕ) (out : Placed) → AreRecalled → slice_get (groups_of o.proposal.plan) k ≡ Some p → AllRemember C o E v.sends
    → next_of C o k p E ≡ Some (cell_of C o E k p slot out) → last_of (accepted_by C o out.source E) ≡ None → IsWord C o E k p v slot out (None, v)
no_word C o E k p v slot out law here all next none =
    let empty = last_none C o E k p slot out none in
    record {
      sends = v.sends;
      word = sym empty;
      after = refl;
      kept = quiet C o E k p v.sends law here all (λ c is. subst (λ (d : AnsweredCell). d.word ≡ None) (same_Some (cell_of C o E k p slot out) c (sym next ∙ is)) empty);
    }

-- what the sources keep
abbrev AreHeard : ℕ → Opening → List Event → List Kept → Type 0
AreHeard C o E sources = (i : ℕ) → slice_get sources i ≡ option_map (λ s. kept_of (accepted_in C o s E)) (slice_get o.proposal.station.sources i)

output_word : (C : ℕ) (o : Opening) (E : List Event) (k : ℕ) (p : SlotTable) (v : MachineState) (slot : ℕ) (out : Placed) → AreRecalled → slice_get (groups_of o.proposal.plan) k ≡ Some p → AreHeard C o E v.sources
    → AllRemember C o E v.sends → IsReached k (current o k p E) slot → ((r : Recent) → IsReached k (current o k p E) r.slot → r.slot ≤ slot) → next_of C o k p E ≡ Some (cell_of C o E k p slot out)
    → IsWord C o E k p v slot out (word_at v k slot (due_of out))
output_word C o E k p v slot out law here heard all reached after next = by_row (slice_get o.proposal.station.sources out.source) refl
  where
    by_last : (s : SourceRow) → slice_get o.proposal.station.sources out.source ≡ Some s → (y : Option ℕ) → last_of (accepted_by C o out.source E) ≡ y
        → IsWord C o E k p v slot out (send_last v k slot (due_of out) (length (accepted_by C o out.source E)) y)
    by_last s known None last = no_word C o E k p v slot out law here all next last
    by_last s known (Some w) last = word_sends C o E k p v slot w out s law here known all reached after next last

    by_row : (x : Option SourceRow) → slice_get o.proposal.station.sources out.source ≡ x → IsWord C o E k p v slot out (word_at v k slot (due_of out))
    by_row None is =
        let lookup : slice_get v.sources out.source ≡ None = heard out.source ∙ rw is refl in
        let none : accepted_by C o out.source E ≡ [] = ap (λ (x : Option SourceRow). option_map_or (λ s. accepted_in C o s E) x []) is in
        subst (λ (y : Option Kept). IsWord C o E k p v slot out (send_kept v k slot (due_of out) y)) (sym lookup)
        (no_word C o E k p v slot out law here all next (ap (λ (ws : List ℕ). last_of ws) none))
    by_row (Some s) is =
        let lookup : slice_get v.sources out.source ≡ Some (kept_of (accepted_in C o s E)) = heard out.source ∙ rw is refl in
        let words : accepted_by C o out.source E ≡ accepted_in C o s E = ap (λ (x : Option SourceRow). option_map_or (λ t. accepted_in C o t E) x []) is in
        subst (λ (y : Option Kept). IsWord C o E k p v slot out (send_kept v k slot (due_of out) y)) (sym lookup)
        (subst (λ (ws : List ℕ). IsWord C o E k p v slot out (send_last v k slot (due_of out) (length ws) (last_of ws))) words
        (by_last s is (last_of (accepted_by C o out.source E)) refl))

-- ---- the cell

cell_done : (C : ℕ) (o : Opening) (E : List Event) (k : ℕ) (p : SlotTable) (v : MachineState) → AreRecalled → slice_get (groups_of o.proposal.plan) k ≡ Some p → AreHeard C o E v.sources → AllRemember C o E v.sends
    → CellDone C o E k p v (sent_in v k (placed_cell (frame_state_of k (current o k p E)) (next_cell (frame_state_of k (current o k p E)))))
cell_done C o E k p v law here heard all = elim (cases_lt (cells_since k (current o k p E)) (cells_of (current o k p E).table)) [
  | inl lt ↦
      let f = current o k p E in
      let c = cells_since k f in
      let n = cells_of f.table in
      let m = buses_of f.table in
      let whole : min c n ≡ c = omega arith in
      let placed : placed_cell (frame_state_of k f) (next_cell (frame_state_of k f)) ≡ Some (c % m, f.first + c / m, option_map due_of (output_in f.table (c % m) (c / m))) = rw (whole, lt-ltb c n lt) refl in
      subst (λ (y : Option (ℕ × ℕ × Option Due)). CellDone C o E k p v (sent_in v k y)) (sym placed) (due lt (output_in f.table (c % m) (c / m)) refl)
  | inr ge ↦
      let f = current o k p E in
      let c = cells_since k f in
      let n = cells_of f.table in
      let spent : min c n ≡ n = omega arith in
      let none : placed_cell (frame_state_of k f) (next_cell (frame_state_of k f)) ≡ None = rw (spent, le-ltb n n (omega arith)) refl in
      let nothing : next_of C o k p E ≡ None = rw (le-ltb c n ge) refl in
      subst (λ (y : Option (ℕ × ℕ × Option Due)). CellDone C o E k p v (sent_in v k y)) (sym none) (record {
        sends = v.sends;
        answer = rw (le-ltb c n ge) refl;
        after = refl;
        kept = quiet C o E k p v.sends law here all (λ d is. absurd (none-some d (sym nothing ∙ is)));
      })
]
  where
    due : cells_since k (current o k p E) < cells_of (current o k p E).table → (y : Option Placed)
        → output_in (current o k p E).table (cells_since k (current o k p E) % buses_of (current o k p E).table) (cells_since k (current o k p E) / buses_of (current o k p E).table) ≡ y
        → CellDone C o E k p v (sent_due v k (cells_since k (current o k p E) % buses_of (current o k p E).table) ((current o k p E).first + cells_since k (current o k p E) / buses_of (current o k p E).table) (option_map due_of y))
    due lt None is =
        let f = current o k p E in
        let c = cells_since k f in
        let nothing : next_of C o k p E ≡ None = rw (lt-ltb c (cells_of f.table) lt, is) refl in
        record {
          sends = v.sends;
          answer = rw (lt-ltb c (cells_of f.table) lt, is) refl;
          after = refl;
          kept = quiet C o E k p v.sends law here all (λ d at. absurd (none-some d (sym nothing ∙ at)));
        }
    due lt (Some out) is =
        let f = current o k p E in
        let c = cells_since k f in
        let m = buses_of f.table in
        let slot = f.first + c / m in
        let low = in_frame c m (frame_of f.table) lt in
        let next : next_of C o k p E ≡ Some (cell_of C o E k p slot out) = rw (lt-ltb c (cells_of f.table) lt, is) refl in
        let W = output_word C o E k p v slot out law here heard all (record { passed = omega arith; in_frame = omega (arith, low) }) (λ r R. R.passed) next in
        record {
          sends = W.sends;
          answer = rw (lt-ltb c (cells_of f.table) lt, is) (ap (λ (x : Option ℕ). Sent (c % m) slot x) W.word);
          after = W.after;
          kept = W.kept;
        }

pub cell_step : AreRecalled → (C : ℕ) (o : Opening) (E : List Event) (k : ℕ) (v : MachineState) → StandsForHistory C o E v → (x : Option SlotTable) → slice_get (groups_of o.proposal.plan) k ≡ x → Stepped C o E (Cell k) v
cell_step law C o E k v S None h =
    let got : slice_get v.groups k ≡ None = S.groups k ∙ rw h refl in
    let none : NoneCame C o E (Cell k) = record { same = λ i s q. accepted_none C o s E (Cell k) refl } in
    let here : IsGroup o (E ++ Cell k ∷ []) v.groups k = got ∙ rw h refl in
    let others : (g : ℕ) (p : SlotTable) → slice_get (groups_of o.proposal.plan) g ≡ Some p → (k == g) ≡ false =
    λ g p there. ne_eqb k g (λ same. none-some p (sym h ∙ (ap (slice_get (groups_of o.proposal.plan)) same ∙ there))) in
    step_from C o E (Cell k) v (Refused NoSuch, v) (rw (outside v.groups k got) refl) (rw h refl)
    (with_groups C o E (Cell k) v v.groups S none (kept_none (proposal_for o) (numbers_left o) E (Cell k) refl) refl (λ g. elim (cases_eq k g) [
      | inl e ↦ subst (IsGroup o (E ++ Cell k ∷ []) v.groups) e here
      | inr n ↦ group_stays C o E (Cell k) v S g refl (ne_eqb k g n)
    ]) others)
cell_step law C o E k v S (Some p) h =
    let f = current o k p E in
    let got : slice_get v.groups k ≡ Some (frame_state_of k f) = S.groups k ∙ rw h refl in
    let next : frame_state_of k (current o k p (E ++ Cell k ∷ [])) ≡ after_cell (frame_state_of k f) =
    ap (frame_state_of k) (current_next o k p E (Cell k)) ∙ cell_push k (newest_number o E) (newest_table o k p E) f (Cell k) refl (eq-eqb k k refl) in
    let groups = slice_set v.groups k (after_cell (frame_state_of k f)) in
    let here : IsGroup o (E ++ Cell k ∷ []) groups k =
    get_set_same v.groups k (after_cell (frame_state_of k f)) (slice_get_within v.groups k (frame_state_of k f) got) ∙ rw h (ap (λ (s : FrameState). Some s) (sym next)) in
    let on : MachineState = record v { groups = groups } in
    let due = placed_cell (frame_state_of k f) (next_cell (frame_state_of k f)) in
    let asked : asked_cell v.groups k ≡ due = rw got refl in
    let later : after_asked v.groups k ≡ groups = rw got refl in
    let made : cell_asked v k ≡ sent_in on k due =
    rw (inside v.groups k (frame_state_of k f) got) refl
    ∙ (ap (λ (c : Option (ℕ × ℕ × Option Due)). sent_in (record v { groups = after_asked v.groups k }) k c) asked ∙ ap (λ (gs : List FrameState). sent_in (record v { groups = gs }) k due) later) in
    let D = cell_done C o E k p on law h S.sources S.sends in
    let stands : StandsForHistory C o (E ++ Cell k ∷ []) (record v { groups = groups; sends = D.sends }) =
    with_cell C o E k v groups D.sends S (length-set v.groups k (after_cell (frame_state_of k f))) (λ g. elim (cases_eq k g) [
      | inl e ↦ subst (IsGroup o (E ++ Cell k ∷ []) groups) e here
      | inr n ↦ get_set_other v.groups k g (after_cell (frame_state_of k f)) (λ q. n (sym q)) ∙ group_stays C o E (Cell k) v S g refl (ne_eqb k g n)
    ]) D.kept in
    step_from C o E (Cell k) v (sent_in on k due) made (rw h D.answer) (subst (StandsForHistory C o (E ++ Cell k ∷ [])) (sym D.after) stands)
