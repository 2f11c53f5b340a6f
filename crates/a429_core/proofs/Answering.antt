-- How the cells that a group has answered, and what is kept of them, go on by an event.
use Rattle.std.proofs.Common.{◌≡◌, ℕ, ◌+◌, ◌/◌, ◌≤◌, ◌-◌, ◌^◌, false, List, [], ◌∷◌, ◌++◌, length, ◌∙◌, sym, ap, subst, refl, inl, inr, arith, append-nil}
use Rattle.std.specs.Prelude.{Option, Some, None, slice_get}
use Rattle.std.specs.Option.{option_map_or}
use Rattle.std.proofs.lemmas.List.{length-take, length-append}
use Rattle.std.proofs.lemmas.Bool.{cases_Bool, cases_eq, eq-eqb, ne_eqb}
use Rattle.std.proofs.lemmas.Option.{same_Some}
use Rattle.a429_word.proofs.Lists.{div_more}
use Rattle.a429_equipment.specs.declared.rows.SourceRow.{SourceRow}
use Rattle.a429_slots.specs.Tables.{SlotTable, groups_of, frame_of, buses_of}
use Rattle.a429_slots.specs.Events.{Event, Cell}
use Rattle.a429_slots.specs.History.{Opening, Current, AnsweredCell, current, is_cell, is_taken, cells_since, accepted_in, accepted_by, newest_number, newest_table, answered_cells, has_sent}
use Rattle.a429_slots.specs.Recalling.{Recalls, Recent, sent_again}
use Rattle.a429_core.specs.MachineStates.{Remembers, recent_at}
use Rattle.a429_core.proofs.Words.{words_in, words_append}
use Rattle.a429_slots.proofs.Answered.{answered_push, more_cells, next_of}
use Rattle.a429_slots.proofs.Histories.{cells_next, current_next, gone_on, goes_on}
use Rattle.a429_slots.proofs.Remembering.{AreRecalled}

-- ---- the answered cells

pub answered_stay : (C : ℕ) (o : Opening) (g : ℕ) (p : SlotTable) (E : List Event) (e : Event) → is_cell g e ≡ false → answered_cells C o g p (E ++ e ∷ []) ≡ answered_cells C o g p E
answered_stay C o g p E e quiet = answered_push C o g p E e ∙ rw quiet refl

pub answered_next : (C : ℕ) (o : Opening) (g : ℕ) (p : SlotTable) (E : List Event) → answered_cells C o g p (E ++ Cell g ∷ []) ≡ more_cells (answered_cells C o g p E) (next_of C o g p E)
answered_next C o g p E = answered_push C o g p E (Cell g) ∙ rw (eq-eqb g g refl) refl

-- ---- words and slots go on

-- no accepted word is lost
pub counts_grow : (C : ℕ) (o : Opening) (i : ℕ) (E : List Event) (e : Event) → length (accepted_by C o i E) ≤ length (accepted_by C o i (E ++ e ∷ []))
counts_grow C o i E e = go (slice_get o.proposal.station.sources i)
  where
    go : (x : Option SourceRow) → length (option_map_or (λ s. accepted_in C o s E) x []) ≤ length (option_map_or (λ s. accepted_in C o s (E ++ e ∷ [])) x [])
    go None = omega arith
    go (Some s) =
        let more : length (words_in o s (E ++ e ∷ [])) ≡ length (words_in o s E) + length (words_in o s (e ∷ [])) =
        ap (λ (ws : List ℕ). length ws) (words_append o s E (e ∷ [])) ∙ length-append (words_in o s E) (words_in o s (e ∷ [])) in
        omega (arith, more, length-take (2 ^ C - 1) (words_in o s E), length-take (2 ^ C - 1) (words_in o s (E ++ e ∷ [])))

-- the slot is not past the group's next cell
pub record IsReached (g : ℕ) (f : Current) (slot : ℕ) : Type 0 where
  pub passed : slot ≤ f.first + cells_since g f / buses_of f.table
  pub in_frame : slot ≤ f.first + frame_of f.table

reached_on : (g : ℕ) (f : Current) (e : Event) (slot : ℕ) → IsReached g f slot → IsReached g (goes_on f e) slot
reached_on g f e slot R =
    let m = buses_of f.table in
    elim (cases_Bool (is_cell g e)) [
      | inl own ↦
          let more : cells_since g (goes_on f e) ≡ cells_since g f + 1 = cells_next g f e ∙ rw own (omega arith) in
          let further : cells_since g f / m ≤ cells_since g (goes_on f e) / m = subst (λ (n : ℕ). cells_since g f / m ≤ n / m) (sym more) (div_more (cells_since g f) m) in
          record { passed = omega (arith, R.passed, further); in_frame = R.in_frame }
      | inr other ↦
          let same : cells_since g (goes_on f e) ≡ cells_since g f = cells_next g f e ∙ rw other (omega arith) in
          record { passed = subst (λ (n : ℕ). slot ≤ f.first + n / m) (sym same) R.passed; in_frame = R.in_frame }
    ]

reached_next : (g n : ℕ) (now : SlotTable) (f : Current) (e : Event) (slot : ℕ) → IsReached g f slot → IsReached g (gone_on g n now f e) slot
reached_next g n now f e slot R = elim (cases_Bool (is_taken g now f e)) [
  | inl taken ↦
      let past : slot ≤ f.first + frame_of f.table = R.in_frame in
      rw taken (record { passed = omega (arith, past); in_frame = omega (arith, past) })
  | inr left ↦ rw left (reached_on g f e slot R)
]

pub reached_push : (o : Opening) (g : ℕ) (p : SlotTable) (E : List Event) (e : Event) (slot : ℕ) → IsReached g (current o g p E) slot → IsReached g (current o g p (E ++ e ∷ [])) slot
reached_push o g p E e slot R =
    subst (λ (f : Current). IsReached g f slot) (sym (current_next o g p E e)) (reached_next g (newest_number o E) (newest_table o g p E) (current o g p E) e slot R)

-- ---- what is kept

-- what is kept of a source by this number of words and this slot
remembers_by : (C : ℕ) (o : Opening) (E : List Event) (e : Event) (g : ℕ) (p : SlotTable) (i : ℕ) (x : Option Recent) (r : Recent) → x ≡ Some r → Recalls (answered_cells C o g p (E ++ e ∷ [])) i r
    → r.count ≤ length (accepted_by C o i E) → IsReached g (current o g p E) r.slot → Remembers C o (E ++ e ∷ []) g p i x
remembers_by C o E e g p i x r there recalls counted reached =
    let on = reached_push o g p E e r.slot reached in
    record { recent = r; there = there; recalls = recalls; counted = omega (arith, counted, counts_grow C o i E e); passed = on.passed; in_frame = on.in_frame }

pub reached_by : (C : ℕ) (o : Opening) (E : List Event) (g : ℕ) (p : SlotTable) (i : ℕ) (x : Option Recent) (R : Remembers C o E g p i x) → IsReached g (current o g p E) R.recent.slot
reached_by C o E g p i x R = record { passed = R.passed; in_frame = R.in_frame }

pub remembers_stay : (C : ℕ) (o : Opening) (E : List Event) (e : Event) (g : ℕ) (p : SlotTable) (i : ℕ) (x : Option Recent) → is_cell g e ≡ false → Remembers C o E g p i x → Remembers C o (E ++ e ∷ []) g p i x
remembers_stay C o E e g p i x quiet R =
    remembers_by C o E e g p i x R.recent R.there
    (subst (λ (cs : List AnsweredCell). Recalls cs i R.recent) (sym (answered_stay C o g p E e quiet)) R.recalls) R.counted (reached_by C o E g p i x R)

-- of every group and source
abbrev pub AllRemember : ℕ → Opening → List Event → List (List Recent) → Type 0
AllRemember C o E ss = (g : ℕ) (p : SlotTable) → slice_get (groups_of o.proposal.plan) g ≡ Some p → (i : ℕ) (s : SourceRow) → slice_get o.proposal.station.sources i ≡ Some s
    → Remembers C o E g p i (recent_at ss g i)

-- ---- a cell of the group itself

recalls_more : (earlier : List AnsweredCell) (i : ℕ) (r : Recent) (next : Option AnsweredCell) → AreRecalled → Recalls earlier i r → ((c : AnsweredCell) → next ≡ Some c → has_sent i c ≡ false) → Recalls (more_cells earlier next) i r
recalls_more earlier i r None law R unsent = subst (λ (cs : List AnsweredCell). Recalls cs i r) (sym (append-nil earlier)) R
recalls_more earlier i r (Some c) law R unsent = law.other earlier i r c R (unsent c refl)

-- the group's own next cell sends no word of the source
pub remembers_unsent : (C : ℕ) (o : Opening) (E : List Event) (k : ℕ) (p : SlotTable) (i : ℕ) (x : Option Recent) → AreRecalled → Remembers C o E k p i x
    → ((c : AnsweredCell) → next_of C o k p E ≡ Some c → has_sent i c ≡ false) → Remembers C o (E ++ Cell k ∷ []) k p i x
remembers_unsent C o E k p i x law R unsent =
    remembers_by C o E (Cell k) k p i x R.recent R.there
    (subst (λ (cs : List AnsweredCell). Recalls cs i R.recent) (sym (answered_next C o k p E)) (recalls_more (answered_cells C o k p E) i R.recent (next_of C o k p E) law R.recalls unsent))
    R.counted (reached_by C o E k p i x R)

-- it sends the newest one
pub remembers_sent : (C : ℕ) (o : Opening) (E : List Event) (k : ℕ) (p : SlotTable) (i slot word : ℕ) (x y : Option Recent) → AreRecalled → (R : Remembers C o E k p i x) → IsReached k (current o k p E) slot → R.recent.slot ≤ slot
    → next_of C o k p E ≡ Some (record { slot = slot; source = i; count = length (accepted_by C o i E); word = Some word }) → y ≡ Some (sent_again R.recent slot (length (accepted_by C o i E)))
    → Remembers C o (E ++ Cell k ∷ []) k p i y
remembers_sent C o E k p i slot word x y law R reached after next there =
    let count = length (accepted_by C o i E) in
    let c : AnsweredCell = record { slot = slot; source = i; count = count; word = Some word } in
    let cells : answered_cells C o k p (E ++ Cell k ∷ []) ≡ answered_cells C o k p E ++ c ∷ [] =
    answered_next C o k p E ∙ ap (more_cells (answered_cells C o k p E)) next in
    let most : count ≤ count = omega arith in
    remembers_by C o E (Cell k) k p i y (sent_again R.recent slot count) there
    (subst (λ (cs : List AnsweredCell). Recalls cs i (sent_again R.recent slot count)) (sym cells) (law.sent (answered_cells C o k p E) i R.recent slot count word R.recalls R.counted after))
    most reached

-- for the other groups nothing changes, so it is enough to look at the group's own sources
pub all_from_own : (C : ℕ) (o : Opening) (E : List Event) (k : ℕ) (p : SlotTable) (ss ts : List (List Recent)) → slice_get (groups_of o.proposal.plan) k ≡ Some p → AllRemember C o E ss
    → ((g i : ℕ) → (k ≡ g → ⊥) → recent_at ts g i ≡ recent_at ss g i)
    → ((i : ℕ) (s : SourceRow) → slice_get o.proposal.station.sources i ≡ Some s → Remembers C o (E ++ Cell k ∷ []) k p i (recent_at ts k i))
    → AllRemember C o (E ++ Cell k ∷ []) ts
all_from_own C o E k p ss ts here all same own g q there i s known = elim (cases_eq k g) [
  | inl is ↦
      let table : p ≡ q = same_Some p q (sym here ∙ (ap (slice_get (groups_of o.proposal.plan)) is ∙ there)) in
      subst (λ (h : ℕ). Remembers C o (E ++ Cell k ∷ []) h q i (recent_at ts h i)) is (subst (λ (u : SlotTable). Remembers C o (E ++ Cell k ∷ []) k u i (recent_at ts k i)) table (own i s known))
  | inr other ↦
      subst (λ (x : Option Recent). Remembers C o (E ++ Cell k ∷ []) g q i x) (sym (same g i other))
      (remembers_stay C o E (Cell k) g q i (recent_at ss g i) (ne_eqb k g other) (all g q there i s known))
]
