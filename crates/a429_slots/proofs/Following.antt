-- The frame that a group is in at a later place of a history.
use Rattle.std.proofs.Common.{◌≡◌, ℕ, zero, suc, ◌+◌, ◌*◌, ◌≤◌, List, [], ◌∷◌, ◌++◌, length, take, ◌∙◌, sym, ap, subst, refl, inl, inr, ◌⊎◌, arith, ◌-◌}
use Rattle.std.specs.Prelude.{Some, slice_get}
use Rattle.std.proofs.lemmas.Bool.{cases_Bool, eq-eqb}
use Rattle.a429_slots.specs.Tables.{SlotTable, groups_of, frame_of}
use Rattle.a429_slots.specs.Events.{Event, Cell}
use Rattle.a429_slots.specs.History.{Opening, Current, current, cells_since, next_frame, newest_number, newest_table}
use Rattle.a429_slots.specs.TakenFrames.{is_taken_after}
use Rattle.a429_slots.proofs.Histories.{take_following, goes_on, cells_next, same_frame, new_frame}
use Rattle.a429_slots.proofs.Numbers.{is_numbered, same_number}
use Rattle.a429_slots.proofs.Answered.{event_at}

-- the same frame, with as many cells or more
pub record IsSameOn (g : ℕ) (f h : Current) : Type 0 where
  pub table : h.table ≡ f.table
  pub number : h.number ≡ f.number
  pub first : h.first ≡ f.first
  pub cells : cells_since g f ≤ cells_since g h

-- some frames on, by the same plan
pub record IsAgain (f h : Current) : Type 0 where
  pub table : h.table ≡ f.table
  pub frames : ℕ
  pub first : h.first ≡ f.first + frames * frame_of f.table

-- a later frame
pub record IsMoved (f h : Current) : Type 0 where
  pub past : f.first + frame_of f.table ≤ h.first
  pub number : f.number ≤ h.number
  pub again : h.number ≡ f.number → IsAgain f h

abbrev pub IsLater : ℕ → Current → Current → Type 0
IsLater g f h = IsSameOn g f h ⊎ IsMoved f h

goes_later : (g : ℕ) (f h : Current) (e : Event) → IsLater g f h → IsLater g f (goes_on h e)
goes_later g f h e (inl S) =
    let more : cells_since g f ≤ cells_since g h = S.cells in
    inl (record { table = S.table; number = S.number; first = S.first; cells = omega (arith, more, cells_next g h e) })
goes_later g f h e (inr M) = inr (record { past = M.past; number = M.number; again = λ same. let A = M.again same in record { table = A.table; frames = A.frames; first = A.first } })

turns_later : (g n : ℕ) (now : SlotTable) (f h : Current) → h.number ≤ n → (n ≡ h.number → now ≡ h.table) → IsLater g f h → IsLater g f (next_frame n now h)
turns_later g n now f h newer same (inl S) =
    let slots : frame_of h.table ≡ frame_of f.table = ap (λ (t : SlotTable). frame_of t) S.table in
    inr (record {
      past = omega (arith, S.first, slots);
      number = omega (arith, S.number, newer);
      again = λ is. record {
        table = same (is ∙ sym S.number) ∙ S.table;
        frames = 1;
        first = omega (arith, S.first, slots);
      };
    })
turns_later g n now f h newer same (inr M) = inr (record {
  past = let past : f.first + frame_of f.table ≤ h.first = M.past in omega (arith, past);
  number = let older : f.number ≤ h.number = M.number in omega (arith, older, newer);
  again = λ is.
      let older : f.number ≤ h.number = M.number in
      let own : h.number ≡ f.number = omega (arith, older, newer, is) in
      let A = M.again own in
      let slots : frame_of h.table ≡ frame_of f.table = ap (λ (t : SlotTable). frame_of t) A.table in
      let more : (A.frames + 1) * frame_of f.table ≡ A.frames * frame_of f.table + frame_of f.table = omega arith in
      record { table = same (is ∙ sym own) ∙ A.table; frames = A.frames + 1; first = omega (arith, A.first, slots, more) };
})

later_push : (o : Opening) (g : ℕ) (p : SlotTable) (E : List Event) (e : Event) (f : Current) → slice_get (groups_of o.proposal.plan) g ≡ Some p → IsLater g f (current o g p E) → IsLater g f (current o g p (E ++ e ∷ []))
later_push o g p E e f there L = elim (cases_Bool (is_taken_after o g p E e)) [
  | inl taken ↦
      let N = is_numbered o g p there E in
      subst (IsLater g f) (sym (new_frame o g p E e taken)) (turns_later g (newest_number o E) (newest_table o g p E) f (current o g p E) N.low (same_number o g p E (current o g p E) N) L)
  | inr left ↦ subst (IsLater g f) (sym (same_frame o g p E e left)) (goes_later g f (current o g p E) e L)
]

abbrev pub frame_at_place : Opening → ℕ → SlotTable → List Event → ℕ → Current
frame_at_place o g p E k = current o g p (take k E)

later_by : (o : Opening) (g : ℕ) (p : SlotTable) (E : List Event) → slice_get (groups_of o.proposal.plan) g ≡ Some p → (j d : ℕ) → d + j ≤ length E → IsLater g (frame_at_place o g p E j) (frame_at_place o g p E (d + j))
later_by o g p E there j zero few =
    let same : zero + j ≡ j = omega arith in
    subst (λ (k : ℕ). IsLater g (frame_at_place o g p E j) (frame_at_place o g p E k)) (sym same) (inl (record { table = refl; number = refl; first = refl; cells = omega arith }))
later_by o g p E there j (suc d) few =
    let on : suc d + j ≡ suc (d + j) = omega arith in
    let (e, is) = event_at E (d + j) (omega (arith, few)) in
    let L = later_push o g p (take (d + j) E) e (frame_at_place o g p E j) there (later_by o g p E there j d (omega (arith, few))) in
    subst (λ (k : ℕ). IsLater g (frame_at_place o g p E j) (frame_at_place o g p E k)) (sym on)
    (subst (λ (F : List Event). IsLater g (frame_at_place o g p E j) (current o g p F)) (sym (take_following E (d + j) e is)) L)

pub later_at : (o : Opening) (g : ℕ) (p : SlotTable) (E : List Event) (j k : ℕ) → slice_get (groups_of o.proposal.plan) g ≡ Some p → j ≤ k → k ≤ length E → IsLater g (frame_at_place o g p E j) (frame_at_place o g p E k)
later_at o g p E j k there after few =
    let rest : (k - j) + j ≡ k = omega (arith, after) in
    subst (λ (n : ℕ). IsLater g (frame_at_place o g p E j) (frame_at_place o g p E n)) rest (later_by o g p E there j (k - j) (omega (arith, few, rest)))

-- after a cell the frame is the same
pub behind_cell : (o : Opening) (g : ℕ) (p : SlotTable) (E : List Event) (j : ℕ) → slice_get E j ≡ Some (Cell g) → frame_at_place o g p E (suc j) ≡ goes_on (frame_at_place o g p E j) (Cell g)
behind_cell o g p E j asked = ap (current o g p) (take_following E j (Cell g) asked) ∙ same_frame o g p (take j E) (Cell g) refl

-- and one more cell was asked for
pub one_more : (g : ℕ) (f : Current) → cells_since g (goes_on f (Cell g)) ≡ 1 + cells_since g f
one_more g f = cells_next g f (Cell g) ∙ rw (eq-eqb g g refl) refl
