-- The numbers of plans in force: one number is one slot table.
use Rattle.std.proofs.Common.{◌≡◌, ℕ, ◌+◌, ◌-◌, ◌≤◌, List, [], ◌∷◌, ◌++◌, length, take, ◌∙◌, sym, ap, subst, inl, inr, arith, append-nil}
use Rattle.std.specs.Prelude.{Option, Some, filter_map, slice_get, unwrap_or}
use Rattle.std.specs.Option.{option_map_or}
use Rattle.std.proofs.Math.Seq.{take-append-add}
use Rattle.std.proofs.lemmas.List.{length-append, take-append-le, take_all}
use Rattle.std.proofs.lemmas.List.Elements.{filter_map-append}
use Rattle.std.proofs.lemmas.Bool.{cases_Bool, cases_lt}
use Rattle.a429_slots.specs.Tables.{SlotTable, groups_of}
use Rattle.a429_slots.specs.Proposed.{Proposed}
use Rattle.a429_slots.specs.Events.{Event}
use Rattle.a429_slots.specs.History.{Opening, Current, current, last_of, proposal_for, published, numbers_left, newest_number, newest_table}
use Rattle.a429_slots.specs.TakenFrames.{is_taken_after}
use Rattle.a429_slots.proofs.Histories.{by_ends, same_frame, new_frame}

-- what was published stays
record Grows (o : Opening) (E : List Event) (e : Event) : Type 0 where
  pub more : List Proposed
  pub is : published o (E ++ e ∷ []) ≡ published o E ++ more

grows : (o : Opening) (E : List Event) (e : Event) → Grows o E e
grows o E e =
    let limit : ℕ = numbers_left o in
    let xs = filter_map (proposal_for o) E in
    let ys = filter_map (proposal_for o) (e ∷ []) in
    let split : published o (E ++ e ∷ []) ≡ take limit (xs ++ ys) = ap (take limit) (filter_map-append (proposal_for o) E (e ∷ [])) in
    elim (cases_lt (length xs) limit) [
      | inl room ↦
          let rest : limit ≡ length xs + (limit - length xs) = omega (arith, room) in
          record {
            more = take (limit - length xs) ys;
            is = split ∙ (ap (λ (n : ℕ). take n (xs ++ ys)) rest ∙ (take-append-add xs ys (limit - length xs)
                ∙ ap (λ (zs : List Proposed). zs ++ take (limit - length xs) ys) (sym (take_all limit xs (omega (arith, room))))));
          }
      | inr full ↦ record { more = []; is = split ∙ (take-append-le limit xs ys full ∙ sym (append-nil (take limit xs))) }
    ]

-- the group's table in the plan of this number
pub numbered : Opening → ℕ → SlotTable → List Event → ℕ → SlotTable
numbered o g p E n = unwrap_or (slice_get (groups_of (option_map_or (λ q. q.plan) (last_of (take (n - o.proposal.plan.number) (published o E))) o.proposal.plan)) g) p

newest_numbered : (o : Opening) (g : ℕ) (p : SlotTable) (E : List Event) → newest_table o g p E ≡ numbered o g p E (newest_number o E)
unfolding numbered
newest_numbered o g p E =
    ap (λ (qs : List Proposed). unwrap_or (slice_get (groups_of (option_map_or (λ q. q.plan) (last_of qs) o.proposal.plan)) g) p) (sym (take_all (newest_number o E - o.proposal.plan.number) (published o E) (omega arith)))

numbered_on : (o : Opening) (g : ℕ) (p : SlotTable) (E : List Event) (e : Event) (n : ℕ) → n ≤ newest_number o E → numbered o g p (E ++ e ∷ []) n ≡ numbered o g p E n
unfolding numbered
numbered_on o g p E e n low =
    let G = grows o E e in
    ap (λ (qs : List Proposed). unwrap_or (slice_get (groups_of (option_map_or (λ q. q.plan) (last_of qs) o.proposal.plan)) g) p)
    (ap (take (n - o.proposal.plan.number)) G.is ∙ take-append-le (n - o.proposal.plan.number) (published o E) G.more (omega (arith, low)))

number_on : (o : Opening) (E : List Event) (e : Event) → newest_number o E ≤ newest_number o (E ++ e ∷ [])
number_on o E e =
    let G = grows o E e in
    omega (arith, ap (λ (qs : List Proposed). length qs) G.is, length-append (published o E) G.more)

pub record IsNumbered (o : Opening) (g : ℕ) (p : SlotTable) (E : List Event) (f : Current) : Type 0 where
  pub least : o.proposal.plan.number ≤ f.number
  pub low : f.number ≤ newest_number o E
  pub table : f.table ≡ numbered o g p E f.number

-- a plan with the number of the one in force has its table
pub same_number : (o : Opening) (g : ℕ) (p : SlotTable) (E : List Event) (f : Current) → IsNumbered o g p E f → newest_number o E ≡ f.number → newest_table o g p E ≡ f.table
same_number o g p E f N same = newest_numbered o g p E ∙ (ap (numbered o g p E) same ∙ sym N.table)

pub is_numbered : (o : Opening) (g : ℕ) (p : SlotTable) → slice_get (groups_of o.proposal.plan) g ≡ Some p → (E : List Event) → IsNumbered o g p E (current o g p E)
unfolding numbered
is_numbered o g p there E = by_ends (λ F. IsNumbered o g p F (current o g p F)) (record {
  least = omega arith;
  low = omega arith;
  table = first;
}) (λ F e N. elim (cases_Bool (is_taken_after o g p F e)) [
  | inl taken ↦
      let now = new_frame o g p F e taken in
      subst (IsNumbered o g p (F ++ e ∷ [])) (sym now) (record {
        least = omega arith;
        low = number_on o F e;
        table = newest_numbered o g p F ∙ sym (numbered_on o g p F e (newest_number o F) (omega arith));
      })
  | inr left ↦
      let now = same_frame o g p F e left in
      let low : (current o g p F).number ≤ newest_number o F = N.low in
      subst (IsNumbered o g p (F ++ e ∷ [])) (sym now) (record {
        least = N.least;
        low = omega (arith, low, number_on o F e);
        table = N.table ∙ sym (numbered_on o g p F e (current o g p F).number N.low);
      })
]) E
  where
    first : p ≡ numbered o g p [] o.proposal.plan.number
    first =
        let none : o.proposal.plan.number - o.proposal.plan.number ≡ 0 = omega arith in
        sym (ap (λ (n : ℕ). unwrap_or (slice_get (groups_of (option_map_or (λ q. q.plan) (last_of (take n (published o []))) o.proposal.plan)) g) p) none
        ∙ ap (λ (x : Option SlotTable). unwrap_or x p) there)
