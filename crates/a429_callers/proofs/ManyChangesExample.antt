-- The example meets what the laws of any number of changes suppose.
use Rattle.std.proofs.Common.{◌≡◌, ℕ, zero, suc, ◌+◌, ◌<◌, ◌≤◌, true, ◌∷◌, ◌∙◌, sym, subst, refl, inl, inr, arith}
use Rattle.std.specs.Prelude.{⊤, Bool, Option, Some, None, nat_le, slice_get}
use Rattle.std.specs.List.{AllByRecursion}
use Rattle.std.specs.Option.{option_map_or}
use Rattle.std.proofs.lemmas.Bool.{cases_eq}
use Rattle.std.proofs.lemmas.Option.{none-some, slice_get_within}
use Rattle.a429_word.proofs.Lists.{all_back}
use Rattle.a429_word.specs.Bits.{ones_from, number_from, reversed_from}
use Rattle.a429_equipment.specs.SameStation.{same_station}
use Rattle.a429_slots.specs.Tables.{Placed, SlotTable, cell_at, outputs_of}
use Rattle.a429_slots.specs.Events.{Event, Arrive, Cell, Frame, Publish}
use Rattle.a429_slots.specs.History.{cell_due}
use Rattle.a429_slots.specs.Spacing.{HaveOwnPlans, IsOwnPlan}
use Rattle.a429_core.specs.Histories.{current_at}
use Rattle.a429_core.specs.Latency.{ChangesOften, EachOutput, HasOutputWithin, IsAcceptedBefore, IsUnheld, KeepsSource, MaySend}
use Rattle.a429_core.specs.Spaced.{CellIsAnswered}
use Rattle.a429_callers.specs.ChangesExample.{new, old, opening, table_of}
use Rattle.a429_callers.specs.ManyChangesExample.{MeetsPremisesOfChanges, events, many}
use Rattle.a429_callers.proofs.ChangesExample.{apart, has, next_is_own, only_output, opening_is_own}

-- ---- from one place on

abbrev pub EachOf : (ℕ → Type 0) → ℕ → ℕ → Type 0
EachOf P from zero = ⊤
EachOf P from (suc n) = P from × EachOf P (from + 1) n

pub each_of : (P : ℕ → Type 0) (from n : ℕ) → EachOf P from n → (j : ℕ) → from ≤ j → j < from + n → P j
each_of P from zero all j low high = absurd (omega (arith, low, high))
each_of P from (suc n) (one, more) j low high = elim (cases_eq j from) [
  | inl same ↦ subst P (sym same) one
  | inr other ↦ each_of P (from + 1) n more j (omega (arith, low, other)) (omega (arith, high))
]

-- ---- the history is planned

abbrev IsOwn : Event → Type 0
IsOwn (Publish q) = IsOwnPlan q
IsOwn (Arrive r raw) = ⊤
IsOwn (Cell g) = ⊤
IsOwn (Frame g) = ⊤

all_own : AllByRecursion IsOwn events
all_own = (tt, (tt, (tt, (tt, (next_is_own, (tt, (tt, (tt, (tt, (tt, (opening_is_own, (tt, (tt, (tt, (tt, (tt, (tt, (tt, (tt, (tt, tt))))))))))))))))))))

own : HaveOwnPlans opening events
own = record {
  opening = opening_is_own;
  published = λ before after q split. (all_back IsOwn before (Publish q ∷ after) (subst (AllByRecursion IsOwn) split all_own)).0;
}

-- ---- its outputs

abbrev by_old : HasOutputWithin (table_of 1 old) 0 4
by_old = record { at = old.place; output = has 1 old refl; short = omega arith }

abbrev by_new : HasOutputWithin (table_of 2 new) 0 4
by_new = record { at = new.place; output = has 2 new refl; short = omega arith }

keeps : KeepsSource many 1 20 0 4
unfolding same_station
keeps j from before =
    each_of (λ j. HasOutputWithin (current_at many j).table 0 4) 1 20
    (by_old, (by_old, (by_old, (by_old, (by_old, (by_new, (by_new, (by_new, (by_new, (by_new, (by_new, (by_old, (by_old, (by_old, (by_old, (by_old, (by_old, (by_old, (by_old, (by_old, tt))))))))))))))))))))
    j from (omega (arith, before))

abbrev HasUnheld : SlotTable → Type 0
HasUnheld t = (n : ℕ) (x : Placed) → slice_get (outputs_of t) n ≡ Some x → x.source ≡ 0 → IsUnheld 4 x

old_unheld : HasUnheld (table_of 1 old)
old_unheld n x there same = subst (IsUnheld 4) (only_output old x n there) (record { hold = refl; spacing = omega arith })

new_unheld : HasUnheld (table_of 2 new)
new_unheld n x there same = subst (IsUnheld 4) (only_output new x n there) (record { hold = refl; spacing = omega arith })

unheld : EachOutput many 1 20 0 (IsUnheld 4)
unfolding same_station
unheld j from before =
    each_of (λ j. HasUnheld (current_at many j).table) 1 19
    (old_unheld, (old_unheld, (old_unheld, (old_unheld, (old_unheld, (new_unheld, (new_unheld, (new_unheld, (new_unheld, (new_unheld, (new_unheld, (old_unheld, (old_unheld, (old_unheld, (old_unheld, (old_unheld, (old_unheld, (old_unheld, (old_unheld, tt)))))))))))))))))))
    j from (omega (arith, before))

sends : EachOutput many 3 20 0 (MaySend 4)
sends j from before n x there same = let u = unheld j (omega (arith, from)) before n x there same in record { hold = λ hold h. absurd (none-some hold (sym u.hold ∙ h)); spacing = u.spacing }

-- ---- its words and cells

accepted : IsAcceptedBefore 41 opening events 3 20 0
unfolding ones_from number_from reversed_from cell_at
accepted = record { word = record { receiver = 0; word = 1610612929; came = refl; accepted = refl }; after = omega arith; few = omega arith }

sent : CellIsAnswered 41 many 1 old 0 (Some 1610612929)
unfolding ones_from number_from reversed_from cell_at
sent = record { cell = record { asked = refl; cell = (0, 0); due = refl; stands = refl; counted = refl }; answered = refl }

abbrev often : ChangesOften many 3 20 0 4 10
unfolding same_station
often = record { after = omega arith; few = omega arith; keeps = λ j from before. keeps j (omega (arith, from)) before; first = by_old; last = by_old; passes = omega arith }

since : ChangesOften many 1 20 0 4 11
unfolding same_station
since = record { after = omega arith; few = omega arith; keeps = keeps; first = by_old; last = by_old; passes = omega arith }

-- the slot of the cell that is due at a place is not after the place
abbrev is_in_time : ℕ → Bool
is_in_time place = option_map_or (λ c. nat_le ((current_at many place).first + c.1) place) (cell_due 0 (current_at many place)) true

all_in_time : (j : ℕ) → 0 ≤ j → j < 20 → is_in_time j ≡ true
unfolding same_station
all_in_time j from before =
    each_of (λ j. is_in_time j ≡ true) 0 20 (refl, (refl, (refl, (refl, (refl, (refl, (refl, (refl, (refl, (refl, (refl, (refl, (refl, (refl, (refl, (refl, (refl, (refl, (refl, (refl, tt)))))))))))))))))))) j from before

due_in_time : (due : Option (ℕ × ℕ)) (first place bus slot in_frame : ℕ) → option_map_or (λ c. nat_le (first + c.1) place) due true ≡ true → due ≡ Some (bus, in_frame) → slot ≡ first + in_frame → slot ≤ place
due_in_time (Some (b, s)) first place bus slot in_frame in_time refl counted = grind (arith, in_time, counted)
due_in_time None first place bus slot in_frame in_time is counted = absurd (none-some (bus, in_frame) is)

pub meets_all : MeetsPremisesOfChanges
unfolding same_station cell_at
meets_all = record {
  planned = record { apart = apart; opens = refl; own = own };
  accepted = accepted;
  often = often;
  sends = sends;
  answered = record { place = 2; from = omega arith; before = omega arith; asked = refl; in_frame = 1; due = refl; counted = refl };
  follows = omega arith;
  timely = record {
    onward = λ j k before. before;
    begun = λ i k bus slot A.
        let early : slot ≤ A.place = due_in_time (cell_due 0 (current_at many A.place)) (current_at many A.place).first A.place bus slot A.in_frame (all_in_time A.place (omega arith) (few A.place A.asked)) A.due A.counted in
        omega (arith, early);
  };
  periods = omega arith;
  spacing = omega arith;
  since = since;
  unheld = unheld;
  sent = sent;
  same = refl;
  far = omega arith;
  changed = refl;
  back = refl;
}
  where
    few : (place : ℕ) → slice_get events place ≡ Some (Cell 0) → place < 20
    few place is = slice_get_within events place (Cell 0) is
