-- How lists and histories grow at their ends.
use Rattle.std.proofs.Common.{◌≡◌, ℕ, zero, suc, ◌+◌, true, false, List, [], ◌∷◌, ◌++◌, take, reverse, ◌∙◌, sym, ap, subst, refl}
use Rattle.std.specs.Prelude.{Some, cond, slice_get, if◌then◌else◌}
use Rattle.std.proofs.lemmas.List.{reverse-append, reverse-reverse}
use Rattle.std.proofs.lemmas.List.Sums.{sum_by-cons}
use Rattle.std.proofs.lemmas.Option.{none-some, same_Some}
use Rattle.a429_slots.specs.Tables.{SlotTable}
use Rattle.a429_slots.specs.Events.{Event}
use Rattle.a429_slots.specs.History.{Opening, Current, current, frame_after, is_cell, is_taken, next_frame, cells_since, newest_number, newest_table}
use Rattle.a429_slots.specs.TakenFrames.{is_taken_after}

-- what is true of the empty list and stays true with a further element at the end is true of all
by_past : {A : Type 0} (P : List A → Type 0) → P [] → ((xs : List A) (x : A) → P xs → P (xs ++ x ∷ [])) → (past : List A) → P (reverse past)
by_past P none more [] = none
by_past P none more (x ∷ past) = subst P (sym (reverse-append (x ∷ []) past)) (more (reverse past) x (by_past P none more past))

pub by_ends : {A : Type 0} (P : List A → Type 0) → P [] → ((xs : List A) (x : A) → P xs → P (xs ++ x ∷ [])) → (xs : List A) → P xs
by_ends P none more xs = subst P (reverse-reverse xs) (by_past P none more (reverse xs))

pub take_following : {X : Type 0} (xs : List X) (i : ℕ) (x : X) → slice_get xs i ≡ Some x → take (suc i) xs ≡ take i xs ++ x ∷ []
take_following [] i x h = absurd (none-some x h)
take_following (y ∷ ys) zero x h = let same : y ≡ x = same_Some y x h in ap (λ z. z ∷ []) same
take_following (y ∷ ys) (suc i) x h = ap (λ zs. y ∷ zs) (take_following ys i x h)

-- ---- the frame of a group

abbrev pub goes_on : Current → Event → Current
goes_on f e = record f { since = e ∷ f.since }

-- the frame after one more event, if this is the newest table
abbrev pub gone_on : ℕ → ℕ → SlotTable → Current → Event → Current
gone_on g n now f e = if is_taken g now f e then next_frame n now f else goes_on f e

pub current_next : (o : Opening) (g : ℕ) (p : SlotTable) (E : List Event) (e : Event) → current o g p (E ++ e ∷ []) ≡ gone_on g (newest_number o E) (newest_table o g p E) (current o g p E) e
current_next o g p E e = ap (frame_after o g p) (reverse-append E (e ∷ []))
    ∙ ap (λ (F : List Event). gone_on g (newest_number o F) (newest_table o g p F) (current o g p E) e) (reverse-reverse E)

pub cells_next : (g : ℕ) (f : Current) (e : Event) → cells_since g (goes_on f e) ≡ (if is_cell g e then 1 else 0) + cells_since g f
cells_next g f e = sum_by-cons (λ x. cond (is_cell g x) 1 0) e f.since

-- only a taken Frame gives the group another plan
pub same_frame : (o : Opening) (g : ℕ) (p : SlotTable) (E : List Event) (e : Event) → is_taken_after o g p E e ≡ false → current o g p (E ++ e ∷ []) ≡ goes_on (current o g p E) e
same_frame o g p E e h = current_next o g p E e ∙ rw h refl

pub new_frame : (o : Opening) (g : ℕ) (p : SlotTable) (E : List Event) (e : Event) → is_taken_after o g p E e ≡ true → current o g p (E ++ e ∷ []) ≡ next_frame (newest_number o E) (newest_table o g p E) (current o g p E)
new_frame o g p E e h = current_next o g p E e ∙ rw h refl
