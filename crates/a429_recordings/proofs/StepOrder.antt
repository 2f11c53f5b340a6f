-- The steps of a timeline are in the order of time: a word that comes in after a cell was asked for comes in after the begin of its slot.
use Rattle.std.proofs.Common.{◌≡◌, ◌+◌, ◌*◌, ◌%◌, ◌<◌, ◌≤◌, ℕ, zero, suc, Bool, true, false, List, [], ◌∷◌, ◌++◌, replicate, sym, subst, arith, append_assoc}
use Rattle.std.specs.Prelude.{◌==◌, ⊤, Some, if◌then◌else◌, slice_get}
use Rattle.std.specs.List.{AllByRecursion}
use Rattle.std.proofs.lemmas.Option.{none-some, same_Some}
use Rattle.a429_word.proofs.Lists.{all_at}
use Rattle.a429_grid.specs.Grid.{slot_time}
use Rattle.a429_slots.specs.Proposed.{Proposed}
use Rattle.a429_slots.specs.Tables.{buses_of, frame_of}
use Rattle.a429_recordings.specs.Simulating.{Step, Asks, Comes, Turns, steps_in, steps_of, turn_after}
use Rattle.a429_recordings.specs.Timeline.{MomentsAreInOrder, Precedes, rate_of, table_of}
use Rattle.a429_recordings.specs.declared.simulate.moments.Moment.{Moment}
use Rattle.a429_recordings.specs.declared.simulate.moments.Moment.TheVariants.{Word, Slot}

-- a step may come after another: a word after a cell only once the cell's slot has begun
abbrev pub Follows : Proposed → Step → Step → Type 0
Follows q (Comes v) y = ⊤
Follows q (Turns h) y = ⊤
Follows q (Asks h t) (Comes w) = t * slot_time ≤ w.time * rate_of q h
Follows q (Asks h t) (Asks k u) = ⊤
Follows q (Asks h t) (Turns k) = ⊤

abbrev pub StepsAreInOrder : Proposed → List Step → Type 0
StepsAreInOrder q [] = ⊤
StepsAreInOrder q (x ∷ xs) = AllByRecursion (Follows q x) xs × StepsAreInOrder q xs

module _ (q : Proposed) where
  all_cells : (h t k u m : ℕ) (rest : List Step) → AllByRecursion (Follows q (Asks h t)) rest → AllByRecursion (Follows q (Asks h t)) (replicate m (Asks k u) ++ rest)
  all_cells h t k u zero rest all = all
  all_cells h t k u (suc m) rest all = (tt, all_cells h t k u m rest all)

  all_turn : (h t k : ℕ) (over : Bool) (rest : List Step) → AllByRecursion (Follows q (Asks h t)) rest → AllByRecursion (Follows q (Asks h t)) ((if over then Turns k ∷ [] else []) ++ rest)
  all_turn h t k true rest all = (tt, all)
  all_turn h t k false rest all = all

  all_follow : (x : Step) (xs : List Step) → ((y : Step) → Follows q x y) → AllByRecursion (Follows q x) xs
  all_follow x [] any = tt
  all_follow x (y ∷ xs) any = (any y, all_follow x xs any)

  cells_first : (h t m : ℕ) (rest : List Step) → AllByRecursion (Follows q (Asks h t)) rest → StepsAreInOrder q rest → StepsAreInOrder q (replicate m (Asks h t) ++ rest)
  cells_first h t zero rest all order = order
  cells_first h t (suc m) rest all order = (all_cells h t h t m rest all, cells_first h t m rest all order)

  turn_first : (h : ℕ) (over : Bool) (rest : List Step) → StepsAreInOrder q rest → StepsAreInOrder q ((if over then Turns h ∷ [] else []) ++ rest)
  turn_first h true rest order = (all_follow (Turns h) rest (λ y. tt), order)
  turn_first h false rest order = order

  -- all steps of later moments
  later_steps : (h t : ℕ) (M : List Moment) → AllByRecursion (Precedes q (Slot h t)) M → AllByRecursion (Follows q (Asks h t)) (steps_of q M)
  unfolding steps_in
  later_steps h t [] all = tt
  later_steps h t (Word w ∷ M) (P, all) = let no_later : t * slot_time * 1 ≤ w.time * rate_of q h = P.no_later in (omega (arith, no_later), later_steps h t M all)
  later_steps h t (Slot k u ∷ M) (P, all) =
      subst (AllByRecursion (Follows q (Asks h t))) (sym (append_assoc (replicate (buses_of (table_of q k)) (Asks k u)) (turn_after q k u) (steps_of q M)))
      (all_cells h t k u (buses_of (table_of q k)) (turn_after q k u ++ steps_of q M) (all_turn h t k ((u + 1) % frame_of (table_of q k) == 0) (steps_of q M) (later_steps h t M all)))

  pub steps_in_order : (M : List Moment) → MomentsAreInOrder q M → StepsAreInOrder q (steps_of q M)
  unfolding steps_in
  steps_in_order [] order = tt
  steps_in_order (Word w ∷ M) (all, order) = (all_follow (Comes w) (steps_of q M) (λ y. tt), steps_in_order M order)
  steps_in_order (Slot h t ∷ M) (all, order) =
      let over : Bool = (t + 1) % frame_of (table_of q h) == 0 in
      subst (StepsAreInOrder q) (sym (append_assoc (replicate (buses_of (table_of q h)) (Asks h t)) (turn_after q h t) (steps_of q M)))
      (cells_first h t (buses_of (table_of q h)) (turn_after q h t ++ steps_of q M) (all_turn h t h over (steps_of q M) (later_steps h t M all)) (turn_first h over (steps_of q M) (steps_in_order M order)))

  pub follows_at : (S : List Step) (j i : ℕ) (x y : Step) → StepsAreInOrder q S → slice_get S j ≡ Some x → slice_get S i ≡ Some y → j < i → Follows q x y
  follows_at [] j i x y order here there later = absurd (none-some x here)
  follows_at (z ∷ S) zero zero x y order here there later = absurd (omega (arith, later))
  follows_at (z ∷ S) zero (suc i) x y order here there later = subst (λ (s : Step). Follows q s y) (same_Some z x here) (all_at (Follows q z) S i y order.0 there)
  follows_at (z ∷ S) (suc j) zero x y order here there later = absurd (omega (arith, later))
  follows_at (z ∷ S) (suc j) (suc i) x y order here there later = follows_at S j i x y order.1 here there (omega (arith, later))
