-- What a state begins with.
use Rattle.std.proofs.Common.{◌≡◌, ℕ, zero, suc, ◌+◌, ◌-◌, ◌<◌, ◌^◌, true, false, List, [], ◌∷◌, ◌++◌, length, take, map, replicate, ◌∙◌, sym, ap, subst, refl, arith}
use Rattle.std.specs.Prelude.{Option, Some, None, slice_get, option_map, option_and_then, nat_lt, min}
use Rattle.std.specs.Option.{option_map_or}
use Rattle.std.proofs.lemmas.List.{map-append, length-map}
use Rattle.std.proofs.lemmas.Option.{same_Some, none-some}
use Rattle.std.proofs.lemmas.Bool.{ltb-true, and_parts}
use Rattle.a429_word.proofs.Lists.{and_false, take_next, none_cut}
use Rattle.a429_equipment.specs.Arrivals.{SourcesAreApart}
use Rattle.a429_slots.specs.Tables.{SlotTable, groups_of, frame_of, cells_of}
use Rattle.a429_slots.specs.Proposed.{Proposed}
use Rattle.a429_slots.specs.History.{Opening, accepted_in, current, last_of, numbers_left}
use Rattle.a429_equipment.specs.declared.rows.SourceRow.{SourceRow}
use Rattle.a429_slots.specs.Recalling.{Recent, never}
use Rattle.a429_core.proofs.Answering.{AllRemember}
use Rattle.a429_core.proofs.Places.{map_same}
use Rattle.a429_core.specs.declared.sources.Kept.{Kept}
use Rattle.a429_slots.specs.FrameStates.{FrameState, all_fit, begun, frame_state_of}
use Rattle.a429_slots.proofs.Remembering.{AreRecalled}
use Rattle.a429_core.specs.MachineStates.{MachineState, StandsForHistory, HasTableForEach, kept_of, recent_at}

-- ---- frames that fit

fit_append : (first : ℕ) (ts : List SlotTable) (t : SlotTable) → all_fit first ts ≡ true → nat_lt (first + frame_of t) (2 ^ 64) ≡ true → all_fit first (ts ++ t ∷ []) ≡ true
fit_append first [] t all h = rw h refl
fit_append first (u ∷ ts) t all h =
    let parts = and_parts (nat_lt (first + frame_of u) (2 ^ 64)) (all_fit first ts) all in
    rw (parts.0, fit_append first ts t parts.1 h) refl

pub fit_next : (first : ℕ) (ts : List SlotTable) (i : ℕ) (t : SlotTable) → slice_get ts i ≡ Some t → all_fit first (take i ts) ≡ true → nat_lt (first + frame_of t) (2 ^ 64) ≡ true → all_fit first (take (i + 1) ts) ≡ true
fit_next first ts i t there all h = ap (all_fit first) (take_next ts i t there) ∙ fit_append first (take i ts) t all h

pub unfit_at : (first : ℕ) (ts : List SlotTable) (i : ℕ) (t : SlotTable) → slice_get ts i ≡ Some t → nat_lt (first + frame_of t) (2 ^ 64) ≡ false → all_fit first ts ≡ false
unfit_at first [] i t there h = absurd (none-some t there)
unfit_at first (u ∷ ts) zero t there h = subst (λ (x : SlotTable). all_fit first (x ∷ ts) ≡ false) (sym (same_Some u t there)) (rw h refl)
unfit_at first (u ∷ ts) (suc i) t there h = and_false (nat_lt (first + frame_of u) (2 ^ 64)) (all_fit first ts) (unfit_at first ts i t there h)

pub fits_at : (first : ℕ) (ts : List SlotTable) (i : ℕ) (t : SlotTable) → slice_get ts i ≡ Some t → all_fit first ts ≡ true → first + frame_of t < 2 ^ 64
fits_at first [] i t there all = absurd (none-some t there)
fits_at first (u ∷ ts) zero t there all =
    ltb-true (first + frame_of t) (2 ^ 64) (subst (λ (x : SlotTable). nat_lt (first + frame_of x) (2 ^ 64) ≡ true) (same_Some u t there) (and_parts (nat_lt (first + frame_of u) (2 ^ 64)) (all_fit first ts) all).0)
fits_at first (u ∷ ts) (suc i) t there all = fits_at first ts i t there (and_parts (nat_lt (first + frame_of u) (2 ^ 64)) (all_fit first ts) all).1

pub map_next : (first : ℕ) (ts : List SlotTable) (i : ℕ) (t : SlotTable) → slice_get ts i ≡ Some t → map (begun first) (take (i + 1) ts) ≡ map (begun first) (take i ts) ++ begun first t ∷ []
map_next first ts i t there = ap (map (begun first)) (take_next ts i t there) ∙ map-append (begun first) (take i ts) (t ∷ [])

-- ---- the state

get_map : {A B : Type 0} (f : A → B) (xs : List A) (i : ℕ) → slice_get (map f xs) i ≡ option_map f (slice_get xs i)
get_map f [] i = refl
get_map f (x ∷ xs) zero = refl
get_map f (x ∷ xs) (suc i) = get_map f xs i

get_replicate-length : {A B : Type 0} (k : B) (xs : List A) (i : ℕ) → slice_get (replicate (length xs) k) i ≡ option_map (λ _. k) (slice_get xs i)
get_replicate-length k [] i = refl
get_replicate-length k (x ∷ xs) zero = refl
get_replicate-length k (x ∷ xs) (suc i) = get_replicate-length k xs i

abbrev pub unheard : Kept
unheard = record { count = 0; last = None }

abbrev pub opened : Proposed → List Kept → List FrameState → List (List Recent) → MachineState
opened q ks ss rs = record { station = q.station; sources = ks; groups = ss; sends = rs; newest = q.plan }

-- nothing was sent
nothing_sent : (C first : ℕ) (q : Proposed) (rs : List (List Recent)) → AreRecalled → rs ≡ replicate (length (groups_of q.plan)) (replicate (length q.station.sources) never)
    → AllRemember C (record { proposal = q; first = first }) [] rs
nothing_sent C first q rs law are g p there i s known = record {
  recent = never;
  there = ap (λ (zs : List (List Recent)). recent_at zs g i) are
      ∙ (ap (λ (x : Option (List Recent)). option_and_then (λ zs. slice_get zs i) x) (get_replicate-length (replicate (length q.station.sources) never) (groups_of q.plan) g
      ∙ ap (option_map (λ (_ : SlotTable). replicate (length q.station.sources) never)) there)
      ∙ (get_replicate-length never q.station.sources i ∙ ap (option_map (λ (_ : SourceRow). never)) known));
  recalls = law.none i;
  counted = omega arith;
  passed = omega arith;
  in_frame = omega arith;
}

pub stands_at_first : (C first : ℕ) (q : Proposed) (ks : List Kept) (ss : List FrameState) (rs : List (List Recent)) → AreRecalled → SourcesAreApart q.station.sources → HasTableForEach q → q.plan.number ≡ 0
    → ks ≡ replicate (length q.station.sources) unheard → ss ≡ map (begun first) (groups_of q.plan)
    → rs ≡ replicate (length (groups_of q.plan)) (replicate (length q.station.sources) never)
    → StandsForHistory C (record { proposal = q; first = first }) [] (opened q ks ss rs)
stands_at_first C first q ks ss rs law apart whole number kept sent unsent =
    let o : Opening = record { proposal = q; first = first } in
    record {
      apart = apart;
      whole = whole;
      station = refl;
      sources = λ i. ap (λ (zs : List Kept). slice_get zs i) kept ∙ (get_replicate-length unheard q.station.sources i
          ∙ map_same (λ _. unheard) (λ s. kept_of (accepted_in C o s [])) (slice_get q.station.sources i) (λ s h. sym (ap kept_of (none_cut (2 ^ C - 1)))));
      groups = λ g. ap (λ (zs : List FrameState). slice_get zs g) sent ∙ (get_map (begun first) (groups_of q.plan) g
          ∙ map_same (begun first) (λ p. frame_state_of g (current o g p [])) (slice_get (groups_of q.plan) g) (λ p h. none_sent first p));
      sends = nothing_sent C first q rs law unsent;
      size = ap (λ (zs : List FrameState). length zs) sent ∙ length-map (groups_of q.plan) (begun first);
      number = let none = ap (λ (ps : List Proposed). length ps) (none_cut (numbers_left o)) in omega (arith, none);
      newest = sym (ap (λ (ps : List Proposed). groups_of (option_map_or (λ p. p.plan) (last_of ps) q.plan)) (none_cut (numbers_left o)));
      as_many = refl;
    }
  where
    none_sent : (first : ℕ) (p : SlotTable) → begun first p ≡ record { table = p; first = first; sent = min 0 (cells_of p) }
    none_sent first p = let none : 0 ≡ min 0 (cells_of p) = omega arith in ap (λ (n : ℕ). record { table = p; first = first; sent = n }) none
