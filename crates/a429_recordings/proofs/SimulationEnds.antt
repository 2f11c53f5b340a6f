-- How long a simulation is.
use Rattle.std.proofs.Common.{◌≡◌, ◌∙◌, ◌+◌, ◌*◌, ◌/◌, ◌^◌, ◌<◌, ◌≤◌, ℕ, zero, suc, true, inl, inr, ◌⊎◌, List, [], ◌∷◌, ◌++◌, length, length-append, refl, sym, ap, subst, arith}
use Rattle.std.specs.Prelude.{Option, Some, None, max, nat_lt, option_map, slice_get}
use Rattle.std.specs.List.{AllByRecursion}
use Rattle.std.specs.Option.{option_map_or}
use Rattle.std.proofs.lemmas.Bool.{lt-ltb}
use Rattle.std.proofs.lemmas.Option.{none-some, same_Some}
use Rattle.std.proofs.lemmas.Grind.{div_ceil_times}
use Rattle.std.proofs.lemmas.Nat.{mul-le}
use Rattle.a429_equipment.specs.declared.rows.GroupRow.{GroupRow}
use Rattle.a429_equipment.specs.Sound.{IsGroupRow, IsRate}
use Rattle.a429_slots.specs.Times.{slots_us}
use Rattle.a429_slots.specs.Tables.{SlotTable, frame_of}
use Rattle.a429_grid.specs.Grid.{slot_time}
use Rattle.a429_slots.specs.Proposed.{Proposed}
use Rattle.a429_recordings.specs.Timeline.{longest_frame, rate_of, slots_before, slots_by}
use Rattle.a429_recordings.specs.Tracks.{AreCountedTo, AreTracks, IsTrack, StartsAt}
use Rattle.a429_recordings.specs.declared.simulate.tracks.Track.{Track}

most_by : (n a rate : ℕ) → 1 ≤ rate → n * rate < a + rate → n ≤ a
most_by zero a rate some below = omega arith
most_by (suc m) a rate some below = omega (arith, mul-le m 1 m rate (omega arith) some, below)

-- slots last no longer than at 1 bit/s
pub slots_most : (rate slots : ℕ) → 1 ≤ rate → slots_us rate slots ≤ 36000000 * slots
slots_most rate slots some = most_by (slots_us rate slots) (36000000 * slots) rate some (div_ceil_times (36000000 * slots) rate some).1

-- a group more
pub longest_more : (rows : List GroupRow) (tables : List SlotTable) (row : GroupRow) (p : SlotTable) → length rows ≡ length tables
    → longest_frame (rows ++ row ∷ []) (tables ++ p ∷ []) ≡ max (longest_frame rows tables) (slots_us row.rate (frame_of p))
longest_more [] [] row p same = grind arith
longest_more [] (y ∷ ys) row p same = absurd (omega (arith, same))
longest_more (x ∷ xs) [] row p same = absurd (omega (arith, same))
longest_more (x ∷ xs) (y ∷ ys) row p same =
    let later = longest_more xs ys row p (omega (arith, same)) in
    grind (arith, later)

pub rate_within : (rate : ℕ) → IsRate rate → (1 ≤ rate) × (rate ≤ 100000)
rate_within rate (inl top) = (omega (arith, top), omega (arith, top))
rate_within rate (inr low) = (omega (arith, low), omega (arith, low))

pub product_below : (x y m n : ℕ) → x ≤ m → y ≤ n → x * y ≤ m * n
product_below x y m n few most = mul-le x y m n few most

-- a time of fourteen digits, at a rate of a bus
few_bits : (rate time : ℕ) → rate ≤ 100000 → time < 100000000000000 → time * rate ≤ 10000000000000000000
few_bits rate time few early = omega (arith, mul-le time rate 100000000000000 100000 (omega (arith, early)) few)

pub few_slots_before : (rate time : ℕ) → rate ≤ 100000 → time < 100000000000000 → slots_before rate time ≤ 277777777778
few_slots_before rate time few early = omega (arith, few_bits rate time few early, (div_ceil_times (time * rate) slot_time (omega arith)).1)

-- what 64 bits cannot count is too much
pub too_much : (rate frame first last : ℕ) → rate ≤ 100000 → frame ≤ 8192 → first < 100000000000000 → 2 ^ 64 ≤ last * rate
    → slots_before rate first + 1000000 * frame < last * rate / 36000000 + 1
too_much rate frame first last few_rate few early many = omega (arith, few, many, few_slots_before rate first few_rate early)

-- ---- the groups of a simulation

pub slots_by_is : (q : Proposed) (last g rate : ℕ) → g < length q.station.groups → rate_of q g ≡ rate → slots_by q last g ≡ last * rate / slot_time + 1
slots_by_is q last g rate within is =
    let there : nat_lt g (length q.station.groups) ≡ true = lt-ltb g (length q.station.groups) within in
    rw (there, is) refl

pub get_push_cases : {X : Type 0} (xs : List X) (x : X) (i : ℕ) (y : X) → slice_get (xs ++ x ∷ []) i ≡ Some y → (slice_get xs i ≡ Some y) ⊎ ((i ≡ length xs) × (y ≡ x))
get_push_cases [] x zero y here = inr (refl, sym (same_Some x y here))
get_push_cases [] x (suc i) y here = absurd (none-some y here)
get_push_cases (z ∷ xs) x zero y here = inl here
get_push_cases (z ∷ xs) x (suc i) y here = elim (get_push_cases xs x i y here) [
  | inl old ↦ inl old
  | inr new ↦ inr (omega (arith, new.0), new.1)
]

-- a group more
pub counted_more : (q : Proposed) (start last n : ℕ) (tracks : List Track) (x : Track) → AreCountedTo q start last n tracks → x.rate ≡ rate_of q n → x.slots ≡ slots_by q last n → IsTrack x
    → StartsAt start x → AreCountedTo q start last (n + 1) (tracks ++ x ∷ [])
counted_more q start last n tracks x C rate slots sound first = record {
  many = omega (arith, length-append tracks (x ∷ []), C.many);
  rates = λ g y here. elim (get_push_cases tracks x g y here) [
    | inl old ↦ C.rates g y old
    | inr new ↦ subst (λ (z : Track). z.rate ≡ rate_of q g) (sym new.1) (subst (λ (k : ℕ). x.rate ≡ rate_of q k) (sym (new.0 ∙ C.many)) rate)
  ];
  slots = λ g y here. elim (get_push_cases tracks x g y here) [
    | inl old ↦ C.slots g y old
    | inr new ↦ subst (λ (z : Track). z.slots ≡ slots_by q last g) (sym new.1) (subst (λ (k : ℕ). x.slots ≡ slots_by q last k) (sym (new.0 ∙ C.many)) slots)
  ];
  sound = λ g y here. elim (get_push_cases tracks x g y here) [
    | inl old ↦ C.sound g y old
    | inr new ↦ subst IsTrack (sym new.1) sound
  ];
  begun = λ g y here. elim (get_push_cases tracks x g y here) [
    | inl old ↦ C.begun g y old
    | inr new ↦ subst (StartsAt start) (sym new.1) first
  ];
}

pub none_counted : (q : Proposed) (start last : ℕ) → AreCountedTo q start last 0 []
none_counted q start last = record {
  many = refl;
  rates = λ g x here. absurd (none-some x here);
  slots = λ g x here. absurd (none-some x here);
  sound = λ g x here. absurd (none-some x here);
  begun = λ g x here. absurd (none-some x here);
}

pub all_counted : (q : Proposed) (start last n : ℕ) (tracks : List Track) → AreCountedTo q start last n tracks → n ≡ length q.station.groups → AreTracks q last tracks
all_counted q start last n tracks C all = record { many = C.many ∙ all; rates = C.rates; slots = C.slots }

-- the slots before the start are some of those up to the last time
pub before_within : (rate start last : ℕ) → start ≤ last → slots_before rate start ≤ last * rate / slot_time + 1
before_within rate start last within = omega (arith, (div_ceil_times (start * rate) slot_time (omega arith)).1, mul-le start rate last rate within (omega arith))

pub few_before : (rate start last : ℕ) → start ≤ last → last * rate / slot_time + 1 ≤ 300000000000 → start * rate < 2 ^ 64
few_before rate start last within few = omega (arith, few, mul-le start rate last rate within (omega arith))

-- ---- rates

pub row_rate : (rows : List GroupRow) (g : ℕ) (row : GroupRow) (rate : ℕ) → slice_get rows g ≡ Some row → option_map (λ r. r.rate) (slice_get rows g) ≡ Some rate → row.rate ≡ rate
row_rate rows g row rate there given = same_Some row.rate rate (sym (ap (option_map (λ (r : GroupRow). r.rate)) there) ∙ given)

rate_by : (row : Option GroupRow) (rate : ℕ) → option_map (λ r. r.rate) row ≡ Some rate → option_map_or (λ r. r.rate) row 1 ≡ rate
rate_by None rate given = absurd (none-some rate given)
rate_by (Some row) rate given = same_Some row.rate rate given

pub rate_is : (q : Proposed) (g rate : ℕ) → option_map (λ r. r.rate) (slice_get q.station.groups g) ≡ Some rate → rate_of q g ≡ rate
rate_is q g rate given = rate_by (slice_get q.station.groups g) rate given

pub rate_bounds : (rows : List GroupRow) (g rate : ℕ) → AllByRecursion IsGroupRow rows → option_map (λ r. r.rate) (slice_get rows g) ≡ Some rate → (1 ≤ rate) × (rate ≤ 100000)
rate_bounds [] g rate all given = absurd (none-some rate given)
rate_bounds (row ∷ rows) zero rate all given = subst (λ (r : ℕ). (1 ≤ r) × (r ≤ 100000)) (same_Some row.rate rate given) (rate_within row.rate all.0.1)
rate_bounds (row ∷ rows) (suc g) rate all given = rate_bounds rows g rate all.1 given
