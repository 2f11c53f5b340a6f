-- Which group's slot is next.
use Rattle.std.proofs.Common.{◌≡◌, ◌∙◌, ◌+◌, ◌-◌, ◌*◌, ◌<◌, ◌≤◌, ℕ, zero, suc, Bool, true, false, inl, inr, List, [], ◌∷◌, ◌++◌, length, drop, refl, sym, ap, subst, arith}
use Rattle.std.specs.Prelude.{◌↔◌, IsTrue, Option, Some, None, nat_lt, slice_get, slice_set, sum_by}
use Rattle.std.proofs.lemmas.Bool.{cases_eq, cases_lt}
use Rattle.std.proofs.lemmas.Bool.Decides.{nat_tests}
use Rattle.std.proofs.lemmas.Nat.{mul-le}
use Rattle.std.proofs.lemmas.List.{length-set}
use Rattle.std.proofs.lemmas.List.Sums.{sum_by-set}
use Rattle.std.proofs.lemmas.Option.{get_or_from_slice_get, none-some, same_Some, slice_get_cases, slice_get_within}
use Rattle.a429_word.proofs.Lists.{drop_at, get_set_other, get_set_same}
use Rattle.a429_equipment.specs.Sound.{OfEach}
use Rattle.a429_grid.specs.Grid.{slot_time}
use Rattle.a429_slots.specs.Proposed.{Proposed}
use Rattle.a429_recordings.specs.Timeline.{HasHappened, IsTimeline, Precedes, rate_of, slots_by}
use Rattle.a429_recordings.specs.Tracks.{AreTracks, ComesFirst, GoesBefore, GroupIsAfter, IsAfter, IsNextTrack, IsNoLater, IsTimelineAt, IsTrack, advanced, next_at}
use Rattle.a429_recordings.specs.declared.simulate.log.LogWord.{LogWord}
use Rattle.a429_recordings.specs.declared.simulate.moments.Moment.{Moment}
use Rattle.a429_recordings.specs.declared.simulate.moments.Moment.TheVariants.{Word, Slot}
use Rattle.a429_recordings.specs.declared.simulate.moments.Timeline.{Timeline}
use Rattle.a429_recordings.specs.declared.simulate.tracks.Track.{Track}
use Rattle.a429_recordings.proofs.Timelines.{all_happened, less_products, most_products, slot_happens, word_happens}

-- ---- products

-- a is before b, and b no later than c
pub strictly_before : (a r b s c t : ℕ) → 0 < t → a * s < b * r → b * t ≤ c * s → a * t < c * r
strictly_before a r b s c t some first later =
    less_products (a * t) (c * r) s (omega (arith, mul-le (a * s + 1) t (b * r) t (omega (arith, first)) (omega arith), mul-le (b * t) r (c * s) r later (omega arith)))

-- no later than what is no later
pub no_later_than : (a r b s c t : ℕ) → 0 < s → a * s ≤ b * r → b * t ≤ c * s → a * t ≤ c * r
no_later_than a r b s c t some first later =
    most_products (a * t) (c * r) s some (omega (arith, mul-le (a * s) t (b * r) t first (omega arith), mul-le (b * t) r (c * s) r later (omega arith)))

-- ---- the first group

same_track : (tracks : List Track) (n h : ℕ) (x y : Track) → slice_get tracks n ≡ Some x → slice_get tracks h ≡ Some y → h ≡ n → x ≡ y
same_track tracks n h x y at there e = same_Some x y (sym at ∙ (ap (slice_get tracks) (sym e) ∙ there))

pub least_done : (tracks : List Track) (n : ℕ) (x : Track) (first : Option ℕ) → slice_get tracks n ≡ Some x → x.slots ≤ x.next → IsNextTrack tracks n first → IsNextTrack tracks (n + 1) first
least_done tracks n x None at done L = λ h y below there. elim (cases_lt h n) [
  | inl less ↦ L h y less there
  | inr past ↦ let e : h ≡ n = omega arith in subst (λ (z : Track). z.slots ≤ z.next) (same_track tracks n h x y at there e) done
]
least_done tracks n x (Some g) at done (within, b, here, live, all) = (
  omega (arith, within),
  b,
  here,
  live,
  λ h y below there left. elim (cases_lt h n) [
    | inl less ↦ all h y less there left
    | inr past ↦
        let e : h ≡ n = omega arith in
        let ended : y.slots ≤ y.next = subst (λ (z : Track). z.slots ≤ z.next) (same_track tracks n h x y at there e) done in
        absurd (omega (arith, ended, left))
  ],
)

pub least_kept : (tracks : List Track) (n g : ℕ) (x : Track) → slice_get tracks n ≡ Some x → ((y : Track) → slice_get tracks g ≡ Some y → y.next * x.rate ≤ x.next * y.rate)
    → IsNextTrack tracks n (Some g) → IsNextTrack tracks (n + 1) (Some g)
least_kept tracks n g x at later (within, b, here, live, all) = (
  omega (arith, within),
  b,
  here,
  live,
  λ h y below there left. elim (cases_lt h n) [
    | inl less ↦ all h y less there left
    | inr past ↦
        let e : h ≡ n = omega arith in
        let own : IsNoLater b g x n = record { no_later = later b here; ranked = λ same. omega (arith, within) } in
        subst (λ (k : ℕ). IsNoLater b g y k) (sym e) (subst (λ (z : Track). IsNoLater b g z n) (same_track tracks n h x y at there e) own)
  ],
)

itself : (tracks : List Track) (n h : ℕ) (x y : Track) → slice_get tracks n ≡ Some x → slice_get tracks h ≡ Some y → h ≡ n → IsNoLater x n y h
itself tracks n h x y at there e =
    let own : IsNoLater x n x n = record { no_later = omega arith; ranked = λ same. omega arith } in
    subst (λ (k : ℕ). IsNoLater x n y k) (sym e) (subst (λ (z : Track). IsNoLater x n z n) (same_track tracks n h x y at there e) own)

pub least_only : (tracks : List Track) (n : ℕ) (x : Track) → slice_get tracks n ≡ Some x → x.next < x.slots → IsNextTrack tracks n None → IsNextTrack tracks (n + 1) (Some n)
least_only tracks n x at live L = (
  omega arith,
  x,
  at,
  live,
  λ h y below there left. elim (cases_lt h n) [
    | inl less ↦ absurd (omega (arith, L h y less there, left))
    | inr past ↦ itself tracks n h x y at there (omega arith)
  ],
)

pub least_new : (tracks : List Track) (n g : ℕ) (x : Track) → OfEach IsTrack tracks → slice_get tracks n ≡ Some x → x.next < x.slots
    → ((y : Track) → slice_get tracks g ≡ Some y → x.next * y.rate < y.next * x.rate) → IsNextTrack tracks n (Some g) → IsNextTrack tracks (n + 1) (Some n)
least_new tracks n g x sound at live before (within, b, here, open_, all) = (
  omega arith,
  x,
  at,
  live,
  λ h y below there left. elim (cases_lt h n) [
    | inl less ↦
        let first : x.next * y.rate < y.next * x.rate = strictly_before x.next x.rate b.next b.rate y.next y.rate (omega (arith, (sound h y there).some_rate)) (before b here) (all h y less there left).no_later in
        record { no_later = omega (arith, first); ranked = λ same. absurd (omega (arith, first, same)) }
    | inr past ↦ itself tracks n h x y at there (omega arith)
  ],
)

-- by what a comparison with the first one says
pub least_better : (tracks : List Track) (n : ℕ) (x : Track) (first : Option ℕ) (is : Bool) → OfEach IsTrack tracks → slice_get tracks n ≡ Some x → x.next < x.slots
    → GoesBefore tracks x first is → is ≡ true → IsNextTrack tracks n first → IsNextTrack tracks (n + 1) (Some n)
least_better tracks n x None is sound at live before yes_ L = least_only tracks n x at live L
least_better tracks n x (Some g) is sound at live before yes_ L = least_new tracks n g x sound at live (λ y there. (before y there).0 yes_) L

pub least_worse : (tracks : List Track) (n : ℕ) (x : Track) (first : Option ℕ) (is : Bool) → slice_get tracks n ≡ Some x → GoesBefore tracks x first is → is ≡ false
    → IsNextTrack tracks n first → IsNextTrack tracks (n + 1) first
least_worse tracks n x None is at before no_ L = absurd (cc (before, no_))
least_worse tracks n x (Some g) is at before no_ L = least_kept tracks n g x at (λ y there. elim (cases_lt (x.next * y.rate) (y.next * x.rate)) [
  | inl less ↦ let yes_ : is ≡ true = (before y there).1 less in absurd (cc (yes_, no_))
  | inr most ↦ most
]) L

pub left_if : (b : Bool) (slots next : ℕ) → IsTrue b ↔ (slots ≤ next) → b ≡ false → next < slots
left_if b slots next says no_ = elim (cases_lt next slots) [
  | inl less ↦ less
  | inr most ↦ let yes_ : b ≡ true = says.1 most in absurd (cc (yes_, no_))
]

pub done_if : (b : Bool) (slots next : ℕ) → IsTrue b ↔ (slots ≤ next) → b ≡ true → slots ≤ next
done_if b slots next says yes_ = says.0 yes_

pub least_within : (tracks : List Track) (n g : ℕ) → IsNextTrack tracks n (Some g) → g < n
least_within tracks n g L = L.0

-- ---- places in lists

pub drop_head : {X : Type 0} (i : ℕ) (xs : List X) (v : X) (vs : List X) → drop i xs ≡ v ∷ vs → slice_get xs i ≡ Some v
drop_head zero [] v vs is = absurd (cc is)
drop_head zero (x ∷ xs) v vs is = let e : x ≡ v = cc in ap (λ z. Some z) e
drop_head (suc i) [] v vs is = absurd (cc is)
drop_head (suc i) (x ∷ xs) v vs is = drop_head i xs v vs is

pub drop_none : {X : Type 0} (i : ℕ) (xs : List X) → ((x : X) → slice_get xs i ≡ Some x → ⊥) → drop i xs ≡ []
drop_none zero [] none = refl
drop_none zero (x ∷ xs) none = absurd (none x refl)
drop_none (suc i) [] none = refl
drop_none (suc i) (x ∷ xs) none = drop_none i xs none

-- ---- groups

module _ (q : Proposed) (last : ℕ) (tracks : List Track) (A : AreTracks q last tracks) where
  next_is : (g : ℕ) (x : Track) → slice_get tracks g ≡ Some x → next_at tracks g ≡ x.next
  next_is g x at = rw at refl

  next_none : (g : ℕ) → slice_get tracks g ≡ None → next_at tracks g ≡ 0
  next_none g at = rw at refl

  none_by : (g : ℕ) → slice_get tracks g ≡ None → slots_by q last g ≡ 0
  none_by g at = elim (slice_get_cases tracks g).1 [
    | inl hit ↦ absurd (none-some hit.0 (sym at ∙ hit.2))
    | inr miss ↦ let out : nat_lt g (length q.station.groups) ≡ false = grind (arith, nat_tests, A.many, miss.0) in rw out refl
  ]

  -- a group with a slot left
  pub left_track : (g : ℕ) → next_at tracks g < slots_by q last g → (x : Track) × (slice_get tracks g ≡ Some x) × (x.next < x.slots) × (next_at tracks g ≡ x.next)
  left_track g left = elim (slice_get_cases tracks g).1 [
    | inl hit ↦ let own = next_is g hit.0 hit.2 in (hit.0, hit.2, omega (arith, own, left, A.slots g hit.0 hit.2), own)
    | inr miss ↦ absurd (omega (arith, left, none_by g miss.1))
  ]

  -- if no slot is left
  pub done_by : ((g : ℕ) (x : Track) → slice_get tracks g ≡ Some x → x.slots ≤ x.next) → (g : ℕ) → slots_by q last g ≤ next_at tracks g
  done_by done g = elim (slice_get_cases tracks g).1 [
    | inl hit ↦ omega (arith, next_is g hit.0 hit.2, done g hit.0 hit.2, A.slots g hit.0 hit.2)
    | inr miss ↦ omega (arith, none_by g miss.1)
  ]

  -- the slot of one group before that of another
  pub slot_before_slot : (g h : ℕ) (x y : Track) → slice_get tracks g ≡ Some x → slice_get tracks h ≡ Some y → IsNoLater x g y h → Precedes q (Slot g x.next) (Slot h y.next)
  slot_before_slot g h x y at there L =
      let own : x.rate ≡ rate_of q g = A.rates g x at in
      let other : y.rate ≡ rate_of q h = A.rates h y there in
      let most : x.next * rate_of q h ≤ y.next * rate_of q g = subst (λ (r : ℕ). x.next * rate_of q h ≤ y.next * r) own (subst (λ (r : ℕ). x.next * r ≤ y.next * x.rate) other L.no_later) in
      let ranked : x.next * rate_of q h ≡ y.next * rate_of q g → g ≤ h = subst (λ (r : ℕ). x.next * rate_of q h ≡ y.next * r → g ≤ h) own (subst (λ (r : ℕ). x.next * r ≡ y.next * x.rate → g ≤ h) other L.ranked) in
      record { no_later = omega (arith, most); ranked = λ same. omega (arith, ranked (omega (arith, same))) }

  pub word_before_slot : (w : LogWord) (g : ℕ) (x : Track) → slice_get tracks g ≡ Some x → IsAfter w.time x → Precedes q (Word w) (Slot g x.next)
  word_before_slot w g x at after =
      let own : x.rate ≡ rate_of q g = A.rates g x at in
      let most : w.time * rate_of q g ≤ x.next * slot_time = subst (λ (r : ℕ). w.time * r ≤ x.next * slot_time) own after in
      record { no_later = omega (arith, most); ranked = λ same. omega arith }

  pub slot_before_word : (w : LogWord) (g : ℕ) (x : Track) → slice_get tracks g ≡ Some x → x.next * slot_time < w.time * x.rate → Precedes q (Slot g x.next) (Word w)
  slot_before_word w g x at before =
      let own : x.rate ≡ rate_of q g = A.rates g x at in
      let less : x.next * slot_time < w.time * rate_of q g = subst (λ (r : ℕ). x.next * slot_time < w.time * r) own before in
      record { no_later = omega (arith, less); ranked = λ same. absurd (omega (arith, less, same)) }

  pub advanced_tracks : (g : ℕ) (x : Track) → slice_get tracks g ≡ Some x → AreTracks q last (advanced tracks g)
  advanced_tracks g x at =
      let more : Track = record x { next = x.next + 1 } in
      let after : advanced tracks g ≡ slice_set tracks g more = rw at refl in
      let within = slice_get_within tracks g x at in
      subst (AreTracks q last) (sym after) (record {
        many = length-set tracks g more ∙ A.many;
        rates = λ h y there. elim (cases_eq h g) [
          | inl same ↦
              let is : more ≡ y = same_Some more y (sym (get_set_same tracks g more within) ∙ (ap (slice_get (slice_set tracks g more)) (sym same) ∙ there)) in
              subst (λ (z : Track). z.rate ≡ rate_of q h) is (subst (λ (k : ℕ). x.rate ≡ rate_of q k) (sym same) (A.rates g x at))
          | inr other ↦ A.rates h y (sym (get_set_other tracks g h more other) ∙ there)
        ];
        slots = λ h y there. elim (cases_eq h g) [
          | inl same ↦
              let is : more ≡ y = same_Some more y (sym (get_set_same tracks g more within) ∙ (ap (slice_get (slice_set tracks g more)) (sym same) ∙ there)) in
              subst (λ (z : Track). z.slots ≡ slots_by q last h) is (subst (λ (k : ℕ). x.slots ≡ slots_by q last k) (sym same) (A.slots g x at))
          | inr other ↦ A.slots h y (sym (get_set_other tracks g h more other) ∙ there)
        ];
      })

pub advanced_sound : (tracks : List Track) (g : ℕ) (x : Track) → slice_get tracks g ≡ Some x → x.next < x.slots → OfEach IsTrack tracks → OfEach IsTrack (advanced tracks g)
advanced_sound tracks g x at left sound =
    let more : Track = record x { next = x.next + 1 } in
    let after : advanced tracks g ≡ slice_set tracks g more = rw at refl in
    let own = sound g x at in
    subst (OfEach IsTrack) (sym after) (λ h y there. elim (cases_eq h g) [
      | inl same ↦
          let is : more ≡ y = same_Some more y (sym (get_set_same tracks g more (slice_get_within tracks g x at)) ∙ (ap (slice_get (slice_set tracks g more)) (sym same) ∙ there)) in
          subst IsTrack is (record { some_rate = own.some_rate; few_rate = own.few_rate; few_slots = own.few_slots; within = omega (arith, left) })
      | inr other ↦ sound h y (sym (get_set_other tracks g h more other) ∙ there)
    ])

pub advanced_at : (tracks : List Track) (g : ℕ) (x : Track) → slice_get tracks g ≡ Some x → next_at (advanced tracks g) g ≡ next_at tracks g + 1
advanced_at tracks g x at =
    let more : Track = record x { next = x.next + 1 } in
    let after : advanced tracks g ≡ slice_set tracks g more = rw at refl in
    ap (λ (ts : List Track). next_at ts g) after ∙ rw (get_set_same tracks g more (slice_get_within tracks g x at), at) refl

pub advanced_other : (tracks : List Track) (g h : ℕ) (x : Track) → slice_get tracks g ≡ Some x → (h ≡ g → ⊥) → next_at (advanced tracks g) h ≡ next_at tracks h
advanced_other tracks g h x at other =
    let more : Track = record x { next = x.next + 1 } in
    let after : advanced tracks g ≡ slice_set tracks g more = rw at refl in
    ap (λ (ts : List Track). next_at ts h) after ∙ rw (get_set_other tracks g h more other) refl

pub advanced_many : (tracks : List Track) (g : ℕ) (x : Track) → slice_get tracks g ≡ Some x → length (advanced tracks g) ≡ length tracks
advanced_many tracks g x at =
    let more : Track = record x { next = x.next + 1 } in
    let after : advanced tracks g ≡ slice_set tracks g more = rw at refl in
    ap length after ∙ length-set tracks g more

-- ---- moments

-- the next slot of each group begins no earlier than a word that the first of them waits for
all_wait : (tracks : List Track) (group : Option ℕ) (time : ℕ) → IsNextTrack tracks (length tracks) group → GroupIsAfter tracks time group → OfEach IsTrack tracks
    → (g : ℕ) (y : Track) → slice_get tracks g ≡ Some y → y.next < y.slots → IsAfter time y
all_wait tracks None time L after sound g y at left = absurd (omega (arith, L g y (slice_get_within tracks g y at) at, left))
all_wait tracks (Some b) time (within, x, here, live, all) after sound g y at left =
    no_later_than time slot_time x.next x.rate y.next y.rate (omega (arith, (sound b x here).some_rate)) (after x here) (all g y (slice_get_within tracks g y at) at left).no_later

pub word_taken : (q : Proposed) (words : List LogWord) (last : ℕ) (M : List Moment) (old new : Timeline) (group : Option ℕ) (w : LogWord) → IsTimelineAt q words last M old
    → IsNextTrack old.tracks.items (length old.tracks.items) group → OfEach IsTrack old.tracks.items → ComesFirst old.words.items old.at old.tracks.items group (Some w)
    → new.words.items ≡ old.words.items → new.tracks.items ≡ old.tracks.items → new.at ≡ old.at + 1 → IsTimelineAt q words last (M ++ Word w ∷ []) new
word_taken q words last M old new group w T L sound (here, after) same_words same_tracks one =
    let ts = old.tracks.items in
    let own : slice_get words old.at ≡ Some w = subst (λ (ws : List LogWord). slice_get ws old.at ≡ Some w) T.words_are here in
    let rest = drop (old.at + 1) words in
    let before : HasHappened q words last M (w ∷ rest) (next_at ts) = subst (λ (ws : List LogWord). HasHappened q words last M ws (next_at ts)) (drop_at words old.at w own) T.happened in
    let later : HasHappened q words last (M ++ Word w ∷ []) rest (next_at ts) =
    word_happens q words last M w rest (next_at ts) before (λ v vs is. T.in_time.in_order old.at w v own (drop_head (old.at + 1) words v vs is))
    (λ g left.
    let (x, at, live, next) = left_track q last ts T.tracks g left in
    subst (λ (t : ℕ). Precedes q (Word w) (Slot g t)) (sym next) (word_before_slot q last ts T.tracks w g x at (all_wait ts group w.time L after sound g x at live))) in
    record {
      words_are = same_words ∙ T.words_are;
      in_time = T.in_time;
      tracks = subst (AreTracks q last) (sym same_tracks) T.tracks;
      happened = subst (λ (xs : List Track). HasHappened q words last (M ++ Word w ∷ []) (drop new.at words) (next_at xs)) (sym same_tracks)
          (subst (λ (n : ℕ). HasHappened q words last (M ++ Word w ∷ []) (drop n words) (next_at ts)) (sym one) later);
    }

pub slot_taken : (q : Proposed) (words : List LogWord) (last : ℕ) (M : List Moment) (old new : Timeline) (g : ℕ) → IsTimelineAt q words last M old
    → IsNextTrack old.tracks.items (length old.tracks.items) (Some g) → ComesFirst old.words.items old.at old.tracks.items (Some g) None
    → new.words.items ≡ old.words.items → new.tracks.items ≡ advanced old.tracks.items g → new.at ≡ old.at
    → IsTimelineAt q words last (M ++ Slot g (next_at old.tracks.items g) ∷ []) new
slot_taken q words last M old new g T (within, x, here, live, all) no_word same_words after same_at =
    let ts = old.tracks.items in
    let next = next_is q last ts T.tracks g x here in
    let slots = T.tracks.slots g x here in
    let m = Slot g (next_at ts g) in
    let later : HasHappened q words last (M ++ m ∷ []) (drop old.at words) (next_at (advanced ts g)) =
    slot_happens q words last M g (drop old.at words) (next_at ts) (next_at (advanced ts g)) T.happened (omega (arith, next, live, slots))
    (advanced_at ts g x here) (λ h other. advanced_other ts g h x here other)
    (λ w ws is.
    let own : slice_get old.words.items old.at ≡ Some w = subst (λ (vs : List LogWord). slice_get vs old.at ≡ Some w) (sym T.words_are) (drop_head old.at words w ws is) in
    let before : x.next * slot_time < w.time * x.rate = elim (cases_lt (x.next * slot_time) (w.time * x.rate)) [
      | inl less ↦ less
      | inr most ↦ absurd (no_word w own (λ y there. subst (IsAfter w.time) (same_Some x y (sym here ∙ there)) most))
    ] in
    subst (λ (t : ℕ). Precedes q (Slot g t) (Word w)) (sym next) (slot_before_word q last ts T.tracks w g x here before))
    (λ h left.
    let (y, at, open_, own) = left_track q last ts T.tracks h left in
    subst (λ (t : ℕ). Precedes q (Slot g t) (Slot h (next_at ts h))) (sym next)
    (subst (λ (t : ℕ). Precedes q (Slot g x.next) (Slot h t)) (sym own) (slot_before_slot q last ts T.tracks g h x y here at (all h y (slice_get_within ts h y at) at open_)))) in
    record {
      words_are = same_words ∙ T.words_are;
      in_time = T.in_time;
      tracks = subst (AreTracks q last) (sym after) (advanced_tracks q last ts T.tracks g x here);
      happened = subst (λ (xs : List Track). HasHappened q words last (M ++ m ∷ []) (drop new.at words) (next_at xs)) (sym after)
          (subst (λ (n : ℕ). HasHappened q words last (M ++ m ∷ []) (drop n words) (next_at (advanced ts g))) (sym same_at) later);
    }

pub none_taken : (q : Proposed) (words : List LogWord) (last : ℕ) (M : List Moment) (old : Timeline) → IsTimelineAt q words last M old
    → IsNextTrack old.tracks.items (length old.tracks.items) None → ComesFirst old.words.items old.at old.tracks.items None None → IsTimeline q words last M
none_taken q words last M old T L no_word =
    let ts = old.tracks.items in
    all_happened q words last M (drop old.at words) (next_at ts) T.happened
    (drop_none old.at words (λ w at. no_word w (subst (λ (vs : List LogWord). slice_get vs old.at ≡ Some w) (sym T.words_are) at) tt))
    (done_by q last ts T.tracks (λ g x at. L g x (slice_get_within ts g x at) at))

-- ---- what is left

sum_set : (f : Track → ℕ) (xs : List Track) (i : ℕ) (x y : Track) → slice_get xs i ≡ Some x → sum_by f (slice_set xs i y) + f x ≡ sum_by f xs + f y
sum_set f xs i x y at =
    ap (λ (z : Track). sum_by f (slice_set xs i y) + f z) (sym (get_or_from_slice_get xs i x x at)) ∙ sum_by-set f xs i y x (slice_get_within xs i x at)

pub fewer_left : (tracks : List Track) (g : ℕ) (x : Track) → slice_get tracks g ≡ Some x → x.next < x.slots
    → sum_by (λ (z : Track). z.slots - z.next) (advanced tracks g) < sum_by (λ (z : Track). z.slots - z.next) tracks
fewer_left tracks g x at live =
    let more : Track = record x { next = x.next + 1 } in
    let after : advanced tracks g ≡ slice_set tracks g more = rw at refl in
    let f : Track → ℕ = λ z. z.slots - z.next in
    let sums = sum_set f tracks g x more at in
    subst (λ (ts : List Track). sum_by f ts < sum_by f tracks) (sym after) (omega (arith, sums, live))
