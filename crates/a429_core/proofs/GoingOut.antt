-- Accepted words go out in time.
use Rattle.std.proofs.Common.{◌≡◌, ℕ, suc, ◌+◌, ◌-◌, ◌*◌, ◌<◌, ◌≤◌, ◌⊎◌, Bool, true, false, true≢false, List, [], ◌∷◌, length, take, ◌∙◌, sym, ap, subst, refl, inl, inr, arith}
use Rattle.std.specs.Prelude.{Option, Some, None, ◌||◌, ◌&&◌, ◌==◌, cond, count_by, is_some, nat_le, slice_get, if◌then◌else◌}
use Rattle.std.specs.List.{list_any}
use Rattle.std.specs.Option.{option_map_or}
use Rattle.std.proofs.Math.Nat.{mul-le-mul_right, add-mul}
use Rattle.std.proofs.lemmas.Nat.{pow_pos}
use Rattle.std.proofs.lemmas.Bool.{and_parts, cases_Bool, cases_eq, cases_lt, eq-eqb, eqb-true, lt-leb}
use Rattle.std.proofs.lemmas.List.Sums.{sum_by-cons}
use Rattle.std.proofs.lemmas.Option.{none-some, same_Some, slice_get_within}
use Rattle.a429_word.proofs.Lists.{clash, some_word}
use Rattle.a429_slots.specs.declared.group_plan.SlotPlace.{SlotPlace}
use Rattle.a429_slots.specs.Tables.{Placed, SlotTable}
use Rattle.a429_slots.specs.Events.{Event, Arrive, Cell}
use Rattle.a429_slots.specs.History.{Opening, AnsweredCell, accepted_by, answered_cells, current, has_sent, is_cell, is_held, is_too_close, last_of, times_sent}
use Rattle.a429_slots.specs.Spacing.{IsOutputCell, IsSentWithin, IsTooClose, Sends, answered_at}
use Rattle.a429_slots.specs.declared.answers.Answer.TheVariants.{Sent}
use Rattle.a429_slots.proofs.Answered.{some_place}
use Rattle.a429_slots.proofs.SamePlan.{is_at}
use Rattle.a429_core.specs.Histories.{history_of}
use Rattle.a429_core.specs.Spaced.{AreSpaced, CellIsAnswered, is_held_at, last_word_at}
use Rattle.a429_core.specs.Latency.{AnswersOn, Clock, EachOutput, GoesOut, GoesOutWithin, HasCell, HasOutput, IsAcceptedAt, IsAcceptedBefore, IsEmptiedFirst, IsFresh, IsPlannedHistory, KeepsOutput, KeepsTime, MaySend, Passes, next_slot_on, period_of, wait_of}
use Rattle.a429_core.proofs.SpacedWords.{answer_is, answered_by, emptied, sends_last}
use Rattle.a429_core.proofs.Passing.{next_after}
use Rattle.a429_core.proofs.Rounds.{AreSpacedTables, HasCellFrom, apart_here, before_next, cell_here, comes_round, fewer, in_order, passes_on, set_of, sooner}
use Rattle.a429_core.proofs.Latest.{HasLatest, count_above, count_at, count_grows, latest_since}

-- ---- cells

-- what is said of each output of the source is true of the one in a cell
pub fits_cell : (o : Opening) (g : ℕ) (p : SlotTable) (E : List Event) (i k source l : ℕ) (Is : Placed → Type 0) (x : Placed) (s : ℕ) → EachOutput (history_of o g p E) i k source Is → i ≤ l → l < k → IsOutputCell o g p E l x s → x.source ≡ source → Is x
fits_cell o g p E i k source l Is x s each from before I same =
    let A = is_at (current o g p (take l E)).table I.cell.0 I.cell.1 x I.stands in
    each l from before A.number x A.row same

-- a cell comes after the word that was accepted before it
pub arrived_before : (C : ℕ) (o : Opening) (g : ℕ) (p : SlotTable) (E : List Event) (i l source : ℕ) (x : Placed) (s : ℕ) → IsAcceptedAt C o E i source → i ≤ l → IsOutputCell o g p E l x s → i < l
arrived_before C o g p E i l source x s A from I = elim (cases_eq i l) [
  | inr differs ↦ omega (arith, from, differs)
  | inl same ↦
      let both : Arrive A.receiver A.word ≡ Cell g = same_Some (Arrive A.receiver A.word) (Cell g) (sym A.came ∙ (ap (slice_get E) same ∙ I.asked)) in
      absurd (clash (ap (is_cell g) both ∙ eq-eqb g g refl))
]

-- ---- words that were not sent before

none_passes : {X : Type 0} (test : X → Bool) (xs : List X) → list_any test xs ≡ false → count_by test xs ≡ 0
none_passes test [] none = refl
none_passes test (x ∷ xs) none = elim (cases_Bool (test x)) [
  | inl yes' ↦ absurd (true≢false (sym (ap (λ (c : Bool). c || list_any test xs) yes') ∙ none))
  | inr no' ↦
      let rest = none_passes test xs (sym (ap (λ (c : Bool). c || list_any test xs) no') ∙ none) in
      sum_by-cons (λ y. cond (test y) 1 0) x xs ∙ rw no' (omega (arith, rest))
]

free_where_unsent : (hold : Option ℕ) (times : ℕ) → ((most : ℕ) → hold ≡ Some most → 0 < most) → times ≡ 0 → option_map_or (λ most. nat_le most times) hold false ≡ false
free_where_unsent None times some none = refl
free_where_unsent (Some most) times some none = let low : 0 < most = some most refl in lt-leb most times (omega (arith, low, none))

pub unheld : (C : ℕ) (o : Opening) (g : ℕ) (p : SlotTable) (E : List Event) (l : ℕ) (x : Placed) → x.limits.hold ≡ None → is_held_at C (history_of o g p E) l x ≡ false
unheld C o g p E l x none = ap (λ (h : Option ℕ). is_held (answered_cells C o g p (take l E)) x.source h (length (accepted_by C o x.source (take l E)))) none

emptied_where_close : (held close : Bool) (x : Option ℕ) → held ≡ false → close ≡ true → (if held || close then None else x) ≡ None
emptied_where_close held close x free near = rw (free, near) refl

-- what was sent was there
pub last_sent : (b : Bool) (x : Option ℕ) (w : ℕ) → (if b then None else x) ≡ Some w → x ≡ Some w
last_sent true x w h = absurd (none-some w h)
last_sent false x w h = h

-- ---- in a planned history

module _ (law : AreSpaced) (C : ℕ) (o : Opening) (g : ℕ) (p : SlotTable) (E : List Event) (H : IsPlannedHistory (history_of o g p E)) (spaced : AreSpacedTables o g p E) where
  -- from place i on and before place l the group sends a word of the source
  record SendsSince (i l source : ℕ) : Type 0 where
    pub place : ℕ
    pub from : i ≤ place
    pub before : place < l
    pub output : Placed
    pub slot : ℕ
    pub word : ℕ
    pub sends : Sends C o g p E place output slot word
    pub same : output.source ≡ source

  -- or the word that was accepted was not sent yet
  sent_or_not : (i l source : ℕ) → i < l → l ≤ length E → IsAcceptedAt C o E i source → SendsSince i l source ⊎ (times_sent (answered_cells C o g p (take l E)) source (count_at C o E source l) ≡ 0)
  sent_or_not i l source after few A =
      let count = count_at C o E source l in
      let test = λ (c : AnsweredCell). has_sent source c && c.count == count in
      elim (cases_Bool (list_any test (answered_cells C o g p (take l E)))) [
        | inr no' ↦ inr (none_passes test (answered_cells C o g p (take l E)) no')
        | inl any ↦
            let P = some_place C o g p E test l few any in
            let c = answered_at C o g p E P.place P.output P.slot in
            let (sent, numbered) = and_parts (has_sent source c) (c.count == count) P.passes in
            let (word, same) = and_parts (is_some c.word) (c.source == source) sent in
            let (w, is) = some_word c.word word in
            let own : P.output.source ≡ source = eqb-true P.output.source source same in
            let equal : count_at C o E P.output.source P.place ≡ count = eqb-true c.count count numbered in
            let counted : count_at C o E source P.place ≡ count = ap (λ (z : ℕ). count_at C o E z P.place) (sym own) ∙ equal in
            let early : P.place < l = P.before in
            elim (cases_lt P.place i) [
              | inl past ↦ absurd (omega (arith, counted, count_grows C o E source P.place i H.apart (omega (arith, past)) (omega (arith, after, few)), count_above C o E source i l H.apart A after few))
              | inr later ↦ inl (record { place = P.place; from = later; before = early; output = P.output; slot = P.slot; word = w; sends = record { cell = P.cell; sent = is }; same = own })
            ]
      ]

  free_or_sent : (i l q : ℕ) (x : Placed) → i < l → l ≤ length E → MaySend q x → IsAcceptedAt C o E i x.source → SendsSince i l x.source ⊎ (is_held_at C (history_of o g p E) l x ≡ false)
  free_or_sent i l q x after few may A = elim (sent_or_not i l x.source after few A) [
    | inl S ↦ inl S
    | inr none ↦ inr (free_where_unsent x.limits.hold (times_sent (answered_cells C o g p (take l E)) x.source (count_at C o E x.source l)) may.hold none)
  ]

  pub sends_latest : (l n : ℕ) (x : Placed) (s : ℕ) → IsOutputCell o g p E l x s → is_held_at C (history_of o g p E) l x ≡ false → (IsTooClose C o g p E l x s → ⊥) → (L : HasLatest C o (take l E) x.source n) → CellIsAnswered C (history_of o g p E) l x s (Some L.word)
  sends_latest l n x s I free far L = subst (λ (w : Option ℕ). CellIsAnswered C (history_of o g p E) l x s w) L.last (sends_last C o g p E l x s H.opens I free far)

  -- a word of the source that was sent since is the latest
  sent_since : (i k source end : ℕ) → k ≤ length E → IsAcceptedAt C o E i source → (a : ℕ) (y : Placed) (v w : ℕ) → i ≤ a → a < k → Sends C o g p E a y v w → y.source ≡ source → v < end → GoesOut C (history_of o g p E) i k source end
  sent_since i k source end few A a y v w from before S same high =
      let L = latest_since C o E source i a H.apart A (arrived_before C o g p E i a source y v A from S.cell) (omega (arith, before, few)) in
      let last : last_of (accepted_by C o y.source (take a E)) ≡ Some w = last_sent _ (last_of (accepted_by C o y.source (take a E))) w S.sent in
      let own : L.word ≡ w = same_Some L.word w (sym L.last ∙ (ap (λ (z : ℕ). last_of (accepted_by C o z (take a E))) (sym same) ∙ last)) in
      record {
        cell = record { place = a; from = from; before = before; output = y; same = same; slot = v; cell = S.cell; high = high };
        word = w;
        sent = answered_by C o g p E a y v w H.opens S;
        fresh = subst (λ (z : ℕ). IsFresh C o (take a E) source z i) own L.fresh;
      }

  -- A cell of the source that is close to no word sent before place i: by then the word goes out.
  pub out_by : (i k source end q : ℕ) → k ≤ length E → IsAcceptedAt C o E i source → (R : HasCell (history_of o g p E) i k source end) → MaySend q R.output
      → ((W : IsSentWithin C o g p E R.place R.output R.slot) → W.place < i → ⊥) → GoesOut C (history_of o g p E) i k source end
  out_by i k source end q few A R may far =
      let before : R.place < k = R.before in
      let high : R.slot < end = R.high in
      let after = arrived_before C o g p E i R.place source R.output R.slot A R.from R.cell in
      let near = is_too_close (answered_cells C o g p (take R.place E)) R.slot R.output.source R.output.limits.spacing in
      elim (cases_Bool near) [
        | inl close ↦
            let W = law.only C o g p E R.place R.output R.slot (omega (arith, before, few)) close in
            let early : W.place < R.place = W.before in
            elim (cases_lt W.place i) [
              | inl past ↦ absurd (far W past)
              | inr since ↦
                  let order = in_order o g p E W.place R.place W.earlier R.output W.at R.slot H.opens early W.sends.cell R.cell in
                  sent_since i k source end few A W.place W.earlier W.at W.word since (omega (arith, early, before)) W.sends (W.same ∙ R.same) (omega (arith, order, high))
            ]
        | inr apart ↦
            let own : IsAcceptedAt C o E i R.output.source = subst (IsAcceptedAt C o E i) (sym R.same) A in
            elim (free_or_sent i R.place q R.output after (omega (arith, before, few)) may own) [
              | inl S ↦
                  let early : S.place < R.place = S.before in
                  let order = in_order o g p E S.place R.place S.output R.output S.slot R.slot H.opens early S.sends.cell R.cell in
                  sent_since i k source end few A S.place S.output S.slot S.word S.from (omega (arith, early, before)) S.sends (S.same ∙ R.same) (omega (arith, order, high))
              | inr free ↦
                  let L = latest_since C o E R.output.source i R.place H.apart own after (omega (arith, before, few)) in
                  record {
                    cell = R;
                    word = L.word;
                    sent = sends_latest R.place i R.output R.slot R.cell free (λ close. true≢false (sym close ∙ apart)) L;
                    fresh = subst (λ (z : ℕ). IsFresh C o (take R.place E) z L.word i) R.same L.fresh;
                  }
            ]
      ]

  -- ---- cells far from those before

  -- if a cell of an output that stays comes between, those before it are a period before the next
  pub far_after : (h k source : ℕ) (at : SlotPlace) → k ≤ length E → KeepsOutput (history_of o g p E) h k source at → (j l : ℕ) (x y : Placed) (u s : ℕ) → h ≤ j → j < l → l < k → IsOutputCell o g p E j x u → x.source ≡ source
      → IsOutputCell o g p E l y s → y.source ≡ source → (W : IsSentWithin C o g p E l y s) → W.place < j + 1 → ⊥
  far_after h k source at few keeps j l x y u s from after before J own L same W past =
      let here = keeps l (omega (arith, from, after)) before in
      let fits : y.limits.spacing ≤ period_of at = (cell_here o g p E spaced l source at y s here L same).cell.spaced in
      let apart = apart_here o g p E spaced h k j l source at x y u s few keeps from after before J own L same in
      let close : s < W.at + y.limits.spacing = W.close in
      elim (cases_lt W.place j) [
        | inl early ↦ absurd (omega (arith, fits, apart, close, in_order o g p E W.place j W.earlier x W.at u H.opens early W.sends.cell J))
        | inr on ↦
            let is : W.place ≡ j = omega (arith, on, past) in
            let cell : IsOutputCell o g p E j W.earlier W.at = subst (λ (z : ℕ). IsOutputCell o g p E z W.earlier W.at) is W.sends.cell in
            let other = apart_here o g p E spaced h k j l source at W.earlier y W.at s few keeps from after before cell (W.same ∙ same) L same in
            absurd (omega (arith, fits, other, close))
      ]

  -- so are those since it stays
  far_since : (h k source : ℕ) (at : SlotPlace) → k ≤ length E → KeepsOutput (history_of o g p E) h k source at → (l : ℕ) (y : Placed) (s : ℕ) → l < k → IsOutputCell o g p E l y s → y.source ≡ source
      → (W : IsSentWithin C o g p E l y s) → h ≤ W.place → ⊥
  far_since h k source at few keeps l y s before L same W from =
      let early : W.place < l = W.before in
      let here = keeps l (omega (arith, from, early)) before in
      let fits : y.limits.spacing ≤ period_of at = (cell_here o g p E spaced l source at y s here L same).cell.spaced in
      let apart = apart_here o g p E spaced h k W.place l source at W.earlier y W.at s few keeps from early before W.sends.cell (W.same ∙ same) L same in
      let close : s < W.at + y.limits.spacing = W.close in
      omega (arith, fits, apart, close)

  -- so an output's cells are full, from the second on for which it stays
  pub full : (j k source : ℕ) (at : SlotPlace) (x now : Placed) (s t : ℕ) → j < k → KeepsOutput (history_of o g p E) j (k + 1) source at → IsOutputCell o g p E j x s → x.source ≡ source → IsOutputCell o g p E k now t → now.source ≡ source
      → is_held_at C (history_of o g p E) k now ≡ false → CellIsAnswered C (history_of o g p E) k now t (last_word_at C (history_of o g p E) k now)
  full j k source at x now s t after keeps J own K same free =
      let below : k < length E = slice_get_within E k (Cell g) K.asked in
      sends_last C o g p E k now t H.opens K free (λ close.
      let W = law.only C o g p E k now t below close in
      elim (cases_lt W.place (j + 1)) [
        | inl early ↦ far_after j (k + 1) source at (omega (arith, below)) keeps j k x now s t (omega arith) after (omega arith) J own K same W early
        | inr since ↦ far_since j (k + 1) source at (omega (arith, below)) keeps k now t (omega arith) K same W (omega (arith, since))
      ])

  -- a cell in a slot that is so far on is close to none before place i
  pub far_on : (i source q : ℕ) (at : SlotPlace) → i ≤ length E → HasOutput (current o g p (take i E)).table source at → (l : ℕ) (y : Placed) (s : ℕ) → y.source ≡ source → MaySend q y → next_slot_on (history_of o g p E) i at.bus + q ≤ s + 1
      → (W : IsSentWithin C o g p E l y s) → W.place < i → ⊥
  far_on i source q at few here l y s same may far W past =
      let close : s < W.at + y.limits.spacing = W.close in
      let spacing : y.limits.spacing ≤ q = may.spacing in
      omega (arith, close, spacing, far, before_next o g p E spaced W.place i source at W.earlier W.at H.opens few past here W.sends.cell (W.same ∙ same))

  -- ---- in one period

  pub in_time : (h a i k source q : ℕ) (at : SlotPlace) → h ≤ i → a ≤ i → i ≤ k → IsAcceptedBefore C o E a k source → KeepsOutput (history_of o g p E) h k source at → EachOutput (history_of o g p E) i k source (MaySend q)
      → Passes (history_of o g p E) h i at (period_of at) → Passes (history_of o g p E) i k at (period_of at) → GoesOut C (history_of o g p E) a k source (next_slot_on (history_of o g p E) i at.bus + period_of at)
  in_time h a i k source q at low old after A keeps may passes again =
      let end : ℕ = next_slot_on (history_of o g p E) i at.bus + period_of at in
      let few : k ≤ length E = A.few in
      let R = (comes_round o g p E spaced i k source at after few (fewer o g p E h i k k source at low (omega arith) keeps) again).cell in
      let Q = (comes_round o g p E spaced h i source at low (omega (arith, after, few)) (fewer o g p E h h i k source at (omega arith) after keeps) passes).cell in
      let from : i ≤ R.place = R.from in
      let mid : Q.place < i = Q.before in
      out_by a k source end q few A.word (sooner o g p E a i k k source end end old (omega arith) (omega arith) R) (fits_cell o g p E i k source R.place (MaySend q) R.output R.slot may R.from R.before R.cell R.same)
      (λ W past. elim (cases_lt W.place (Q.place + 1)) [
        | inl early ↦ far_after h k source at few keeps Q.place R.place Q.output R.output Q.slot R.slot Q.from (omega (arith, mid, from)) R.before Q.cell Q.same R.cell R.same W early
        | inr since ↦ let on : h ≤ Q.place = Q.from in far_since h k source at few keeps R.place R.output R.slot R.before R.cell R.same W (omega (arith, on, since))
      ])

  pub from_opening : (i k source q : ℕ) (at : SlotPlace) → IsAcceptedBefore C o E i k source → KeepsOutput (history_of o g p E) 0 k source at → EachOutput (history_of o g p E) i k source (MaySend q) → Passes (history_of o g p E) i k at (period_of at)
      → GoesOut C (history_of o g p E) i k source (next_slot_on (history_of o g p E) i at.bus + period_of at)
  from_opening i k source q at A keeps may again =
      let few : k ≤ length E = A.few in
      let R = (comes_round o g p E spaced i k source at A.after few (fewer o g p E 0 i k k source at (omega arith) (omega arith) keeps) again).cell in
      out_by i k source (next_slot_on (history_of o g p E) i at.bus + period_of at) q few A.word R (fits_cell o g p E i k source R.place (MaySend q) R.output R.slot may R.from R.before R.cell R.same)
      (λ W past. far_since 0 k source at few keeps R.place R.output R.slot R.before R.cell R.same W (omega arith))

  -- ---- or the cell is the first of its source

  pub in_time_or_first : (i k source q : ℕ) (at : SlotPlace) → IsAcceptedBefore C o E i k source → KeepsOutput (history_of o g p E) i k source at → EachOutput (history_of o g p E) i k source (MaySend q) → Passes (history_of o g p E) i k at (period_of at)
      → GoesOut C (history_of o g p E) i k source (next_slot_on (history_of o g p E) i at.bus + period_of at) ⊎ IsEmptiedFirst C (history_of o g p E) i k source (next_slot_on (history_of o g p E) i at.bus + period_of at)
  in_time_or_first i k source q at A keeps may passes =
      let end : ℕ = next_slot_on (history_of o g p E) i at.bus + period_of at in
      let few : k ≤ length E = A.few in
      let R = (comes_round o g p E spaced i k source at A.after few keeps passes).cell in
      let before : R.place < k = R.before in
      let high : R.slot < end = R.high in
      let after = arrived_before C o g p E i R.place source R.output R.slot A.word R.from R.cell in
      let fits = fits_cell o g p E i k source R.place (MaySend q) R.output R.slot may R.from R.before R.cell R.same in
      let own : IsAcceptedAt C o E i R.output.source = subst (IsAcceptedAt C o E i) (sym R.same) A.word in
      let near = is_too_close (answered_cells C o g p (take R.place E)) R.slot R.output.source R.output.limits.spacing in
      elim (free_or_sent i R.place q R.output after (omega (arith, before, few)) fits own) [
        | inl S ↦
            let early : S.place < R.place = S.before in
            let order = in_order o g p E S.place R.place S.output R.output S.slot R.slot H.opens early S.sends.cell R.cell in
            inl (sent_since i k source end few A.word S.place S.output S.slot S.word S.from (omega (arith, early, before)) S.sends (S.same ∙ R.same) (omega (arith, order, high)))
        | inr free ↦
            let L = latest_since C o E R.output.source i R.place H.apart own after (omega (arith, before, few)) in
            elim (cases_Bool near) [
              | inr apart ↦ inl (record {
                cell = R;
                word = L.word;
                sent = sends_latest R.place i R.output R.slot R.cell free (λ close. true≢false (sym close ∙ apart)) L;
                fresh = subst (λ (z : ℕ). IsFresh C o (take R.place E) z L.word i) R.same L.fresh;
              })
              | inl close ↦
                  let empty : CellIsAnswered C (history_of o g p E) R.place R.output R.slot None = record {
                    cell = R.cell;
                    answered = answer_is C o g p E R.place R.output R.slot H.opens R.cell
                        ∙ ap (λ (w : Option ℕ). Sent R.cell.cell.0 R.slot w) (emptied_where_close (is_held_at C (history_of o g p E) R.place R.output) near (last_of (accepted_by C o R.output.source (take R.place E))) free close);
                  } in
                  inr (record { cell = R; empty = empty; only = emptied law C o g p E R.place R.output R.slot L.word H.opens (spaced R.place) empty L.last free })
            ]
      ]

  -- ---- in any case

  -- a place from which on the slot is next on the bus of an output that stays
  record IsNextAt (i k bus slot : ℕ) : Type 0 where
    pub place : ℕ
    pub from : i ≤ place
    pub before : place ≤ k
    pub next : next_slot_on (history_of o g p E) place bus ≡ slot

  reach : (i k source slot : ℕ) (at : SlotPlace) → i ≤ k → k ≤ length E → KeepsOutput (history_of o g p E) i k source at → next_slot_on (history_of o g p E) i at.bus ≤ slot → slot ≤ next_slot_on (history_of o g p E) k at.bus → IsNextAt i k at.bus slot
  reach i k source slot at after few keeps low high = elim (cases_lt (next_slot_on (history_of o g p E) i at.bus) slot) [
    | inr least ↦ record { place = i; from = omega arith; before = after; next = omega (arith, low, least) }
    | inl more ↦
        let A = (passes_on o g p E spaced i k source at after few keeps).all (slot - 1) (omega (arith, more)) (omega (arith, more, high)) in
        let from : i ≤ A.place = A.from in
        let before : A.place < k = A.before in
        let inside = (set_of (current o g p (take A.place E)).table source at (spaced A.place) (keeps A.place A.from A.before)).on_a_bus in
        let counted : slot - 1 ≡ (current o g p (take A.place E)).first + A.in_frame = A.counted in
        record { place = suc A.place; from = omega (arith, from); before = omega (arith, before); next = omega (arith, next_after o g p E A.place at.bus A.in_frame A.asked inside A.due, counted, more) }
  ]

  -- from the place at which that slot is next, a cell comes within a period
  pub comes_from : (i k source slot : ℕ) (at : SlotPlace) → i ≤ k → k ≤ length E → KeepsOutput (history_of o g p E) i k source at → next_slot_on (history_of o g p E) i at.bus ≤ slot → slot + period_of at ≤ next_slot_on (history_of o g p E) k at.bus
      → HasCellFrom o g p E i k source slot (slot + period_of at)
  comes_from i k source slot at after few keeps low passes =
      let M = reach i k source slot at after few keeps low (omega (arith, passes)) in
      let from : i ≤ M.place = M.from in
      let next : next_slot_on (history_of o g p E) M.place at.bus ≡ slot = M.next in
      let R = comes_round o g p E spaced M.place k source at M.before few (fewer o g p E i M.place k k source at from (omega arith) keeps) (omega (arith, next, passes)) in
      let on : M.place ≤ R.cell.place = R.cell.from in
      let high : R.cell.slot < next_slot_on (history_of o g p E) M.place at.bus + period_of at = R.cell.high in
      let least : next_slot_on (history_of o g p E) M.place at.bus ≤ R.cell.slot = R.low in
      record {
        cell = record { place = R.cell.place; from = omega (arith, from, on); before = R.cell.before; output = R.cell.output; same = R.cell.same; slot = R.cell.slot; cell = R.cell.cell; high = omega (arith, high, next) };
        low = omega (arith, least, next);
      }

  pub in_any : (i k source q n : ℕ) (at : SlotPlace) → IsAcceptedBefore C o E i k source → KeepsOutput (history_of o g p E) i k source at → EachOutput (history_of o g p E) i k source (MaySend q) → period_of at ≤ n → period_of at + q ≤ n + 1 → Passes (history_of o g p E) i k at n
      → GoesOut C (history_of o g p E) i k source (next_slot_on (history_of o g p E) i at.bus + n)
  in_any i k source q n at A keeps may long more passes =
      let first : ℕ = next_slot_on (history_of o g p E) i at.bus in
      let few : k ≤ length E = A.few in
      let after : i ≤ k = A.after in
      let some : 0 < period_of at = pow_pos at.period in
      let F = comes_from i k source (first + (q - 1)) at after few keeps (omega arith) (omega (arith, passes, long, more)) in
      let R = sooner o g p E i i k k source (first + (q - 1) + period_of at) (first + n) (omega arith) (omega arith) (omega (arith, long, more)) F.cell in
      let low : first + (q - 1) ≤ R.slot = F.low in
      let fits = fits_cell o g p E i k source R.place (MaySend q) R.output R.slot may R.from R.before R.cell R.same in
      let here = keeps i (omega arith) (before_end i R.place k R.from R.before) in
      out_by i k source (first + n) q few A.word R fits (far_on i source q at (omega (arith, after, few)) here R.place R.output R.slot R.same fits (omega (arith, low)))
    where
      before_end : (i l k : ℕ) → i ≤ l → l < k → i < k
      before_end i l k from before = omega (arith, from, before)

  -- ---- time

  -- a slot that is n slots further ends n slot times later, if the slot before was answered
  pub ends_in_time : (a i bus slot first n last : ℕ) (clock : Clock) → AnswersOn (history_of o g p E) a i bus slot → first ≤ slot + 1 → last < first + n → KeepsTime (history_of o g p E) clock
      → (last + 1) * clock.slot_time ≤ clock.time i + (n + 1) * clock.slot_time
  ends_in_time a i bus slot first n last clock A near high T =
      let begun : slot * clock.slot_time ≤ clock.time A.place = T.begun a i bus slot A in
      let early : A.place < i = A.before in
      let onward : clock.time A.place ≤ clock.time i = T.onward A.place i (omega (arith, early)) in
      let fits : (last + 1) * clock.slot_time ≤ (slot + (n + 1)) * clock.slot_time = mul-le-mul_right {m = last + 1} {n = slot + (n + 1)} clock.slot_time (omega (arith, high, near)) in
      let split : (slot + (n + 1)) * clock.slot_time ≡ slot * clock.slot_time + (n + 1) * clock.slot_time = add-mul slot (n + 1) clock.slot_time in
      omega (arith, fits, split, begun, onward)

  -- if the output had stayed for a period, that slot was answered
  pub settled_time : (h i source first n last : ℕ) (at : SlotPlace) (clock : Clock) → h ≤ i → i ≤ length E → KeepsOutput (history_of o g p E) h i source at → Passes (history_of o g p E) h i at (period_of at)
      → first ≡ next_slot_on (history_of o g p E) i at.bus → last < first + n → KeepsTime (history_of o g p E) clock → (last + 1) * clock.slot_time ≤ clock.time i + (n + 1) * clock.slot_time
  settled_time h i source first n last at clock before few keeps passes is high T =
      let some : 0 < period_of at = pow_pos at.period in
      let A = (passes_on o g p E spaced h i source at before few keeps).all (first - 1) (omega (arith, passes, some, is)) (omega (arith, passes, some, is)) in
      ends_in_time h i at.bus (first - 1) first n last clock A (omega arith) high T

  pub latency : (h i k source q : ℕ) (at : SlotPlace) (clock : Clock) → h ≤ i → IsAcceptedBefore C o E i k source → KeepsOutput (history_of o g p E) h k source at → EachOutput (history_of o g p E) i k source (MaySend q)
      → Passes (history_of o g p E) h i at (period_of at) → Passes (history_of o g p E) i k at (period_of at) → KeepsTime (history_of o g p E) clock
      → GoesOutWithin C (history_of o g p E) (wait_of source i k (next_slot_on (history_of o g p E) i at.bus + period_of at)) clock ((period_of at + 1) * clock.slot_time)
  latency h i k source q at clock low A keeps may passes again T =
      let G = in_time h i i k source q at low (omega arith) A.after A keeps may passes again in
      let after : i ≤ k = A.after in
      let few : k ≤ length E = A.few in
      record {
        out = G;
        soon = settled_time h i source (next_slot_on (history_of o g p E) i at.bus) (period_of at) G.cell.slot at clock low (omega (arith, after, few)) (fewer o g p E h h i k source at (omega arith) after keeps) passes refl G.cell.high T;
      }
