-- What a transmitter knows of goes out in time: its calls are a run, of which the machine's law speaks.
use Rattle.std.proofs.Common.{◌≡◌, ℕ, zero, suc, ◌+◌, ◌-◌, ◌^◌, ◌<◌, ◌≤◌, List, [], ◌∷◌, ◌++◌, length, take, map, ◌∙◌, sym, ap, subst, refl, inl, inr, arith}
use Rattle.std.specs.Prelude.{Option, Some, None, filter, filter_map, option_map, slice_get}
use Rattle.std.specs.List.{AllByRecursion, zip}
use Rattle.std.specs.Option.{option_map_or}
use Rattle.std.proofs.Math.Seq.{take-length}
use Rattle.std.proofs.lemmas.Bool.{cases_eq, cases_lt}
use Rattle.std.proofs.lemmas.List.{length-append, length-take}
use Rattle.std.proofs.lemmas.Nat.{pow_pos}
use Rattle.std.proofs.lemmas.Option.{none-some, same_Some, slice_get_within}
use Rattle.a429_word.proofs.Lists.{all_at, get_within}
use Rattle.a429_equipment.specs.Arrivals.{SourcesAreApart}
use Rattle.a429_equipment.specs.declared.loads.Load.{Load}
use Rattle.a429_equipment.specs.declared.rows.SourceRow.{SourceRow}
use Rattle.a429_slots.specs.declared.group_plan.SlotPlace.{SlotPlace}
use Rattle.a429_slots.specs.Tables.{Placed, SlotTable, output_in}
use Rattle.a429_slots.specs.Proposed.{Proposed}
use Rattle.a429_slots.specs.Events.{Event, Arrive, Cell, Frame, Publish}
use Rattle.a429_slots.specs.History.{Opening, AnsweredCell, accepted_by, accepted_in, cell_due, current}
use Rattle.a429_slots.specs.GoingOn.{OthersPass, TellsNextCell, stands_after}
use Rattle.a429_slots.specs.FrameStates.{FrameState, next_cell}
use Rattle.a429_slots.specs.Spacing.{HaveOwnPlans, IsOwnPlan}
use Rattle.a429_slots.specs.declared.answers.Answer.{Answer}
use Rattle.a429_slots.specs.declared.answers.Answer.TheVariants.{Sent, Published, Refused}
use Rattle.a429_slots.specs.declared.answers.Refusal.TheVariants.{FrameEnd}
use Rattle.a429_slots.specs.Answers.{answer, answers}
use Rattle.a429_slots.proofs.Histories.{take_following}
use Rattle.a429_core.specs.Sends.{WordsAreAcceptedOneByOne}
use Rattle.a429_core.specs.Histories.{history_of}
use Rattle.a429_core.specs.Latency.{AcceptedWordsGoOutInTime, IsAcceptedAt, next_on, next_slot_on, period_of}
use Rattle.a429_workers.specs.Calls.{Call, Carried, Asks, Turns, Meets, GroupState, AreLawful, IsAnswered, IsLawful, after, before_calls, loads_of, state_after, word_of}
use Rattle.a429_workers.specs.Runs.{IsRun, IsWorking, WorkIsOneRun, answered, event_of, is_publish, is_sending, turn_answer}
use Rattle.a429_callers.specs.KnownWords.{GroupCalls, HasSpacedOutput, IsKnownBy, KnownWordsGoOutInTime, SendsKnown, StaysInCalls, calls_of, frame_after, next_after}
use Rattle.a429_callers.proofs.RunPlaces.{CutsAlike, adds_one, at_count, count_at, count_grows, earlier, length-answers, nth, on_the_way, same_place, stands_alike}

-- what the crates below promise
pub record AreLaws : Type 0 where
  pub run : WorkIsOneRun
  pub pass : OthersPass
  pub next : TellsNextCell
  pub alike : CutsAlike
  pub words : WordsAreAcceptedOneByOne
  pub out : AcceptedWordsGoOutInTime

-- ---- lists

many_by : {X Y : Type 0} (f : X → Option Y) (xs : List X) (a d : ℕ) → length (filter_map f (take a xs)) ≤ length (filter_map f (take (d + a) xs))
many_by f xs a zero =
    let same : zero + a ≡ a = omega arith in
    omega (arith, ap (λ (n : ℕ). length (filter_map f (take n xs))) same)
many_by f xs a (suc d) =
    let on : suc d + a ≡ suc (d + a) = omega arith in
    omega (arith, ap (λ (n : ℕ). length (filter_map f (take n xs))) on, adds_one f xs (d + a), many_by f xs a d)

many_grow : {X Y : Type 0} (f : X → Option Y) (xs : List X) (a b : ℕ) → a ≤ b → length (filter_map f (take a xs)) ≤ length (filter_map f (take b xs))
many_grow f xs a b after =
    let rest : (b - a) + a ≡ b = omega (arith, after) in
    subst (λ (z : ℕ). length (filter_map f (take a xs)) ≤ length (filter_map f (take z xs))) rest (many_by f xs a (b - a))

-- ---- plans

abbrev IsOwnEvent : Event → Type 0
IsOwnEvent (Publish q) = IsOwnPlan q
IsOwnEvent (Arrive r raw) = Unit {0}
IsOwnEvent (Cell g) = Unit {0}
IsOwnEvent (Frame g) = Unit {0}

own_events : (later : List Proposed) → AllByRecursion IsOwnPlan later → AllByRecursion (λ (x : Event × Answer). IsOwnEvent x.0) (map (λ q. (Publish q, Published q.plan.number)) later)
own_events [] all = tt
own_events (q ∷ later) all = (all.0, own_events later all.1)

own_in : (before after : List Event) (q : Proposed) (replies : List Answer) → length replies ≡ length (before ++ Publish q ∷ after)
    → AllByRecursion (λ (x : Event × Answer). IsOwnEvent x.0) (filter (λ x. is_publish x.0) (zip (before ++ Publish q ∷ after) replies)) → IsOwnPlan q
own_in [] after q [] long all = absurd (omega (arith, long))
own_in [] after q (a ∷ replies) long all = all.0
own_in (e ∷ before) after q [] long all = absurd (omega (arith, long))
own_in (Publish r ∷ before) after q (a ∷ replies) long all = own_in before after q replies (omega (arith, long)) all.1
own_in (Arrive r raw ∷ before) after q (a ∷ replies) long all = own_in before after q replies (omega (arith, long)) all
own_in (Cell g ∷ before) after q (a ∷ replies) long all = own_in before after q replies (omega (arith, long)) all
own_in (Frame g ∷ before) after q (a ∷ replies) long all = own_in before after q replies (omega (arith, long)) all

own_plans : (C : ℕ) (o : Opening) (g : ℕ) (later : List Proposed) (calls : List Call) (heard : ℕ → List (ℕ × ℕ)) (E : List Event) → IsRun C o g later calls heard E → IsOwnPlan o.proposal → AllByRecursion IsOwnPlan later → HaveOwnPlans o E
own_plans C o g later calls heard E R opened all = record {
  opening = opened;
  published = λ before after q split.
      let own : AllByRecursion (λ (x : Event × Answer). IsOwnEvent x.0) (filter (λ x. is_publish x.0) (answered C o E)) =
      subst (AllByRecursion (λ (x : Event × Answer). IsOwnEvent x.0)) (sym R.publications) (own_events later all) in
      own_in before after q (answers C o [] (before ++ Publish q ∷ after)) (length-answers C o [] (before ++ Publish q ∷ after))
      (subst (λ (F : List Event). AllByRecursion (λ (x : Event × Answer). IsOwnEvent x.0) (filter (λ x. is_publish x.0) (answered C o F))) split own);
}

-- ---- accepted words

abbrev words_at : ℕ → Opening → List Event → ℕ → ℕ → ℕ
words_at C o E source m = length (accepted_by C o source (take m E))

none_yet : (C : ℕ) (o : Opening) (source : ℕ) → length (accepted_by C o source []) ≡ 0
none_yet C o source = by (slice_get o.proposal.station.sources source)
  where
    by : (s : Option SourceRow) → length (option_map_or (λ r. accepted_in C o r []) s []) ≡ 0
    by None = refl
    by (Some r) = omega (arith, length-take (2 ^ C - 1) (let none : List ℕ = [] in none))

words_next : WordsAreAcceptedOneByOne → (C : ℕ) (o : Opening) (E : List Event) (source m : ℕ) → SourcesAreApart o.proposal.station.sources → m < length E → words_at C o E source m ≤ words_at C o E source (suc m)
words_next law C o E source m apart below =
    let (e, there) = get_within E m below in
    let on : words_at C o E source (suc m) ≡ length (accepted_by C o source (take m E ++ e ∷ [])) = ap (λ (F : List Event). length (accepted_by C o source F)) (take_following E m e there) in
    elim (law C o (take m E) source e apart) [
      | inl W ↦ omega (arith, on, ap (λ (ws : List ℕ). length ws) W.more, length-append (accepted_by C o source (take m E)) (W.word ∷ []))
      | inr N ↦ omega (arith, on, ap (λ (ws : List ℕ). length ws) N.same)
    ]

words_by : WordsAreAcceptedOneByOne → (C : ℕ) (o : Opening) (E : List Event) (source a d : ℕ) → SourcesAreApart o.proposal.station.sources → d + a ≤ length E → words_at C o E source a ≤ words_at C o E source (d + a)
words_by law C o E source a zero apart few =
    let same : zero + a ≡ a = omega arith in
    omega (arith, ap (words_at C o E source) same)
words_by law C o E source a (suc d) apart few =
    let on : suc d + a ≡ suc (d + a) = omega arith in
    omega (arith, ap (words_at C o E source) on, words_next law C o E source (d + a) apart (omega (arith, few)), words_by law C o E source a d apart (omega (arith, few)))

words_grow : WordsAreAcceptedOneByOne → (C : ℕ) (o : Opening) (E : List Event) (source a b : ℕ) → SourcesAreApart o.proposal.station.sources → a ≤ b → b ≤ length E → words_at C o E source a ≤ words_at C o E source b
words_grow law C o E source a b apart after few =
    let rest : (b - a) + a ≡ b = omega (arith, after) in
    subst (λ (z : ℕ). words_at C o E source a ≤ words_at C o E source z) rest (words_by law C o E source a (b - a) apart (omega (arith, few, rest)))

-- the place at which the source accepted its word of this number
record IsAcceptedBy (C : ℕ) (o : Opening) (E : List Event) (source n m : ℕ) : Type 0 where
  pub place : ℕ
  pub before : place < m
  pub accepted : IsAcceptedAt C o E place source
  pub enough : n ≤ words_at C o E source (suc place)

accepted_at : WordsAreAcceptedOneByOne → (C : ℕ) (o : Opening) (E : List Event) (source n m : ℕ) → SourcesAreApart o.proposal.station.sources → m ≤ length E → 1 ≤ n → n ≤ words_at C o E source m → IsAcceptedBy C o E source n m
accepted_at law C o E source n zero apart few some enough = absurd (omega (arith, some, enough, none_yet C o source))
accepted_at law C o E source n (suc m) apart few some enough =
    let (e, there) = get_within E m (omega (arith, few)) in
    let on : words_at C o E source (suc m) ≡ length (accepted_by C o source (take m E ++ e ∷ [])) = ap (λ (F : List Event). length (accepted_by C o source F)) (take_following E m e there) in
    elim (cases_lt (words_at C o E source m) n) [
      | inr there' ↦
          let A = accepted_at law C o E source n m apart (omega (arith, few)) some there' in
          let before : A.place < m = A.before in
          record { place = A.place; before = omega (arith, before); accepted = A.accepted; enough = A.enough }
      | inl fewer ↦ elim (law C o (take m E) source e apart) [
        | inr N ↦ absurd (omega (arith, enough, fewer, on, ap (λ (ws : List ℕ). length ws) N.same))
        | inl W ↦ record {
          place = m;
          before = omega arith;
          accepted = record { receiver = W.receiver; word = W.word; came = there ∙ ap (λ (x : Event). Some x) W.event; accepted = ap (λ (x : Event). answer C o (take m E) x) (sym W.event) ∙ W.answered };
          enough = enough;
        }
      ]
    ]

-- ---- calls

lawful_at : (g : ℕ) (p : SlotTable) (s : GroupState) (calls : List Call) (n : ℕ) (c : Call) → AreLawful g p s calls → slice_get calls n ≡ Some c → IsLawful g p (state_after g p s (take n calls)) c
lawful_at g p s [] n c all there = absurd (none-some c there)
lawful_at g p s (d ∷ calls) zero c all there = subst (IsLawful g p s) (same_Some d c there) all.0
lawful_at g p s (d ∷ calls) (suc n) c all there = lawful_at g p (after g p s d) calls n c all.1 there

-- the call of an event that sends a word
record IsCellCall (call : Call) (bus slot : ℕ) (word : Option ℕ) : Type 0 where
  pub cell : Carried
  pub is : call ≡ Asks (Some cell)
  pub slot_is : cell.slot ≡ slot
  pub word_is : cell.word ≡ word

cell_call : (g : ℕ) (call : Call) (bus slot : ℕ) (word : Option ℕ) → event_of g call ≡ Some (Cell g, Sent bus slot word) → IsCellCall call bus slot word
cell_call g (Asks (Some c)) bus slot word h =
    let all = same_Some (Cell g, Sent c.bus c.slot c.word) (Cell g, Sent bus slot word) h in
    let same : Sent c.bus c.slot c.word ≡ Sent bus slot word = ap (λ (x : Event × Answer). x.1) all in
    record { cell = c; is = refl; slot_is = cc; word_is = cc }
cell_call g (Asks None) bus slot word h =
    let all = same_Some (Cell g, Refused FrameEnd) (Cell g, Sent bus slot word) h in
    let no' : Refused FrameEnd ≡ Sent bus slot word = ap (λ (x : Event × Answer). x.1) all in
    absurd (cc)
cell_call g (Turns plans t) bus slot word h =
    let all = same_Some (Frame g, turn_answer t) (Cell g, Sent bus slot word) h in
    let no' : Frame g ≡ Cell g = ap (λ (x : Event × Answer). x.0) all in
    absurd (cc)
cell_call g (Meets loads) bus slot word h = absurd (none-some (Cell g, Sent bus slot word) h)

-- a word goes out only by a load
no_word : (earlier : List AnsweredCell) (slot : ℕ) (output : Option Placed) → word_of earlier slot output None ≡ None
no_word earlier slot None = refl
no_word earlier slot (Some x) = refl

loaded_for : (earlier : List AnsweredCell) (slot w : ℕ) (output : Option Placed) (load : Option Load) (word : Option ℕ) → word ≡ word_of earlier slot output load → word ≡ Some w → (l : Load) × (load ≡ Some l)
loaded_for earlier slot w output None word is sent = absurd (none-some w (sym (no_word earlier slot output) ∙ (sym is ∙ sent)))
loaded_for earlier slot w output (Some l) word is sent = (l, refl)

-- ---- the law

module _ (law : AreLaws) (C : ℕ) (o : Opening) (g : ℕ) (p : SlotTable) (later : List Proposed) (calls : List Call) (heard : ℕ → List (ℕ × ℕ)) (W : IsWorking C o g p later calls heard)
    (E : List Event) (R : IsRun C o g later calls heard E) where
  abbrev made : GroupCalls
  made = calls_of o g p calls

  abbrev place_of : ℕ → ℕ
  place_of n = (R.places p n W.opens).place

  abbrev many : ℕ → ℕ
  many n = length (filter_map (event_of g) (take n calls))

  few : (n : ℕ) → place_of n ≤ length E
  few n = (R.places p n W.opens).within

  counted : (n : ℕ) → count_at law.alike C o E (place_of n) ≡ many n
  counted n = ap (λ (xs : List (Event × Answer)). length xs) (R.places p n W.opens).sends

  -- if the same number of cells and frames come before, the group is in the state after the calls
  stands : (m n : ℕ) → m ≤ length E → count_at law.alike C o E m ≡ many n → stands_after o g p (take m E) ≡ frame_after made n
  stands m n within same = stands_alike law.alike C o E law.pass g p m (place_of n) within (few n) (same ∙ sym (counted n)) ∙ (R.places p n W.opens).frame

  -- so its output stays from place to place
  sender_at : (h k source : ℕ) (at : SlotPlace) (q : ℕ) → h ≤ k → StaysInCalls made h k source at q → (m : ℕ) → place_of h ≤ m → m ≤ place_of k → HasSpacedOutput (current o g p (take m E)).table source at q
  sender_at h k source at q after stays m from to =
      let within : m ≤ length E = omega (arith, to, few k) in
      let S = on_the_way (event_of g) calls h k (count_at law.alike C o E m) after
      (omega (arith, counted h, count_grows law.alike C o E (place_of h) m from within)) (omega (arith, counted k, count_grows law.alike C o E m (place_of k) to (few k))) in
      subst (λ (s : FrameState). HasSpacedOutput s.table source at q) (sym (stands m S.number within (sym S.many))) (stays S.number S.from S.to)

  -- a slot passes only if a cell or a frame does
  later_place : (a b bus : ℕ) → a ≤ b → next_after made a bus < next_after made b bus → place_of a < place_of b
  later_place a b bus after less = elim (cases_lt (many a) (many b)) [
    | inl more ↦ earlier law.alike C o E (place_of a) (place_of b) (few a) (omega (arith, more, counted a, counted b))
    | inr none ↦
        let same : many a ≡ many b = omega (arith, none, many_grow (event_of g) calls a b after) in
        let frames : frame_after made a ≡ frame_after made b = sym (R.places p a W.opens).frame ∙ stands (place_of a) b (few a) (counted a ∙ same) in
        absurd (omega (arith, less, ap (λ (s : FrameState). next_on s bus) frames))
  ]

  -- the cell in which a word of the source is sent, as a call
  sent_in_call : (m k source slot word count first : ℕ) (x : Placed) (bus : ℕ) (cell : ℕ × ℕ) → SourcesAreApart o.proposal.station.sources → slice_get E m ≡ Some (Cell g) → cell_due g (current o g p (take m E)) ≡ Some cell
      → output_in (current o g p (take m E)).table cell.0 cell.1 ≡ Some x → x.source ≡ source → answer C o (take m E) (Cell g) ≡ Sent bus slot (Some word) → m < place_of k → slot < first
      → ((l : Load) → words_at C o E l.source m ≡ l.count → l.source ≡ source → count ≤ l.count) → SendsKnown calls k source count first
  sent_in_call m k source slot word count first x bus cell apart asked due there same told before high enough =
      let below : m < length E = slice_get_within E m (Cell g) asked in
      let all : take (length E) E ≡ E = take-length E in
      let number = count_at law.alike C o E m in
      let N = at_count law.alike C o E m (length E) (Cell g) asked refl below (omega arith) in
      let event : slice_get (filter_map (event_of g) calls) number ≡ Some (Cell g, Sent bus slot (Some word)) =
      ap (λ (xs : List (Event × Answer)). slice_get xs number) (sym R.sends)
      ∙ (ap (λ (F : List Event). slice_get (filter (λ x. is_sending x.0) (answered C o F)) number) (sym all) ∙ (N.0 ∙ ap (λ (a : Answer). Some (Cell g, a)) told)) in
      let J = nth (event_of g) calls number (Cell g, Sent bus slot (Some word)) event in
      let j = J.number in
      let D = cell_call g J.x bus slot (Some word) J.is in
      let c = D.cell in
      let call : slice_get calls j ≡ Some (Asks (Some c)) = J.there ∙ ap (λ (z : Call). Some z) D.is in
      let L : IsAnswered (state_after g p (before_calls o.proposal.plan p o.first) (take j calls)) c = lawful_at g p (before_calls o.proposal.plan p o.first) calls j (Asks (Some c)) W.lawful call in
      let (l, loaded) = loaded_for (state_after g p (before_calls o.proposal.plan p o.first) (take j calls)).earlier c.slot word (output_in (frame_after made j).table L.cell.0 L.cell.1) c.load c.word L.word D.word_is in
      let stand = stands m j (omega (arith, below)) (sym J.before) in
      let due_here : next_cell (frame_after made j) ≡ Some cell = ap next_cell (sym stand) ∙ (sym (law.next g (current o g p (take m E))) ∙ due) in
      let one : L.cell ≡ cell = same_Some L.cell cell (sym L.due ∙ due_here) in
      let output : output_in (frame_after made j).table L.cell.0 L.cell.1 ≡ Some x =
      ap (λ (z : ℕ × ℕ). output_in (frame_after made j).table z.0 z.1) one ∙ (ap (λ (s : FrameState). output_in s.table cell.0 cell.1) (sym stand) ∙ there) in
      let sources : Some l.source ≡ Some x.source = ap (option_map (λ (y : Load). y.source)) (sym loaded) ∙ (L.load ∙ ap (option_map (λ (y : Placed). y.source)) output) in
      let own : l.source ≡ source = same_Some l.source x.source sources ∙ same in
      let K = R.cells j c l call loaded in
      let at : m ≡ K.place = same_place law.alike C o E m K.place (Cell g) (Cell g) asked refl K.asked refl (sym J.before ∙ sym (ap (λ (xs : List (Event × Answer)). length xs) K.sends)) in
      let words : words_at C o E l.source m ≡ l.count = ap (words_at C o E l.source) at ∙ ap (λ (z : ℕ × Option ℕ). z.0) K.latest in
      record {
        number = j;
        before = elim (cases_lt j k) [
          | inl lt ↦ lt
          | inr ge ↦ absurd (omega (arith, J.before, many_grow (event_of g) calls k j ge, counted k, (at_count law.alike C o E m (place_of k) (Cell g) asked refl before (few k)).1))
        ];
        cell = c;
        asked = call;
        high = omega (arith, D.slot_is, high);
        load = l;
        loaded = loaded;
        same = own;
        enough = enough l words own;
        word = word;
        sent = D.word_is;
      }

  out_in_time : (h i k source : ℕ) (at : SlotPlace) (q count : ℕ) → SourcesAreApart o.proposal.station.sources → IsOwnPlan o.proposal → AllByRecursion IsOwnPlan later → h ≤ i → i ≤ k → StaysInCalls made h k source at q
      → IsKnownBy calls i source count → 1 ≤ count → next_after made h at.bus + period_of at ≤ next_after made i at.bus → next_after made i at.bus + period_of at ≤ next_after made k at.bus
      → SendsKnown calls k source count (next_after made i at.bus + period_of at)
  out_in_time h i k source at q count apart opened own low after stays K some settled passes =
      let period : 0 < period_of at = pow_pos at.period in
      let first = later_place h i at.bus low (omega (arith, settled, period)) in
      let then' = later_place i k at.bus after (omega (arith, passes, period)) in
      let next_is : (n : ℕ) → next_slot_on (history_of o g p E) (place_of n) at.bus ≡ next_after made n at.bus = λ n. ap (λ (s : FrameState). next_on s at.bus) (R.places p n W.opens).frame in
      let shown : K.load.count ≤ words_at C o E K.load.source (place_of i) = all_at (λ (l : Load). l.count ≤ words_at C o E l.source (place_of i)) (loads_of (take i calls)) K.number K.load (R.places p i W.opens).loaded K.there in
      let enough : count ≤ words_at C o E source (place_of i) = omega (arith, K.enough, shown, ap (λ (z : ℕ). words_at C o E z (place_of i)) K.same) in
      let A = accepted_at law.words C o E source count (place_of i) apart (few i) some enough in
      let by : A.place < place_of i = A.before in
      let G = law.out C (history_of o g p E) (place_of h) A.place (place_of i) (place_of k) source at q (record { apart = apart; opens = W.opens; own = own_plans C o g later calls heard E R opened own })
      (record { word = A.accepted; after = omega (arith, by, then'); few = few k }) (omega (arith, by)) (omega (arith, then')) (omega (arith, first))
      (λ m from below. (sender_at h k source at q (omega (arith, low, after)) stays m from (omega (arith, below))).output)
      (λ m from below. (sender_at h k source at q (omega (arith, low, after)) stays m (omega (arith, from, first)) (omega (arith, below))).may)
      (omega (arith, next_is h, next_is i, settled)) (omega (arith, next_is i, next_is k, passes)) in
      let I = G.cell.cell in
      let m = G.cell.place in
      let from : A.place ≤ m = G.cell.from in
      let past : A.place < m = elim (cases_eq A.place m) [
        | inr differs ↦ omega (arith, from, differs)
        | inl is ↦ let no' : Arrive A.accepted.receiver A.accepted.word ≡ Cell g = same_Some (Arrive A.accepted.receiver A.accepted.word) (Cell g) (sym A.accepted.came ∙ (ap (slice_get E) is ∙ I.asked)) in absurd (cc)
      ] in
      let high : G.cell.slot < next_slot_on (history_of o g p E) (place_of i) at.bus + period_of at = G.cell.high in
      let before : m < place_of k = G.cell.before in
      sent_in_call m k source G.cell.slot G.word count (next_after made i at.bus + period_of at) G.cell.output G.sent.cell.cell.0 I.cell apart I.asked I.due I.stands G.cell.same G.sent.answered before
      (omega (arith, high, next_is i))
      (λ l words same. omega (arith, A.enough, words_grow law.words C o E source (suc A.place) m apart (omega (arith, past)) (omega (arith, before, few k)), words, ap (λ (z : ℕ). words_at C o E z m) same))

pub known_in_time : AreLaws → KnownWordsGoOutInTime
known_in_time law C o g p later calls heard W apart opened own h i k source at q count low after few stays K some settled passes =
    let R = law.run C o g p later calls heard W in
    out_in_time law C o g p later calls heard W R.events R.is h i k source at q count apart opened own low after stays K some settled passes
