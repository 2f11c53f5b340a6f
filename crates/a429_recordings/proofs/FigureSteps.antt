-- The figures of a simulation, by what happens in it.
use Rattle.std.proofs.Common.{◌≡◌, ◌∙◌, ◌+◌, ◌*◌, ◌<◌, ◌⊎◌, ℕ, zero, suc, Bool, true, false, inl, inr, List, [], ◌∷◌, ◌++◌, length, refl, sym, ap, subst, append-nil, eq-eqb, arith, replicate}
use Rattle.std.specs.Prelude.{◌==◌, ◌&&◌, Option, Some, None, filter_map, if◌then◌else◌, nat_lt, option_and_then, slice_get, slice_set}
use Rattle.std.specs.Option.{option_map_or}
use Rattle.std.proofs.lemmas.Bool.{and_parts, cases_eq, eqb-true, lt-ltb, ltb-true, ne_eqb}
use Rattle.std.proofs.lemmas.List.{append_cancel_right}
use Rattle.std.proofs.lemmas.List.Elements.{filter_map-append}
use Rattle.std.proofs.lemmas.Option.{none-some, same_Some, slice_get_within}
use Rattle.a429_word.proofs.Lists.{get_set_other, get_set_same}
use Rattle.a429_equipment.specs.Agreement.{last_of}
use Rattle.a429_equipment.proofs.Cutting.{last_push}
use Rattle.a429_slots.specs.Proposed.{Proposed}
use Rattle.a429_slots.specs.declared.answers.Answer.{Answer}
use Rattle.a429_slots.specs.declared.answers.Answer.TheVariants.{Accepted, Sent, Changed, Published, Refused}
use Rattle.a429_slots.proofs.Histories.{by_ends}
use Rattle.a429_recordings.specs.Simulating.{Step, Asks, Comes, Turns, answer_after, happening_after, happening_by, happenings_of, last_word, listed, source_in, times_of, word_sent}
use Rattle.a429_recordings.specs.Summary.{send_in, sends_of}
use Rattle.a429_recordings.specs.SummaryRuns.{HasFigures, figures_after, figures_at, figures_more, figures_noted, figures_of, figures_with, nothing_sent, place_of}
use Rattle.a429_recordings.specs.Timeline.{rate_of}
use Rattle.a429_recordings.specs.declared.simulate.figures.OutputFigures.{OutputFigures}
use Rattle.a429_recordings.specs.declared.simulate.figures.OutputSend.{OutputSend}
use Rattle.a429_recordings.specs.declared.simulate.machine.Happening.{Happening}
use Rattle.a429_recordings.specs.declared.simulate.machine.Happening.TheVariants.{Refuses, Sends}
use Rattle.a429_recordings.specs.declared.simulate.machine.SentWord.{SentWord}
use Rattle.a429_recordings.proofs.SendFigures.{AreUpTo, figures_push, none_up_to, up_to_later, up_to_push}
use Rattle.a429_recordings.proofs.SimulatedSteps.{happenings_more, times_grow}

-- ---- a group sends the words of a source one after another

-- nothing more of a source is sent, or only its last accepted word, which has this number
SendsOne : ℕ → List OutputSend → Type 0
SendsOne n sends = (sends ≡ []) ⊎ ((s : OutputSend) × (sends ≡ s ∷ []) × (s.word ≡ n))

sent_own : (g i : ℕ) (s : SentWord) (n : ℕ) → (s.source ≡ i → s.send.word ≡ n) → SendsOne n (sends_of g i (Sends s ∷ []))
unfolding SendsOne
sent_own g i s n is = by (s.group == g) (s.source == i) refl
  where
    by : (a b : Bool) → (s.source == i) ≡ b → SendsOne n (filter_map (λ (x : Option OutputSend). x) ((if a && b then Some s.send else None) ∷ []))
    by true true own = inr (s.send, refl, is (eqb-true s.source i own))
    by true false own = inl refl
    by false b own = inl refl

sent_by : (q : Proposed) (g i : ℕ) (times : ℕ → List ℕ) (step : Step) (a : Answer) → SendsOne (length (times i)) (sends_of g i (listed (happening_by q times step a)))
unfolding SendsOne
sent_by q g i times (Comes w) (Refused why) = inl refl
sent_by q g i times (Comes w) (Accepted source) = inl refl
sent_by q g i times (Comes w) (Sent bus slot word) = inl refl
sent_by q g i times (Comes w) (Changed plan) = inl refl
sent_by q g i times (Comes w) (Published plan) = inl refl
sent_by q g i times (Turns h) a = inl refl
sent_by q g i times (Asks h t) (Sent bus slot (Some raw)) =
    sent_own g i (word_sent h t bus raw (source_in q h bus slot) (last_word (times (source_in q h bus slot)))) (length (times i)) (λ own. ap (λ (k : ℕ). length (times k)) own)
sent_by q g i times (Asks h t) (Sent bus slot None) = inl refl
sent_by q g i times (Asks h t) (Accepted source) = inl refl
sent_by q g i times (Asks h t) (Changed plan) = inl refl
sent_by q g i times (Asks h t) (Published plan) = inl refl
sent_by q g i times (Asks h t) (Refused why) = inl refl

up_to_more : (n : ℕ) (sends more : List OutputSend) → SendsOne n more → AreUpTo n sends → AreUpTo n (sends ++ more)
unfolding SendsOne
up_to_more n sends more (inl none) U = subst (AreUpTo n) (sym (ap (λ (l : List OutputSend). sends ++ l) none ∙ append-nil sends)) U
up_to_more n sends more (inr (s, one, word)) U =
    subst (AreUpTo n) (sym (ap (λ (l : List OutputSend). sends ++ l) one))
    (subst (λ (k : ℕ). AreUpTo k (sends ++ s ∷ [])) word (up_to_push sends s (subst (λ (k : ℕ). AreUpTo k sends) (sym word) U)))

sends_up_to : (q : Proposed) (g i : ℕ) (past : List Step) → AreUpTo (length (times_of q past i)) (sends_of g i (happenings_of q past))
sends_up_to q g i =
    by_ends (λ (past : List Step). AreUpTo (length (times_of q past i)) (sends_of g i (happenings_of q past)))
    (none_up_to (length (times_of q [] i)))
    (λ past s U.
    let more = sends_of g i (listed (happening_after q past s)) in
    let all : sends_of g i (happenings_of q (past ++ s ∷ [])) ≡ sends_of g i (happenings_of q past) ++ more =
    ap (sends_of g i) (happenings_more q past s) ∙ filter_map-append (send_in g i) (happenings_of q past) (listed (happening_after q past s)) in
    subst (AreUpTo (length (times_of q (past ++ s ∷ []) i))) (sym all)
    (up_to_later (length (times_of q past i)) (length (times_of q (past ++ s ∷ []) i)) (sends_of g i (happenings_of q past) ++ more) (times_grow q past s i)
    (up_to_more (length (times_of q past i)) (sends_of g i (happenings_of q past)) more (sent_by q g i (times_of q past) s (answer_after q past s)) U)))

-- the number of a word that is sent
word_by : (q : Proposed) (times : ℕ → List ℕ) (step : Step) (a : Answer) (s : SentWord) → happening_by q times step a ≡ Some (Sends s) → s.send.word ≡ length (times s.source)
word_by q times (Comes w) (Refused why) s is = let other = same_Some (Refuses w why) (Sends s) is in absurd (cc other)
word_by q times (Comes w) (Accepted source) s is = absurd (none-some (Sends s) is)
word_by q times (Comes w) (Sent bus slot word) s is = absurd (none-some (Sends s) is)
word_by q times (Comes w) (Changed plan) s is = absurd (none-some (Sends s) is)
word_by q times (Comes w) (Published plan) s is = absurd (none-some (Sends s) is)
word_by q times (Turns h) a s is = absurd (none-some (Sends s) is)
word_by q times (Asks h t) (Sent bus slot (Some raw)) s is =
    let same : word_sent h t bus raw (source_in q h bus slot) (last_word (times (source_in q h bus slot))) ≡ s = cc in
    subst (λ (x : SentWord). x.send.word ≡ length (times x.source)) same refl
word_by q times (Asks h t) (Sent bus slot None) s is = absurd (none-some (Sends s) is)
word_by q times (Asks h t) (Accepted source) s is = absurd (none-some (Sends s) is)
word_by q times (Asks h t) (Changed plan) s is = absurd (none-some (Sends s) is)
word_by q times (Asks h t) (Published plan) s is = absurd (none-some (Sends s) is)
word_by q times (Asks h t) (Refused why) s is = absurd (none-some (Sends s) is)

-- what happened before is that of earlier steps
next_by : (q : Proposed) (told : List Happening) (s : SentWord) (past : List Step) (x : Step) (h : Option Happening) → h ≡ happening_after q past x
    → told ++ Sends s ∷ [] ≡ happenings_of q past ++ listed h → (told ++ Sends s ∷ [] ≡ happenings_of q past → AreUpTo s.send.word (sends_of s.group s.source told))
    → AreUpTo s.send.word (sends_of s.group s.source told)
next_by q told s past x None at is before = before (is ∙ append-nil (happenings_of q past))
next_by q told s past x (Some y) at is before =
    let end : ◌≡◌ {A = Option Happening} (Some (Sends s)) (Some y) = sym (last_push told (Sends s)) ∙ (ap last_of is ∙ last_push (happenings_of q past) y) in
    let front : told ≡ happenings_of q past = append_cancel_right told (happenings_of q past) (Sends s ∷ []) (is ∙ ap (λ (h : Option Happening). happenings_of q past ++ listed h) (sym end)) in
    let word : s.send.word ≡ length (times_of q past s.source) = word_by q (times_of q past) x (answer_after q past x) s (sym at ∙ sym end) in
    subst (λ (n : ℕ). AreUpTo n (sends_of s.group s.source told)) (sym word)
    (subst (λ (l : List Happening). AreUpTo (length (times_of q past s.source)) (sends_of s.group s.source l)) (sym front) (sends_up_to q s.group s.source past))

nothing_told : (told : List Happening) (h : Happening) → told ++ h ∷ [] ≡ [] → ⊥
nothing_told [] h is = cc
nothing_told (x ∷ told) h is = cc

-- a word that is sent after all of this was accepted no earlier than those of its source that its group sent
pub next_in_turn : (q : Proposed) (told : List Happening) (s : SentWord) (steps : List Step) → told ++ Sends s ∷ [] ≡ happenings_of q steps
    → AreUpTo s.send.word (sends_of s.group s.source told)
next_in_turn q told s =
    by_ends (λ (steps : List Step). told ++ Sends s ∷ [] ≡ happenings_of q steps → AreUpTo s.send.word (sends_of s.group s.source told))
    (λ is. absurd (nothing_told told (Sends s) is))
    (λ past x before is. next_by q told s past x (happening_after q past x) refl (is ∙ happenings_more q past x) before)

-- ---- the figures of what happens next

place_is : (g i : ℕ) → g < 8 → i < 256 → place_of g i ≡ Some (g * 256 + i)
place_is g i group source =
    let a : nat_lt g 8 ≡ true = lt-ltb g 8 group in
    let b : nat_lt i 256 ≡ true = lt-ltb i 256 source in
    rw (a, b) refl

place_by : (g i at : ℕ) (b : Bool) → (nat_lt g 8 && nat_lt i 256) ≡ b → ◌≡◌ {A = Option ℕ} (if b then Some (g * 256 + i) else None) (Some at) → (at ≡ g * 256 + i) × (i < 256)
place_by g i at true is there = let parts = and_parts (nat_lt g 8) (nat_lt i 256) is in (sym (same_Some (g * 256 + i) at there), ltb-true i 256 parts.1)
place_by g i at false is there = absurd (none-some at there)

-- the figures of another source, or of another group
figures_other : (figures : List OutputFigures) (s : SentWord) (rate g i : ℕ) → g < 8 → i < 256 → (g ≡ s.group → i ≡ s.source → ⊥)
    → figures_at (figures_with figures s rate) g i ≡ figures_at figures g i
figures_other figures s rate g i group source apart =
    let own = place_is g i group source in
    ap (option_and_then (λ (k : ℕ). slice_get (figures_with figures s rate) k)) own ∙ (by (place_of s.group s.source) refl ∙ sym (ap (option_and_then (λ (k : ℕ). slice_get figures k)) own))
  where
    kept : (at : ℕ) (x : Option OutputFigures) → (g * 256 + i ≡ at → ⊥)
        → slice_get (option_map_or (λ y. slice_set figures at (figures_after rate y s.send)) x figures) (g * 256 + i) ≡ slice_get figures (g * 256 + i)
    kept at None other = refl
    kept at (Some y) other = get_set_other figures at (g * 256 + i) (figures_after rate y s.send) other

    by : (x : Option ℕ) → place_of s.group s.source ≡ x → slice_get (option_map_or (figures_more figures rate s.send) x figures) (g * 256 + i) ≡ slice_get figures (g * 256 + i)
    by None there = refl
    by (Some at) there =
        let (is, within) = place_by s.group s.source at (nat_lt s.group 8 && nat_lt s.source 256) refl there in
        kept at (slice_get figures at) (λ same. apart (omega (arith, same, is, within, source)) (omega (arith, same, is, within, source)))

figures_own : (figures : List OutputFigures) (s : SentWord) (rate : ℕ) (x : OutputFigures) → s.group < 8 → s.source < 256 → figures_at figures s.group s.source ≡ Some x
    → figures_at (figures_with figures s rate) s.group s.source ≡ Some (figures_after rate x s.send)
figures_own figures s rate x group source there =
    let own = place_is s.group s.source group source in
    let at : ℕ = s.group * 256 + s.source in
    let before : slice_get figures at ≡ Some x = sym (ap (option_and_then (λ (k : ℕ). slice_get figures k)) own) ∙ there in
    let after : figures_with figures s rate ≡ slice_set figures at (figures_after rate x s.send) =
    ap (λ (k : Option ℕ). option_map_or (figures_more figures rate s.send) k figures) own
    ∙ ap (λ (y : Option OutputFigures). option_map_or (λ z. slice_set figures at (figures_after rate z s.send)) y figures) before in
    ap (λ (l : List OutputFigures). figures_at l s.group s.source) after
    ∙ (ap (option_and_then (λ (k : ℕ). slice_get (slice_set figures at (figures_after rate x s.send)) k)) own
    ∙ get_set_same figures at (figures_after rate x s.send) (slice_get_within figures at x before))

sends-append : (g i : ℕ) (told : List Happening) (h : Happening) → sends_of g i (told ++ h ∷ []) ≡ sends_of g i told ++ sends_of g i (h ∷ [])
sends-append g i told h = filter_map-append (send_in g i) told (h ∷ [])

own_send : (s : SentWord) → sends_of s.group s.source (Sends s ∷ []) ≡ s.send ∷ []
own_send s =
    let group : (s.group == s.group) ≡ true = eq-eqb s.group s.group refl in
    let source : (s.source == s.source) ≡ true = eq-eqb s.source s.source refl in
    rw (group, source) refl

other_send : (g i : ℕ) (s : SentWord) → (g ≡ s.group → i ≡ s.source → ⊥) → sends_of g i (Sends s ∷ []) ≡ []
other_send g i s apart = elim (cases_eq s.group g) [
  | inl same ↦
      let group : (s.group == g) ≡ true = eq-eqb s.group g same in
      let source : (s.source == i) ≡ false = ne_eqb s.source i (λ e. apart (sym same) (sym e)) in
      rw (group, source) refl
  | inr other ↦ let group : (s.group == g) ≡ false = ne_eqb s.group g other in rw group refl
]

pub figures_next : (q : Proposed) (told : List Happening) (h : Happening) (figures : List OutputFigures) (steps : List Step) → told ++ h ∷ [] ≡ happenings_of q steps
    → HasFigures q told figures → HasFigures q (told ++ h ∷ []) (figures_noted q figures h)
figures_next q told (Refuses w why) figures steps is F = λ g i group source.
    F g i group source ∙ ap (λ (l : List OutputSend). Some (figures_of (rate_of q g) l)) (sym (sends-append g i told (Refuses w why) ∙ append-nil (sends_of g i told)))
figures_next q told (Sends s) figures steps is F = λ g i group source. by g i group source (cases_eq g s.group) (cases_eq i s.source)
  where
    own : s.group < 8 → s.source < 256 → figures_at (figures_with figures s (rate_of q s.group)) s.group s.source ≡ Some (figures_of (rate_of q s.group) (sends_of s.group s.source (told ++ Sends s ∷ [])))
    own group source =
        let sends = sends_of s.group s.source told in
        figures_own figures s (rate_of q s.group) (figures_of (rate_of q s.group) sends) group source (F s.group s.source group source)
        ∙ (ap (λ (x : OutputFigures). Some x) (sym (figures_push (rate_of q s.group) sends s.send (next_in_turn q told s steps is)))
        ∙ ap (λ (l : List OutputSend). Some (figures_of (rate_of q s.group) l)) (sym (sends-append s.group s.source told (Sends s) ∙ ap (λ (l : List OutputSend). sends ++ l) (own_send s))))

    other : (g i : ℕ) → g < 8 → i < 256 → (g ≡ s.group → i ≡ s.source → ⊥) → figures_at (figures_with figures s (rate_of q s.group)) g i ≡ Some (figures_of (rate_of q g) (sends_of g i (told ++ Sends s ∷ [])))
    other g i group source apart =
        figures_other figures s (rate_of q s.group) g i group source apart
        ∙ (F g i group source ∙ ap (λ (l : List OutputSend). Some (figures_of (rate_of q g) l))
        (sym (sends-append g i told (Sends s) ∙ (ap (λ (l : List OutputSend). sends_of g i told ++ l) (other_send g i s apart) ∙ append-nil (sends_of g i told)))))

    by : (g i : ℕ) → g < 8 → i < 256 → (g ≡ s.group) ⊎ (g ≡ s.group → ⊥) → (i ≡ s.source) ⊎ (i ≡ s.source → ⊥)
        → figures_at (figures_with figures s (rate_of q s.group)) g i ≡ Some (figures_of (rate_of q g) (sends_of g i (told ++ Sends s ∷ [])))
    by g i group source (inl same) (inl own_source) =
        let P : ℕ → ℕ → Type 0 = λ a b. figures_at (figures_with figures s (rate_of q s.group)) a b ≡ Some (figures_of (rate_of q a) (sends_of a b (told ++ Sends s ∷ []))) in
        subst (λ (a : ℕ). P a i) (sym same) (subst (λ (b : ℕ). P s.group b) (sym own_source) (own (subst (λ (a : ℕ). a < 8) same group) (subst (λ (b : ℕ). b < 256) own_source source)))
    by g i group source (inl same) (inr apart) = other g i group source (λ _ e. apart e)
    by g i group source (inr apart) own_source = other g i group source (λ e _. apart e)

nothing_at : (n at : ℕ) (x : OutputFigures) → at < n → slice_get (replicate n x) at ≡ Some x
nothing_at zero at x below = absurd (omega (arith, below))
nothing_at (suc n) zero x below = refl
nothing_at (suc n) (suc at) x below = nothing_at n at x (omega (arith, below))

-- before anything is sent
pub no_figures : (q : Proposed) (figures : List OutputFigures) → figures ≡ replicate 2048 nothing_sent → HasFigures q [] figures
no_figures q figures is = λ g i group source.
    ap (λ (l : List OutputFigures). figures_at l g i) is
    ∙ (ap (option_and_then (λ (k : ℕ). slice_get (replicate 2048 nothing_sent) k)) (place_is g i group source) ∙ nothing_at 2048 (g * 256 + i) nothing_sent (omega (arith, group, source)))
