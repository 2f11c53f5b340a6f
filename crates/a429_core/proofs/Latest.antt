-- The latest word of a source, and since when it is one.
use Rattle.std.proofs.Common.{◌≡◌, ℕ, zero, suc, ◌+◌, ◌-◌, ◌<◌, ◌≤◌, List, [], ◌∷◌, ◌++◌, length, take, ◌∙◌, sym, ap, subst, inl, inr, arith, append_assoc}
use Rattle.std.specs.Prelude.{Some}
use Rattle.std.specs.List.{AllByRecursion}
use Rattle.std.proofs.lemmas.List.{length-append, length-take-le}
use Rattle.a429_word.proofs.Lists.{all_push}
use Rattle.a429_equipment.specs.Arrivals.{SourcesAreApart}
use Rattle.a429_equipment.proofs.Cutting.{last_push}
use Rattle.a429_slots.specs.Events.{Event, Arrive}
use Rattle.a429_slots.specs.History.{Opening, accepted_by, last_of}
use Rattle.a429_slots.specs.declared.answers.Answer.{Answer}
use Rattle.a429_slots.specs.declared.answers.Answer.TheVariants.{Accepted}
use Rattle.a429_slots.specs.Answers.{answer, answers}
use Rattle.a429_slots.proofs.Answered.{event_at}
use Rattle.a429_slots.proofs.Histories.{take_following}
use Rattle.a429_core.specs.Latency.{IsAcceptedAt, IsFresh}
use Rattle.a429_core.proofs.Accepting.{Does, Grew, Stayed, does, last_is_latest}
use Rattle.a429_core.proofs.Steps.{answers_push}

-- the source has a latest word, which came in at place n or later
pub record HasLatest (C : ℕ) (o : Opening) (E : List Event) (source n : ℕ) : Type 0 where
  pub word : ℕ
  pub last : last_of (accepted_by C o source E) ≡ Some word
  pub fresh : IsFresh C o E source word n

HasLatest-grown : (C : ℕ) (o : Opening) (E : List Event) (source n : ℕ) (e : Event) → n ≤ length E → Grew C o E source e (answer C o E e) → HasLatest C o (E ++ e ∷ []) source n
HasLatest-grown C o E source n e few G = record {
  word = G.word;
  last = ap (λ (ws : List ℕ). last_of ws) G.more ∙ last_push (accepted_by C o source E) G.word;
  fresh = record {
    latest = record {
      before = E;
      receiver = G.receiver;
      after = [];
      split = ap (λ (x : Event). E ++ x ∷ []) G.event;
      accepted = ap (λ (x : Event). answer C o E x) (sym G.event) ∙ G.answered;
      none_later = tt;
    };
    since = few;
  };
}

HasLatest-stayed : (C : ℕ) (o : Opening) (E : List Event) (source n : ℕ) (e : Event) → HasLatest C o E source n → Stayed C o E source e (answer C o E e) → HasLatest C o (E ++ e ∷ []) source n
HasLatest-stayed C o E source n e H S =
    let L = H.fresh.latest in
    let w = H.word in
    let start = L.before ++ Arrive L.receiver w ∷ [] in
    let whole : E ≡ start ++ L.after = L.split ∙ sym (append_assoc L.before (Arrive L.receiver w ∷ []) L.after) in
    let last : answer C o (start ++ L.after) e ≡ Accepted source → ⊥ = subst (λ (F : List Event). answer C o F e ≡ Accepted source → ⊥) whole S.other in
    record {
      word = w;
      last = ap (λ (ws : List ℕ). last_of ws) S.same ∙ H.last;
      fresh = record {
        latest = record {
          before = L.before;
          receiver = L.receiver;
          after = L.after ++ e ∷ [];
          split = ap (λ (F : List Event). F ++ e ∷ []) L.split ∙ append_assoc L.before (Arrive L.receiver w ∷ L.after) (e ∷ []);
          accepted = L.accepted;
          none_later = subst (AllByRecursion (λ (a : Answer). a ≡ Accepted source → ⊥)) (sym (answers_push C o start L.after e))
              (all_push (λ (a : Answer). a ≡ Accepted source → ⊥) (answers C o start L.after) (answer C o (start ++ L.after) e) L.none_later last);
        };
        since = H.fresh.since;
      };
    }

next : (C : ℕ) (o : Opening) (E : List Event) (source n : ℕ) (e : Event) → n ≤ length E → HasLatest C o E source n → Does C o E source e (answer C o E e) → HasLatest C o (E ++ e ∷ []) source n
unfolding Does
next C o E source n e few H (inl G) = HasLatest-grown C o E source n e few G
next C o E source n e few H (inr S) = HasLatest-stayed C o E source n e H S

first : (C : ℕ) (o : Opening) (E : List Event) (source : ℕ) (e : Event) → answer C o E e ≡ Accepted source → Does C o E source e (answer C o E e) → HasLatest C o (E ++ e ∷ []) source (length E)
unfolding Does
first C o E source e accepted (inl G) = HasLatest-grown C o E source (length E) e (omega arith) G
first C o E source e accepted (inr S) = absurd (S.other accepted)

-- it stays so
lasts_by : (C : ℕ) (o : Opening) (E : List Event) (source n i d : ℕ) → SourcesAreApart o.proposal.station.sources → n ≤ i → d + i ≤ length E → HasLatest C o (take i E) source n → HasLatest C o (take (d + i) E) source n
lasts_by C o E source n i zero apart low few H =
    let same : zero + i ≡ i = omega arith in
    subst (λ (k : ℕ). HasLatest C o (take k E) source n) (sym same) H
lasts_by C o E source n i (suc d) apart low few H =
    let on : suc d + i ≡ suc (d + i) = omega arith in
    let (e, there) = event_at E (d + i) (omega (arith, few)) in
    let long : length (take (d + i) E) ≡ d + i = length-take-le (d + i) E (omega (arith, few)) in
    let before = lasts_by C o E source n i d apart low (omega (arith, few)) H in
    let after = next C o (take (d + i) E) source n e (omega (arith, long, low)) before (does C o (take (d + i) E) source e apart) in
    subst (λ (k : ℕ). HasLatest C o (take k E) source n) (sym on) (subst (λ (F : List Event). HasLatest C o F source n) (sym (take_following E (d + i) e there)) after)

lasts : (C : ℕ) (o : Opening) (E : List Event) (source n i k : ℕ) → SourcesAreApart o.proposal.station.sources → n ≤ i → i ≤ k → k ≤ length E → HasLatest C o (take i E) source n → HasLatest C o (take k E) source n
lasts C o E source n i k apart low after few H =
    let rest : (k - i) + i ≡ k = omega (arith, after) in
    subst (λ (m : ℕ). HasLatest C o (take m E) source n) rest (lasts_by C o E source n i (k - i) apart low (omega (arith, few, rest)) H)

-- from the place at which a word is accepted
pub latest_since : (C : ℕ) (o : Opening) (E : List Event) (source i k : ℕ) → SourcesAreApart o.proposal.station.sources → IsAcceptedAt C o E i source → i < k → k ≤ length E → HasLatest C o (take k E) source i
latest_since C o E source i k apart A after few =
    let long : length (take i E) ≡ i = length-take-le i E (omega (arith, after, few)) in
    let e = Arrive A.receiver A.word in
    let new = first C o (take i E) source e A.accepted (does C o (take i E) source e apart) in
    let here : HasLatest C o (take (suc i) E) source i = subst (λ (F : List Event). HasLatest C o F source i) (sym (take_following E i e A.came)) (subst (λ (n : ℕ). HasLatest C o (take i E ++ e ∷ []) source n) long new) in
    lasts C o E source i (suc i) k apart (omega arith) (omega (arith, after)) few here

-- from a place at which there is one
pub latest_after : (C : ℕ) (o : Opening) (E : List Event) (source i k w : ℕ) → SourcesAreApart o.proposal.station.sources → last_of (accepted_by C o source (take i E)) ≡ Some w → i ≤ k → k ≤ length E → HasLatest C o (take k E) source 0
latest_after C o E source i k w apart last after few =
    lasts C o E source 0 i k apart (omega arith) after few
    (record { word = w; last = last; fresh = record { latest = last_is_latest C o source (take i E) w apart last; since = omega arith } })

-- ---- how many words

count_next : (C : ℕ) (o : Opening) (E : List Event) (source : ℕ) (e : Event) → Does C o E source e (answer C o E e) → length (accepted_by C o source E) ≤ length (accepted_by C o source (E ++ e ∷ []))
unfolding Does
count_next C o E source e (inl G) = omega (arith, ap (λ (ws : List ℕ). length ws) G.more, length-append (accepted_by C o source E) (G.word ∷ []))
count_next C o E source e (inr S) = omega (arith, ap (λ (ws : List ℕ). length ws) S.same)

count_more : (C : ℕ) (o : Opening) (E : List Event) (source : ℕ) (e : Event) → answer C o E e ≡ Accepted source → Does C o E source e (answer C o E e)
    → length (accepted_by C o source E) < length (accepted_by C o source (E ++ e ∷ []))
unfolding Does
count_more C o E source e accepted (inl G) = omega (arith, ap (λ (ws : List ℕ). length ws) G.more, length-append (accepted_by C o source E) (G.word ∷ []))
count_more C o E source e accepted (inr S) = absurd (S.other accepted)

abbrev pub count_at : ℕ → Opening → List Event → ℕ → ℕ → ℕ
count_at C o E source k = length (accepted_by C o source (take k E))

count_by_steps : (C : ℕ) (o : Opening) (E : List Event) (source i d : ℕ) → SourcesAreApart o.proposal.station.sources → d + i ≤ length E → count_at C o E source i ≤ count_at C o E source (d + i)
count_by_steps C o E source i zero apart few =
    let same : zero + i ≡ i = omega arith in
    subst (λ (k : ℕ). count_at C o E source i ≤ count_at C o E source k) (sym same) (omega arith)
count_by_steps C o E source i (suc d) apart few =
    let on : suc d + i ≡ suc (d + i) = omega arith in
    let (e, there) = event_at E (d + i) (omega (arith, few)) in
    let before = count_by_steps C o E source i d apart (omega (arith, few)) in
    let more = count_next C o (take (d + i) E) source e (does C o (take (d + i) E) source e apart) in
    let is : count_at C o E source (suc (d + i)) ≡ length (accepted_by C o source (take (d + i) E ++ e ∷ [])) = ap (λ (F : List Event). length (accepted_by C o source F)) (take_following E (d + i) e there) in
    subst (λ (k : ℕ). count_at C o E source i ≤ count_at C o E source k) (sym on) (omega (arith, before, more, is))

-- their number does not go back
pub count_grows : (C : ℕ) (o : Opening) (E : List Event) (source i k : ℕ) → SourcesAreApart o.proposal.station.sources → i ≤ k → k ≤ length E → count_at C o E source i ≤ count_at C o E source k
count_grows C o E source i k apart after few =
    let rest : (k - i) + i ≡ k = omega (arith, after) in
    subst (λ (m : ℕ). count_at C o E source i ≤ count_at C o E source m) rest (count_by_steps C o E source i (k - i) apart (omega (arith, few, rest)))

-- and after a word is accepted it is more
pub count_above : (C : ℕ) (o : Opening) (E : List Event) (source i k : ℕ) → SourcesAreApart o.proposal.station.sources → IsAcceptedAt C o E i source → i < k → k ≤ length E → count_at C o E source i < count_at C o E source k
count_above C o E source i k apart A after few =
    let e = Arrive A.receiver A.word in
    let one = count_more C o (take i E) source e A.accepted (does C o (take i E) source e apart) in
    let is : count_at C o E source (suc i) ≡ length (accepted_by C o source (take i E ++ e ∷ [])) = ap (λ (F : List Event). length (accepted_by C o source F)) (take_following E i e A.came) in
    omega (arith, one, is, count_grows C o E source (suc i) k apart (omega (arith, after)) few)
