-- The step in which the last accepted word of a source came in.
use Rattle.std.proofs.Common.{◌≡◌, ◌∙◌, ◌<◌, ◌≤◌, ℕ, zero, suc, inl, inr, List, [], ◌∷◌, ◌++◌, length, length-append, take, refl, sym, ap, subst, arith}
use Rattle.std.specs.Prelude.{Option, Some, slice_get, unwrap_or}
use Rattle.std.proofs.lemmas.Bool.{cases_lt}
use Rattle.std.proofs.lemmas.List.{take-append-le, take_all}
use Rattle.std.proofs.lemmas.Option.{none-some, slice_get_within}
use Rattle.a429_equipment.specs.Agreement.{last_of}
use Rattle.a429_equipment.specs.Arrivals.{SourcesAreApart}
use Rattle.a429_equipment.specs.Limits.{count_bits}
use Rattle.a429_equipment.proofs.Cutting.{last_push}
use Rattle.a429_slots.specs.Proposed.{Proposed}
use Rattle.a429_slots.specs.declared.answers.Answer.TheVariants.{Accepted}
use Rattle.a429_slots.proofs.Histories.{by_ends}
use Rattle.a429_core.proofs.Accepting.{one_by_one}
use Rattle.a429_recordings.specs.Simulating.{Step, Comes, answer_after, event_of, history_of, last_word, opening_of, times_of}
use Rattle.a429_recordings.specs.declared.simulate.log.LogWord.{LogWord}
use Rattle.a429_recordings.proofs.SimulatedSteps.{count_own, none_in_time, times_own, times_same}

pub at_end : {X : Type 0} (xs : List X) (x : X) → slice_get (xs ++ x ∷ []) (length xs) ≡ Some x
at_end [] x = refl
at_end (y ∷ xs) x = at_end xs x

pub at_front : {X : Type 0} (xs ys : List X) (k : ℕ) (x : X) → slice_get xs k ≡ Some x → slice_get (xs ++ ys) k ≡ Some x
at_front [] ys k x there = absurd (none-some x there)
at_front (y ∷ xs) ys zero x there = there
at_front (y ∷ xs) ys (suc k) x there = at_front xs ys k x there

-- the last of the steps in which a word of the source was accepted
pub record LastAccepted (q : Proposed) (past : List Step) (source : ℕ) : Type 0 where
  pub place : ℕ
  pub word : LogWord
  pub came : slice_get past place ≡ Some (Comes word)
  pub accepted : answer_after q (take place past) (Comes word) ≡ Accepted source
  pub time : (last_word (times_of q past source)).time ≡ word.time
  pub kept : (j : ℕ) → place < j → j ≤ length past → times_of q (take j past) source ≡ times_of q past source

module _ (q : Proposed) (source : ℕ) (apart : SourcesAreApart q.station.sources) where
  abbrev Has : List Step → Type 0
  Has past = 0 < length (times_of q past source) → LastAccepted q past source

  cut_within : (past : List Step) (s : Step) (j : ℕ) → j ≤ length past → take j (past ++ s ∷ []) ≡ take j past
  cut_within past s j few = take-append-le j past (s ∷ []) few

  cut_whole : (past : List Step) (s : Step) (j : ℕ) → length past < j → take j (past ++ s ∷ []) ≡ past ++ s ∷ []
  cut_whole past s j more = take_all j (past ++ s ∷ []) (omega (arith, length-append past (s ∷ []), more))

  new_word : (past : List Step) (w : LogWord) → answer_after q past (Comes w) ≡ Accepted source → LastAccepted q (past ++ Comes w ∷ []) source
  new_word past w is =
      let front : take (length past) (past ++ Comes w ∷ []) ≡ past = cut_within past (Comes w) (length past) (omega arith) ∙ take_all (length past) past (omega arith) in
      let own = times_own q past w source is in
      record {
        place = length past;
        word = w;
        came = at_end past (Comes w);
        accepted = ap (λ (xs : List Step). answer_after q xs (Comes w)) front ∙ is;
        time = ap (λ (ts : List ℕ). unwrap_or (last_of ts) 0) own ∙ ap (λ (x : Option ℕ). unwrap_or x 0) (last_push (times_of q past source) w.time);
        kept = λ j later few. ap (λ (xs : List Step). times_of q xs source) (cut_whole past (Comes w) j later);
      }

  old_word : (past : List Step) (s : Step) → times_of q (past ++ s ∷ []) source ≡ times_of q past source → LastAccepted q past source → LastAccepted q (past ++ s ∷ []) source
  old_word past s same L =
      let within : L.place < length past = slice_get_within past L.place (Comes L.word) L.came in
      record {
        place = L.place;
        word = L.word;
        came = at_front past (s ∷ []) L.place (Comes L.word) L.came;
        accepted = ap (λ (xs : List Step). answer_after q xs (Comes L.word)) (cut_within past s L.place (omega (arith, within))) ∙ L.accepted;
        time = ap (λ (ts : List ℕ). (last_word ts).time) same ∙ L.time;
        kept = λ j later few. elim (cases_lt (length past) j) [
          | inl more ↦ ap (λ (xs : List Step). times_of q xs source) (cut_whole past s j more)
          | inr front ↦ ap (λ (xs : List Step). times_of q xs source) (cut_within past s j front) ∙ (L.kept j later front ∙ sym same)
        ];
      }

  one_more : (past : List Step) (s : Step) → Has past → Has (past ++ s ∷ [])
  one_more past s before some = elim (one_by_one count_bits (opening_of q) (history_of past) source (event_of s) apart) [
    | inl W ↦ elim (count_own q past s source W.answered) [
      | inl none ↦ absurd (none W.receiver W.word W.event)
      | inr (w, same) ↦
          subst (λ (x : Step). LastAccepted q (past ++ x ∷ []) source) (sym same)
          (new_word past w (subst (λ (x : Step). answer_after q past x ≡ Accepted source) same W.answered))
    ]
    | inr N ↦
        let same = times_same q past s source N.other in
        old_word past s same (before (omega (arith, some, ap length same)))
  ]

  pub last_accepted : (past : List Step) → Has past
  last_accepted past = by_ends Has (λ some. absurd (omega (arith, some, ap length (none_in_time q source)))) one_more past
