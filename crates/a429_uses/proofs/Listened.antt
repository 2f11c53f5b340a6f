-- Words that a line gave, and a receiver took and answered, one after another.
use Rattle.std.proofs.Common.{◌≡◌, ◌∙◌, ◌+◌, ◌-◌, ◌^◌, ◌<◌, ℕ, List, [], ◌∷◌, ◌++◌, Bool, true, false, length, ap, sym, subst, refl, arith, append-nil, append_assoc}
use Rattle.std.specs.Prelude.{Ok, Err, count_by, if◌then◌else◌, min}
use Rattle.std.proofs.lemmas.List.{length_push}
use Rattle.a429_filter.specs.declared.sources.LineSource as LineSource
use Rattle.a429_filter.specs.declared.sources.SourceFault.{SourceFault}
use Rattle.a429_values.specs.Ends.{ReceiverEnd, accept_answer}
use Rattle.a429_values.specs.declared.receiver.Accept.{Accept}
use Rattle.a429_workers.specs.Receives.{after_words, answers_to, is_accepted}
use Rattle.a429_workers.proofs.Hearing.{after_append, answers_append, count_push}
use Rattle.a429_uses.specs.Listening.{AreCounted, HasHeard, HasListened, Heard, count_more, heard_at}
use Rattle.a429_uses.specs.declared.listening.LineCount.{LineCount}

-- this number of words came in so far, and is counted
pub record AreHeard {L : Type 0} (source : LineSource.Ghosts L) (line : L) (receiver : ReceiverEnd) (now : Heard L) (n : ℕ) : Type 0 where
  pub words : List ℕ
  pub gave : source.given now.line ≡ source.given line ++ words
  pub taken : now.receiver ≡ after_words receiver words
  pub counted : AreCounted receiver words now.count
  pub many : length words ≡ n

counted_more : (receiver : ReceiverEnd) (words : List ℕ) (raw : ℕ) (count later : LineCount) → AreCounted receiver words count → length words < 2 ^ 64 - 1
    → later ≡ count_more count (accept_answer (after_words receiver words) raw) → AreCounted receiver (words ++ raw ∷ []) later
counted_more receiver words raw count later C low is = by (is_accepted a) refl
  where
    a : Accept
    a = accept_answer (after_words receiver words) raw

    pushed : count_by is_accepted (answers_to receiver (words ++ raw ∷ [])) ≡ count_by is_accepted (answers_to receiver words) + (if is_accepted a then 1 else 0)
    pushed = ap (count_by is_accepted) (answers_append receiver words (raw ∷ [])) ∙ count_push is_accepted (answers_to receiver words) a

    more : Bool → LineCount
    more b = if b then record count { accepted = min (count.accepted + 1) (2 ^ 64 - 1) } else record count { refused = min (count.refused + 1) (2 ^ 64 - 1) }

    by : (b : Bool) → is_accepted a ≡ b → AreCounted receiver (words ++ raw ∷ []) later
    by true told =
        let now : later ≡ more true = is ∙ ap more told in
        let one : ◌≡◌ {A = ℕ} (if is_accepted a then 1 else 0) 1 = ap {B = ℕ} (λ (b : Bool). if b then 1 else 0) told in
        let accepted = ap (λ (c : LineCount). c.accepted) now in
        let refused = ap (λ (c : LineCount). c.refused) now in
        record { accepted = omega (arith, accepted, C.accepted, C.all, low, pushed, one); all = omega (arith, accepted, refused, C.all, low, length_push words raw) }
    by false told =
        let now : later ≡ more false = is ∙ ap more told in
        let none : ◌≡◌ {A = ℕ} (if is_accepted a then 1 else 0) 0 = ap {B = ℕ} (λ (b : Bool). if b then 1 else 0) told in
        let accepted = ap (λ (c : LineCount). c.accepted) now in
        let refused = ap (λ (c : LineCount). c.refused) now in
        record { accepted = omega (arith, accepted, C.accepted, C.all, low, pushed, none); all = omega (arith, accepted, refused, C.all, low, length_push words raw) }

module _ {L : Type 0} (source : LineSource.Ghosts L) (line : L) (receiver : ReceiverEnd) where
  pub none_heard : (count : LineCount) → count.accepted ≡ 0 → count.refused ≡ 0 → AreHeard source line receiver (heard_at line receiver count) 0
  none_heard count accepted refused = record {
    words = [];
    gave = sym (append-nil (source.given line));
    taken = refl;
    counted = record { accepted = accepted; all = omega (arith, accepted, refused) };
    many = refl;
  }

  pub heard_more : (now next : Heard L) (n : ℕ) → AreHeard source line receiver now n → n < 2 ^ 64 - 1 → HasHeard source now next (Ok true) → AreHeard source line receiver next (n + 1)
  heard_more now next n S low H = record {
    words = S.words ++ H.0 ∷ [];
    gave = H.1 ∙ (ap (λ (xs : List ℕ). xs ++ H.0 ∷ []) S.gave ∙ append_assoc (source.given line) S.words (H.0 ∷ []));
    taken = H.2 ∙ (ap (λ (r : ReceiverEnd). after_words r (H.0 ∷ [])) S.taken ∙ after_append receiver S.words (H.0 ∷ []));
    counted = counted_more receiver S.words H.0 now.count next.count S.counted (omega (arith, low, S.many)) (H.3 ∙ ap (λ (r : ReceiverEnd). count_more now.count (accept_answer r H.0)) S.taken);
    many = length_push S.words H.0 ∙ ap (λ (m : ℕ). m + 1) S.many;
  }

  -- the line ended
  pub heard_end : (now next : Heard L) (n : ℕ) → AreHeard source line receiver now n → HasHeard source now next (Ok false) → AreHeard source line receiver next n
  heard_end now next n S H = record {
    words = S.words;
    gave = H.0 ∙ S.gave;
    taken = H.1 ∙ S.taken;
    counted = subst (AreCounted receiver S.words) (sym H.2) S.counted;
    many = S.many;
  }

  pub heard_is_listened : (now : Heard L) (n : ℕ) → AreHeard source line receiver now n → HasListened source.given line receiver now.line now.receiver
  heard_is_listened now n S = record { words = S.words; gave = S.gave; taken = S.taken }

  pub more_is_listened : (now next : Heard L) (n : ℕ) → AreHeard source line receiver now n → n < 2 ^ 64 - 1 → HasHeard source now next (Ok true) → HasListened source.given line receiver next.line next.receiver
  more_is_listened now next n S low H = heard_is_listened next (n + 1) (heard_more now next n S low H)

  -- the line failed
  pub heard_failed : (now next : Heard L) (n : ℕ) (fault : SourceFault) → AreHeard source line receiver now n → HasHeard source now next (Err fault) → HasListened source.given line receiver next.line next.receiver
  heard_failed now next n fault S H = record { words = S.words; gave = H.0 ∙ S.gave; taken = H.1 ∙ S.taken }
