-- The points of a gate that loops pass, one after another.
use Rattle.std.proofs.Common.{◌≡◌, ℕ, ◌+◌, ◌<◌, ◌≤◌, List, [], ◌∷◌, ◌++◌, length, take, ◌∙◌, sym, ap, subst, refl, inl, inr, arith}
use Rattle.std.specs.Prelude.{Ok, Err}
use Rattle.std.proofs.lemmas.Bool.{cases_lt}
use Rattle.std.proofs.lemmas.List.{length_push, take_all, take-append-le}
use Rattle.a429_filter.specs.declared.sources.LineSource as LineSource
use Rattle.a429_values.specs.Ends.{ReceiverEnd}
use Rattle.a429_workers.specs.Gates.{AreInOrder, GatePoints, HasTaken, HavePassed, HaveWordsPassed, IsShutAt, Listening, listening}
use Rattle.a429_workers.specs.Receives.{Gives, after_words}
use Rattle.a429_workers.specs.declared.gates.Point.{Point}
use Rattle.a429_workers.specs.declared.receiving.ReceiveTotals.{ReceiveTotals}
use Rattle.a429_workers.specs.declared.receiving.ReceiveFault.TheVariants as receive
use Rattle.a429_workers.proofs.Hearing.{SoFar, after_append, order_on}

-- ---- points in a row

pub passed_more : (passes : Point → Type 0) (before after : ℕ → Point) (n : ℕ) → HavePassed passes before after n → passes (before n) × passes (after n) → HavePassed passes before after (n + 1)
passed_more passes before after n P both = record {
  each = λ k low. elim (cases_lt k n) [
    | inl less ↦ P.each k less
    | inr most ↦ let same : n ≡ k = omega (arith, low, most) in subst (λ (m : ℕ). passes (before m) × passes (after m)) same both
  ];
}

-- ---- words

module _ {L : Type 0} (source : LineSource.Ghosts L) (gate : GatePoints) (r : ℕ) (old mid : Listening L) (line : L) (totals : ReceiveTotals) (n raw : ℕ) (S : SoFar (λ words. Gives source.given source.left old.line words mid.line) gate r old.receiver mid.receiver totals n) (on : (words : List ℕ) → Gives source.given source.left old.line words mid.line → Gives source.given source.left old.line (words ++ raw ∷ []) line) (P : HaveWordsPassed gate.passes r n) where
  many : length (S.came ++ raw ∷ []) ≡ n + 1
  many = length_push S.came raw ∙ ap (λ (m : ℕ). m + 1) S.many

  front : take n (S.came ++ raw ∷ []) ≡ S.came
  front = take-append-le n S.came (raw ∷ []) (omega (arith, S.many)) ∙ take_all n S.came (omega (arith, S.many))

  still : AreInOrder gate r old.receiver [] (take n (S.came ++ raw ∷ []))
  still = subst (AreInOrder gate r old.receiver []) (sym front) S.order

  -- the gate ended the loop before or after the last word
  pub gate_shut : (new : ReceiverEnd) → n < 1000000 → IsShutAt gate r n raw totals mid.receiver new → HasTaken source gate r old (listening line new) (Err receive.Gate)
  gate_shut new low shut = elim shut [
    | inl left ↦
        let is : new ≡ after_words old.receiver (take n (S.came ++ raw ∷ [])) = left.0 ∙ (S.taken ∙ ap (after_words old.receiver) (sym front)) in
        record {
          words = S.came ++ raw ∷ [];
          gave = on S.came S.given;
          taken = (n, is, omega (arith, many), omega (arith, many, low));
          gated = (n, is, inl (many, record { passed = P; shut = left.1 }));
          order = still;
        }
    | inr through ↦
        let rest : take (n + 1) (S.came ++ raw ∷ []) ≡ S.came ++ raw ∷ [] = take_all (n + 1) (S.came ++ raw ∷ []) (omega (arith, many)) in
        let is : new ≡ after_words old.receiver (take (n + 1) (S.came ++ raw ∷ [])) =
        through.0 ∙ (ap (λ (x : ReceiverEnd). after_words x (raw ∷ [])) S.taken ∙ (after_append old.receiver S.came (raw ∷ []) ∙ ap (after_words old.receiver) (sym rest))) in
        record {
          words = S.came ++ raw ∷ [];
          gave = on S.came S.given;
          taken = (n + 1, is, omega (arith, many), omega (arith, many, low));
          gated = (n + 1, is, inr (record { last = n; all = many; counted = refl; ended = record { passed = P; begun = through.1; shut = through.2 } }));
          order = subst (AreInOrder gate r old.receiver []) (sym rest) (order_on (λ words. Gives source.given source.left old.line words mid.line) gate r old.receiver mid.receiver new totals n raw S through.0 through.3);
        }
  ]

  -- the line gave one word too many, which is handed back
  pub one_too_many : n ≡ 1000000 → HasTaken source gate r old (listening line mid.receiver) (Err (receive.TooMuch raw totals))
  one_too_many full =
      let is : mid.receiver ≡ after_words old.receiver (take n (S.came ++ raw ∷ [])) = S.taken ∙ ap (after_words old.receiver) (sym front) in
      record {
        words = S.came ++ raw ∷ [];
        gave = on S.came S.given;
        taken = record { words = S.came; million = S.many ∙ full; all = refl; taken = S.taken; counted = S.counts };
        gated = (n, is, (many, P));
        order = still;
      }

-- the line gave no more
module _ {L : Type 0} (source : LineSource.Ghosts L) (gate : GatePoints) (r : ℕ) (old mid : Listening L) (line : L) (totals : ReceiveTotals) (n : ℕ) (S : SoFar (λ words. Gives source.given source.left old.line words mid.line) gate r old.receiver mid.receiver totals n) (on : Gives source.given source.left old.line S.came line) (P : HaveWordsPassed gate.passes r n) (few : n ≤ 1000000) where
  whole : take n S.came ≡ S.came
  whole = take_all n S.came (omega (arith, S.many))

  is_whole : mid.receiver ≡ after_words old.receiver (take n S.came)
  is_whole = S.taken ∙ ap (after_words old.receiver) (sym whole)

  in_order : AreInOrder gate r old.receiver [] (take n S.came)
  in_order = subst (AreInOrder gate r old.receiver []) (sym whole) S.order

  pub line_ended : HasTaken source gate r old (listening line mid.receiver) (Ok totals)
  line_ended = record {
    words = S.came;
    gave = on;
    taken = (S.taken, S.counts, omega (arith, S.many, few));
    gated = (n, is_whole, (S.many, P));
    order = in_order;
  }

  pub line_failed : HasTaken source gate r old (listening line mid.receiver) (Err receive.Source)
  line_failed = record {
    words = S.came;
    gave = on;
    taken = (S.taken, omega (arith, S.many, few));
    gated = (n, is_whole, (S.many, P));
    order = in_order;
  }
