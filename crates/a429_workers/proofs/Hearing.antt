-- Words that come in at a receiver one after another, and how many are answered how.
use Rattle.std.proofs.Common.{◌≡◌, ℕ, ◌+◌, ◌≤◌, Bool, true, false, List, [], ◌∷◌, ◌++◌, length, ◌∙◌, sym, ap, subst, refl, arith, append-nil, append_assoc}
use Rattle.std.specs.Prelude.{Ok, Option, Some, None, cond, count_by, if◌then◌else◌, option_map}
use Rattle.a429_filter.specs.Sources.{SourceAnswer, word_given}
use Rattle.std.proofs.lemmas.List.{length_push}
use Rattle.std.proofs.lemmas.List.Sums.{sum_by-append, sum_by-cons}
use Rattle.a429_values.specs.Ends.{ReceiverEnd, accept_answer}
use Rattle.a429_values.specs.declared.receiver.Accept.{Accept}
use Rattle.a429_values.specs.declared.receiver.Accept.TheVariants.{Accepted, Parity, Filtered, NoSource, CountSpent}
use Rattle.a429_workers.specs.declared.receiving.ReceiveTotals.{ReceiveTotals}
use Rattle.a429_workers.specs.Gates.{AreInOrder, GatePoints, IsAskedAndTold, IsHeardAt, IsInOrder}
use Rattle.a429_workers.specs.Receives.{AreAtMost, Gives, IsSameReceiver, after_words, answers_to, counted, is_accepted, is_filtered, is_no_source, is_parity, is_spent, totals_of}
use Rattle.a429_equipment.proofs.Receiving.{in_pieces}

-- ---- in pieces

pub after_append : (r : ReceiverEnd) (xs ys : List ℕ) → after_words (after_words r xs) ys ≡ after_words r (xs ++ ys)
after_append r xs ys = ap (λ (A : List (ℕ × ℕ)). record r { accepted = A }) (sym (in_pieces r.at.station r.limit r.number r.accepted xs ys))

pub answers_append : (r : ReceiverEnd) (xs ys : List ℕ) → answers_to r (xs ++ ys) ≡ answers_to r xs ++ answers_to (after_words r xs) ys
answers_append r [] ys = refl
answers_append r (x ∷ xs) ys = ap (λ (zs : List Accept). accept_answer r x ∷ zs) (answers_append (after_words r (x ∷ [])) xs ys)

pub length_answers : (r : ReceiverEnd) (xs : List ℕ) → length (answers_to r xs) ≡ length xs
length_answers r [] = refl
length_answers r (x ∷ xs) = let rest = length_answers (after_words r (x ∷ [])) xs in omega arith

-- ---- totals

pub count_push : (p : Accept → Bool) (xs : List Accept) (a : Accept) → count_by p (xs ++ a ∷ []) ≡ count_by p xs + (if p a then 1 else 0)
count_push p xs a = sum_by-append (λ (x : Accept). cond (p x) 1 0) xs (a ∷ []) ∙ omega arith

pub totals_push : (xs : List Accept) (a : Accept) → totals_of (xs ++ a ∷ []) ≡ counted (totals_of xs) a
totals_push xs a = go a
    (count_push is_accepted xs a) (count_push is_parity xs a) (count_push is_filtered xs a) (count_push is_no_source xs a) (count_push is_spent xs a)
  where
    all : (a b c d e f g h i j : ℕ) → a ≡ f → b ≡ g → c ≡ h → d ≡ i → e ≡ j
        → ◌≡◌ {A = ReceiveTotals} (record { accepted = a; parity = b; filtered = c; no_source = d; spent = e }) (record { accepted = f; parity = g; filtered = h; no_source = i; spent = j })
    all a b c d e f g h i j p q r s t = cc

    go : (b : Accept) → count_by is_accepted (xs ++ a ∷ []) ≡ count_by is_accepted xs + (if is_accepted b then 1 else 0) → count_by is_parity (xs ++ a ∷ []) ≡ count_by is_parity xs + (if is_parity b then 1 else 0)
        → count_by is_filtered (xs ++ a ∷ []) ≡ count_by is_filtered xs + (if is_filtered b then 1 else 0) → count_by is_no_source (xs ++ a ∷ []) ≡ count_by is_no_source xs + (if is_no_source b then 1 else 0)
        → count_by is_spent (xs ++ a ∷ []) ≡ count_by is_spent xs + (if is_spent b then 1 else 0) → totals_of (xs ++ a ∷ []) ≡ counted (totals_of xs) b
    go (Accepted s) p q r t u = all _ _ _ _ _ _ _ _ _ _ p (omega (arith, q)) (omega (arith, r)) (omega (arith, t)) (omega (arith, u))
    go Parity p q r t u = all _ _ _ _ _ _ _ _ _ _ (omega (arith, p)) q (omega (arith, r)) (omega (arith, t)) (omega (arith, u))
    go Filtered p q r t u = all _ _ _ _ _ _ _ _ _ _ (omega (arith, p)) (omega (arith, q)) r (omega (arith, t)) (omega (arith, u))
    go NoSource p q r t u = all _ _ _ _ _ _ _ _ _ _ (omega (arith, p)) (omega (arith, q)) (omega (arith, r)) t (omega (arith, u))
    go CountSpent p q r t u = all _ _ _ _ _ _ _ _ _ _ (omega (arith, p)) (omega (arith, q)) (omega (arith, r)) (omega (arith, t)) u

one_at_most : (b : Bool) → cond b 1 0 ≤ 1
one_at_most true = omega arith
one_at_most false = omega arith

few : (p : Accept → Bool) (xs : List Accept) → count_by p xs ≤ length xs
few p [] = omega arith
few p (x ∷ xs) = omega (arith, few p xs, one_at_most (p x), sum_by-cons (λ (y : Accept). cond (p y) 1 0) x xs)

pub totals_small : (xs : List Accept) → AreAtMost (length xs) (totals_of xs)
totals_small xs = record { accepted = few is_accepted xs; parity = few is_parity xs; filtered = few is_filtered xs; no_source = few is_no_source xs; spent = few is_spent xs }

-- ---- the loop

pub same_receiver : (a b c : ReceiverEnd) → IsSameReceiver a b → IsSameReceiver b c → IsSameReceiver a c
same_receiver a b c p q = q ∙ ap (λ (r : ReceiverEnd). record r { accepted = c.accepted }) p

-- one more answer of the line
module _ {L : Type 0} (given : L → List ℕ) (left : L → Option (List ℕ)) where
  gives_on : (before now next : L) (words : List ℕ) (answer : SourceAnswer) → Gives given left before words now → given next ≡ given now ++ word_given answer
      → left now ≡ option_map (λ more. word_given answer ++ more) (left next) → Gives given left before (words ++ word_given answer) next
  gives_on before now next words answer G one rest = record {
    gave = one ∙ (ap (λ (xs : List ℕ). xs ++ word_given answer) G.gave ∙ append_assoc (given before) words (word_given answer));
    kept = G.kept ∙ (ap (λ (x : Option (List ℕ)). option_map (λ (more : List ℕ). words ++ more) x) rest ∙ two (left next));
  }
    where
      two : (x : Option (List ℕ)) → option_map (λ (more : List ℕ). words ++ more) (option_map (λ (more : List ℕ). word_given answer ++ more) x) ≡ option_map (λ (more : List ℕ). (words ++ word_given answer) ++ more) x
      two None = refl
      two (Some more) = ap (λ (xs : List ℕ). Some xs) (sym (append_assoc words (word_given answer) more))

  -- an answer that gives one
  pub gives_word : (before now next : L) (words : List ℕ) (answer : SourceAnswer) (raw : ℕ) → answer ≡ Ok (Some raw) → Gives given left before words now → given next ≡ given now ++ word_given answer
      → left now ≡ option_map (λ more. word_given answer ++ more) (left next) → Gives given left before (words ++ raw ∷ []) next
  gives_word before now next words answer raw is G one rest = subst (λ (ws : List ℕ). Gives given left before (words ++ ws) next) (ap word_given is) (gives_on before now next words answer G one rest)

  -- an answer that gives none
  pub gives_none : (before now next : L) (words : List ℕ) (answer : SourceAnswer) → word_given answer ≡ [] → Gives given left before words now → given next ≡ given now ++ word_given answer
      → left now ≡ option_map (λ more. word_given answer ++ more) (left next) → Gives given left before words next
  gives_none before now next words answer none G one rest =
      subst (λ (ws : List ℕ). Gives given left before ws next) (ap (λ (ws : List ℕ). words ++ ws) none ∙ append-nil words) (gives_on before now next words answer G one rest)

-- ---- in order at the gate

same_asked : (gate : GatePoints) (r n m : ℕ) (b c a d : ReceiverEnd) (x y : Accept) (t u : ReceiveTotals) → n ≡ m → b ≡ c → a ≡ d → x ≡ y → t ≡ u → IsAskedAndTold gate r n b a x t → IsAskedAndTold gate r m c d y u
same_asked gate r n m b c a d x y t u number before after answer totals H =
    subst (λ (k : ℕ). IsAskedAndTold gate r k c d y u) number
    (subst (λ (z : ReceiverEnd). IsAskedAndTold gate r n z d y u) before
    (subst (λ (z : ReceiverEnd). IsAskedAndTold gate r n b z y u) after
    (subst (λ (z : Accept). IsAskedAndTold gate r n b a z u) answer
    (subst (λ (z : ReceiveTotals). IsAskedAndTold gate r n b a x z) totals H))))

pub order_push : (gate : GatePoints) (r : ℕ) (start : ReceiverEnd) (done raws : List ℕ) (raw : ℕ) → AreInOrder gate r start done raws → IsInOrder gate r start (done ++ raws) raw → AreInOrder gate r start done (raws ++ raw ∷ [])
order_push gate r start done [] raw all one = (subst (λ (ws : List ℕ). IsInOrder gate r start ws raw) (append-nil done) one, tt)
order_push gate r start done (x ∷ raws) raw all one =
    (all.0, order_push gate r start (done ++ x ∷ []) raws raw all.1 (subst (λ (ws : List ℕ). IsInOrder gate r start ws raw) (sym (append_assoc done (x ∷ []) raws)) one))

-- the line gave these words since, and the receiver took them all, in order
pub record SoFar (Gave : List ℕ → Type 0) (gate : GatePoints) (r : ℕ) (old new : ReceiverEnd) (totals : ReceiveTotals) (n : ℕ) : Type 0 where
  pub came : List ℕ
  pub given : Gave came
  pub many : length came ≡ n
  pub taken : new ≡ after_words old came
  pub counts : totals ≡ totals_of (answers_to old came)
  pub order : AreInOrder gate r old [] came

module _ (Now : List ℕ → Type 0) (gate : GatePoints) (r : ℕ) (old mid new : ReceiverEnd) (totals : ReceiveTotals) (n raw : ℕ) (S : SoFar Now gate r old mid totals n) (taken : new ≡ after_words mid (raw ∷ [])) where
  taken_on : new ≡ after_words old (S.came ++ raw ∷ [])
  taken_on = taken ∙ (ap (λ (x : ReceiverEnd). after_words x (raw ∷ [])) S.taken ∙ after_append old S.came (raw ∷ []))

  counts_on : counted totals (accept_answer mid raw) ≡ totals_of (answers_to old (S.came ++ raw ∷ []))
  counts_on =
      ap (λ (t : ReceiveTotals). counted t (accept_answer mid raw)) S.counts
      ∙ (ap (λ (x : ReceiverEnd). counted (totals_of (answers_to old S.came)) (accept_answer x raw)) S.taken
      ∙ (sym (totals_push (answers_to old S.came) (accept_answer (after_words old S.came) raw)) ∙ ap totals_of (sym (answers_append old S.came (raw ∷ [])))))

  -- one word more, in order
  pub order_on : IsHeardAt gate r n raw totals mid new → AreInOrder gate r old [] (S.came ++ raw ∷ [])
  order_on heard = order_push gate r old [] S.came raw S.order
      (same_asked gate r n (length S.came) mid (after_words old S.came) new (after_words old (S.came ++ raw ∷ [])) (accept_answer mid raw) (accept_answer (after_words old S.came) raw)
      (counted totals (accept_answer mid raw)) (totals_of (answers_to old (S.came ++ raw ∷ []))) (sym S.many) S.taken taken_on (ap (λ (x : ReceiverEnd). accept_answer x raw) S.taken) counts_on heard)

  pub one_more : (Next : List ℕ → Type 0) (later : ReceiveTotals) → ((words : List ℕ) → Now words → Next (words ++ raw ∷ [])) → later ≡ counted totals (accept_answer mid raw) → IsHeardAt gate r n raw totals mid new
      → SoFar Next gate r old new later (n + 1)
  one_more Next later given counts heard = record {
    came = S.came ++ raw ∷ [];
    given = given S.came S.given;
    many = length_push S.came raw ∙ ap (λ (m : ℕ). m + 1) S.many;
    taken = taken_on;
    counts = counts ∙ counts_on;
    order = order_on heard;
  }

pub small_so_far : (Gave : List ℕ → Type 0) (gate : GatePoints) (r : ℕ) (old new : ReceiverEnd) (totals : ReceiveTotals) (n : ℕ) → SoFar Gave gate r old new totals n → AreAtMost n totals
small_so_far Gave gate r old new totals n S =
    subst (λ (t : ReceiveTotals). AreAtMost n t) (sym S.counts) (subst (λ (m : ℕ). AreAtMost m (totals_of (answers_to old S.came))) (length_answers old S.came ∙ S.many) (totals_small (answers_to old S.came)))
