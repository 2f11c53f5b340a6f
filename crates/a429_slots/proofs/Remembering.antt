-- What is kept of a group's earlier cells, as they grow in number.
use Rattle.std.proofs.Common.{◌≡◌, ℕ, ◌+◌, ◌≤◌, Bool, true, false, List, [], ◌∷◌, ◌++◌, ◌∙◌, sym, ap, refl, inl, inr, arith}
use Rattle.std.specs.Prelude.{Option, Some, None, ◌==◌, ◌&&◌, ◌||◌, not, cond, nat_lt, nat_le, if◌then◌else◌}
use Rattle.std.specs.List.{list_any}
use Rattle.std.specs.Option.{option_map_or}
use Rattle.std.proofs.lemmas.List.Sums.{sum_by-append}
use Rattle.std.proofs.lemmas.List.Folds.{list_any-append}
use Rattle.std.proofs.lemmas.Bool.{cases_eq, cases_lt, eq-eqb, ne_eqb, lt-ltb, le-ltb}
use Rattle.a429_slots.specs.History.{AnsweredCell, has_sent, times_sent, is_held, is_too_close, sent_word}
use Rattle.a429_slots.specs.Recalling.{Recent, Recalls, never, times_of, may_send, sent_again, RecentCountsSends, RecentDecides, RecentPassesOtherCells}

-- what the law of sends says, in one
pub record AreRecalled : Type 0 where
  pub none : (source : ℕ) → Recalls [] source never
  pub decides : RecentDecides
  pub sent : RecentCountsSends
  pub other : RecentPassesOtherCells

-- ---- one more cell

pub times_push : (earlier : List AnsweredCell) (c : AnsweredCell) (source count : ℕ)
    → times_sent (earlier ++ c ∷ []) source count ≡ times_sent earlier source count + (if has_sent source c && c.count == count then 1 else 0)
times_push earlier c source count =
    let test = λ (x : AnsweredCell). cond (has_sent source x && x.count == count) 1 0 in
    sum_by-append test earlier (c ∷ []) ∙ omega arith

or_false : (b : Bool) → (b || false) ≡ b
or_false true = refl
or_false false = refl

pub close_push : (earlier : List AnsweredCell) (c : AnsweredCell) (slot source q : ℕ)
    → is_too_close (earlier ++ c ∷ []) slot source q ≡ (is_too_close earlier slot source q || (has_sent source c && nat_lt slot (c.slot + q)))
close_push earlier c slot source q =
    let test = λ (x : AnsweredCell). has_sent source x && nat_lt slot (x.slot + q) in
    list_any-append test earlier (c ∷ []) ∙ ap (λ (b : Bool). list_any test earlier || b) (or_false (test c))

-- ---- what is kept

pub recalls_none : (source : ℕ) → Recalls [] source never
recalls_none source = record { times = refl; newer = λ count more. refl; close = λ slot q. refl }

pub times_are : (earlier : List AnsweredCell) (source : ℕ) (r : Recent) (count : ℕ) → Recalls earlier source r → r.count ≤ count → times_sent earlier source count ≡ times_of r count
times_are earlier source r count R most = elim (cases_eq r.count count) [
  | inl same ↦ rw (eq-eqb r.count count same) (ap (times_sent earlier source) (sym same) ∙ R.times)
  | inr other ↦ rw (ne_eqb r.count count other) (R.newer count (omega (arith, other, most)))
]

held_is : (earlier : List AnsweredCell) (source n : ℕ) (hold : Option ℕ) (count : ℕ) → times_sent earlier source count ≡ n → is_held earlier source hold count ≡ option_map_or (λ most. nat_le most n) hold false
held_is earlier source n None count same = refl
held_is earlier source n (Some most) count same = ap (nat_le most) same

neither : {A : Type 0} (held close : Bool) (w : Option A) → (if held || close then None else w) ≡ (if not held && not close then w else None)
neither true close w = refl
neither false true w = refl
neither false false w = refl

pub decides : (earlier : List AnsweredCell) (source : ℕ) (r : Recent) (slot count : ℕ) (hold : Option ℕ) (q : ℕ) (word : Option ℕ) → Recalls earlier source r → r.count ≤ count
    → sent_word earlier slot source hold q (count, word) ≡ (if may_send r slot count hold q then word else None)
decides earlier source r slot count hold q word R most =
    let held = option_map_or (λ n. nat_le n (times_of r count)) hold false in
    let close = nat_lt 0 r.times && nat_lt slot (r.slot + q) in
    ap (λ (b : Bool). if b || is_too_close earlier slot source q then None else word) (held_is earlier source (times_of r count) hold count (times_are earlier source r count R most))
    ∙ (ap (λ (b : Bool). if held || b then None else word) (R.close slot q) ∙ neither held close word)

-- ---- a send

abbrev pub carried : ℕ → ℕ → ℕ → ℕ → AnsweredCell
carried source slot count word = record { slot = slot; source = source; count = count; word = Some word }

later_closer : (some : Bool) (slot before now q : ℕ) → before ≤ now → ((some && nat_lt slot (before + q)) || nat_lt slot (now + q)) ≡ nat_lt slot (now + q)
later_closer some slot before now q after = elim (cases_lt slot (now + q)) [
  | inl lt ↦ rw (lt-ltb slot (now + q) lt) (always (some && nat_lt slot (before + q)))
  | inr ge ↦
      let far : nat_lt slot (before + q) ≡ false = le-ltb slot (before + q) (omega (arith, ge, after)) in
      rw (le-ltb slot (now + q) ge, far) (none some)
]
  where
    always : (b : Bool) → (b || true) ≡ true
    always true = refl
    always false = refl

    none : (b : Bool) → ((b && false) || false) ≡ false
    none true = refl
    none false = refl

pub recalls_sent : (earlier : List AnsweredCell) (source : ℕ) (r : Recent) (slot count word : ℕ) → Recalls earlier source r → r.count ≤ count → r.slot ≤ slot
    → Recalls (earlier ++ carried source slot count word ∷ []) source (sent_again r slot count)
recalls_sent earlier source r slot count word R most after =
    let c : AnsweredCell = carried source slot count word in
    let own : has_sent source c ≡ true = eq-eqb source source refl in
    record {
      times = times_push earlier c source count ∙ (rw (own, eq-eqb count count refl) (ap (λ (n : ℕ). n + 1) (times_are earlier source r count R most)));
      newer = λ later more. times_push earlier c source later ∙ rw (own, ne_eqb count later (λ same. omega (arith, same, more))) (omega (arith, R.newer later (omega (arith, most, more))));
      close = λ at q.
          let some : nat_lt 0 (times_of r count + 1) ≡ true = lt-ltb 0 (times_of r count + 1) (omega arith) in
          close_push earlier c at source q
          ∙ (ap (λ (b : Bool). b || (has_sent source c && nat_lt at (slot + q))) (R.close at q)
          ∙ rw (own, some) (later_closer (nat_lt 0 r.times) at r.slot slot q after));
    }

-- a cell that sent no word of the source
pub recalls_other : (earlier : List AnsweredCell) (source : ℕ) (r : Recent) (c : AnsweredCell) → Recalls earlier source r → has_sent source c ≡ false → Recalls (earlier ++ c ∷ []) source r
recalls_other earlier source r c R other = record {
  times = times_push earlier c source r.count ∙ rw other (omega (arith, R.times));
  newer = λ count more. times_push earlier c source count ∙ rw other (omega (arith, R.newer count more));
  close = λ slot q. close_push earlier c slot source q ∙ rw other (or_false (is_too_close earlier slot source q) ∙ R.close slot q);
}
