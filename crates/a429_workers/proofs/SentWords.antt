-- The words that lawful calls send: what went out before each of them, and what follows when one goes out.
use Rattle.std.proofs.Common.{◌≡◌, ℕ, zero, suc, ◌+◌, ◌<◌, ◌≤◌, Bool, true, false, true≢false, List, [], ◌∷◌, ◌++◌, take, ◌∙◌, sym, ap, subst, refl, inl, inr, arith, append-nil, append_assoc}
use Rattle.std.specs.Prelude.{Option, Some, None, ◌==◌, ◌&&◌, ◌||◌, cond, if◌then◌else◌, nat_lt, is_some, slice_get, option_map, option_and_then}
use Rattle.std.specs.List.{list_any}
use Rattle.std.specs.Option.{option_map_or}
use Rattle.std.proofs.lemmas.List.Sums.{sum_by-append}
use Rattle.std.proofs.lemmas.List.Folds.{list_any-append}
use Rattle.std.proofs.lemmas.Option.{none-some, same_Some}
use Rattle.std.proofs.lemmas.Bool.{cases_Bool, cases_lt, lt-ltb, ltb-true, lt-leb, leb-false, eq-eqb, eqb-true, and_parts}
use Rattle.a429_word.proofs.Lists.{or_parts, some_word}
use Rattle.a429_equipment.specs.declared.loads.Load.{Load}
use Rattle.a429_slots.specs.Tables.{Placed, SlotTable, PlanTable, output_in}
use Rattle.a429_slots.specs.History.{AnsweredCell, has_sent, is_held, is_too_close, times_sent}
use Rattle.a429_workers.specs.Calls.{Call, Asks, Turns, Meets, Turn, Takes, StaysMid, StaysSpent, Carried, GroupState, IsAnswered, IsLawful, AreLawful, after, after_turn, state_after, word_of, answered_by}
use Rattle.a429_workers.specs.SentWords.{MayGoOut, SendsAt, standing_at, output_due, cells_in, cells_of}

-- ---- what went out before

earlier_turned : (g : ℕ) (p : SlotTable) (s : GroupState) (plans : List PlanTable) (t : Turn) → (after_turn g p s plans t).earlier ≡ s.earlier
earlier_turned g p s plans (Takes n) = refl
earlier_turned g p s plans StaysMid = refl
earlier_turned g p s plans StaysSpent = refl

-- a call leaves the cells that it answered
earlier_after : (g : ℕ) (p : SlotTable) (s : GroupState) (c : Call) → (after g p s c).earlier ≡ s.earlier ++ cells_in c
earlier_after g p s (Asks (Some c)) = refl
earlier_after g p s (Asks None) = sym (append-nil s.earlier)
earlier_after g p s (Turns plans t) = earlier_turned g p s plans t ∙ sym (append-nil s.earlier)
earlier_after g p s (Meets loads) = sym (append-nil s.earlier)

earlier_is : (g : ℕ) (p : SlotTable) (s : GroupState) (calls : List Call) → (state_after g p s calls).earlier ≡ s.earlier ++ cells_of calls
earlier_is g p s [] = sym (append-nil s.earlier)
earlier_is g p s (c ∷ calls) =
    earlier_is g p (after g p s c) calls ∙ (ap (λ (cs : List AnsweredCell). cs ++ cells_of calls) (earlier_after g p s c) ∙ append_assoc s.earlier (cells_in c) (cells_of calls))

pub lawful_at : (g : ℕ) (p : SlotTable) (s : GroupState) (calls : List Call) (k : ℕ) (c : Call) → AreLawful g p s calls → slice_get calls k ≡ Some c → IsLawful g p (standing_at g p s calls k) c
lawful_at g p s [] k c all h = absurd (none-some c h)
lawful_at g p s (d ∷ calls) zero c all h = subst (IsLawful g p s) (same_Some d c h) all.0
lawful_at g p s (d ∷ calls) (suc k) c all h = lawful_at g p (after g p s d) calls k c all.1 h

or_right : (a b : Bool) → b ≡ true → (a || b) ≡ true
or_right true b h = refl
or_right false b h = h

or_left : (a b : Bool) → a ≡ true → (a || b) ≡ true
or_left true b h = refl
or_left false b h = absurd (true≢false (sym h))

-- a test that a cell of an earlier call passes
passed : (test : AnsweredCell → Bool) (calls : List Call) (j k : ℕ) (c : Call) → j < k → slice_get calls j ≡ Some c → list_any test (cells_in c) ≡ true → list_any test (cells_of (take k calls)) ≡ true
passed test calls j zero c less h pass = absurd (omega (arith, less))
passed test [] j (suc k) c less h pass = absurd (none-some c h)
passed test (d ∷ calls) zero (suc k) c less h pass =
    list_any-append test (cells_in d) (cells_of (take k calls)) ∙ or_left (list_any test (cells_in d)) _ (ap (λ (x : Call). list_any test (cells_in x)) (same_Some d c h) ∙ pass)
passed test (d ∷ calls) (suc j) (suc k) c less h pass =
    list_any-append test (cells_in d) (cells_of (take k calls)) ∙ or_right (list_any test (cells_in d)) _ (passed test calls j k c (omega (arith, less)) h pass)

-- ---- a word that goes out

-- it is neither held back nor too close to another
record IsFree (earlier : List AnsweredCell) (slot : ℕ) (output : Placed) (l : Load) : Type 0 where
  pub source : l.source ≡ output.source
  pub held : is_held earlier output.source output.limits.hold l.count ≡ false
  pub close : is_too_close earlier slot output.source output.limits.spacing ≡ false

free : (held close : Bool) (x : Option ℕ) (word : ℕ) → (if held || close then None else x) ≡ Some word → (held ≡ false) × (close ≡ false)
free true close x word h = absurd (none-some word h)
free false true x word h = absurd (none-some word h)
free false false x word h = (refl, refl)

-- the output of an answered cell, and the source of its load
pub stands_there : (now : GroupState) (c : Carried) (output : Placed) (A : IsAnswered now c) → output_due now ≡ Some output → output_in now.frame.table A.cell.0 A.cell.1 ≡ Some output
stands_there now c output A due = sym (ap (λ (x : Option (ℕ × ℕ)). option_and_then (λ cell. output_in now.frame.table cell.0 cell.1) x) A.due) ∙ due

own_source : (now : GroupState) (c : Carried) (l : Load) (output : Placed) (A : IsAnswered now c) → c.load ≡ Some l → output_in now.frame.table A.cell.0 A.cell.1 ≡ Some output → l.source ≡ output.source
own_source now c l output A load stands =
    same_Some l.source output.source (ap (λ (x : Option Load). option_map (λ l. l.source) x) (sym load) ∙ (A.load ∙ ap (λ (x : Option Placed). option_map (λ o. o.source) x) stands))

is_free : (g : ℕ) (p : SlotTable) (s : GroupState) (calls : List Call) (k : ℕ) (c : Carried) (l : Load) (output : Placed) → AreLawful g p s calls → SendsAt calls k c l → output_due (standing_at g p s calls k) ≡ Some output
    → IsFree (standing_at g p s calls k).earlier c.slot output l
is_free g p s calls k c l output all S due =
    let now = standing_at g p s calls k in
    let A : IsAnswered now c = lawful_at g p s calls k (Asks (Some c)) all S.asked in
    let stands = stands_there now c output A due in
    let word = ap (λ (x : Option Placed). word_of now.earlier c.slot x c.load) (sym stands) ∙ (sym A.word ∙ S.sent) in
    let goes = ap (word_of now.earlier c.slot (Some output)) (sym S.load) ∙ word in
    let both = free (is_held now.earlier output.source output.limits.hold l.count) (is_too_close now.earlier c.slot output.source output.limits.spacing) l.word S.word goes in
    record { source = own_source now c l output A S.load stands; held = both.0; close = both.1 }

pub words_apart : (g : ℕ) (p : SlotTable) (s : GroupState) (calls : List Call) (j k : ℕ) (c d : Carried) (l m : Load) (output : Placed) → AreLawful g p s calls → j < k → SendsAt calls j c l → SendsAt calls k d m
    → l.source ≡ m.source → output_due (standing_at g p s calls k) ≡ Some output → c.slot + output.limits.spacing ≤ d.slot
words_apart g p s calls j k c d l m output all less S T same due =
    let q = output.limits.spacing in
    let F = is_free g p s calls k d m output all T due in
    elim (cases_lt d.slot (c.slot + q)) [
      | inr far ↦ far
      | inl near ↦
          let test = λ (x : AnsweredCell). has_sent output.source x && nat_lt d.slot (x.slot + q) in
          let own : (l.source == output.source) ≡ true = eq-eqb l.source output.source (same ∙ F.source) in
          let pass : list_any test (answered_by c) ≡ true = rw (S.load, S.sent, own, lt-ltb d.slot (c.slot + q) near) refl in
          let cells = passed test calls j k (Asks (Some c)) less S.asked pass in
          let found : is_too_close (standing_at g p s calls k).earlier d.slot output.source q ≡ true =
          ap (list_any test) (earlier_is g p s (take k calls)) ∙ (list_any-append test s.earlier (cells_of (take k calls)) ∙ or_right (list_any test s.earlier) _ cells) in
          absurd (true≢false (sym found ∙ F.close))
    ]

pub holds_kept : (g : ℕ) (p : SlotTable) (s : GroupState) (calls : List Call) (k : ℕ) (d : Carried) (m : Load) (output : Placed) (hold : ℕ) → AreLawful g p s calls → SendsAt calls k d m
    → output_due (standing_at g p s calls k) ≡ Some output → output.limits.hold ≡ Some hold → times_sent (cells_of (take k calls)) m.source m.count < hold
holds_kept g p s calls k d m output hold all T due limited =
    let F = is_free g p s calls k d m output all T due in
    let earlier = (standing_at g p s calls k).earlier in
    let below : times_sent earlier output.source m.count < hold =
    leb-false hold (times_sent earlier output.source m.count) (sym (ap (λ (h : Option ℕ). is_held earlier output.source h m.count) limited) ∙ F.held) in
    let test : AnsweredCell → ℕ = λ x. cond (has_sent output.source x && x.count == m.count) 1 0 in
    let parts : times_sent earlier output.source m.count ≡ times_sent s.earlier output.source m.count + times_sent (cells_of (take k calls)) output.source m.count =
    ap (λ (cs : List AnsweredCell). times_sent cs output.source m.count) (earlier_is g p s (take k calls)) ∙ sum_by-append test s.earlier (cells_of (take k calls)) in
    subst (λ (i : ℕ). times_sent (cells_of (take k calls)) i m.count < hold) (sym F.source) (omega (arith, below, parts))

-- ---- a word that may go out

-- an earlier call in whose cell a test passes
record IsFound (test : AnsweredCell → Bool) (calls : List Call) (k : ℕ) : Type 0 where
  pub place : ℕ
  pub call : Call
  pub before : place < k
  pub there : slice_get calls place ≡ Some call
  pub passes : list_any test (cells_in call) ≡ true

find_call : (test : AnsweredCell → Bool) (calls : List Call) (k : ℕ) → list_any test (cells_of (take k calls)) ≡ true → IsFound test calls k
find_call test calls zero h = absurd (true≢false (sym h))
find_call test [] (suc k) h = absurd (true≢false (sym h))
find_call test (c ∷ calls) (suc k) h = elim (or_parts (list_any test (cells_in c)) (list_any test (cells_of (take k calls))) (sym (list_any-append test (cells_in c) (cells_of (take k calls))) ∙ h)) [
  | inl here ↦ record { place = 0; call = c; before = omega arith; there = refl; passes = here }
  | inr on ↦ let F = find_call test calls k on in record { place = suc F.place; call = F.call; before = omega (arith, F.before); there = F.there; passes = F.passes }
]

-- it is a cell in which a word of the source went out too closely
pub record IsNear (calls : List Call) (j source slot q : ℕ) : Type 0 where
  pub cell : Carried
  pub load : Load
  pub sends : SendsAt calls j cell load
  pub same : load.source ≡ source
  pub near : slot < cell.slot + q

of_one : (b : Bool) → (b || false) ≡ true → b ≡ true
of_one true h = refl
of_one false h = h

is_near : (calls : List Call) (j source slot q : ℕ) (c : Call) → slice_get calls j ≡ Some c → list_any (λ x. has_sent source x && nat_lt slot (x.slot + q)) (cells_in c) ≡ true → IsNear calls j source slot q
is_near calls j source slot q (Asks None) there h = absurd (true≢false (sym h))
is_near calls j source slot q (Turns plans t) there h = absurd (true≢false (sym h))
is_near calls j source slot q (Meets loads) there h = absurd (true≢false (sym h))
is_near calls j source slot q (Asks (Some c)) there h = by c.load refl h
  where
    by : (x : Option Load) → c.load ≡ x → list_any (λ y. has_sent source y && nat_lt slot (y.slot + q)) (option_map_or (λ l. record { slot = c.slot; source = l.source; count = l.count; word = c.word } ∷ []) x []) ≡ true → IsNear calls j source slot q
    by None is pass = absurd (true≢false (sym pass))
    by (Some l) is pass =
        let own = of_one ((is_some c.word && l.source == source) && nat_lt slot (c.slot + q)) pass in
        let (sent, near) = and_parts (is_some c.word && l.source == source) (nat_lt slot (c.slot + q)) own in
        let (some, same) = and_parts (is_some c.word) (l.source == source) sent in
        let (w, word) = some_word c.word some in
        record { cell = c; load = l; sends = record { asked = there; load = is; word = w; sent = word }; same = eqb-true l.source source same; near = ltb-true slot (c.slot + q) near }

-- a word of the output's source that was sent too closely before the cell at place k
pub record HasWordNear (calls : List Call) (k source slot q : ℕ) : Type 0 where
  pub place : ℕ
  pub before : place < k
  pub near : IsNear calls place source slot q

pub word_near : (g : ℕ) (p : SlotTable) (s : GroupState) (calls : List Call) (k : ℕ) (output : Placed) (d : Carried) → s.earlier ≡ []
    → is_too_close (standing_at g p s calls k).earlier d.slot output.source output.limits.spacing ≡ true → HasWordNear calls k output.source d.slot output.limits.spacing
word_near g p s calls k output d none close =
    let cells : (standing_at g p s calls k).earlier ≡ cells_of (take k calls) = earlier_is g p s (take k calls) ∙ ap (λ (cs : List AnsweredCell). cs ++ cells_of (take k calls)) none in
    let test : AnsweredCell → Bool = λ x. has_sent output.source x && nat_lt d.slot (x.slot + output.limits.spacing) in
    let F = find_call test calls k (ap (list_any test) (sym cells) ∙ close) in
    record { place = F.place; before = F.before; near = is_near calls F.place output.source d.slot output.limits.spacing F.call F.there F.passes }

pub goes_out : (g : ℕ) (p : SlotTable) (s : GroupState) (calls : List Call) (k : ℕ) (d : Carried) (m : Load) (output : Placed) → s.earlier ≡ [] → AreLawful g p s calls → slice_get calls k ≡ Some (Asks (Some d)) → d.load ≡ Some m
    → output_due (standing_at g p s calls k) ≡ Some output → MayGoOut calls k output d m → d.word ≡ m.word
goes_out g p s calls k d m output none all asked load due M =
    let now = standing_at g p s calls k in
    let A : IsAnswered now d = lawful_at g p s calls k (Asks (Some d)) all asked in
    let stands = stands_there now d output A due in
    let source = own_source now d m output A load stands in
    let cells : now.earlier ≡ cells_of (take k calls) = earlier_is g p s (take k calls) ∙ ap (λ (cs : List AnsweredCell). cs ++ cells_of (take k calls)) none in
    let held : is_held now.earlier output.source output.limits.hold m.count ≡ false = not_held output.limits.hold (λ hold is. subst (λ (i : ℕ). times_sent now.earlier i m.count < hold) source (subst (λ (cs : List AnsweredCell). times_sent cs m.source m.count < hold) (sym cells) (M.held hold is))) in
    let close : is_too_close now.earlier d.slot output.source output.limits.spacing ≡ false = elim (cases_Bool (is_too_close now.earlier d.slot output.source output.limits.spacing)) [
      | inl near ↦
          let W = word_near g p s calls k output d none near in
          let N = W.near in
          absurd (omega (arith, N.near, M.apart W.place N.cell N.load W.before N.sends (N.same ∙ sym source)))
      | inr far ↦ far
    ] in
    A.word ∙ (ap (λ (x : Option Placed). word_of now.earlier d.slot x d.load) stands ∙ (ap (word_of now.earlier d.slot (Some output)) load ∙ rw (held, close) refl))
  where
    not_held : (x : Option ℕ) → ((hold : ℕ) → x ≡ Some hold → times_sent (standing_at g p s calls k).earlier output.source m.count < hold) → is_held (standing_at g p s calls k).earlier output.source x m.count ≡ false
    not_held None below = refl
    not_held (Some hold) below = lt-leb hold (times_sent (standing_at g p s calls k).earlier output.source m.count) (below hold refl)
