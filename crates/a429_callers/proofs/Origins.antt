-- Each word that a running station sends came to the receiver of its source, which accepts it there.
use Rattle.std.proofs.Common.{◌≡◌, ◌∙◌, ◌<◌, ◌-◌, ◌^◌, ◌++◌, ℕ, zero, suc, Bool, true, false, List, [], ◌∷◌, length, get_or, refl, sym, subst, ap, arith, inl, inr}
use Rattle.std.specs.Prelude.{◌==◌, Contains, Option, Some, None, Result, Ok, Err, if◌then◌else◌, option_and_then, option_map, option_to_list, position, slice_get, take}
use Rattle.std.specs.Option.{option_map_or}
use Rattle.std.specs.List.{AllByRecursion, AllZip}
use Rattle.std.proofs.lemmas.List.Quantifiers.{position-Some}
use Rattle.std.proofs.lemmas.Option.{none-some, same_Some, slice_get-get_or}
use Rattle.std.proofs.lemmas.Bool.{and_from, and_parts, cases_lt, cases_eq, lt-ltb, le-ltb, eq-eqb, eqb-true, ne_eqb}
use Rattle.a429_word.specs.Bits.{has_odd_parity}
use Rattle.a429_word.proofs.Lists.{all_at, all_back, all_front}
use Rattle.a429_equipment.specs.declared.arrivals.ArrivalRefusal.{ArrivalRefusal}
use Rattle.a429_equipment.specs.declared.arrivals.ArrivalRefusal.TheVariants.{Parity, Filtered, NoSource}
use Rattle.a429_equipment.specs.declared.loads.Load.{Load}
use Rattle.a429_equipment.specs.declared.rows.SourceRow.{SourceRow}
use Rattle.a429_equipment.specs.TableRecord.{TableRecord}
use Rattle.a429_equipment.specs.Arrivals.{SourcesAreApart, accepts, is_for, passes_at, sorted}
use Rattle.a429_equipment.specs.Receiving.{with_word, accepted_after}
use Rattle.a429_equipment.specs.Agreement.{Agrees, Cuts, IsCutOfLoad, is_of, words_of}
use Rattle.a429_filter.specs.declared.sources.LineSource as LineSource
use Rattle.a429_workers.specs.declared.sinks.BusSink as BusSink
use Rattle.a429_slots.specs.Tables.{Placed, SlotTable, output_in}
use Rattle.a429_slots.specs.History.{AnsweredCell}
use Rattle.a429_workers.specs.Calls.{Call, Carried, Asks, Turns, Meets, IsAnswered, IsLawful, GroupState, AreLawful, after, loads_in, loads_of, state_after, word_of}
use Rattle.a429_workers.specs.Receives.{Gives}
use Rattle.a429_workers.specs.Runs.{WorkIsOneRun}
use Rattle.a429_workers.specs.Sends.{sent_in}
use Rattle.a429_workers.specs.SentWords.{output_due}
use Rattle.a429_workers.specs.declared.cells.Sent.{Sent}
use Rattle.a429_workers.specs.declared.sending.SendTotals.{SendTotals}
use Rattle.a429_core.specs.Sends.{SentWordsWereAccepted}
use Rattle.a429_station.specs.Numbered.{AllOfThree}
use Rattle.a429_station.specs.Resubmitting.{opening}
use Rattle.a429_station.specs.Course.{Course, HasRun, IsHeardIn, IsSentIn, RunAsk, heard_in, meetings}
use Rattle.a429_station.specs.declared.reports.Report.{Report}
use Rattle.a429_slots.specs.Spacing.{IsOwnPlan}
use Rattle.a429_callers.specs.KnownWords.{KnownWordsGoOutInTime}
use Rattle.a429_callers.specs.Origins.{AreOwnWords, HasRunInTime, HasRunOnLatestWords, HasRunOnOwnWords, IsGiven, IsWordOf, HaveTakenGivenWords, SendsInTime, SendsLatestWords, SendsOwnWords, TookGivenWords}

-- ---- lists

all_of : {X : Type 0} (P : X → Type 0) (xs : List X) → ((k : ℕ) (x : X) → slice_get xs k ≡ Some x → P x) → AllByRecursion P xs
all_of P [] each = tt
all_of P (x ∷ xs) each = (each 0 x refl, all_of P xs (λ k y h. each (suc k) y h))

there_is : {X : Type 0} (xs : List X) (k : ℕ) → k < length xs → (x : X) × (slice_get xs k ≡ Some x)
there_is [] k lt = absurd (omega (arith, lt))
there_is (x ∷ xs) zero lt = (x, refl)
there_is (x ∷ xs) (suc k) lt = there_is xs k (omega (arith, lt))

first_in : (x : ℕ) (xs : List ℕ) → Contains (x ∷ xs) x
first_in x xs = (0, omega arith, refl)

rest_in : (x w : ℕ) (xs : List ℕ) → Contains xs w → Contains (x ∷ xs) w
rest_in x w xs h = (suc h.0, omega (arith, h.1), h.2)

back_in : (w : ℕ) (xs ys : List ℕ) → Contains ys w → Contains (xs ++ ys) w
back_in w [] ys h = h
back_in w (x ∷ xs) ys h = rest_in x w (xs ++ ys) (back_in w xs ys h)

-- ---- accepted words

pushed : (P : ℕ → ℕ → Type 0) (A : List (ℕ × ℕ)) (s raw : ℕ) → AllByRecursion (λ e. P e.0 e.1) A → P s raw → AllByRecursion (λ e. P e.0 e.1) (A ++ (s, raw) ∷ [])
pushed P [] s raw all p = (p, tt)
pushed P (x ∷ A) s raw all p = (all.0, pushed P A s raw all.1 p)

added : (P : ℕ → ℕ → Type 0) (limit : ℕ) (A : List (ℕ × ℕ)) (raw : ℕ) (x : Result ℕ ArrivalRefusal) → AllByRecursion (λ e. P e.0 e.1) A → ((s : ℕ) → x ≡ Ok s → P s raw)
    → AllByRecursion (λ e. P e.0 e.1) (with_word limit A raw x)
added P limit A raw (Err refusal) all p = all
added P limit A raw (Ok s) all p = elim (cases_lt (length (words_of s A)) limit) [
  | inl lt ↦ rw (lt-ltb (length (words_of s A)) limit lt) (pushed P A s raw all (p s refl))
  | inr ge ↦ rw (le-ltb (length (words_of s A)) limit ge) all
]

all_accepted : (P : ℕ → ℕ → Type 0) (limit : ℕ) (t : TableRecord) (r : ℕ) (A : List (ℕ × ℕ)) (raws : List ℕ) → AllByRecursion (λ e. P e.0 e.1) A
    → ((s raw : ℕ) → sorted t r raw ≡ Ok s → Contains raws raw → P s raw) → AllByRecursion (λ e. P e.0 e.1) (accepted_after limit t r A raws)
all_accepted P limit t r A [] all each = all
all_accepted P limit t r A (raw ∷ raws) all each =
    all_accepted P limit t r (with_word limit A raw (sorted t r raw)) raws (added P limit A raw (sorted t r raw) all (λ s is. each s raw is (first_in raw raws)))
    (λ s w is there. each s w is (rest_in raw w raws there))

all_words : (P : ℕ → ℕ → Type 0) (s cut : ℕ) (A : List (ℕ × ℕ)) → AllByRecursion (λ e. P e.0 e.1) A → AllByRecursion (P s) (words_of s (take cut A))
all_words P s zero A all = tt
all_words P s (suc n) [] all = tt
all_words P s (suc n) (e ∷ A) all = elim (cases_eq e.0 s) [
  | inl same ↦ rw (eq-eqb e.0 s same) (subst (λ (i : ℕ). P i e.1) same all.0, all_words P s n A all.1)
  | inr other ↦ rw (ne_eqb e.0 s other) (all_words P s n A all.1)
]

-- ---- sources

found_by : (odd passes : Bool) (found : Option ℕ) (s : ℕ)
    → (if odd then (if passes then option_map_or (λ i. Ok i) found (Err NoSource) else Err Filtered) else Err Parity) ≡ Ok s
    → (odd ≡ true) × (passes ≡ true) × (found ≡ Some s)
found_by true true (Some i) s h = (refl, refl, cc)
found_by true true None s h = absurd cc
found_by true false found s h = absurd cc
found_by false passes found s h = absurd cc

nobody : SourceRow
nobody = record { name = []; receiver = 0; label = 0; sdi = None }

-- a word that is for a source is one that the source accepts
word_of_source : (t : TableRecord) (came : ℕ → List ℕ) (r s raw : ℕ) → sorted t r raw ≡ Ok s → Contains (came r) raw → IsWordOf t came s raw
word_of_source t came r s raw is arrived =
    let found = found_by (has_odd_parity raw) (passes_at t r raw) (position (is_for r raw) t.sources) s is in
    let inside : s < length t.sources = (position-Some (is_for r raw) t.sources s nobody found.2).0 in
    let row = there_is t.sources s inside in
    let same : get_or t.sources s row.0 ≡ row.0 = same_Some _ _ (sym (slice_get-get_or t.sources s row.0 inside) ∙ row.1) in
    let passes : is_for r raw row.0 ≡ true = subst (λ (x : SourceRow). is_for r raw x ≡ true) same (position-Some (is_for r raw) t.sources s row.0 found.2).1 in
    let here : row.0.receiver ≡ r = eqb-true row.0.receiver r (and_parts (row.0.receiver == r) _ passes).0 in
    let all : accepts t row.0 (r, raw) ≡ true = and_from (has_odd_parity raw) _ found.0 (and_from (passes_at t r raw) _ found.1 passes) in
    record {
      row = row.0;
      there = row.1;
      accepted = subst (λ (n : ℕ). accepts t row.0 (n, raw) ≡ true) (sym here) all;
      arrived = subst (λ (n : ℕ). Contains (came n) raw) (sym here) arrived;
    }

-- ---- loads

-- the word of the load is one of its source, if it has one
abbrev LoadIs : (ℕ → ℕ → Type 0) → Load → Type 0
LoadIs Q l = (w : ℕ) → l.word ≡ Some w → Q l.source w

cuts_tell : (mine : ℕ → Bool) (A : List (ℕ × ℕ)) (before last : ℕ) (loads : List Load) (P : ℕ → ℕ → Type 0) → Cuts mine A before loads last → AllByRecursion (λ e. P e.0 e.1) A
    → AllByRecursion (λ l. mine l.source ≡ true → LoadIs P l) loads
cuts_tell mine A before last [] P h all = tt
cuts_tell mine A before last (l ∷ ls) P h all = (
  λ own w is.
      let c : IsCutOfLoad true A before l h.0 = subst (λ (b : Bool). IsCutOfLoad b A before l h.0) own h.1 in
      all_at (P l.source) (words_of l.source (take h.0 A)) (length (words_of l.source (take h.0 A)) - 1) w (all_words P l.source h.0 A all) (sym (ap (λ (m : Load). m.word) c.2) ∙ is),
  cuts_tell mine A h.0 last ls P h.2 all,
)

own_source : (t : TableRecord) (s : ℕ) (row : SourceRow) → slice_get t.sources s ≡ Some row → is_of t row.receiver s ≡ true
own_source t s row there = ap (λ (x : Option SourceRow). option_map_or (λ (y : SourceRow). y.receiver == row.receiver) x false) there ∙ eq-eqb row.receiver row.receiver refl

loads_tell : (t : TableRecord) (loads : List Load) (heard : ℕ → List (ℕ × ℕ)) (Q : ℕ → ℕ → Type 0)
    → ((i : ℕ) (row : SourceRow) → slice_get t.sources i ≡ Some row → row.receiver < length t.receivers)
    → AllByRecursion (λ l. l.source < length t.sources) loads
    → ((r : ℕ) → r < length t.receivers → Agrees t r (heard r) loads)
    → ((r : ℕ) → r < length t.receivers → AllByRecursion (λ e. Q e.0 e.1) (heard r))
    → AllByRecursion (LoadIs Q) loads
loads_tell t loads heard Q received known agree all =
    all_of (LoadIs Q) loads (λ k l there.
    let found = there_is t.sources l.source (all_at (λ (m : Load). m.source < length t.sources) loads k l known there) in
    let r : ℕ = found.0.receiver in
    let inside : r < length t.receivers = received l.source found.0 found.1 in
    let agreed = agree r inside in
    all_at (λ (m : Load). is_of t r m.source ≡ true → LoadIs Q m) loads k l (cuts_tell (is_of t r) (heard r) 0 agreed.0 loads Q agreed.1 (all r inside)) there
    (own_source t l.source found.0 found.1))

-- ---- cells

either : (b : Bool) (x : Option ℕ) (w : ℕ) → (if b then None else x) ≡ Some w → x ≡ Some w
either true x w h = absurd (none-some w h)
either false x w h = h

-- the cell has an output, whose source has the word
abbrev OutputHas : (ℕ → ℕ → Type 0) → Option Placed → ℕ → Type 0
OutputHas Q out w = (output : Placed) × (out ≡ Some output) × Q output.source w

word_told : (Q : ℕ → ℕ → Type 0) (earlier : List AnsweredCell) (slot : ℕ) (out : Option Placed) (o : Option Load) (w : ℕ) → word_of earlier slot out o ≡ Some w
    → option_map (λ l. l.source) o ≡ option_map (λ p. p.source) out → AllByRecursion (LoadIs Q) (option_to_list o) → OutputHas Q out w
word_told Q earlier slot None None w h same all = absurd (none-some w h)
word_told Q earlier slot None (Some l) w h same all = absurd (none-some w h)
word_told Q earlier slot (Some p) None w h same all = absurd (none-some w h)
word_told Q earlier slot (Some p) (Some l) w h same all = (p, refl, subst (λ (s : ℕ). Q s w) (same_Some l.source p.source same) (all.0 w (either _ l.word w h)))

cell_told : (Q : ℕ → ℕ → Type 0) (s : GroupState) (c : Carried) (w : ℕ) → IsAnswered s c → c.word ≡ Some w → AllByRecursion (LoadIs Q) (option_to_list c.load) → OutputHas Q (output_due s) w
cell_told Q s c w answered is all =
    let due : output_due s ≡ output_in s.frame.table answered.cell.0 answered.cell.1 =
    ap (λ (x : Option (ℕ × ℕ)). option_and_then (λ cell. output_in s.frame.table cell.0 cell.1) x) answered.due in
    subst (λ (out : Option Placed). OutputHas Q out w) (sym due)
    (word_told Q s.earlier c.slot (output_in s.frame.table answered.cell.0 answered.cell.1) c.load w (sym answered.word ∙ is) answered.load all)

-- of each cell that was answered among lawful calls
own_at : (g : ℕ) (p : SlotTable) (s : GroupState) (calls more : List Call) (Q : ℕ → ℕ → Type 0) → AreLawful g p s (calls ++ more) → AllByRecursion (LoadIs Q) (loads_of (calls ++ more))
    → (k : ℕ) (c : Carried) (w : ℕ) → slice_get calls k ≡ Some (Asks (Some c)) → c.word ≡ Some w → OutputHas Q (output_due (state_after g p s (take k calls))) w
own_at g p s [] more Q lawful all k c w there is = absurd (none-some _ there)
own_at g p s (x ∷ calls) more Q lawful all zero c w there is =
    let asked : x ≡ Asks (Some c) = same_Some x (Asks (Some c)) there in
    cell_told Q s c w (subst (λ (y : Call). IsLawful g p s y) asked lawful.0) is
    (subst (λ (y : Call). AllByRecursion (LoadIs Q) (loads_in y)) asked (all_front (LoadIs Q) (loads_in x) (loads_of (calls ++ more)) all))
own_at g p s (x ∷ calls) more Q lawful all (suc k) c w there is =
    own_at g p (after g p s x) calls more Q lawful.1 (all_back (LoadIs Q) (loads_in x) (loads_of (calls ++ more)) all) k c w there is

-- what is true of the word of each answered cell is true of that of each cell that was sent
sent_all : (P : ℕ → Type 0) (calls : List Call) → ((k : ℕ) (c : Carried) (w : ℕ) → slice_get calls k ≡ Some (Asks (Some c)) → c.word ≡ Some w → P w)
    → AllByRecursion (λ s. (w : ℕ) → s.word ≡ Some w → P w) (sent_in calls)
sent_all P [] each = tt
sent_all P (Asks None ∷ calls) each = sent_all P calls (λ k. each (suc k))
sent_all P (Asks (Some c) ∷ calls) each = (λ w is. each 0 c w refl is, sent_all P calls (λ k. each (suc k)))
sent_all P (Turns plans t ∷ calls) each = sent_all P calls (λ k. each (suc k))
sent_all P (Meets loads ∷ calls) each = sent_all P calls (λ k. each (suc k))

-- ---- the station

weaker : {X Y Z : Type 0} (P Q : ℕ → X → Y → Z → Type 0) (f : (k : ℕ) (x : X) (y : Y) (z : Z) → P k x y z → Q k x y z)
    (xs : List X) (ys : List Y) (zs : List Z) → AllOfThree P xs ys zs → AllOfThree Q xs ys zs
weaker P Q f [] [] [] h = tt
weaker P Q f [] [] (z ∷ zs) h = absurd h
weaker P Q f [] (y ∷ ys) [] h = absurd h
weaker P Q f [] (y ∷ ys) (z ∷ zs) h = absurd h
weaker P Q f (x ∷ xs) [] [] h = absurd h
weaker P Q f (x ∷ xs) [] (z ∷ zs) h = absurd h
weaker P Q f (x ∷ xs) (y ∷ ys) [] h = absurd h
weaker P Q f (x ∷ xs) (y ∷ ys) (z ∷ zs) h = (f 0 x y z h.0, weaker (λ k. P (suc k)) (λ k. Q (suc k)) (λ k. f (suc k)) xs ys zs h.1)

zipped : {X Y Z : Type 0} (P : ℕ → X → Y → Z → Type 0) (Q : X → Y → Type 0) (f : (k : ℕ) (x : X) (y : Y) (z : Z) → P k x y z → Q x y)
    (xs : List X) (ys : List Y) (zs : List Z) → AllOfThree P xs ys zs → AllZip Q xs ys
zipped P Q f [] [] [] h = tt
zipped P Q f [] [] (z ∷ zs) h = absurd h
zipped P Q f [] (y ∷ ys) [] h = absurd h
zipped P Q f [] (y ∷ ys) (z ∷ zs) h = absurd h
zipped P Q f (x ∷ xs) [] [] h = absurd h
zipped P Q f (x ∷ xs) [] (z ∷ zs) h = absurd h
zipped P Q f (x ∷ xs) (y ∷ ys) [] h = absurd h
zipped P Q f (x ∷ xs) (y ∷ ys) (z ∷ zs) h = (f 0 x y z h.0, zipped (λ k. P (suc k)) Q (λ k. f (suc k)) xs ys zs h.1)

-- the items at a place of three lists
record HasPlace {X Y Z : Type 0} (P : ℕ → X → Y → Z → Type 0) (ys : List Y) (r : ℕ) : Type 0 where
  pub first : X
  pub second : Y
  pub third : Z
  pub there : slice_get ys r ≡ Some second
  pub holds : P r first second third

at_place : {X Y Z : Type 0} (P : ℕ → X → Y → Z → Type 0) (xs : List X) (ys : List Y) (zs : List Z) → AllOfThree P xs ys zs → (r : ℕ) → r < length xs → HasPlace P ys r
at_place P [] ys zs h r lt = absurd (omega (arith, lt))
at_place P (x ∷ xs) [] [] h r lt = absurd h
at_place P (x ∷ xs) [] (z ∷ zs) h r lt = absurd h
at_place P (x ∷ xs) (y ∷ ys) [] h r lt = absurd h
at_place P (x ∷ xs) (y ∷ ys) (z ∷ zs) h zero lt = record { first = x; second = y; third = z; there = refl; holds = h.0 }
at_place P (x ∷ xs) (y ∷ ys) (z ∷ zs) h (suc r) lt =
    let next = at_place (λ k. P (suc k)) xs ys zs h.1 r (omega (arith, lt)) in
    record { first = next.first; second = next.second; third = next.third; there = next.there; holds = next.holds }

-- what a group that takes part in a run sends are its own words
own_words : {B : Type 0} (taken : B → Option (List Sent)) (frames : ℕ) (t : TableRecord) (c : Course) (g : ℕ) (before after : B) (totals : SendTotals)
    → (S : IsSentIn taken frames t c g before after totals) → AreOwnWords t c g S.table S.calls
own_words taken frames t c g before after totals S =
    let Q : ℕ → ℕ → Type 0 = IsWordOf t c.came in
    let told = loads_tell t (loads_of (S.calls ++ meetings t c)) (heard_in t c) Q S.works.wired.received S.works.known S.works.agree
    (λ r inside. all_accepted Q (2 ^ 41 - 1) t r [] (c.came r) tt (λ s raw is arrived. word_of_source t c.came r s raw is arrived)) in
    λ k d w there is.
    let found = own_at g S.table _ S.calls (meetings t c) Q S.works.lawful told k d w there is in
    record { output = found.0; stands = found.1; word = found.2 }

module _ {L B : Type 0} (source : LineSource.Ghosts L) (sink : BusSink.Ghosts B) (ask : RunAsk L B) where
  pub all_own : (report : Report L B) → HasRun source sink ask report
      → HasRunOnOwnWords source sink ask report
  all_own report H = record {
    ran = H;
    sent = weaker (IsSentIn sink.taken ask.frames ask.table H.course) (SendsOwnWords sink.taken ask.frames ask.table H.course)
        (λ g before after totals S. record { sent = S; own = own_words sink.taken ask.frames ask.table H.course g before after totals S }) ask.sinks report.sinks.items report.groups.items H.sent;
  }

  -- the line of the receiver of a source gave each word of the source
  given_by : (c : Course) (sources lines : List L) (totals : _) → length sources ≡ length ask.table.receivers → AllOfThree (IsHeardIn (Gives source.given source.left) source.ended ask.table c) sources lines totals
      → ((i : ℕ) (row : SourceRow) → slice_get ask.table.sources i ≡ Some row → row.receiver < length ask.table.receivers)
      → (s w : ℕ) → IsWordOf ask.table c.came s w → IsGiven ask.table source.given lines w
  given_by c sources lines totals few heard received s w own =
      let inside = received s own.row own.there in
      let one = at_place (IsHeardIn (Gives source.given source.left) source.ended ask.table c) sources lines totals heard own.row.receiver (omega (arith, few, inside)) in
      record {
        source = s;
        row = own.row;
        has_row = own.there;
        accepted = own.accepted;
        line = one.second;
        there = one.there;
        gave = subst (λ (ws : List ℕ). Contains ws w) (sym one.holds.gave.gave) (back_in w (source.given one.first) (c.came own.row.receiver) own.arrived);
      }

  pub all_given : (report : Report L B) → length ask.sources ≡ length ask.table.receivers
      → HasRun source sink ask report → HaveTakenGivenWords source sink ask report
  all_given report few H =
      let c : Course = H.course in
      let lines : List L = report.sources.items in
      zipped (IsSentIn sink.taken ask.frames ask.table c) (TookGivenWords ask.table source.given sink.taken lines) (λ g before after totals S.
      record {
        cells = sent_in S.calls;
        took = S.took;
        words = sent_all (IsGiven ask.table source.given lines) S.calls (λ k d w there is.
            let found = own_words sink.taken ask.frames ask.table c g before after totals S k d w there is in
            given_by c ask.sources lines report.receivers.items few H.heard S.works.wired.received found.output.source w found.word);
      }) ask.sinks report.sinks.items report.groups.items H.sent

  -- by the laws of a429_workers and of a429_core
  pub all_latest : WorkIsOneRun → SentWordsWereAccepted → SourcesAreApart ask.table.sources → (report : Report L B)
      → HasRun source sink ask report → HasRunOnLatestWords source sink ask report
  all_latest one_run accepted apart report H =
      let c : Course = H.course in
      record {
        ran = H;
        sent = weaker (IsSentIn sink.taken ask.frames ask.table c) (SendsLatestWords sink.taken ask.frames ask.table c) (λ g before after totals S.
            let run = one_run 41 (opening ask.table c.opened) g S.table c.later (S.calls ++ meetings ask.table c) (heard_in ask.table c) S.works in
            record {
              sent = S;
              run = run;
              latest = λ k bus slot w there answered. accepted 41 (opening ask.table c.opened) (take k run.events) g S.table bus slot w apart S.works.opens answered;
            }) ask.sinks report.sinks.items report.groups.items H.sent;
      }

  -- by the law of this crate
  pub all_in_time : KnownWordsGoOutInTime → SourcesAreApart ask.table.sources → (report : Report L B)
      → HasRun source sink ask report → HasRunInTime source sink ask report
  all_in_time law apart report H =
      let c : Course = H.course in
      let opened : IsOwnPlan (opening ask.table c.opened).proposal = record { plan = record { number = refl; count = H.planned.count; groups = H.planned.groups }; own = H.own_sources } in
      record {
        ran = H;
        sent = weaker (IsSentIn sink.taken ask.frames ask.table c) (SendsInTime sink.taken ask.frames ask.table c) (λ g before after totals S.
            record { sent = S; in_time = law 41 (opening ask.table c.opened) g S.table c.later (S.calls ++ meetings ask.table c) (heard_in ask.table c) S.works apart opened H.own_plans }) ask.sinks report.sinks.items report.groups.items H.sent;
      }
