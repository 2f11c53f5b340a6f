-- The words in the cells that a group sent are words that the line gave.
use Rattle.std.proofs.Common.{◌≡◌, ◌∙◌, ◌<◌, ◌-◌, ◌++◌, ℕ, zero, suc, Bool, true, false, List, [], ◌∷◌, length, refl, sym, subst, ap, arith, inl, inr, append-nil, append_assoc}
use Rattle.std.specs.Prelude.{◌==◌, Contains, Option, Some, None, Result, Ok, Err, if◌then◌else◌, option_to_list, slice_get, take}
use Rattle.std.specs.Option.{option_map_or}
use Rattle.std.specs.List.{AllByRecursion}
use Rattle.std.proofs.lemmas.Option.{none-some}
use Rattle.std.proofs.lemmas.Bool.{cases_lt, cases_eq, lt-ltb, le-ltb, eq-eqb, ne_eqb}
use Rattle.a429_word.proofs.Lists.{all_at, all_back, all_front, all_push}
use Rattle.a429_equipment.specs.declared.arrivals.ArrivalRefusal.{ArrivalRefusal}
use Rattle.a429_equipment.specs.declared.loads.Load.{Load}
use Rattle.a429_equipment.specs.declared.rows.SourceRow.{SourceRow}
use Rattle.a429_equipment.specs.TableRecord.{TableRecord}
use Rattle.a429_equipment.specs.Arrivals.{sorted}
use Rattle.a429_equipment.specs.Receiving.{AreAccepted, with_word, accepted_after}
use Rattle.a429_equipment.specs.Agreement.{Agrees, AgreesToTheEnd, Cuts, IsCutOfLoad, is_of, words_of}
use Rattle.a429_slots.specs.Tables.{Placed, PlanTable, SlotTable, output_in}
use Rattle.a429_slots.specs.History.{AnsweredCell}
use Rattle.a429_board.specs.Lists.{Planning}
use Rattle.a429_values.specs.Ends.{Place, ReceiverEnd, TransmitterEnd}
use Rattle.a429_workers.specs.Calls.{Call, Asks, Turns, Meets, GroupState, AreLawful, after, before_calls, loads_of, word_of}
use Rattle.a429_workers.specs.Sends.{sent_in}
use Rattle.a429_workers.specs.Transmitting.{GoesOnByCalls, HasMade, IsKnownPlan, IsSameGroup, Outset, StandsForCalls, Transmitting, met}
use Rattle.a429_workers.specs.declared.cells.Sent.{Sent}
use Rattle.a429_uses.specs.Listening.{HasListened}
use Rattle.a429_uses.specs.Stations.{HasWordOfLine, HasSentCells, IsWordOfLine, EndsAreReady, TookWordsOfLine}

-- ---- words that came in

given_there : (before : List ℕ) (w : ℕ) (later : List ℕ) → Contains (before ++ w ∷ later) w
given_there [] w later = (0, omega arith, refl)
given_there (x ∷ xs) w later = let h = given_there xs w later in (suc h.0, omega (arith, h.1), h.2)

given_each : (before words : List ℕ) → AllByRecursion (Contains (before ++ words)) words
given_each before [] = tt
given_each before (w ∷ words) = (
  given_there before w words,
  subst (λ (all : List ℕ). AllByRecursion (Contains all) words) (append_assoc before (w ∷ []) words) (given_each (before ++ w ∷ []) words),
)

-- ---- words that were accepted

added : (P : ℕ → Type 0) (limit : ℕ) (A : List (ℕ × ℕ)) (raw : ℕ) (x : Result ℕ ArrivalRefusal) → AllByRecursion (λ e. P e.1) A → P raw → AllByRecursion (λ e. P e.1) (with_word limit A raw x)
added P limit A raw (Err refusal) all p = all
added P limit A raw (Ok s) all p = elim (cases_lt (length (words_of s A)) limit) [
  | inl lt ↦ rw (lt-ltb (length (words_of s A)) limit lt) (all_push (λ (e : ℕ × ℕ). P e.1) A (s, raw) all p)
  | inr ge ↦ rw (le-ltb (length (words_of s A)) limit ge) all
]

all_accepted : (P : ℕ → Type 0) (limit : ℕ) (t : TableRecord) (r : ℕ) (A : List (ℕ × ℕ)) (raws : List ℕ) → AllByRecursion (λ e. P e.1) A → AllByRecursion P raws
    → AllByRecursion (λ e. P e.1) (accepted_after limit t r A raws)
all_accepted P limit t r A [] all each = all
all_accepted P limit t r A (raw ∷ raws) all each = all_accepted P limit t r (with_word limit A raw (sorted t r raw)) raws (added P limit A raw (sorted t r raw) all each.0) each.1

all_given : (t : TableRecord) (given : List ℕ) (A : List (ℕ × ℕ)) → AreAccepted t 0 A → AllByRecursion (λ e. Contains given e.1) A → AllByRecursion (λ e. IsWordOfLine t given e.1) A
all_given t given [] valid came = tt
all_given t given (e ∷ A) valid came = (
  record { source = e.0; row = valid.0.row; there = valid.0.there; accepted = valid.0.accepts; gave = came.0 },
  all_given t given A valid.1 came.1,
)

all_words : (P : ℕ → Type 0) (s cut : ℕ) (A : List (ℕ × ℕ)) → AllByRecursion (λ e. P e.1) A → AllByRecursion P (words_of s (take cut A))
all_words P s zero A all = tt
all_words P s (suc n) [] all = tt
all_words P s (suc n) (e ∷ A) all = elim (cases_eq e.0 s) [
  | inl same ↦ rw (eq-eqb e.0 s same) (all.0, all_words P s n A all.1)
  | inr other ↦ rw (ne_eqb e.0 s other) (all_words P s n A all.1)
]

-- ---- words that were loaded

-- the word of the load is such a word, if it has one
abbrev LoadIs : (ℕ → Type 0) → Load → Type 0
LoadIs P l = (w : ℕ) → l.word ≡ Some w → P w

loads_told : (P : ℕ → Type 0) (mine : ℕ → Bool) (A : List (ℕ × ℕ)) (before last sources : ℕ) (loads : List Load) → ((s : ℕ) → s < sources → mine s ≡ true)
    → Cuts mine A before loads last → AllByRecursion (λ l. l.source < sources) loads → AllByRecursion (λ e. P e.1) A → AllByRecursion (LoadIs P) loads
loads_told P mine A before last sources [] own h known all = tt
loads_told P mine A before last sources (l ∷ ls) own h known all =
    let c : IsCutOfLoad true A before l h.0 = subst (λ (b : Bool). IsCutOfLoad b A before l h.0) (own l.source known.0) h.1 in (
      λ w is. all_at P (words_of l.source (take h.0 A)) (length (words_of l.source (take h.0 A)) - 1) w (all_words P l.source h.0 A all) (sym (ap (λ (m : Load). m.word) c.2) ∙ is),
      loads_told P mine A h.0 last sources ls own h.2 known.1 all,
    )

there_is : {X : Type 0} (xs : List X) (k : ℕ) → k < length xs → (x : X) × (slice_get xs k ≡ Some x)
there_is [] k lt = absurd (omega (arith, lt))
there_is (x ∷ xs) zero lt = (x, refl)
there_is (x ∷ xs) (suc k) lt = there_is xs k (omega (arith, lt))

-- each source is of the one receiver
one_receiver : (t : TableRecord) → length t.receivers ≡ 1 → ((i : ℕ) (row : SourceRow) → slice_get t.sources i ≡ Some row → row.receiver < length t.receivers)
    → (s : ℕ) → s < length t.sources → is_of t 0 s ≡ true
one_receiver t one received s inside =
    let found = there_is t.sources s inside in
    let first : found.0.receiver ≡ 0 = omega (arith, one, received s found.0 found.1) in
    ap (λ (x : Option SourceRow). option_map_or (λ (y : SourceRow). y.receiver == 0) x false) found.1 ∙ eq-eqb found.0.receiver 0 first

-- ---- words that were sent

either : (b : Bool) (x : Option ℕ) (w : ℕ) → (if b then None else x) ≡ Some w → x ≡ Some w
either true x w h = absurd (none-some w h)
either false x w h = h

word_told : (P : ℕ → Type 0) (earlier : List AnsweredCell) (slot : ℕ) (out : Option Placed) (o : Option Load) (w : ℕ) → word_of earlier slot out o ≡ Some w
    → AllByRecursion (LoadIs P) (option_to_list o) → P w
word_told P earlier slot None None w h all = absurd (none-some w h)
word_told P earlier slot None (Some l) w h all = absurd (none-some w h)
word_told P earlier slot (Some p) None w h all = absurd (none-some w h)
word_told P earlier slot (Some p) (Some l) w h all = all.0 w (either _ l.word w h)

-- of each cell that was answered among lawful calls
cells_told : (P : ℕ → Type 0) (g : ℕ) (p : SlotTable) (s : GroupState) (calls more : List Call) → AreLawful g p s (calls ++ more) → AllByRecursion (LoadIs P) (loads_of (calls ++ more))
    → AllByRecursion (λ (c : Sent). (w : ℕ) → c.word ≡ Some w → P w) (sent_in calls)
cells_told P g p s [] more L all = tt
cells_told P g p s (Asks None ∷ calls) more L all = cells_told P g p s calls more L.1 all
cells_told P g p s (Asks (Some c) ∷ calls) more L all = (
  λ w is. word_told P s.earlier c.slot (output_in s.frame.table L.0.cell.0 L.0.cell.1) c.load w (sym L.0.word ∙ is) (all_front (LoadIs P) (option_to_list c.load) (loads_of (calls ++ more)) all),
  cells_told P g p (after g p s (Asks (Some c))) calls more L.1 (all_back (LoadIs P) (option_to_list c.load) (loads_of (calls ++ more)) all),
)
cells_told P g p s (Turns plans t ∷ calls) more L all = cells_told P g p (after g p s (Turns plans t)) calls more L.1 all
cells_told P g p s (Meets loads ∷ calls) more L all = cells_told P g p s calls more L.1 (all_back (LoadIs P) loads (loads_of (calls ++ more)) all)

-- ---- a station

module _ (t : TableRecord) (one : length t.receivers ≡ 1) (received : (i : ℕ) (row : SourceRow) → slice_get t.sources i ≡ Some row → row.receiver < length t.receivers) where
  -- of lawful calls whose loads agree with what the receiver accepted of the words of its line
  cells_given : (g : ℕ) (p : SlotTable) (s : GroupState) (calls more : List Call) (limit : ℕ) (before words : List ℕ) (A : List (ℕ × ℕ)) → A ≡ accepted_after limit t 0 [] words → AreAccepted t 0 A
      → AreLawful g p s (calls ++ more) → AllByRecursion (λ l. l.source < length t.sources) (loads_of (calls ++ more)) → Agrees t 0 A (loads_of (calls ++ more))
      → AllByRecursion (HasWordOfLine t (before ++ words)) (sent_in calls)
  cells_given g p s calls more limit before words A is valid lawful known agrees =
      let P : ℕ → Type 0 = IsWordOfLine t (before ++ words) in
      let came : AllByRecursion (λ e. Contains (before ++ words) e.1) A =
      subst (AllByRecursion (λ (e : ℕ × ℕ). Contains (before ++ words) e.1)) (sym is) (all_accepted (Contains (before ++ words)) limit t 0 [] words tt (given_each before words)) in
      cells_told P g p s calls more lawful
      (loads_told P (is_of t 0) A 0 agrees.0 (length t.sources) (loads_of (calls ++ more)) (one_receiver t one received) agrees.1 known (all_given t (before ++ words) A valid came))

  accepted_alike : (limit : ℕ) (u : TableRecord) (n : ℕ) (A : List (ℕ × ℕ)) (raws : List ℕ) → u ≡ t → n ≡ 0 → A ≡ [] → accepted_after limit u n A raws ≡ accepted_after limit t 0 [] raws
  accepted_alike limit u n A raws a b c = cc

  -- the group sent cells, and then was given what was published and met the receiver
  pub took_given : {L : Type 0} (given : L → List ℕ) (line rest : L) (before after : Option (List Sent)) (receiver heard : ReceiverEnd) (begun sent told done : Transmitting) (planner : Planning)
      (list : List PlanTable) (loads : List Load)
      → EndsAreReady t receiver begun planner → HasListened given line receiver rest heard → HasSentCells begun sent before after → IsSameGroup begun sent → AllByRecursion (IsKnownPlan t) list
      → told ≡ record sent { watcher = record sent.watcher { list = list } } → GoesOnByCalls sent [] told → done ≡ met told heard → GoesOnByCalls told (Meets loads ∷ []) done
      → AgreesToTheEnd told.transmitter.at.station heard.number heard.accepted done.transmitter.loads → AreAccepted heard.at.station heard.number heard.accepted
      → TookWordsOfLine t (given rest) before after
  took_given given line rest before after receiver heard begun sent told done planner list loads R H S same plans is_told goes_told is_done goes_done agrees valid =
      let o : Outset = R.begun.outset in
      let calls : List Call = S.calls in
      let more : List Call = S.last ++ Meets loads ∷ [] in
      let flat : ((calls ++ S.last) ++ []) ++ Meets loads ∷ [] ≡ calls ++ more =
      ap (λ (xs : List Call). xs ++ Meets loads ∷ []) (append-nil (calls ++ S.last)) ∙ append_assoc calls S.last (Meets loads ∷ []) in
      let stands : StandsForCalls o (calls ++ more) done =
      subst (λ (xs : List Call). StandsForCalls o xs done) flat (goes_done o ((calls ++ S.last) ++ []) (goes_told o (calls ++ S.last) (S.sent.stands o [] R.begun.begins))) in
      let at_begun : begun.transmitter.at.station ≡ t = ap (λ (e : TransmitterEnd). e.at.station) R.begun.values ∙ R.fresh.station in
      let at_told : told.transmitter.at.station ≡ t = ap (λ (v : Transmitting). v.transmitter.at.station) is_told ∙ (ap (λ (p : Place). p.station) same.hub ∙ at_begun) in
      let at_done : done.transmitter.at.station ≡ t = ap (λ (v : Transmitting). v.transmitter.at.station) is_done ∙ at_told in
      let shown : done.watcher.list ≡ list = ap (λ (v : Transmitting). v.watcher.list) is_done ∙ ap (λ (v : Transmitting). v.watcher.list) is_told in
      let made : HasMade o (calls ++ more) done =
      stands (subst (λ (u : TableRecord). AllByRecursion (IsKnownPlan u) done.watcher.list) (sym at_done) (subst (AllByRecursion (IsKnownPlan t)) (sym shown) plans)) in
      let all : done.transmitter.loads ≡ loads_of (calls ++ more) = made.loads ∙ ap (λ (ls : List Load). ls ++ loads_of (calls ++ more)) R.begun.nothing_loaded in
      let number : heard.number ≡ 0 = ap (λ (r : ReceiverEnd). r.number) H.taken ∙ R.fresh.receiver_number in
      let at_receiver : receiver.at.station ≡ t = ap (λ (p : Place). p.station) R.fresh.hub ∙ R.fresh.station in
      let at_heard : heard.at.station ≡ t = ap (λ (r : ReceiverEnd). r.at.station) H.taken ∙ at_receiver in
      let accepted : heard.accepted ≡ accepted_after receiver.limit t 0 [] H.words =
      ap (λ (r : ReceiverEnd). r.accepted) H.taken ∙ accepted_alike receiver.limit receiver.at.station receiver.number receiver.accepted H.words at_receiver R.fresh.receiver_number R.fresh.nothing_accepted in
      let right : AreAccepted t 0 heard.accepted =
      subst (λ (n : ℕ). AreAccepted t n heard.accepted) number (subst (λ (u : TableRecord). AreAccepted u heard.number heard.accepted) at_heard valid) in
      let agreed : Agrees t 0 heard.accepted done.transmitter.loads =
      subst (λ (n : ℕ). Agrees t n heard.accepted done.transmitter.loads) number (subst (λ (u : TableRecord). Agrees u heard.number heard.accepted done.transmitter.loads) at_told (agrees.0, agrees.1)) in
      record {
        cells = sent_in calls;
        took = S.sent.took;
        words = subst (λ (ws : List ℕ). AllByRecursion (HasWordOfLine t ws) (sent_in calls)) (sym H.gave) (
            cells_given o.group o.table (before_calls o.opened o.table o.first) calls more receiver.limit (given line) H.words heard.accepted accepted right made.lawful
            (subst (λ (u : TableRecord). AllByRecursion (λ (l : Load). l.source < length u.sources) (loads_of (calls ++ more))) at_done made.known)
            (subst (Agrees t 0 heard.accepted) all agreed));
      }
