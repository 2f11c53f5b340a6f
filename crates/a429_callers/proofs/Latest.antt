-- The latest of two words.
use Rattle.std.proofs.Common.{◌≡◌, ◌∙◌, ◌++◌, ℕ, List, [], ◌∷◌, length, refl, sym, subst, ap, arith}
use Rattle.std.specs.Prelude.{Some, None, Option, Result, Ok, drop, slice_get}
use Rattle.std.specs.Option.{option_map_or}
use Rattle.std.proofs.lemmas.Option.{none-some, same_Some}
use Rattle.a429_word.proofs.Lists.{same_Ok}
use Rattle.a429_equipment.specs.Arrivals.{SourcesAreApart}
use Rattle.a429_slots.specs.Answers.{answer, cell_answer}
use Rattle.a429_slots.specs.Events.{Event, Arrive, Cell, Frame, Publish}
use Rattle.a429_slots.specs.History.{Opening, OpensWith, answered_cells, current}
use Rattle.a429_slots.specs.Tables.{SlotTable, groups_of}
use Rattle.a429_slots.specs.declared.answers.Answer.{Answer}
use Rattle.a429_slots.specs.declared.answers.Answer.TheVariants.{Accepted, Sent, Changed, Published, Refused}
use Rattle.a429_slots.specs.declared.answers.Refusal.TheVariants.{NoSuch}
use Rattle.a429_core.specs.Sends.{AcceptsNone, CarriesLatest, SentWordsWereAccepted}

raw_of : Event → ℕ
raw_of (Arrive r raw) = raw
raw_of (Cell g) = 0
raw_of (Frame g) = 0
raw_of (Publish q) = 0

source_of : Answer → ℕ
source_of (Accepted source) = source
source_of (Sent bus slot word) = 0
source_of (Changed n) = 0
source_of (Published n) = 0
source_of (Refused r) = 0

short : (before : List Event) (e : Event) (after : List Event) → [] ≡ before ++ e ∷ after → ⊥
short [] e after h = none-some e (ap (λ (es : List Event). slice_get es 0) h)
short (b ∷ before) e after h = omega (arith, ap length h)

-- of two words that one source accepted, the latest is the second
second_of : (C : ℕ) (o : Opening) (first second a source w : ℕ) (x y : Event) (r : ℕ) → x ≡ Arrive r first → y ≡ Arrive r second
    → answer C o [] x ≡ Accepted a → answer C o (x ∷ []) y ≡ Accepted a
    → (before : List Event) (receiver : ℕ) (after : List Event) → x ∷ y ∷ [] ≡ before ++ Arrive receiver w ∷ after
    → answer C o before (Arrive receiver w) ≡ Accepted source → AcceptsNone C o (before ++ Arrive receiver w ∷ []) after source → w ≡ second
unfolding source_of raw_of
second_of C o first second a source w x y r is_x is_y one other [] receiver after split accepted none =
    let head : x ≡ Arrive receiver w = same_Some x (Arrive receiver w) (ap (λ (es : List Event). slice_get es 0) split) in
    let same : source ≡ a = ap source_of (sym accepted ∙ ap (answer C o []) (sym head) ∙ one) in
    let rest : after ≡ y ∷ [] = sym (ap (λ (es : List Event). drop 1 es) split) in
    let not : AcceptsNone C o (x ∷ []) (y ∷ []) source =
    subst (λ (es : List Event). AcceptsNone C o (x ∷ []) es source) rest (subst (λ (e : Event). AcceptsNone C o (e ∷ []) after source) (sym head) none) in
    absurd (not.0 (other ∙ ap Accepted (sym same)))
second_of C o first second a source w x y r is_x is_y one other (b ∷ []) receiver after split accepted none =
    let there : y ≡ Arrive receiver w = same_Some y (Arrive receiver w) (ap (λ (es : List Event). slice_get es 1) split) in
    ap raw_of (sym there ∙ is_y)
second_of C o first second a source w x y r is_x is_y one other (b ∷ d ∷ before) receiver after split accepted none =
    absurd (short before (Arrive receiver w) after (ap (λ (es : List Event). drop 2 es) split))

is_sent : Answer → ℕ
is_sent (Accepted source) = 0
is_sent (Sent bus slot word) = 1
is_sent (Changed n) = 0
is_sent (Published n) = 0
is_sent (Refused r) = 0

-- a group that sends a cell has a table
group_there : (C : ℕ) (o : Opening) (E : List Event) (a : Answer) (t : Option SlotTable) → t ≡ slice_get (groups_of o.proposal.plan) 0
    → option_map_or (λ p. cell_answer C o E 0 (answered_cells C o 0 p E) (current o 0 p E)) t (Refused NoSuch) ≡ a → is_sent a ≡ 1
    → (p : SlotTable) × OpensWith o 0 p
unfolding is_sent
group_there C o E a None is answered sent = absurd (omega (arith, ap is_sent answered, sent))
group_there C o E a (Some p) is answered sent = (p, sym is)

pub second_sent : (C : ℕ) (o : Opening) (r first second a bus slot w : ℕ) → SentWordsWereAccepted → SourcesAreApart o.proposal.station.sources
    → answer C o [] (Arrive r first) ≡ Accepted a → answer C o (Arrive r first ∷ []) (Arrive r second) ≡ Accepted a
    → answer C o (Arrive r first ∷ Arrive r second ∷ []) (Cell 0) ≡ Sent bus slot (Some w) → w ≡ second
unfolding is_sent
second_sent C o r first second a bus slot w law apart one other sent =
    let E : List Event = Arrive r first ∷ Arrive r second ∷ [] in
    let p : (p : SlotTable) × OpensWith o 0 p = group_there C o E (Sent bus slot (Some w)) (slice_get (groups_of o.proposal.plan) 0) refl sent refl in
    let carried : CarriesLatest C o E (current o 0 p.0 E) bus slot w = law C o E 0 p.0 bus slot w apart p.1 sent in
    second_of C o first second a carried.source w (Arrive r first) (Arrive r second) r refl refl one other carried.latest.before carried.latest.receiver carried.latest.after carried.latest.split
    carried.latest.accepted carried.latest.none_later

-- an answer that a step gives is the one of the definition
pub answered : {E : Type 0} (a b : Answer) → ◌≡◌ {A = Result Answer E} (Ok b) (Ok a) → a ≡ b
answered a b h = sym (same_Ok b a h)
