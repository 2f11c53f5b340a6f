-- The word of a cell is the latest of its source.
use Rattle.std.proofs.Common.{◌≡◌, ℕ, ◌+◌, ◌/◌, ◌%◌, ◌<◌, Bool, true, false, List, length, ◌∙◌, sym, ap, subst, refl, inl, inr}
use Rattle.std.specs.Prelude.{Option, Some, None, ◌||◌, slice_get, option_and_then, option_map, if◌then◌else◌}
use Rattle.std.specs.Option.{option_map_or}
use Rattle.std.proofs.lemmas.Bool.{cases_lt, lt-ltb, le-ltb}
use Rattle.std.proofs.lemmas.Option.{none-some, same_Some}
use Rattle.a429_word.proofs.Lists.{in_frame}
use Rattle.a429_equipment.specs.Arrivals.{SourcesAreApart}
use Rattle.a429_slots.specs.Tables.{Placed, SlotTable, groups_of, outputs_of, frame_of, buses_of, cells_of, cell_at, output_in, source_of, source_at}
use Rattle.a429_slots.specs.Events.{Event, Cell}
use Rattle.a429_slots.specs.History.{Opening, Current, AnsweredCell, current, accepted_by, last_of, cells_since, answered_cells, answered_cell, is_held, is_too_close, word_sent}
use Rattle.a429_slots.specs.declared.answers.Answer.{Answer}
use Rattle.a429_slots.specs.declared.answers.Answer.TheVariants.{Accepted, Sent, Changed, Published, Refused}
use Rattle.a429_slots.specs.declared.answers.Refusal.TheVariants.{NoSuch, FrameEnd}
use Rattle.a429_slots.specs.Answers.{answer, cell_answer}
use Rattle.a429_core.specs.Sends.{CarriesLatest}
use Rattle.a429_core.proofs.Places.{on_a_bus}
use Rattle.a429_core.proofs.Accepting.{last_is_latest}

-- what an answer sent
abbrev pub sent_in : Answer → Option (ℕ × ℕ × Option ℕ)
sent_in (Sent bus slot word) = Some (bus, slot, word)
sent_in (Accepted i) = None
sent_in (Changed number) = None
sent_in (Published number) = None
sent_in (Refused refusal) = None

-- a word that is sent is the last of its source
last_where_sent : (b : Bool) (x : Option ℕ) (word : ℕ) → (if b then None else x) ≡ Some word → x ≡ Some word
last_where_sent true x word h = absurd (none-some word h)
last_where_sent false x word h = h

-- the source of the cell's output
source_there : (t : SlotTable) (bus slot : ℕ) (out : Placed) → output_in t bus slot ≡ Some out → source_at t bus slot ≡ Some out.source
source_there t bus slot out h = go (cell_at t bus slot) h
  where
    go : (x : Option ℕ) → option_and_then (λ n. slice_get (outputs_of t) n) x ≡ Some out → option_and_then (source_of t) x ≡ Some out.source
    go None is = absurd (none-some out is)
    go (Some n) is = ap (option_map (λ (q : Placed). q.source)) is

-- a word comes from the source of the cell's output
record ComesFrom (C : ℕ) (o : Opening) (E : List Event) (x : Option Placed) (word : ℕ) : Type 0 where
  pub output : Placed
  pub stands : x ≡ Some output
  pub last : last_of (accepted_by C o output.source E) ≡ Some word

comes_from : (C : ℕ) (o : Opening) (E : List Event) (earlier : List AnsweredCell) (slot : ℕ) (x : Option Placed) (word : ℕ) → option_and_then (λ out. (answered_cell C o E earlier slot out).word) x ≡ Some word → ComesFrom C o E x word
comes_from C o E earlier slot None word h = absurd (none-some word h)
comes_from C o E earlier slot (Some out) word h =
    let b = is_held earlier out.source out.limits.hold (length (accepted_by C o out.source E)) || is_too_close earlier slot out.source out.limits.spacing in
    record { output = out; stands = refl; last = last_where_sent b (last_of (accepted_by C o out.source E)) word h }

carried : (C : ℕ) (o : Opening) (E : List Event) (g : ℕ) (earlier : List AnsweredCell) (f : Current) (bus slot word : ℕ) → SourcesAreApart o.proposal.station.sources → cell_answer C o E g earlier f ≡ Sent bus slot (Some word)
    → CarriesLatest C o E f bus slot word
carried C o E g earlier f bus slot word apart h =
    let k = cells_since g f in
    let m = buses_of f.table in
    let H = frame_of f.table in
    elim (cases_lt k (cells_of f.table)) [
      | inl lt ↦
          let w = word_sent C o E earlier f (k % m, k / m) in
          let sent : cell_answer C o E g earlier f ≡ Sent (k % m) (f.first + k / m) w = rw (lt-ltb k (cells_of f.table) lt) refl in
          let all : (k % m, f.first + k / m, w) ≡ (bus, slot, Some word) = same_Some (k % m, f.first + k / m, w) (bus, slot, Some word) (ap sent_in (sym sent ∙ h)) in
          let on_bus : k % m ≡ bus = ap (λ (c : ℕ × ℕ × Option ℕ). c.0) all in
          let in_slot : f.first + k / m ≡ slot = ap (λ (c : ℕ × ℕ × Option ℕ). c.1) all in
          let from = comes_from C o E earlier (f.first + k / m) (output_in f.table (k % m) (k / m)) word (ap (λ (c : ℕ × ℕ × Option ℕ). c.2) all) in
          record {
            slot_in_frame = k / m;
            source = from.output.source;
            counted = sym in_slot;
            on_a_bus = subst (λ (b : ℕ). b < m) on_bus (on_a_bus k m H lt);
            in_frame = in_frame k m H lt;
            stands = ap (λ (b : ℕ). source_at f.table b (k / m)) (sym on_bus) ∙ source_there f.table (k % m) (k / m) from.output from.stands;
            latest = last_is_latest C o from.output.source E word apart from.last;
          }
      | inr ge ↦
          let none : cell_answer C o E g earlier f ≡ Refused FrameEnd = rw (le-ltb k (cells_of f.table) ge) refl in
          absurd (none-some (bus, slot, Some word) (ap sent_in (sym none ∙ h)))
    ]

pub carries_latest : (C : ℕ) (o : Opening) (E : List Event) (g : ℕ) (p : SlotTable) (bus slot word : ℕ) → SourcesAreApart o.proposal.station.sources → slice_get (groups_of o.proposal.plan) g ≡ Some p
    → answer C o E (Cell g) ≡ Sent bus slot (Some word) → CarriesLatest C o E (current o g p E) bus slot word
carries_latest C o E g p bus slot word apart there h =
    carried C o E g (answered_cells C o g p E) (current o g p E) bus slot word apart
    (sym (ap (λ (x : Option SlotTable). option_map_or (λ t. cell_answer C o E g (answered_cells C o g t E) (current o g t E)) x (Refused NoSuch)) there) ∙ h)
