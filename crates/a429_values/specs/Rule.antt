-- The rule of the table: what is true of its words and of all views between any two steps (vocabulary of contracts). A view is that of a desk, a
-- receiver, a transmitter, a receiver and transmitter in one, or of a spent seat.
use Rattle.std.specs.Prelude.{◌≡◌, ◌==◌, ◌↔◌, ℕ, ◌≤◌, List, [], length, slice_get, slice_index, is_some, Option, None, Some, true, false}
use Rattle.std.specs.List.{list_any}
use mathlib.Core.Option.{some}
use lib.ListN.{get_elem?}
use Rattle.a429_equipment.specs.declared.loads.Load.{Load}
use Rattle.a429_equipment.specs.declared.rows.SourceRow.{SourceRow}
use Rattle.a429_equipment.specs.TableRecord.{TableRecord}
use Rattle.a429_equipment.specs.Agreement.{load_after, Agrees}
use Rattle.a429_equipment.specs.Receiving.{AreAccepted}
use Rattle.a429_values.specs.declared.view.View.{View}
use Rattle.a429_values.specs.Words.{packed}

-- the number that stands for a load
abbrev pub number_of : Load → ℕ
number_of l = packed l.count l.word

-- seat i has a view, and P is true of it
abbrev pub HasAt : List View → (View → Type 0) → ℕ → Type 0
HasAt views P i = (v : View) × (get_elem? views i ≡ some v) × P v

-- P is true of the view of this seat and of no other view; without a seat, of no view at all
abbrev pub JustAt : List View → (View → Type 0) → Option ℕ → Type 0
JustAt views P seat = (i : ℕ) → (seat ≡ Some i) ↔ HasAt views P i

abbrev pub IsDesk : View → Type 0
IsDesk v = v.deals ≡ true

abbrev pub IsReceiver : ℕ → View → Type 0
IsReceiver r v = (v.receives ≡ true) × (v.number ≡ r)

abbrev pub IsTransmitter : ℕ → View → Type 0
IsTransmitter g v = (v.transmits ≡ true) × (v.group ≡ g)

-- What the rule says of one view. Here `seat r` is the seat of receiver r, and `sender g` that of the transmitter of
-- group g, if they were given out; `accepted r` is the list of receiver r.
pub record Fits (t : TableRecord) (seat sender : ℕ → Option ℕ) (accepted : ℕ → List (ℕ × ℕ)) (v : View) : Type 0 where
  -- it is of this station, unless it is spent
  pub station : (v.deals ≡ true → v.station ≡ t) × (v.receives ≡ true → v.station ≡ t) × (v.transmits ≡ true → v.station ≡ t)
  -- a desk is nothing else
  pub apart : v.deals ≡ true → (v.receives ≡ false) × (v.transmits ≡ false)
  -- its numbers are those that have a seat
  pub given : v.deals ≡ true → (r : ℕ) → list_any (λ y. y == r) v.given ≡ is_some (seat r)
  pub sent : v.deals ≡ true → (g : ℕ) → list_any (λ y. y == g) v.sent ≡ is_some (sender g)
  -- a receiver has its own list
  pub receives : v.receives ≡ true → accepted v.number ≡ v.accepted
  -- a transmitter's loads agree with the list of each receiver
  pub transmits : v.transmits ≡ true → (r : ℕ) → Agrees t r (accepted r) v.loads

pub record KeepsRule (t : TableRecord) (words : List ℕ) (views : List View) : Type 0 where
  pub seat : ℕ → Option ℕ
  pub sender : ℕ → Option ℕ
  pub accepted : ℕ → List (ℕ × ℕ)
  pub desk_at : ℕ
  -- each source's number is that of all words that its receiver's list has of it
  pub long : length t.sources ≤ length words
  pub known : (s : ℕ) (row : SourceRow) → slice_get t.sources s ≡ Some row → slice_index words s ≡ number_of (load_after s (accepted row.receiver))
  -- a list has only words of its receiver's sources; it is empty if the receiver was not given out
  pub valid : (r : ℕ) → AreAccepted t r (accepted r)
  pub unused : (r : ℕ) → seat r ≡ None → accepted r ≡ []
  pub each : (i : ℕ) (v : View) → get_elem? views i ≡ some v → Fits t seat sender accepted v
  -- there is one desk
  pub one_desk : JustAt views IsDesk (Some desk_at)
  -- a receiver or a transmitter that was given out is in one view, that of its seat; any other is in none
  pub receivers : (r : ℕ) → JustAt views (IsReceiver r) (seat r)
  pub transmitters : (g : ℕ) → JustAt views (IsTransmitter g) (sender g)
