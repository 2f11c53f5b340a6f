-- What a seat of the table knows, by what it is (vocabulary of contracts).
use Rattle.std.specs.Prelude.{None, ◌≡◌, ◌==◌, ◌+◌, ◌^◌, ◌<◌, ℕ, [], ◌∷◌, ◌++◌, Some, length, slice_get, true, false}
use Rattle.std.specs.List.{list_any}
use Rattle.a429_equipment.specs.Limits.{count_bits}
use Rattle.atomic_table.specs.Table.{Me, Step}
use Rattle.a429_equipment.specs.declared.loads.Load.{Load}
use Rattle.a429_equipment.specs.declared.rows.SourceRow.{SourceRow}
use Rattle.a429_equipment.specs.TableRecord.{TableRecord}
use Rattle.a429_equipment.specs.Agreement.{is_of, load_after, loads_of_all, words_of, CountsNoLess, Agrees, AgreesTo}
use Rattle.a429_values.specs.declared.view.View.{View}
use Rattle.a429_values.specs.Words.{Tells}

-- a seat of a station that is nothing yet
abbrev pub idle : TableRecord → View
idle t = record { station = t; deals = false; given = []; sent = []; receives = false; number = 0; accepted = []; transmits = false; group = 0; loads = [] }

-- a spent seat, of which nothing is said
abbrev pub spent : View
spent = idle (record { version = 1; rate = None; receivers = []; sources = []; groups = []; outputs = [] })

abbrev pub desk : TableRecord → View
desk t = record (idle t) { deals = true }

-- the desk gives a receiver out
abbrev pub dealt : View → ℕ → View
dealt v r = record v { given = v.given ++ r ∷ [] }

abbrev pub receiver : TableRecord → ℕ → View
receiver t r = record (idle t) { receives = true; number = r }

-- the desk gives a transmitter out
abbrev pub dealt_transmitter : View → ℕ → View
dealt_transmitter v g = record v { sent = v.sent ++ g ∷ [] }

abbrev pub transmitter : TableRecord → ℕ → View
transmitter t g = record (idle t) { transmits = true; group = g }

-- the first takes in the receiver's part of the second
abbrev pub both_of : View → View → View
both_of v w = record v { receives = w.receives; number = w.number; accepted = w.accepted }

-- a view of both without its receiver's part, and that part
abbrev pub transmitting : View → View
transmitting v = record v { receives = false; number = 0; accepted = [] }

abbrev pub receiving : View → View
receiving v = record (idle v.station) { receives = v.receives; number = v.number; accepted = v.accepted }

-- one more accepted word; one more load
abbrev pub with_accepted : View → ℕ × ℕ → View
with_accepted v e = record v { accepted = v.accepted ++ e ∷ [] }

abbrev pub with_load : View → Load → View
with_load v l = record v { loads = v.loads ++ l ∷ [] }

-- the loads of all sources of receiver r, after what was accepted
abbrev pub with_loads_of : View → TableRecord → ℕ → View
with_loads_of v t r = record v { loads = v.loads ++ loads_of_all t r v.accepted }

-- ---- what a seat is for a step

-- the desk, which has not given this receiver out
abbrev pub CanDeal : View → ℕ → Type 0
CanDeal v r = (v.deals ≡ true) × (list_any (λ y. y == r) v.given ≡ false)

-- the desk, which has not given this transmitter out
abbrev pub CanDealTransmitter : View → ℕ → Type 0
CanDealTransmitter v g = (v.deals ≡ true) × (list_any (λ y. y == g) v.sent ≡ false)

-- the desk gave the receiver out, and the other seat is that
abbrev pub Deals : View → ℕ → View → View → Type 0
Deals v r w other = (w ≡ dealt v r) × (other ≡ receiver v.station r)

-- the desk gave the transmitter out, and the other seat is that
abbrev pub DealsTransmitter : View → ℕ → View → View → Type 0
DealsTransmitter v g w other = (w ≡ dealt_transmitter v g) × (other ≡ transmitter v.station g)

-- the first is a transmitter only, the second a receiver only
abbrev pub CanMeet : View → View → Type 0
CanMeet v w = (v.transmits ≡ true) × (v.receives ≡ false) × (w.receives ≡ true) × (w.transmits ≡ false)

-- a receiver of this station
abbrev pub ReceivesFor : View → TableRecord → Type 0
ReceivesFor v t = (v.receives ≡ true) × (v.station ≡ t)

-- the next word that the source accepts is its `count`th, and 41 bits can count it (profile: docs/RULES.md, Limits)
abbrev pub IsNextCount : View → ℕ → ℕ → Type 0
IsNextCount v source count = (count ≡ length (words_of source v.accepted) + 1) × (count < 2 ^ count_bits)

-- ---- what the steps find

-- A load that found the number; no earlier load of its source found more words. The loads agree with the list of the
-- receiver whose seat this is too. If the source is one of that receiver's, it is the load after all of that list.
pub record HasFound (v : View) (s number : ℕ) (w : View) : Type 0 where
  pub load : Load
  pub view : w ≡ with_load v load
  pub tells : (row : SourceRow) → slice_get v.station.sources s ≡ Some row → Tells s row.label number load
  pub no_less : CountsNoLess v.loads load
  pub agrees : v.receives ≡ true → v.transmits ≡ true
      → (last : ℕ) × AgreesTo v.station v.number v.accepted w.loads last × (is_of v.station v.number s ≡ true → (last ≡ length v.accepted) × (load ≡ load_after s v.accepted))

module _ {S : Type 0} where
  -- a store of a word changes the view as its play says
  abbrev pub found_by : Step S → Me S View → ℕ → Me S View → Type 0
  found_by s v number w = HasFound v.0 s.word number w.0 × (w.1 ≡ v.1)

  -- nothing changes; who is receiver and transmitter learns that its lists agree
  abbrev pub seen : Step S → Me S View → ℕ → Me S View → Type 0
  seen s v number w = (w ≡ v) × (v.0.receives ≡ true → v.0.transmits ≡ true → Agrees v.0.station v.0.number v.0.accepted v.0.loads)
