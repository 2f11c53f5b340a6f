-- What contracts see of a hub and its ends (vocabulary of contracts).
use Rattle.std.specs.Prelude.{◌≡◌, ◌<◌, ◌^◌, ◌∷◌, ◌++◌, ℕ, List, [], length, slice_index, Result, Ok, Err, true, false, if◌then◌else◌, nat_lt}
use Rattle.a429_equipment.specs.Limits.{count_bits}
use Rattle.atomic_table.specs.Seated.{TableId}
use Rattle.a429_equipment.specs.declared.arrivals.ArrivalRefusal.{ArrivalRefusal}
use Rattle.a429_equipment.specs.declared.arrivals.ArrivalRefusal.TheVariants as arrival
use Rattle.a429_equipment.specs.declared.loads.Load.{Load}
use Rattle.a429_equipment.specs.TableRecord.{TableRecord}
use Rattle.a429_equipment.specs.Arrivals.{sorted}
use Rattle.a429_equipment.specs.Agreement.{words_of}
use Rattle.a429_equipment.specs.Receiving.{AreAccepted, IsReceived}
use Rattle.a429_values.specs.declared.view.View.{View}
use Rattle.a429_values.specs.declared.receiver.Accept.{Accept}
use Rattle.a429_values.specs.declared.receiver.Accept.TheVariants.{Accepted, Parity, Filtered, NoSource, CountSpent}
use Rattle.a429_values.specs.Views.{spent}

-- a hub: what no other hub shares with it, and its station
pub record Place : Type 0 where
  pub hub : TableId
  pub station : TableRecord

-- a receiver: its number, how many words of one source it accepts at most, and what it accepted, as pairs of a source's number and a word
pub record ReceiverEnd : Type 0 where
  pub at : Place
  pub number : ℕ
  pub limit : ℕ
  pub accepted : List (ℕ × ℕ)

-- a transmitter: its group's number, and its loads
pub record TransmitterEnd : Type 0 where
  pub at : Place
  pub number : ℕ
  pub loads : List Load

-- the desk: the numbers of the receivers and transmitters that were given out
pub record Dealing : Type 0 where
  pub at : Place
  pub receivers : List ℕ
  pub transmitters : List ℕ

-- ---- accepting

abbrev pub refusal_of : ArrivalRefusal → Accept
refusal_of arrival.Parity = Parity
refusal_of arrival.Filtered = Filtered
refusal_of arrival.NoSource = NoSource

abbrev pub sorted_answer : ℕ → List (ℕ × ℕ) → Result ℕ ArrivalRefusal → Accept
sorted_answer limit A (Ok s) = if nat_lt (length (words_of s A)) limit then Accepted s else CountSpent
sorted_answer limit A (Err refusal) = refusal_of refusal

-- the answer to a raw word, by the receiver's own list
abbrev pub accept_answer : ReceiverEnd → ℕ → Accept
accept_answer r raw = sorted_answer r.limit r.accepted (sorted r.at.station r.number raw)

-- an accepted word is appended, and nothing else
abbrev pub with_answer : List (ℕ × ℕ) → ℕ → Accept → List (ℕ × ℕ)
with_answer A raw (Accepted s) = A ++ (s, raw) ∷ []
with_answer A raw Parity = A
with_answer A raw Filtered = A
with_answer A raw NoSource = A
with_answer A raw CountSpent = A

-- ---- loading

-- these loads are appended, and nothing else
abbrev pub with_loads : TransmitterEnd → List Load → TransmitterEnd
with_loads t loads = record t { loads = t.loads ++ loads }

-- ---- how the ends stand for this

abbrev pub view_in : List View → View
view_in [] = spent
view_in (v ∷ vs) = v

pub record IsReceiving (p : Place) (number limit : ℕ) (counts : List ℕ) (at : TableId) (views : List View) : Type 0 where
  pub here : at ≡ p.hub
  pub one : views ≡ view_in views ∷ []
  pub receives : (view_in views).receives ≡ true
  pub no_transmitter : (view_in views).transmits ≡ false
  pub numbered : (view_in views).number ≡ number
  pub station : (view_in views).station ≡ p.station
  pub inside : number < length p.station.receivers
  pub sized : length counts ≡ length p.station.sources
  pub counted : (s : ℕ) → s < length p.station.sources → slice_index counts s ≡ length (words_of s (view_in views).accepted)
  pub small : limit < 2 ^ count_bits
  pub valid : AreAccepted p.station number (view_in views).accepted
  pub received : IsReceived limit p.station number (view_in views).accepted

abbrev pub IsSending : Place → ℕ → View → Type 0
IsSending p number v = (v.transmits ≡ true) × (v.receives ≡ false) × (v.station ≡ p.station) × (v.group ≡ number)

abbrev pub IsDealing : View → List ℕ → List ℕ → Type 0
IsDealing v receivers transmitters = (v.deals ≡ true) × (v.given ≡ receivers) × (v.sent ≡ transmitters)
