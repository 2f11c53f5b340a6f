-- Which source an arriving word is for, and the words that a source accepts (profile: sources).
use Rattle.std.specs.Prelude.{◌≡◌, ◌==◌, ◌&&◌, ◌-◌, ◌^◌, ℕ, Bool, true, false, List, Some, Result, Ok, Err, IsTrue, if◌then◌else◌, map, filter, take, position, slice_get}
use Rattle.std.specs.Option.{option_map_or}
use Rattle.a429_word.specs.Bits.{has_odd_parity, label_of, sdi_of}
use Rattle.a429_filter.specs.Filters.{set_passes}
use Rattle.a429_equipment.specs.declared.rows.SourceRow.{SourceRow}
use Rattle.a429_equipment.specs.declared.arrivals.ArrivalRefusal.{ArrivalRefusal}
use Rattle.a429_equipment.specs.declared.arrivals.ArrivalRefusal.TheVariants.{Parity, Filtered, NoSource}
use Rattle.a429_equipment.specs.TableRecord.{TableRecord}

-- the word's label passes the filters of receiver r
abbrev pub passes_at : TableRecord → ℕ → ℕ → Bool
passes_at t r raw = option_map_or (λ row. set_passes row.filters (label_of raw)) (slice_get t.receivers r) false

-- a source is a receiver, a label, and an SDI or any: the word that came in at receiver r has these
abbrev pub is_for : ℕ → ℕ → SourceRow → Bool
is_for r raw s = s.receiver == r && (s.label == label_of raw && option_map_or (λ k. k == sdi_of raw) s.sdi true)

-- no word of a receiver is for two sources
abbrev pub SourcesAreApart : List SourceRow → Type 0
SourcesAreApart sources = (r raw i j : ℕ) (s t : SourceRow) → slice_get sources i ≡ Some s → slice_get sources j ≡ Some t
    → IsTrue (is_for r raw s) → IsTrue (is_for r raw t) → i ≡ j

-- the number of the source that the word is for, or the first cause that there is none
abbrev pub sorted : TableRecord → ℕ → ℕ → Result ℕ ArrivalRefusal
sorted t r raw =
    if has_odd_parity raw
    then (if passes_at t r raw then option_map_or (λ i. Ok i) (position (is_for r raw) t.sources) (Err NoSource) else Err Filtered)
    else Err Parity

-- The words that a source accepts from a list of arrivals, which are pairs of a receiver and a raw word. A word is
-- accepted if its parity is odd, its label passes the receiver's filters, and it is for the source. Only the first 2^C
-- - 1 of them are taken, which a count of C bits can count.
abbrev pub accepts : TableRecord → SourceRow → ℕ × ℕ → Bool
accepts t s a = has_odd_parity a.1 && (passes_at t a.0 a.1 && is_for a.0 a.1 s)

abbrev pub accepted : ℕ → TableRecord → SourceRow → List (ℕ × ℕ) → List ℕ
accepted C t s arrivals = take (2 ^ C - 1) (map (λ a. a.1) (filter (accepts t s) arrivals))

-- no two sources accept one raw word that came in at one receiver
abbrev pub AcceptApart : TableRecord → Type 0
AcceptApart t = (a : ℕ × ℕ) (i j : ℕ) (s u : SourceRow) → slice_get t.sources i ≡ Some s → slice_get t.sources j ≡ Some u
    → IsTrue (accepts t s a) → IsTrue (accepts t u a) → i ≡ j
