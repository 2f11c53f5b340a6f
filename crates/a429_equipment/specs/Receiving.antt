-- What a receiver accepts of the raw words that come in there (profile: docs/RULES.md, Receivers, filters and sources).
use Rattle.std.specs.Prelude.{◌≡◌, ◌<◌, ◌-◌, ◌^◌, ◌++◌, ℕ, List, [], ◌∷◌, Result, Ok, Err, Some, IsTrue, if◌then◌else◌, nat_lt, length, map, slice_get}
use Rattle.std.specs.List.{AllByRecursion}
use Rattle.a429_equipment.specs.declared.rows.SourceRow.{SourceRow}
use Rattle.a429_equipment.specs.declared.arrivals.ArrivalRefusal.{ArrivalRefusal}
use Rattle.a429_equipment.specs.TableRecord.{TableRecord}
use Rattle.a429_equipment.specs.Arrivals.{sorted, accepts, accepted}
use Rattle.a429_equipment.specs.Agreement.{words_of}

-- a word that is for a source is accepted, unless the source has accepted this number of words
abbrev pub with_word : ℕ → List (ℕ × ℕ) → ℕ → Result ℕ ArrivalRefusal → List (ℕ × ℕ)
with_word limit A raw (Ok s) = if nat_lt (length (words_of s A)) limit then A ++ (s, raw) ∷ [] else A
with_word limit A raw (Err refusal) = A

-- what receiver r accepted after these raw words came in, if it had accepted A before
abbrev pub accepted_after : ℕ → TableRecord → ℕ → List (ℕ × ℕ) → List ℕ → List (ℕ × ℕ)
accepted_after limit t r A [] = A
accepted_after limit t r A (raw ∷ raws) = accepted_after limit t r (with_word limit A raw (sorted t r raw)) raws

-- of the words of this list the receiver accepts all, each for the source that the list has with it
abbrev pub IsReceived : ℕ → TableRecord → ℕ → List (ℕ × ℕ) → Type 0
IsReceived limit t r A = accepted_after limit t r [] (map (λ e. e.1) A) ≡ A

-- this source accepts the raw word, of 32 bits, if it comes in at receiver r
pub record IsAccepted (t : TableRecord) (r : ℕ) (e : ℕ × ℕ) : Type 0 where
  pub row : SourceRow
  pub there : slice_get t.sources e.0 ≡ Some row
  pub accepts : IsTrue (accepts t row (r, e.1))
  pub range : e.1 < 2 ^ 32

-- each of these is
abbrev pub AreAccepted : TableRecord → ℕ → List (ℕ × ℕ) → Type 0
AreAccepted t r A = AllByRecursion (IsAccepted t r) A

-- of the raw words that come in at a receiver, those accepted for a source are those that the source accepts
abbrev pub ReceiversAcceptForSources : TableRecord → Type 0
ReceiversAcceptForSources t =
    (C r i : ℕ) (s : SourceRow) (raws : List ℕ) → slice_get t.sources i ≡ Some s
    → words_of i (accepted_after (2 ^ C - 1) t r [] raws) ≡ accepted C t s (map (λ raw. (r, raw)) raws)

-- raw words that come in at a receiver piece by piece are accepted as in one piece
abbrev pub ReceiversAcceptInPieces : TableRecord → Type 0
ReceiversAcceptInPieces t =
    (limit r : ℕ) (A : List (ℕ × ℕ)) (raws more : List ℕ)
    → accepted_after limit t r A (raws ++ more) ≡ accepted_after limit t r (accepted_after limit t r A raws) more
