-- What a meeting leaves for later (vocabulary of contracts).
use Rattle.std.specs.Prelude.{◌≢◌, ◌≤◌, ℕ, List, ◌++◌, length}
use Rattle.a429_equipment.specs.declared.loads.Load.{Load}
use Rattle.a429_equipment.specs.TableRecord.{TableRecord}
use Rattle.a429_equipment.specs.Agreement.{is_of, AgreesTo, Cuts}

-- The receiver may accept more, and the transmitter may load more, after these lists. In every way in which they agree,
-- the loads so far have a last cut. It is at least as long as what was accepted so far, and later cuts begin there.
abbrev pub StaysWhole : TableRecord → ℕ → List (ℕ × ℕ) → List Load → Type 0
StaysWhole t r A loads =
    (more : List (ℕ × ℕ)) (later : List Load) (last : ℕ) → Cuts (is_of t r) (A ++ more) 0 (loads ++ later) last
    → (cut : ℕ) × (length A ≤ cut) × Cuts (is_of t r) (A ++ more) 0 loads cut × Cuts (is_of t r) (A ++ more) cut later last

-- later loads agree with what any other receiver than this one accepted, as the earlier ones did
abbrev pub OthersStayAgreed : TableRecord → ℕ → List Load → List Load → Type 0
OthersStayAgreed t number before after =
    (r last : ℕ) (A : List (ℕ × ℕ)) → r ≢ number → AgreesTo t r A before last → AgreesTo t r A after last
