-- Logs of a right box, worked out (profile: docs/FORMATS.md, Output of `judge`). A slot is 360 µs, and the period 1440 µs; the output sends each
-- word once. The clock of the box is slow: its slots begin at 400, 1841, 3282 and 4723 µs. Z, A, B and C come in at 200, 990, 2000 and 6000 µs, so
-- the slots send Z, A, B and nothing. The log of what came in has A and B, A with a time that is 10 µs late. The log of what was sent has A and B,
-- and another output's word before them.
use Rattle.std.specs.Prelude.{◌≡◌, ◌+◌, ◌*◌, ℕ, List, [], ◌∷◌, Some}
use Rattle.a429_judge.specs.declared.facts.Facts.{Facts}
use Rattle.a429_judge.specs.declared.facts.Mark.{Mark}
use Rattle.a429_judge.specs.declared.facts.Span.{Span}
use Rattle.a429_judge.specs.Laws.{ArePlanned}
use Rattle.a429_judge.specs.Machine.{IsRecordOf}

abbrev pub example_facts : Facts
example_facts = record { rate = 100000; period = 4; least = 1000; greatest = 2000; hold = Some 1; tolerance = 720 }

-- both logs end at 5000 µs
abbrev pub example_span : Span
example_span = record { first = 1900; heard = 5000; last = 5000 }

abbrev pub example_heard : List Mark
example_heard = record { time = 1000; raw = 3265 } ∷ record { time = 2000; raw = 12481 } ∷ []

-- recorded 109 µs after the slot began, and 88 µs
abbrev pub example_sends : List Mark
example_sends = record { time = 1950; raw = 3265 } ∷ record { time = 3370; raw = 12481 } ∷ []

-- when the slots begin, in units of 1 / 100000 µs
abbrev pub example_begin : ℕ → ℕ
example_begin n = 40000000 + n * 144100000

-- the premises of the law are met, with a period that is 1 µs too long, and times that may be wrong by 60 µs; each log lacks the first word
abbrev pub RecordExample : Type 0
RecordExample =
    ArePlanned example_facts × (b : IsRecordOf example_facts example_span example_heard example_sends) × (b.finer ≡ 1) × (b.begin ≡ example_begin)
    × (b.drift ≡ 100000) × (b.wrong ≡ 6000000) × (b.piece.skipped ≡ 1) × (b.skipped ≡ 1)
