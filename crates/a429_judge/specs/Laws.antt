-- What follows from a judgement, and what is never condemned (profile: docs/FORMATS.md, Output of `judge`).
use Rattle.std.specs.Prelude.{◌≡◌, ◌<◌, ◌≤◌, ◌⊎◌, ◌+◌, ◌-◌, ◌*◌, ℕ, List, [], Some, length}
use Rattle.std.specs.List.Sorted.{IsNonDecreasingBy}
use Rattle.a429_grid.specs.Grid.{IsGridPeriod}
use Rattle.a429_judge.specs.declared.duties.Duty.{Duty}
use Rattle.a429_judge.specs.declared.facts.Facts.{Facts}
use Rattle.a429_judge.specs.declared.facts.Mark.{Mark}
use Rattle.a429_judge.specs.declared.facts.Span.{Span}
use Rattle.a429_judge.specs.declared.judgements.Verdict.TheVariants as verdict
use Rattle.a429_judge.specs.Judgements.{accepted_by, found_at, judgement_of, sent_by}
use Rattle.a429_judge.specs.Judging.{mark_at, time_at}
use Rattle.a429_judge.specs.Recordings.{IsKept, Recording, span_of}

-- ---- what is ok is right. A moment is in units of 1 / rate microseconds.

-- the accepted word at place i is the latest at a moment: it was accepted by then, and no later one before
pub record IsLatestAt (f : Facts) (accepted : List Mark) (i moment : ℕ) : Type 0 where
  pub known : i < length accepted
  pub since : time_at accepted i * f.rate ≤ moment
  pub until : (j : ℕ) → i < j → j < length accepted → moment ≤ time_at accepted j * f.rate

-- the word of a send was the latest at a moment from a slot and the tolerance before the send until the tolerance after it
pub record WasLatest (f : Facts) (accepted : List Mark) (s : Mark) : Type 0 where
  pub place : ℕ
  pub moment : ℕ
  pub same : (mark_at accepted place).raw ≡ s.raw
  pub latest : IsLatestAt f accepted place moment
  pub begins : s.time * f.rate ≤ moment + (36000000 + f.tolerance * f.rate)
  pub ends : moment ≤ (s.time + f.tolerance) * f.rate

-- the log of what came in knows the words of the window of a send at t: the first word of the source came in before it, and the log ends after it
pub record IsWithinLog (f : Facts) (span : Span) (accepted : List Mark) (t : ℕ) : Type 0 where
  pub some : 0 < length accepted
  pub after : (time_at accepted 0 + f.tolerance) * f.rate + 36000000 < t * f.rate
  pub before : t + f.tolerance < span.heard

-- The hold may have left the slot after the first k sends empty. Each word that was accepted more than a slot and the tolerance before that
-- slot was accepted by the first of the last `hold` sends and the tolerance. If there are fewer sends, it was accepted by the first word of the
-- group and the tolerance, and early enough for `hold` sends.
pub record IsHeld (f : Facts) (span : Span) (accepted sends : List Mark) (k : ℕ) : Type 0 where
  pub hold : ℕ
  pub held : f.hold ≡ Some hold
  pub sent : (i : ℕ) → hold ≤ k → i < length accepted
      → (time_at accepted i + f.tolerance) * f.rate + 36000000 < time_at sends (k - 1) * f.rate + f.period * 36000000
      → time_at accepted i ≤ time_at sends (k - hold) + f.tolerance
  pub unlogged : (i : ℕ) → k < hold → i < length accepted
      → (time_at accepted i + f.tolerance) * f.rate + 36000000 < time_at sends (k - 1) * f.rate + f.period * 36000000
      → (time_at accepted i ≤ span.first + f.tolerance)
      × (time_at accepted i * f.rate + (hold - 1) * (f.period * 36000000 - f.tolerance * f.rate) ≤ (time_at sends (k - 1) + f.tolerance) * f.rate)

-- a send comes within the interval after the one before, up to the tolerance
pub record IsInTime (f : Facts) (span : Span) (accepted sends : List Mark) (k : ℕ) : Type 0 where
  pub soonest : time_at sends (k - 1) + f.least ≤ time_at sends k + f.tolerance
  pub latest : (time_at sends k ≤ time_at sends (k - 1) + f.greatest + f.tolerance) ⊎ IsHeld f span accepted sends k

-- the logs end within the interval after the last send, up to the tolerance
abbrev pub EndsInTime : Facts → Span → List Mark → List Mark → Type 0
EndsInTime f span accepted sends =
    (span.last ≤ time_at sends (length sends - 1) + f.greatest + f.tolerance) ⊎ IsHeld f span accepted sends (length sends)

-- what is right about an output
pub record IsRight (f : Facts) (span : Span) (accepted sends : List Mark) : Type 0 where
  pub words : (k : ℕ) → k < length sends → IsWithinLog f span accepted (time_at sends k) → WasLatest f accepted (mark_at sends k)
  pub intervals : (k : ℕ) → 0 < k → k < length sends → IsInTime f span accepted sends k
  pub some : 0 < length sends
  pub end : EndsInTime f span accepted sends

-- if the verdict on an output is ok, it is right
abbrev pub OkIsRight : Type 0
OkIsRight =
    (duties : List Duty) (d : Duty) (r : Recording) → IsKept r → (judgement_of duties d r).verdict ≡ verdict.Ok
    → IsRight d.facts (span_of d.group r) (accepted_by d r) (sent_by d r)

-- ---- what is right is never condemned

-- the facts of an output by its plan: its period is within its interval
pub record ArePlanned (f : Facts) : Type 0 where
  pub rate : 1 ≤ f.rate
  pub least : f.least * f.rate ≤ f.period * 36000000
  pub greatest : f.period * 36000000 ≤ f.greatest * f.rate
  pub period : 1 ≤ f.period
  pub hold : (hold : ℕ) → f.hold ≡ Some hold → 1 ≤ hold

-- the facts of an output that has the grid period of its interval, and may send each word once at least, are such
abbrev pub GridPeriodsArePlanned : Type 0
GridPeriodsArePlanned =
    (f : Facts) → IsGridPeriod f.least f.greatest f.rate f.period → 1 ≤ f.rate → ((hold : ℕ) → f.hold ≡ Some hold → 1 ≤ hold) → ArePlanned f

-- a period, in units of 1 / (rate * finer) microseconds
abbrev pub length_of : Facts → ℕ → ℕ
length_of f finer = f.period * 36000000 * finer

-- How wrong the times of a box and of its logs may be, in units of 1 / (rate * finer) microseconds, however fine: each time of a log by `wrong`,
-- and each period from a slot to the next by `drift`. Both ends of an interval may be wrong.
pub record AreNear (f : Facts) (finer wrong drift : ℕ) : Type 0 where
  pub fine : 1 ≤ finer
  pub bounded : 2 * wrong + drift ≤ f.tolerance * (f.rate * finer)
  pub slower : drift < length_of f finer

-- The log of what came in has a piece of the words that a source accepted, each with its time up to `wrong`. The words after the piece came in
-- at the end of the log or later.
pub record IsPieceOf (end units wrong : ℕ) (words : List Mark) (moment : ℕ → ℕ) (accepted : List Mark) : Type 0 where
  pub early : (j : ℕ) → j < length words → moment j ≤ time_at words j * units + wrong
  pub late : (j : ℕ) → j < length words → time_at words j * units ≤ moment j + wrong
  pub rise : IsNonDecreasingBy (λ (a : Mark). a.time) words
  pub skipped : ℕ
  pub within : skipped + length accepted ≤ length words
  pub same : (i : ℕ) → i < length accepted → mark_at accepted i ≡ mark_at words (skipped + i)
  pub rest : (j : ℕ) → skipped + length accepted ≤ j → j < length words → end ≤ time_at words j

-- Slots of an output, one in each period: slot n begins at `begin n`.
pub record AreSlots (f : Facts) (finer drift : ℕ) (begin : ℕ → ℕ) : Type 0 where
  pub soonest : (n : ℕ) → begin n + length_of f finer ≤ begin (n + 1) + drift
  pub latest : (n : ℕ) → begin (n + 1) ≤ begin n + length_of f finer + drift

-- What a right box does. A send is recorded `delay` after its slot begins, up to a slot.
pub record IsRightBox (f : Facts) (span : Span) (accepted sends : List Mark) : Type 0 where
  pub finer : ℕ
  pub wrong : ℕ
  pub drift : ℕ
  pub near : AreNear f finer wrong drift
  -- the words that its source accepted, and when
  pub words : List Mark
  pub moment : ℕ → ℕ
  pub piece : IsPieceOf span.heard (f.rate * finer) wrong words moment accepted
  pub begin : ℕ → ℕ
  pub slots : AreSlots f finer drift begin
  pub delay : ℕ
  pub short : delay ≤ 36000000 * finer
  -- the slot of each send, and the place of its accepted word
  pub slot : ℕ → ℕ
  pub word : ℕ → ℕ
  pub in_order : (k : ℕ) → k + 1 < length sends → slot k < slot (k + 1)
  -- the send is recorded near its slot
  pub early : (k : ℕ) → k < length sends → begin (slot k) + delay ≤ time_at sends k * (f.rate * finer) + wrong
  pub late : (k : ℕ) → k < length sends → time_at sends k * (f.rate * finer) ≤ begin (slot k) + delay + wrong
  -- its word is the latest that was accepted when the slot began
  pub known : (k : ℕ) → k < length sends → word k < length words
  pub same : (k : ℕ) → k < length sends → (mark_at words (word k)).raw ≡ (mark_at sends k).raw
  pub since : (k : ℕ) → k < length sends → moment (word k) ≤ begin (slot k)
  pub until : (k j : ℕ) → k < length sends → word k < j → j < length words → begin (slot k) < moment j
  -- one accepted word is sent at most `hold` times
  pub held : (k hold : ℕ) → f.hold ≡ Some hold → hold ≤ k → k < length sends → word (k - hold) < word k
  -- the log of what was sent has all slots from this one on; those before may be before the first word of the group
  pub from : ℕ
  pub before : (n : ℕ) → n < from → begin n + delay ≤ span.first * (f.rate * finer) + wrong
  pub opens : begin from + delay ≤ span.first * (f.rate * finer) + wrong + length_of f finer + drift
  -- The slot after a send is used too, or its record need not be before the end of the logs. Or its latest word is used up: it is that of the
  -- last `hold` sends, of which those before the log begin at a slot before it.
  pub next : (k : ℕ) → k < length sends → ((k + 1 < length sends) × (slot (k + 1) ≡ slot k + 1))
      ⊎ (((k + 1 ≡ length sends) × (span.last * (f.rate * finer) ≤ begin (slot k + 1) + delay + wrong))
      ⊎ ((hold : ℕ) × (f.hold ≡ Some hold) × ((j : ℕ) → word k < j → j < length words → begin (slot k + 1) < moment j)
      × (((hold ≤ k + 1) × (word (k + 1 - hold) ≡ word k))
      ⊎ ((m : ℕ) × (k + 1 < hold) × (m < from) × (m + hold ≤ slot k + 1) × (moment (word k) ≤ begin m)))))
  -- a slot after an accepted word is used if its record is surely before the end of the logs; a hold may leave it empty only if a slot before
  -- it is after the word, too
  pub whole : (n i : ℕ) → from ≤ n → i < length words → moment i ≤ begin n → begin n + delay + wrong < span.last * (f.rate * finer)
      → ((k : ℕ) × (k < length sends) × (slot k ≡ n)) ⊎ ((hold m : ℕ) × (f.hold ≡ Some hold) × (m < n) × (moment i ≤ begin m))

-- nothing is found at an output of a right box
abbrev pub RightBoxHasNoFinding : Type 0
RightBoxHasNoFinding =
    (duties : List Duty) (d : Duty) (r : Recording) → ArePlanned d.facts
    → IsRightBox d.facts (span_of d.group r) (accepted_by d r) (sent_by d r) → found_at duties d r ≡ []
