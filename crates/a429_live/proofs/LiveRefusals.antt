-- Why a run of lines in memory, sinks that count and a gate that shuts nowhere does not come to its end.
use Rattle.std.proofs.Common.{◌≡◌, ◌∙◌, ◌+◌, ◌<◌, ◌++◌, ℕ, zero, suc, List, length, map, ap, subst, sym, refl, inl, inr, arith, length-append}
use Rattle.std.specs.Prelude.{Option, Some, None, slice_get}
use Rattle.std.specs.List.{range_with_len}
use Rattle.std.proofs.lemmas.Option.{none-some, same_Some}
use Rattle.a429_equipment.specs.TableRecord.{TableRecord}
use Rattle.a429_filter.specs.Sources.{Memory, SourceAnswer, all_given, at_start}
use Rattle.a429_filter.specs.declared.sources.LineSource as LineSource
use Rattle.a429_workers.specs.declared.sinks.BusSink as BusSink
use Rattle.a429_workers.specs.Gates.{GatePoints}
use Rattle.a429_workers.specs.declared.cells.Sent.{Sent}
use Rattle.a429_workers.specs.declared.gates.Point.{Point}
use Rattle.a429_workers.specs.declared.receiving.ReceiveFault.{ReceiveFault}
use Rattle.a429_workers.specs.declared.receiving.ReceiveTotals.{ReceiveTotals}
use Rattle.a429_workers.specs.declared.receiving.ReceiveFault.TheVariants as receive
use Rattle.a429_workers.specs.declared.sending.SendFault.{SendFault}
use Rattle.a429_workers.specs.declared.sending.SendFault.TheVariants as send
use Rattle.a429_station.specs.Course.{RunAsk, asked}
use Rattle.a429_station.specs.Faults.{EndsGroup, EndsLine, HasStopped, IsFirstFault, IsLiveFault, first_fault}
use Rattle.a429_station.specs.declared.faults.LiveFault.{LiveFault}
use Rattle.a429_station.specs.declared.faults.LiveFault.TheVariants as live
use Rattle.a429_station.proofs.Stopping.{HasFault, first_found, shut_somewhere}
use Rattle.a429_console.specs.RefusalText.{OrMemory}
use Rattle.a429_live.specs.LiveReplies.{HasTooMuch, IsRunRefusal, refusal_of}
use Rattle.a429_live.specs.WordsFile.{words_for}
use Rattle.a429_live.specs.declared.words.Arrival.{Arrival}

-- ---- lines by their places

line_at : (f : ℕ → Memory) (i n k : ℕ) (x : Memory) → slice_get (map f (range_with_len i n)) k ≡ Some x → (k < n) × (x ≡ f (i + k))
line_at f i zero k x h = absurd (none-some x h)
line_at f i (suc n) zero x h = (omega arith, sym (same_Some (f i) x h) ∙ ap f (omega arith))
line_at f i (suc n) (suc k) x h = let rest = line_at f (i + 1) n k x h in (omega (arith, rest.0), rest.1 ∙ ap f (omega arith))

abbrev pub lines_of : List Arrival → ℕ → List Memory
lines_of arrivals n = map (λ r. at_start (words_for arrivals r)) (range_with_len 0 n)

-- ---- a line in memory, a sink that counts

-- what the lines report
abbrev pub memory_lines : (Memory → SourceAnswer → Memory → Type 0) → LineSource.Ghosts Memory
memory_lines steps = record { given = λ line. line.given; ended = all_given; failed = λ line. 0; left = λ line. Some line.left; steps = steps }

-- what the sinks report: they do not fail
abbrev pub sure_sinks : {B : Type 0} → (B → Option (List Sent)) → (B → Option ℕ) → BusSink.Ghosts B
sure_sinks taken counted = record { taken = taken; counted = counted; failed = λ sink. 0 }

-- the points at which the gate lets pass, and that it ends no loop
abbrev pub never_shut : (Point → Type 0) → GatePoints
never_shut passes = record { passes = passes; shuts = λ point. ⊥; asked = λ point S shown. Unit {0}; told = λ answer totals. Unit {0} }

module _ {B : Type 0} (idle : Type 0) (steps : Memory → SourceAnswer → Memory → Type 0) (taken : B → Option (List Sent)) (counted : B → Option ℕ) (passes : Point → Type 0) (t : TableRecord) (arrivals : List Arrival) (frames : ℕ) (sinks : List B) where
  abbrev pub source : LineSource.Ghosts Memory
  source = memory_lines steps

  abbrev pub sink : BusSink.Ghosts B
  sink = sure_sinks taken counted

  abbrev pub gate : GatePoints
  gate = never_shut passes

  abbrev pub ask : RunAsk Memory B
  ask = asked t frames (lines_of arrivals (length t.receivers)) sinks

  -- the line of the first receiver with a fault gave a word after a million
  gave_more : (raw : ℕ) (totals : ReceiveTotals) → HasFault (EndsLine source gate) (lines_of arrivals (length t.receivers)) (receive.TooMuch raw totals) → HasTooMuch t arrivals
  gave_more raw totals F =
      let E = F.holds in
      let at = line_at (λ r. at_start (words_for arrivals r)) 0 (length t.receivers) F.place F.item F.there in
      let left : F.item.left ≡ E.words ++ E.after.left = same_Some F.item.left (E.words ++ E.after.left) E.gave.kept in
      let own : F.item.left ≡ words_for arrivals F.place = ap (λ (line : Memory). line.left) at.1 ∙ ap (words_for arrivals) (omega arith) in
      let long = length-append E.words E.after.left in
      (F.place, at.0, subst (λ (ws : List ℕ). 1000000 < length ws) (sym left ∙ own) (omega (arith, long, E.many)))

  no_source : HasFault (EndsLine source gate) (lines_of arrivals (length t.receivers)) receive.Source → ⊥
  no_source F = absurd (omega (arith, F.holds.failures))

  no_sink : HasFault (EndsGroup sink gate) sinks send.Sink → ⊥
  no_sink F = absurd (omega (arith, F.holds.failures))

  -- ---- of a run that stopped

  abbrev Stopped : LiveFault → Type 0
  Stopped = HasStopped source sink gate ask

  stopped_too_much : Stopped live.TooMuch → HasTooMuch t arrivals
  stopped_too_much S = by (first_fault S.heard) (first_fault S.sent) refl S.first
    where
      by : (x : Option ReceiveFault) (y : Option SendFault) → first_fault S.heard ≡ x → IsFirstFault x y live.TooMuch → HasTooMuch t arrivals
      by (Some (receive.TooMuch raw totals)) y heard h = gave_more raw totals (first_found (EndsLine source gate) (lines_of arrivals (length t.receivers)) S.heard (receive.TooMuch raw totals) S.lines heard)
      by (Some receive.Source) y heard h = absurd (cc h)
      by (Some receive.Gate) y heard h = absurd (cc h)
      by None (Some send.Gate) heard h = absurd (cc h)
      by None (Some send.Sink) heard h = absurd (cc h)
      by None (Some send.Change) heard h = absurd h
      by None None heard h = absurd (cc h)

  stopped_source : Stopped live.Source → ⊥
  stopped_source S = by (first_fault S.heard) (first_fault S.sent) refl S.first
    where
      by : (x : Option ReceiveFault) (y : Option SendFault) → first_fault S.heard ≡ x → IsFirstFault x y live.Source → ⊥
      by (Some receive.Source) y heard h = no_source (first_found (EndsLine source gate) (lines_of arrivals (length t.receivers)) S.heard receive.Source S.lines heard)
      by (Some (receive.TooMuch raw totals)) y heard h = absurd (cc h)
      by (Some receive.Gate) y heard h = absurd (cc h)
      by None (Some send.Gate) heard h = absurd (cc h)
      by None (Some send.Sink) heard h = absurd (cc h)
      by None (Some send.Change) heard h = h
      by None None heard h = absurd (cc h)

  stopped_sink : Stopped live.Sink → ⊥
  stopped_sink S = by (first_fault S.heard) (first_fault S.sent) refl S.first
    where
      by : (x : Option ReceiveFault) (y : Option SendFault) → first_fault S.sent ≡ y → IsFirstFault x y live.Sink → ⊥
      by (Some receive.Source) y sent h = absurd (cc h)
      by (Some (receive.TooMuch raw totals)) y sent h = absurd (cc h)
      by (Some receive.Gate) y sent h = absurd (cc h)
      by None (Some send.Sink) sent h = no_sink (first_found (EndsGroup sink gate) sinks S.sent send.Sink S.groups sent)
      by None (Some send.Gate) sent h = absurd (cc h)
      by None (Some send.Change) sent h = h
      by None None sent h = absurd (cc h)

  -- ---- its refusal

  pub refusal_told : (fault : LiveFault) → IsLiveFault idle source sink gate ask fault → OrMemory (IsRunRefusal t arrivals frames) (refusal_of fault)
  refusal_told (live.Plan why) h = tt
  refusal_told live.TooMuch h = elim h [
    | inl many ↦ inl many.2
    | inr stop ↦ inr (stopped_too_much stop.1)
  ]
  refusal_told live.Join h = h.few
  refusal_told live.Source h = stopped_source h.1
  refusal_told live.Gate h = (shut_somewhere source sink gate ask h.1).1
  refusal_told live.Sink h = stopped_sink h.1
  refusal_told live.NoMemory h = tt
