use Rattle.std.proofs.Common.{refl, ap, sym, ◌∙◌, ◌≡◌, ◌<◌, ◌≤◌, ℕ, List, length, get_or, Bool, Some, None, Option}
use Rattle.std.specs.Prelude.{slice_get, if◌then◌else◌}
use Rattle.std.proofs.lemmas.Option.{slice_get_read, slice_get_past}
use Rattle.a429_slots.specs.Recalling.{Recent}
use Rattle.a429_slots.specs.declared.senders.Due.{Due}
use Rattle.a429_core.specs.declared.sources.Kept.{Kept}
use Rattle.a429_core.specs.MachineStates.{MachineState}
use Rattle.a429_core.specs.MachineSteps.{group_sends, group_after, send_kept, send_last, word_at}
use Rattle.a429_core.proofs.state.State.send.Goals as goal
use Rattle.a429_core.proofs.state.State.send.Goals.{then-send_word, else-send_word}

-- this is kept of the source
when_kept : (v w : MachineState) (ks : List Kept) (g slot : ℕ) (due : Due) (kept : Kept) (last : Option ℕ) → w ≡ v → ks ≡ w.sources → due.source < length ks → kept ≡ get_or ks due.source kept → kept.last ≡ last
    → word_at v g slot due ≡ send_last v g slot due kept.count last
when_kept v w ks g slot due kept last here sources inside read is =
    ap (λ (s : MachineState). send_kept v g slot due (slice_get s.sources due.source)) (sym here)
    ∙ ap (λ (xs : List Kept). send_kept v g slot due (slice_get xs due.source)) (sym sources)
    ∙ ap (send_kept v g slot due) (slice_get_read ks _ due.source kept refl inside read)
    ∙ ap (send_last v g slot due kept.count) is

-- there is no such source
when_none : (v w : MachineState) (ks : List Kept) (g slot : ℕ) (due : Due) → w ≡ v → ks ≡ w.sources → length ks ≤ due.source → word_at v g slot due ≡ (None, v)
when_none v w ks g slot due here sources past =
    ap (λ (s : MachineState). send_kept v g slot due (slice_get s.sources due.source)) (sym here)
    ∙ ap (λ (xs : List Kept). send_kept v g slot due (slice_get xs due.source)) (sym sources)
    ∙ ap (send_kept v g slot due) (slice_get_past ks due.source past)

pub returns-in_err-kept-clause-word : goal.returns-in_err-kept-clause-word
returns-in_err-kept-clause-word g c =
    c.from_residual.ensures ∙ sym (ap (λ (p : Option ℕ × MachineState). p.0) (when_none c.args.self.now _ c.deref.result.now c.args.group c.args.slot c.args.due c.self.view_is c.deref.ensures.value c.in_err-kept.ensures.lookup.3))

pub returns-in_err-kept-clause-after : goal.returns-in_err-kept-clause-after
returns-in_err-kept-clause-after g c =
    sym (ap (λ (p : Option ℕ × MachineState). p.1) (when_none c.args.self.now _ c.deref.result.now c.args.group c.args.slot c.args.due c.self.view_is c.deref.ensures.value c.in_err-kept.ensures.lookup.3))

pub returns-in_err-word-clause-word : goal.returns-in_err-word-clause-word
returns-in_err-word-clause-word g c =
    let found = c.in_ok-kept.ensures.lookup in
    let is = when_kept c.args.self.now _ c.deref.result.now c.args.group c.args.slot c.args.due c.in_ok-kept.field-0.now _ c.self.view_is c.deref.ensures.value found.3.0 found.1 c.in_err-word.was in
    c.from_residual-in_err-word.ensures ∙ sym (ap (λ (p : Option ℕ × MachineState). p.0) is)

pub returns-in_err-word-clause-after : goal.returns-in_err-word-clause-after
returns-in_err-word-clause-after g c =
    let found = c.in_ok-kept.ensures.lookup in
    let is = when_kept c.args.self.now _ c.deref.result.now c.args.group c.args.slot c.args.due c.in_ok-kept.field-0.now _ c.self.view_is c.deref.ensures.value found.3.0 found.1 c.in_err-word.was in
    sym (ap (λ (p : Option ℕ × MachineState). p.1) is)

pub returns-clause-word : goal.returns-clause-word
returns-clause-word g c =
    let kept = c.in_ok-kept.field-0.now in
    let found = c.in_ok-kept.ensures.lookup in
    let is = when_kept c.args.self.now _ c.deref.result.now c.args.group c.args.slot c.args.due kept _ c.self.view_is c.deref.ensures.value found.3.0 found.1 c.in_ok-word.was in
    let sends = ap (λ (s : MachineState). group_sends s.sends c.args.group c.args.slot kept.count c.args.due) (sym c.self.view_is) ∙ sym c.send_word.ensures.sent in
    elim c.if-send_word.branch [
      | then-send_word w ↦ w.result-is ∙ sym (ap (λ (p : Option ℕ × MachineState). p.0) is ∙ ap (λ (b : Bool). if b then Some c.in_ok-word.word else None) (sends ∙ w.if-send_word.true))
      | else-send_word w ↦ w.result-is ∙ sym (ap (λ (p : Option ℕ × MachineState). p.0) is ∙ ap (λ (b : Bool). if b then Some c.in_ok-word.word else None) (sends ∙ w.if-send_word.false))
    ]

pub returns-clause-after : goal.returns-clause-after
returns-clause-after g c =
    let kept = c.in_ok-kept.field-0.now in
    let found = c.in_ok-kept.ensures.lookup in
    let is = when_kept c.args.self.now _ c.deref.result.now c.args.group c.args.slot c.args.due kept _ c.self.view_is c.deref.ensures.value found.3.0 found.1 c.in_ok-word.was in
    let here = c.self.inside in
    ap (λ (ss : List (List Recent)). record { station = here.equipment; sources = here.sources.items; groups = here.groups.items; sends = ss; newest = here.newest.value }) c.send_word.ensures.after
    ∙ ap (λ (s : MachineState). record s { sends = group_after s.sends c.args.group c.args.slot kept.count c.args.due }) c.self.view_is
    ∙ sym (ap (λ (p : Option ℕ × MachineState). p.1) is)
