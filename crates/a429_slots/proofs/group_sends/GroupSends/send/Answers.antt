use Rattle.std.proofs.Common.{◌≡◌, ◌∙◌, ◌<◌, ◌≤◌, ℕ, List, ap, false, length, refl, subst}
use Rattle.std.proofs.lemmas.Option.{slice_get_past}
use Rattle.a429_slots.specs.declared.senders.Due.{Due}
use Rattle.a429_slots.specs.Recalling.{Recent, source_after, source_sends}
use Rattle.a429_slots.proofs.group_sends.GroupSends.send.Goals as goal

-- no sends are kept of the source
never_sent : (rs : List Recent) (slot count : ℕ) (due : Due) → length rs ≤ due.source → false ≡ source_sends rs slot count due
never_sent rs slot count due past = rw (slice_get_past rs due.source past) refl

nothing_kept : (rs : List Recent) (slot count : ℕ) (due : Due) → length rs ≤ due.source → rs ≡ source_after rs slot count due
nothing_kept rs slot count due past = rw (slice_get_past rs due.source past) refl

pub send_kept-requires-clause-some : goal.send_kept-requires-clause-some
send_kept-requires-clause-some c = c.requires.some

pub send_kept-requires-clause-room : goal.send_kept-requires-clause-room
send_kept-requires-clause-room c = c.requires.room

pub returns-clause-sent : goal.returns-clause-sent
returns-clause-sent c = c.send_kept.ensures.sent

pub returns-clause-after : goal.returns-clause-after
returns-clause-after c = c.send_kept.ensures.after

pub returns-then-due-len-clause-sent : goal.returns-then-due-len-clause-sent
returns-then-due-len-clause-sent c = never_sent c.args.self.now c.args.slot c.args.count c.args.due (subst (λ (n : ℕ). n ≤ c.args.due.source) (c.len.ensures ∙ c.self.inside.sources.ok.0 ∙ ap length c.self.view_is) c.if-due-len.true)

pub returns-then-due-len-clause-after : goal.returns-then-due-len-clause-after
returns-then-due-len-clause-after c = nothing_kept c.args.self.now c.args.slot c.args.count c.args.due (subst (λ (n : ℕ). n ≤ c.args.due.source) (c.len.ensures ∙ c.self.inside.sources.ok.0 ∙ ap length c.self.view_is) c.if-due-len.true)

pub send_kept-requires-clause-kept : goal.send_kept-requires-clause-kept
send_kept-requires-clause-kept c = subst (λ (n : ℕ). c.args.due.source < n) (c.len.ensures ∙ c.self.inside.sources.ok.0 ∙ ap length c.self.view_is) c.if-due-len.false
