-- What the machine answers of a cell that sends a word, and of one that sends none.
use Rattle.std.proofs.Common.{◌≡◌, ℕ, inl, inr, length, sym, ap}
use Rattle.std.specs.Prelude.{Option, Some, None, nat_lt, option_map}
use Rattle.std.proofs.lemmas.Bool.{cases_Bool}
use Rattle.std.proofs.lemmas.Option.{none-some, same_Some}
use Rattle.a429_slots.specs.declared.senders.Due.{Due}
use Rattle.a429_slots.specs.declared.answers.Answer.TheVariants.{Sent}
use Rattle.a429_core.specs.MachineStates.{MachineState}
use Rattle.a429_core.specs.MachineSteps.{after_asked, asked_cell, cell_asked, cell_sent, sent_in, sent_of, word_at}
use Rattle.a429_core.specs.declared.sends.SentCell.{SentCell}

abbrev asked_type : Type 0
asked_type = Option (ℕ × ℕ × Option Due)

sent_by : (v : MachineState) (g : ℕ) (s : SentCell) (asked : asked_type) → sent_of v g asked ≡ Some s → (sent_in v g asked).0 ≡ Sent s.bus s.slot (Some s.word)
sent_by v g s None h = absurd (none-some s h)
sent_by v g s (Some (bus, slot, None)) h = absurd (none-some s h)
sent_by v g s (Some (bus, slot, Some due)) h = go (word_at v g slot due).0 h
  where
    go : (w : Option ℕ) → option_map (λ word. record { bus = bus; slot = slot; source = due.source; word = word }) w ≡ Some s → Sent bus slot w ≡ Sent s.bus s.slot (Some s.word)
    go None e = absurd (none-some s e)
    go (Some w) e = ap (λ (x : SentCell). Sent x.bus x.slot (Some x.word)) (same_Some (record { bus = bus; slot = slot; source = due.source; word = w }) s e)

unsent_by : (v : MachineState) (g bus slot raw : ℕ) (asked : asked_type) → sent_of v g asked ≡ None → (sent_in v g asked).0 ≡ Sent bus slot (Some raw) → ⊥
unsent_by v g bus slot raw None h is = cc
unsent_by v g bus slot raw (Some (b, t, None)) h is = cc
unsent_by v g bus slot raw (Some (b, t, Some due)) h is = go (word_at v g t due).0 h is
  where
    go : (w : Option ℕ) → option_map {U = SentCell} (λ word. record { bus = b; slot = t; source = due.source; word = word }) w ≡ None → Sent b t w ≡ Sent bus slot (Some raw) → ⊥
    go None e is = cc
    go (Some w) e is = absurd (none-some (record { bus = b; slot = t; source = due.source; word = w }) (sym e))

-- the same of a group that may not be there
pub sent_answer : (v : MachineState) (g : ℕ) (s : SentCell) → cell_sent v g ≡ Some s → (cell_asked v g).0 ≡ Sent s.bus s.slot (Some s.word)
sent_answer v g s h = elim (cases_Bool (nat_lt g (length v.groups))) [
  | inl there ↦ rw there (sent_by (record v { groups = after_asked v.groups g }) g s (asked_cell v.groups g) (rw there at h))
  | inr none ↦ absurd (none-some s (rw none at h))
]

pub unsent_answer : (v : MachineState) (g bus slot raw : ℕ) → cell_sent v g ≡ None → (cell_asked v g).0 ≡ Sent bus slot (Some raw) → ⊥
unsent_answer v g bus slot raw h is = elim (cases_Bool (nat_lt g (length v.groups))) [
  | inl there ↦ unsent_by (record v { groups = after_asked v.groups g }) g bus slot raw (asked_cell v.groups g) (rw there at h) (rw there at is)
  | inr none ↦ let other = rw none at is in cc
]
