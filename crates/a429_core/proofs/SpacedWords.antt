-- How far apart a group sends words of one source, as the answers say it.
use Rattle.std.proofs.Common.{◌≡◌, ℕ, ◌+◌, ◌<◌, ◌≤◌, Bool, true, false, List, take, ◌∙◌, sym, ap, refl}
use Rattle.std.specs.Prelude.{Option, Some, None, ◌||◌, slice_get, if◌then◌else◌}
use Rattle.std.specs.Option.{option_map_or}
use Rattle.std.proofs.lemmas.Option.{none-some, same_Some, slice_get_within}
use Rattle.a429_slots.specs.Tables.{Placed, SlotTable, groups_of}
use Rattle.a429_slots.specs.Events.{Event, Cell}
use Rattle.a429_slots.specs.History.{Opening, current, accepted_by, answered_cells, last_of, is_too_close}
use Rattle.a429_slots.specs.Spacing.{IsOutputCell, IsSpacedTable, IsTooClose, Sends, answered_at, number_at}
use Rattle.a429_slots.specs.declared.answers.Answer.TheVariants.{Sent, Refused}
use Rattle.a429_slots.specs.declared.answers.Refusal.TheVariants.{NoSuch}
use Rattle.a429_slots.specs.Answers.{answer, cell_answer}
use Rattle.a429_core.specs.Histories.{history_of}
use Rattle.a429_core.specs.Spaced.{AreSpaced, CellIsAnswered, IsFirstCell, is_held_at}
use Rattle.a429_core.proofs.Carrying.{sent_in}

-- ---- the answer to an output's cell

pub answer_is : (C : ℕ) (o : Opening) (g : ℕ) (p : SlotTable) (E : List Event) (k : ℕ) (output : Placed) (slot : ℕ) → slice_get (groups_of o.proposal.plan) g ≡ Some p → (I : IsOutputCell o g p E k output slot)
    → answer C o (take k E) (Cell g) ≡ Sent I.cell.0 slot (answered_at C o g p E k output slot).word
answer_is C o g p E k output slot there I =
    let F = take k E in
    ap (λ (x : Option SlotTable). option_map_or (λ t. cell_answer C o F g (answered_cells C o g t F) (current o g t F)) x (Refused NoSuch)) there
    ∙ (rw (I.due, I.stands) refl ∙ ap (λ (s : ℕ). Sent I.cell.0 s (answered_at C o g p E k output s).word) (sym I.counted))

pub word_of : (C : ℕ) (o : Opening) (g : ℕ) (p : SlotTable) (E : List Event) (k : ℕ) (output : Placed) (slot : ℕ) (word : Option ℕ) → slice_get (groups_of o.proposal.plan) g ≡ Some p → CellIsAnswered C (history_of o g p E) k output slot word
    → (answered_at C o g p E k output slot).word ≡ word
word_of C o g p E k output slot word there A =
    let w = (answered_at C o g p E k output slot).word in
    let bus = A.cell.cell.0 in
    let all = same_Some (bus, slot, w) (bus, slot, word) (ap sent_in (sym (answer_is C o g p E k output slot there A.cell) ∙ A.answered)) in
    ap (λ (c : ℕ × ℕ × Option ℕ). c.2) all

pub answered_by : (C : ℕ) (o : Opening) (g : ℕ) (p : SlotTable) (E : List Event) (k : ℕ) (output : Placed) (slot word : ℕ) → slice_get (groups_of o.proposal.plan) g ≡ Some p → Sends C o g p E k output slot word
    → CellIsAnswered C (history_of o g p E) k output slot (Some word)
answered_by C o g p E k output slot word there S = record {
  cell = S.cell;
  answered = answer_is C o g p E k output slot there S.cell ∙ ap (λ (x : Option ℕ). Sent S.cell.cell.0 slot x) S.sent;
}

-- ---- words are apart

pub apart : AreSpaced → (C : ℕ) (o : Opening) (g : ℕ) (p : SlotTable) (E : List Event) (j k : ℕ) (earlier now : Placed) (u t w x : ℕ) → slice_get (groups_of o.proposal.plan) g ≡ Some p → j < k
    → CellIsAnswered C (history_of o g p E) j earlier u (Some w) → CellIsAnswered C (history_of o g p E) k now t (Some x) → earlier.source ≡ now.source → u + now.limits.spacing ≤ t
apart law C o g p E j k earlier now u t w x there after A B same =
    law.apart C o g p E j k earlier now u t w x after (record { cell = A.cell; sent = word_of C o g p E j earlier u (Some w) there A })
    (record { cell = B.cell; sent = word_of C o g p E k now t (Some x) there B }) same

-- a word that is there and not held is missing only because of spacing
close_where_none : (held close : Bool) (x : Option ℕ) (word : ℕ) → held ≡ false → x ≡ Some word → (if held || close then None else x) ≡ None → close ≡ true
close_where_none true close x word free some none = absurd (cc)
close_where_none false true x word free some none = refl
close_where_none false false x word free some none = absurd (none-some word (sym none ∙ some))

pub emptied : AreSpaced → (C : ℕ) (o : Opening) (g : ℕ) (p : SlotTable) (E : List Event) (k : ℕ) (now : Placed) (t word : ℕ) → slice_get (groups_of o.proposal.plan) g ≡ Some p → IsSpacedTable (current o g p (take k E)).table
    → CellIsAnswered C (history_of o g p E) k now t None → last_of (accepted_by C o now.source (take k E)) ≡ Some word → is_held_at C (history_of o g p E) k now ≡ false → IsFirstCell C (history_of o g p E) k now t
emptied law C o g p E k now t word there S A last free =
    let earlier = answered_cells C o g p (take k E) in
    let near = is_too_close earlier t now.source now.limits.spacing in
    let close : IsTooClose C o g p E k now t = close_where_none (is_held_at C (history_of o g p E) k now) near (last_of (accepted_by C o now.source (take k E))) word free last (word_of C o g p E k now t None there A) in
    let W = law.only C o g p E k now t (slice_get_within E k (Cell g) A.cell.asked) close in
    record {
      place = W.place;
      before = W.before;
      earlier = W.earlier;
      at = W.at;
      word = W.word;
      sent = answered_by C o g p E W.place W.earlier W.at W.word there W.sends;
      same = W.same;
      close = W.close;
      first = λ i x s before I same. law.first C o g p E i k x now s t there S before I A.cell same close;
    }

-- ---- within one plan

sent_where_open : (held close : Bool) (x : Option ℕ) → held ≡ false → (close ≡ true → ⊥) → (if held || close then None else x) ≡ x
sent_where_open true close x free far = absurd (cc)
sent_where_open false true x free far = absurd (far refl)
sent_where_open false false x free far = refl

pub sends_last : (C : ℕ) (o : Opening) (g : ℕ) (p : SlotTable) (E : List Event) (k : ℕ) (now : Placed) (t : ℕ) → slice_get (groups_of o.proposal.plan) g ≡ Some p → IsOutputCell o g p E k now t → is_held_at C (history_of o g p E) k now ≡ false
    → (IsTooClose C o g p E k now t → ⊥) → CellIsAnswered C (history_of o g p E) k now t (last_of (accepted_by C o now.source (take k E)))
sends_last C o g p E k now t there I free far =
    let earlier = answered_cells C o g p (take k E) in
    let near = is_too_close earlier t now.source now.limits.spacing in
    record {
      cell = I;
      answered = answer_is C o g p E k now t there I
          ∙ ap (λ (x : Option ℕ). Sent I.cell.0 t x) (sent_where_open (is_held_at C (history_of o g p E) k now) near (last_of (accepted_by C o now.source (take k E))) free far);
    }

pub recurs : AreSpaced → (C : ℕ) (o : Opening) (g : ℕ) (p : SlotTable) (E : List Event) (i k : ℕ) (x now : Placed) (s t : ℕ) → slice_get (groups_of o.proposal.plan) g ≡ Some p → IsSpacedTable (current o g p (take k E)).table
    → i < k → IsOutputCell o g p E i x s → x.source ≡ now.source → number_at o g p E i ≡ number_at o g p E k → IsOutputCell o g p E k now t → is_held_at C (history_of o g p E) k now ≡ false
    → CellIsAnswered C (history_of o g p E) k now t (last_of (accepted_by C o now.source (take k E)))
recurs law C o g p E i k x now s t there S before I same number K free = sends_last C o g p E k now t there K free (λ close. law.first C o g p E i k x now s t there S before I K same close number)

pub opens : AreSpaced → (C : ℕ) (o : Opening) (g : ℕ) (p : SlotTable) (E : List Event) (k : ℕ) (now : Placed) (t : ℕ) → slice_get (groups_of o.proposal.plan) g ≡ Some p → IsSpacedTable (current o g p (take k E)).table
    → IsOutputCell o g p E k now t → number_at o g p E k ≡ o.proposal.plan.number → is_held_at C (history_of o g p E) k now ≡ false → CellIsAnswered C (history_of o g p E) k now t (last_of (accepted_by C o now.source (take k E)))
opens law C o g p E k now t there S K number free = sends_last C o g p E k now t there K free (law.opening C o g p E k now t there S K number)
