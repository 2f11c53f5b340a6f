-- The logs of a box, and which words of them are an output's (profile: docs/FORMATS.md, Output of `judge`).
use Rattle.std.specs.Prelude.{ℕ, ◌-◌, ◌==◌, ◌&&◌, ◌≡◌, ◌<◌, ◌≤◌, List, [], ◌∷◌, ◌++◌, Bool, Option, None, Some, true, count_by, filter, length, map, max, nat_le, not, slice_get, slice_index_or}
use Rattle.std.specs.List.{find, list_any}
use Rattle.std.specs.List.Sorted.{IsNonDecreasingBy}
use Rattle.std.specs.Option.{option_map_or}
use Rattle.std.specs.declared.vec.Vec.{Vec}
use Rattle.std.specs.declared.alloc.Global.{Global}
use Rattle.a429_word.specs.Bits.{has_odd_parity, label_of, sdi_of}
use Rattle.a429_judge.specs.declared.duties.Duty.{Duty}
use Rattle.a429_judge.specs.declared.duties.Heard.{Heard}
use Rattle.a429_judge.specs.declared.duties.Sent.{Sent}
use Rattle.a429_judge.specs.declared.facts.Mark.{Mark}
use Rattle.a429_judge.specs.declared.facts.Span.{Span}

-- Two logs on one clock: the words that sources accepted, the time of the last word that came in, accepted or not, and the words that
-- were sent, with the time of the last.
pub record Recording : Type 0 where
  pub heard : List Heard
  pub last_heard : ℕ
  pub sent : List Sent
  pub last_sent : ℕ

-- no words
abbrev pub no_words : Recording
no_words = record { heard = []; last_heard = 0; sent = []; last_sent = 0 }

-- the accepted word of a source, if one accepted it
abbrev pub heard_by : Option ℕ → Mark → List Heard
heard_by None mark = []
heard_by (Some source) mark = record { source = source; mark = mark } ∷ []

-- one more word that came in, accepted by this source, or by none
abbrev pub with_heard : Option ℕ → Mark → Recording → Recording
with_heard source mark r = record { heard = r.heard ++ heard_by source mark; last_heard = mark.time; sent = r.sent; last_sent = r.last_sent }

-- one more word that was sent
abbrev pub with_sent : Sent → Recording → Recording
with_sent word r = record { heard = r.heard; last_heard = r.last_heard; sent = r.sent ++ word ∷ []; last_sent = word.mark.time }

-- ---- the words of an output

-- what is read past the end of a list of outputs
abbrev pub no_duty : Duty
no_duty = record {
  group = 0;
  source = 0;
  label = 0;
  sdi = None;
  bus = 0;
  facts = record { rate = 0; period = 0; least = 0; greatest = 0; hold = None; tolerance = 0 };
}

abbrev pub duty_at : List Duty → ℕ → Duty
duty_at duties k = slice_index_or duties k no_duty

-- A word that was sent is of an output: it is of its group and, if the log names buses, on its bus. It has odd parity, and the label
-- and the SDI of the output's source.
abbrev pub fits : Duty → Sent → Bool
fits d w =
    w.group == d.group && (has_odd_parity w.mark.raw && (d.label == label_of w.mark.raw
    && (option_map_or (λ k. k == sdi_of w.mark.raw) d.sdi true && option_map_or (λ bus. bus == d.bus) w.bus true)))

-- the words of an output that were sent
abbrev pub sends_of : Duty → List Sent → List Mark
sends_of d sent = map (λ w. w.mark) (filter (fits d) sent)

-- the words that a source accepted
abbrev pub accepted_of : ℕ → List Heard → List Mark
accepted_of source heard = map (λ h. h.mark) (filter (λ h. h.source == source) heard)

-- a word of a group is of none of these outputs
abbrev pub is_foreign : List Duty → ℕ → Sent → Bool
is_foreign duties group w = w.group == group && not (list_any (λ d. fits d w) duties)

abbrev pub foreign_of : List Duty → ℕ → List Sent → List Sent
foreign_of duties group sent = filter (is_foreign duties group) sent

-- a label and an SDI may be those of both outputs
abbrev pub overlaps : Duty → Duty → Bool
overlaps d e = d.label == e.label && option_map_or (λ j. option_map_or (λ k. j == k) e.sdi true) d.sdi true

-- the outputs of a list that have a label and an SDI in common with this one, itself among them
abbrev pub overlapping : Duty → List Duty → ℕ
overlapping d duties = count_by (overlaps d) duties

-- the time of the first word of a group that was sent; if there is none, of the first word that was sent, or 0
abbrev pub first_sent : ℕ → List Sent → ℕ
first_sent group sent = option_map_or (λ w. w.mark.time) (find (λ w. w.group == group) sent) (option_map_or (λ w. w.mark.time) (slice_get sent 0) 0)

-- What the logs show: the first word of the group that was sent, the last word that came in, and the last word of both logs. Until then the log of
-- what was sent has all words of the group.
abbrev pub span_of : ℕ → Recording → Span
span_of group r = record { first = first_sent group r.sent; heard = r.last_heard; last = max r.last_heard r.last_sent }

-- ---- what a recording keeps to

-- times do not fall, and the last times are kept
pub record IsKept (r : Recording) : Type 0 where
  pub heard : IsNonDecreasingBy (λ (h : Heard). h.mark.time) r.heard
  pub heard_last : (d : Heard) → 1 ≤ length r.heard → (slice_index_or r.heard (length r.heard - 1) d).mark.time ≤ r.last_heard
  pub sent : IsNonDecreasingBy (λ (w : Sent). w.mark.time) r.sent
  pub sent_last : (d : Sent) → 1 ≤ length r.sent → (slice_index_or r.sent (length r.sent - 1) d).mark.time ≤ r.last_sent

-- ---- the words that a judge notes

-- The outputs that are judged, by their groups; the words that were noted; and whether no word came before the one before it in its log.
pub record JudgedLogs : Type 0 where
  pub duties : List (List Duty)
  pub noted : Recording
  pub in_order : Bool

-- the outputs of a group; a group that there is not has none
abbrev pub group_at : List (List Duty) → ℕ → List Duty
group_at duties g = slice_index_or duties g []

-- each output of a list is of the group with the number of the list
abbrev pub AreOfGroups : List (List Duty) → Type 0
AreOfGroups duties = (g o : ℕ) → g < length duties → o < length (group_at duties g) → (duty_at (group_at duties g) o).group ≡ g

abbrev pub lists_of : List (Vec Duty Global) → List (List Duty)
lists_of duties = map (λ ds. ds.items) duties

-- no word was noted
abbrev pub nothing_noted : List (List Duty) → JudgedLogs
nothing_noted duties = record { duties = duties; noted = no_words; in_order = true }

-- one more word that came in, accepted by this source, or by none
abbrev pub hear : Option ℕ → Mark → JudgedLogs → JudgedLogs
hear source mark j = record {
  duties = j.duties;
  noted = with_heard source mark j.noted;
  in_order = j.in_order && nat_le j.noted.last_heard mark.time;
}

-- one more word that was sent
abbrev pub send : Sent → JudgedLogs → JudgedLogs
send word j = record {
  duties = j.duties;
  noted = with_sent word j.noted;
  in_order = j.in_order && nat_le j.noted.last_sent word.mark.time;
}
