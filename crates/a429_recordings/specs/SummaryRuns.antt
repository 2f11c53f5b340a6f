-- The summary of a simulation by the values of the program (vocabulary of contracts).
use Rattle.std.specs.Prelude.{◌≡◌, ◌==◌, ◌&&◌, ◌+◌, ◌-◌, ◌*◌, ◌^◌, ◌<◌, ◌++◌, ◌∷◌, [], ℕ, Bool, true, not, List, Option, Some, None, if◌then◌else◌, length, map, max, min, nat_lt, option_and_then, option_map, slice_get, slice_set, unwrap_or}
use Rattle.std.specs.List.{flat_map, range_with_len}
use Rattle.std.specs.Option.{option_map_or}
use Rattle.a429_text.specs.Fields.{Field, Number}
use Rattle.a429_equipment.specs.Agreement.{last_of}
use Rattle.a429_slots.specs.Times.{slots_us}
use Rattle.a429_slots.specs.Proposed.{Proposed}
use Rattle.a429_slots.specs.Tables.{groups_of, outputs_of, placed_at}
use Rattle.a429_recordings.specs.Summary.{bound_fields, greatest_in, latenesses, lateness, least_in, name_fields, number_field, sends_of, times_between}
use Rattle.a429_recordings.specs.Timeline.{rate_of, table_of}
use Rattle.a429_recordings.specs.declared.simulate.figures.OutputFigures.{OutputFigures}
use Rattle.a429_recordings.specs.declared.simulate.figures.OutputSend.{OutputSend}
use Rattle.a429_recordings.specs.declared.simulate.figures.Summary.{Summary}
use Rattle.a429_recordings.specs.declared.simulate.machine.Happening.{Happening}
use Rattle.a429_recordings.specs.declared.simulate.machine.Happening.TheVariants.{Refuses, Sends}
use Rattle.a429_recordings.specs.declared.simulate.machine.SentWord.{SentWord}

-- ---- one output

-- what is kept of these sends; their number, as far as 64 bits count
abbrev pub figures_of : ℕ → List OutputSend → OutputFigures
figures_of rate sends = record {
  sent = min (length sends) (2 ^ 64 - 1);
  last = last_of sends;
  least = least_in (times_between rate sends);
  greatest = greatest_in (times_between rate sends);
  late = greatest_in (latenesses rate sends);
}

abbrev pub lesser : Option ℕ → Option ℕ → Option ℕ
lesser None more = more
lesser (Some n) None = Some n
lesser (Some n) (Some m) = Some (min n m)

abbrev pub greater : Option ℕ → Option ℕ → Option ℕ
greater None more = more
greater (Some n) None = Some n
greater (Some n) (Some m) = Some (max n m)

-- the time since the last send
abbrev pub time_since : ℕ → Option OutputSend → OutputSend → Option ℕ
time_since rate last s = option_map (λ l. slots_us rate (s.slot - l.slot)) last

-- the word of the last send is another
abbrev pub is_other : Option OutputSend → OutputSend → Bool
is_other last s = option_map_or (λ l. not (l.word == s.word)) last true

-- the lateness of a word that the last send did not have
abbrev pub late_if_other : ℕ → Option OutputSend → OutputSend → Option ℕ
late_if_other rate last s = if is_other last s then Some (lateness rate s) else None

-- what is kept after one more send
abbrev pub figures_after : ℕ → OutputFigures → OutputSend → OutputFigures
figures_after rate x s = record {
  sent = min (x.sent + 1) (2 ^ 64 - 1);
  last = Some s;
  least = lesser x.least (time_since rate x.last s);
  greatest = greater x.greatest (time_since rate x.last s);
  late = greater x.late (late_if_other rate x.last s);
}

abbrev pub nothing_sent : OutputFigures
nothing_sent = record { sent = 0; last = None; least = None; greatest = None; late = None }

-- ---- all sources of all groups

-- the place of the figures of a source in a group, if a station can have both
abbrev pub place_of : ℕ → ℕ → Option ℕ
place_of g source = if nat_lt g 8 && nat_lt source 256 then Some (g * 256 + source) else None

-- what is kept of a source in a group
abbrev pub figures_at : List OutputFigures → ℕ → ℕ → Option OutputFigures
figures_at figures g source = option_and_then (λ at. slice_get figures at) (place_of g source)

-- one of them after one more send
abbrev pub figures_more : List OutputFigures → ℕ → OutputSend → ℕ → List OutputFigures
figures_more figures rate send at = option_map_or (λ x. slice_set figures at (figures_after rate x send)) (slice_get figures at) figures

-- all of them after a word is sent, at this bit rate
abbrev pub figures_with : List OutputFigures → SentWord → ℕ → List OutputFigures
figures_with figures s rate = option_map_or (figures_more figures rate s.send) (place_of s.group s.source) figures

-- all of them after something happens
abbrev pub figures_noted : Proposed → List OutputFigures → Happening → List OutputFigures
figures_noted q figures (Refuses w why) = figures
figures_noted q figures (Sends s) = figures_with figures s (rate_of q s.group)

-- these are the figures of the events that were given
abbrev pub HasFigures : Proposed → List Happening → List OutputFigures → Type 0
HasFigures q told figures = (g source : ℕ) → g < 8 → source < 256 → figures_at figures g source ≡ Some (figures_of (rate_of q g) (sends_of g source told))

-- ---- rows

-- the fields of what is kept of an output's sends
abbrev pub figure_fields : OutputFigures → List Field
figure_fields x = Number x.sent ∷ number_field x.least ∷ number_field x.greatest ∷ number_field x.late ∷ []

-- what is kept of what a group sent of a source
abbrev pub kept_at : Summary → ℕ → ℕ → OutputFigures
kept_at s g source = unwrap_or (figures_at s.figures.items g source) nothing_sent

-- output o of group g by what is kept of it
abbrev pub kept_row : Proposed → Summary → ℕ → ℕ → List Field
kept_row q s g o = name_fields q.station g o ++ figure_fields (kept_at s g (placed_at (table_of q g) o).source) ++ bound_fields (rate_of q g) (placed_at (table_of q g) o)

abbrev pub kept_group : Proposed → Summary → ℕ → List (List Field)
kept_group q s g = map (kept_row q s g) (range_with_len 0 (length (outputs_of (table_of q g))))

abbrev pub kept_rows : Proposed → Summary → List (List Field)
kept_rows q s = flat_map (kept_group q s) (range_with_len 0 (length (groups_of q.plan)))
