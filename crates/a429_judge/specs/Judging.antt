-- Whether what an output sent is right, by the words that its source accepted (profile: docs/FORMATS.md, Output of `judge`). The words of a list are
-- in the order of their times. A slot L is 36 bit times, which are 36,000,000 / rate microseconds, and T is the tolerance. Times are compared in
-- units of 1 / rate microseconds, so that they are exact.
use Rattle.std.specs.Prelude.{◌≡◌, ◌==◌, ◌&&◌, ◌||◌, ◌+◌, ◌-◌, ◌*◌, ℕ, List, [], ◌∷◌, ◌++◌, Bool, true, false, not, drop, flat_map, if◌then◌else◌, is_some, length, max, nat_le, nat_lt, slice_get, slice_index_or}
use Rattle.std.specs.List.{list_any, position_or_len, range_with_len}
use Rattle.std.specs.List.Sorted.{IsPartitionPoint}
use Rattle.std.specs.Option.{option_map_or}
use Rattle.a429_judge.specs.declared.facts.Facts.{Facts}
use Rattle.a429_judge.specs.declared.facts.Mark.{Mark}
use Rattle.a429_judge.specs.declared.facts.Span.{Span}
use Rattle.a429_judge.specs.declared.findings.Finding.{Finding}
use Rattle.a429_judge.specs.declared.findings.Kind.{Kind}
use Rattle.a429_judge.specs.declared.findings.Kind.TheVariants.{Wrong, Stale, Soon, Late, Again, Silent, Missed}

-- what is read past the end of a list
abbrev pub no_mark : Mark
no_mark = record { time = 0; raw = 0 }

abbrev pub mark_at : List Mark → ℕ → Mark
mark_at marks k = slice_index_or marks k no_mark

abbrev pub time_at : List Mark → ℕ → ℕ
time_at marks k = (mark_at marks k).time

-- the words that pass a test are the first n
abbrev pub AreFirst : (Mark → Bool) → List Mark → ℕ → Type 0
AreFirst test marks n = IsPartitionPoint (λ a. test a ≡ true) (λ a. test a ≡ false) marks n

-- ---- the word of a send. The window of a send at t is from t - L - T to t + T.

-- a word was accepted by the end of the window of a send at t
abbrev pub is_by : Facts → ℕ → Mark → Bool
is_by f t a = nat_le a.time (t + f.tolerance)

-- a word was accepted before the window of a send at t
abbrev pub is_past : Facts → ℕ → Mark → Bool
is_past f t a = nat_lt ((a.time + f.tolerance) * f.rate + 36000000) (t * f.rate)

-- an accepted word is equal to that of a send, and was accepted by the end of its window
abbrev pub is_equal : Facts → Mark → Mark → Bool
is_equal f s a = a.raw == s.raw && is_by f s.time a

abbrev pub is_accepted : Facts → List Mark → Mark → Bool
is_accepted f accepted s = list_any (is_equal f s) accepted

-- The word of a send was the latest of some accepted words at some moment of its window: it was accepted by its end, and no later word
-- was accepted before the window. If equal words were accepted, one of them is enough.
abbrev pub is_right : Facts → Mark → List Mark → Bool
is_right f s [] = false
is_right f s (a ∷ later) = (is_equal f s a && not (list_any (is_past f s.time) later)) || is_right f s later

abbrev pub is_wrong : Facts → List Mark → Mark → Bool
is_wrong f accepted s = not (is_accepted f accepted s)

abbrev pub is_stale : Facts → List Mark → Mark → Bool
is_stale f accepted s = is_accepted f accepted s && not (is_right f s accepted)

-- The log of what came in knows which word was the latest throughout the window of a send at t: a word of the source came in before the window,
-- and the window ends before the last word of the log.
abbrev pub is_known : Facts → Span → List Mark → ℕ → Bool
is_known f span accepted t = option_map_or (is_past f t) (slice_get accepted 0) false && nat_lt (t + f.tolerance) span.heard

-- ---- the time of a send. Sends are numbered from 0.

-- the send is less than the minimum interval less T after the one before
abbrev pub is_soon : Facts → List Mark → ℕ → Bool
is_soon f sends k = nat_lt 0 k && nat_lt (time_at sends k + f.tolerance) (time_at sends (k - 1) + f.least)

-- it is more than the maximum interval and T after the one before
abbrev pub is_far : Facts → List Mark → ℕ → Bool
is_far f sends k = nat_lt 0 k && nat_lt (time_at sends (k - 1) + f.greatest + f.tolerance) (time_at sends k)

-- ---- holds

-- a word was accepted more than L + T before the slot that is a period after a send at t
abbrev pub is_before_next : Facts → ℕ → Mark → Bool
is_before_next f t a = nat_lt ((a.time + f.tolerance) * f.rate + 36000000) (t * f.rate + f.period * 36000000)

-- `hold` sends of a word, each P * L - T or more after the one before, fit from its acceptance until T after a send at t
abbrev pub has_room : Facts → ℕ → ℕ → Mark → Bool
has_room f hold t a = nat_le (a.time * f.rate + (hold - 1) * (f.period * 36000000 - f.tolerance * f.rate)) ((t + f.tolerance) * f.rate)

-- The first k sends may have `hold` sends of a word at their end: it was accepted by the end of the window of the first of the last `hold`. If
-- there are fewer, the others were before the log: it was accepted by T after the first word of the group, and there was room for all.
abbrev pub may_be_used_up : Facts → Span → List Mark → ℕ → ℕ → Mark → Bool
may_be_used_up f span sends k hold a =
    if nat_le hold k then is_by f (time_at sends (k - hold)) a else is_by f span.first a && has_room f hold (time_at sends (k - 1)) a

-- a word had to be sent in the slot that is a period after send k - 1: it was accepted before that, and cannot be used up
abbrev pub is_left : Facts → Span → List Mark → ℕ → ℕ → Mark → Bool
is_left f span sends k hold a = is_before_next f (time_at sends (k - 1)) a && not (may_be_used_up f span sends k hold a)

-- the hold may have left the slot after the first k sends empty
abbrev pub is_excused : Facts → Span → List Mark → List Mark → ℕ → Bool
is_excused f span accepted sends k = option_map_or (λ hold. not (list_any (is_left f span sends k hold) accepted)) f.hold false

abbrev pub is_late : Facts → Span → List Mark → List Mark → ℕ → Bool
is_late f span accepted sends k = is_far f sends k && not (is_excused f span accepted sends k)

-- the words that were the latest at some moment from the beginning of the window of a send at t on: the last one before it, and those
-- after that one
abbrev pub since : Facts → ℕ → List Mark → List Mark
since f t accepted = drop (position_or_len (λ a. not (is_past f t a)) accepted - 1) accepted

-- two words of a list pass a test
abbrev pub is_twice : (Mark → Bool) → List Mark → Bool
is_twice test [] = false
is_twice test (a ∷ later) = (test a && list_any test later) || is_twice test later

-- two sends are of one accepted word: their words are equal and known, both are right, and an equal word was accepted only once from the first on
abbrev pub is_of_one : Facts → Span → List Mark → Mark → Mark → Bool
is_of_one f span accepted first s =
    first.raw == s.raw && (is_known f span accepted first.time && (is_known f span accepted s.time
    && (is_right f first accepted && (is_right f s accepted && not (is_twice (is_equal f s) (since f first.time accepted))))))

-- a send and the one that is `hold` sends before it are of one accepted word
abbrev pub is_again : Facts → Span → List Mark → List Mark → ℕ → Bool
is_again f span accepted sends k =
    option_map_or (λ hold. nat_le hold k && is_of_one f span accepted (mark_at sends (k - hold)) (mark_at sends k)) f.hold false

-- ---- the time after the last send

-- the logs go on for more than the maximum interval and T after the last send
abbrev pub is_ended : Facts → Span → List Mark → Bool
is_ended f span sends = nat_lt 0 (length sends) && nat_lt (time_at sends (length sends - 1) + f.greatest + f.tolerance) span.last

-- and no hold explains it
abbrev pub is_silent : Facts → Span → List Mark → List Mark → Bool
is_silent f span accepted sends = is_ended f span sends && not (is_excused f span accepted sends (length sends))

-- ---- an accepted word. Accepted words are numbered from 0.

-- from when on the log of what was sent must have a word: since it came in, or since the first word of the group
abbrev pub due_since : Span → Mark → ℕ
due_since span a = max a.time span.first

-- a time is within P + 1 slots and T after another
abbrev pub is_in_reach : Facts → ℕ → ℕ → Bool
is_in_reach f since t = nat_le (t * f.rate) ((since + f.tolerance) * f.rate + (f.period + 1) * 36000000)

-- it or a later word was sent in time
abbrev pub is_answered : Facts → Span → List Mark → List Mark → ℕ → Bool
is_answered f span accepted sends i = list_any (λ s. is_in_reach f (due_since span (mark_at accepted i)) s.time && is_right f s (drop i accepted)) sends

-- the log of what came in goes on for long enough to see it sent; with a hold, a word from before the log of what was sent may be used up
abbrev pub is_seen : Facts → Span → Mark → Bool
is_seen f span a =
    (not (is_some f.hold) || nat_lt (span.first + f.tolerance) a.time)
    && nat_le ((due_since span a + f.tolerance) * f.rate + (f.period + 1) * 36000000) (span.heard * f.rate)

abbrev pub is_missed : Facts → Span → List Mark → List Mark → ℕ → Bool
is_missed f span accepted sends i = is_seen f span (mark_at accepted i) && not (is_answered f span accepted sends i)

-- ---- findings

-- a finding, if there is one
abbrev pub finding_if : Bool → Kind → Mark → List Finding
finding_if test kind m = if test then record { kind = kind; mark = m } ∷ [] else []

-- that of a send's word, if that is known
abbrev pub value_findings : Facts → Span → List Mark → Mark → List Finding
value_findings f span accepted s =
    if is_known f span accepted s.time then finding_if (is_wrong f accepted s) Wrong s ++ finding_if (is_stale f accepted s) Stale s else []

-- those of a send
unfoldable pub send_findings : Facts → Span → List Mark → List Mark → ℕ → List Finding
send_findings f span accepted sends k =
    let s = mark_at sends k in
    value_findings f span accepted s ++ (finding_if (is_soon f sends k) Soon s ++ (finding_if (is_late f span accepted sends k) Late s
    ++ finding_if (is_again f span accepted sends k) Again s))

-- that of the time after the last send
unfoldable pub end_findings : Facts → Span → List Mark → List Mark → List Finding
end_findings f span accepted sends = finding_if (is_silent f span accepted sends) Silent (mark_at sends (length sends - 1))

-- that of an accepted word
unfoldable pub word_findings : Facts → Span → List Mark → List Mark → ℕ → List Finding
word_findings f span accepted sends i = finding_if (is_missed f span accepted sends i) Missed (mark_at accepted i)

abbrev pub all_missed : Facts → Span → List Mark → List Mark → List Finding
all_missed f span accepted sends = flat_map (word_findings f span accepted sends) (range_with_len 0 (length accepted))

abbrev pub all_sent : Facts → Span → List Mark → List Mark → List Finding
all_sent f span accepted sends = flat_map (send_findings f span accepted sends) (range_with_len 0 (length sends))

-- all findings: those of the sends, that of the time after the last one, and those of the accepted words
unfoldable pub findings : Facts → Span → List Mark → List Mark → List Finding
findings f span accepted sends = all_sent f span accepted sends ++ (end_findings f span accepted sends ++ all_missed f span accepted sends)
