-- The figures of an output: the intervals between its sends, how late words were sent, and how many findings of a kind there are
-- (profile: docs/FORMATS.md, Output of `judge`).
use Rattle.std.specs.Prelude.{ℕ, ◌-◌, ◌==◌, List, [], ◌∷◌, Bool, Option, None, Some, count_by, drop, flat_map, fold, if◌then◌else◌, length, max, min}
use Rattle.std.specs.List.{find, range_with_len}
use Rattle.std.specs.Option.{option_map_or}
use Rattle.a429_judge.specs.declared.facts.Facts.{Facts}
use Rattle.a429_judge.specs.declared.facts.Mark.{Mark}
use Rattle.a429_judge.specs.declared.findings.Finding.{Finding}
use Rattle.a429_judge.specs.declared.findings.Kind.{Kind}
use Rattle.a429_judge.specs.declared.findings.Kind.TheVariants.{Wrong, Stale, Soon, Late, Again, Silent, Missed}
use Rattle.a429_judge.specs.Judging.{is_right, time_at}

-- ---- numbers

abbrev pub lesser : Option ℕ → ℕ → Option ℕ
lesser None n = Some n
lesser (Some m) n = Some (min m n)

abbrev pub greater : Option ℕ → ℕ → Option ℕ
greater None n = Some n
greater (Some m) n = Some (max m n)

-- the least and the greatest of some numbers, if there are some
abbrev pub least_of : List ℕ → Option ℕ
least_of ns = fold lesser None ns

abbrev pub greatest_of : List ℕ → Option ℕ
greatest_of ns = fold greater None ns

-- ---- times

-- the interval to a send from the one before; none to the first
abbrev pub interval_to : List Mark → ℕ → List ℕ
interval_to sends k = if k == 0 then [] else (time_at sends k - time_at sends (k - 1)) ∷ []

abbrev pub intervals : List Mark → List ℕ
intervals sends = flat_map (interval_to sends) (range_with_len 0 (length sends))

-- the first send of an accepted word or of a later one
abbrev pub answer_to : Facts → List Mark → List Mark → ℕ → Option Mark
answer_to f accepted sends i = find (λ s. is_right f s (drop i accepted)) sends

-- how long after a word that send was, if there is one
abbrev pub delay_of : Facts → List Mark → List Mark → ℕ → List ℕ
delay_of f accepted sends i = option_map_or (λ s. (s.time - time_at accepted i) ∷ []) (answer_to f accepted sends i) []

abbrev pub delays : Facts → List Mark → List Mark → List ℕ
delays f accepted sends = flat_map (delay_of f accepted sends) (range_with_len 0 (length accepted))

-- ---- findings by kind

abbrev pub kind_number : Kind → ℕ
kind_number Wrong = 0
kind_number Stale = 1
kind_number Soon = 2
kind_number Late = 3
kind_number Again = 4
kind_number Silent = 5
kind_number Missed = 6

abbrev pub is_of_kind : Kind → Finding → Bool
is_of_kind kind x = kind_number x.kind == kind_number kind

-- how many findings of a kind there are
abbrev pub count_of : Kind → List Finding → ℕ
count_of kind found = count_by (is_of_kind kind) found
