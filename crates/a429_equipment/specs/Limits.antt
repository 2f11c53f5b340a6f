-- Limits of a station (profile: docs/RULES.md, Limits).
use Rattle.std.specs.Prelude.{ℕ}

-- how many bits count the words that a source accepts
abbrev pub count_bits : ℕ
count_bits = 41

-- how many words a receiver takes at most in one run on threads
abbrev pub most_words : ℕ
most_words = 1000000

-- the longest interval of an output, in microseconds
abbrev pub longest_interval : ℕ
longest_interval = 30000000

-- how often a hold lets one accepted word be sent at most
abbrev pub most_sends : ℕ
most_sends = 1000000
