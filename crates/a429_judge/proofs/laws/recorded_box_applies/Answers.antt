use Rattle.std.proofs.Common.{◌≡◌, ℕ, zero, suc, ◌+◌, ◌*◌, ◌-◌, ◌<◌, ◌≤◌, List, [], ◌∷◌, refl, arith, Some}
use Rattle.std.proofs.lemmas.List.Sorted.{IsNonDecreasingBy-from_default}
use Rattle.a429_judge.specs.declared.facts.Mark.{Mark}
use Rattle.a429_judge.specs.Judging.{mark_at, no_mark, time_at}
use Rattle.a429_judge.specs.Laws.{AreSlots, IsPieceOf}
use Rattle.a429_judge.specs.Machine.{box_sends, moment_at, send_at}
use Rattle.a429_judge.specs.RecordExample.{example_begin, example_facts, example_heard, example_sends}
use Rattle.a429_judge.proofs.laws.recorded_box_applies.Goals as goal

one_hold : (hold : ℕ) → example_facts.hold ≡ Some hold → 1 ≤ hold
one_hold zero h = absurd (cc)
one_hold (suc n) h = omega arith

-- all words that came in, and when
abbrev words : List Mark
words = record { time = 200; raw = 193 } ∷ record { time = 1000; raw = 3265 } ∷ record { time = 2000; raw = 12481 } ∷ record { time = 6000; raw = 193 } ∷ []

abbrev moments : List ℕ
moments = 20000000 ∷ 99000000 ∷ 200000000 ∷ 600000000 ∷ []

words_rise : (i j : ℕ) → i ≤ j → j < 4 → time_at words i ≤ time_at words j
words_rise zero zero le lt = omega arith
words_rise zero (suc zero) le lt = omega arith
words_rise zero (suc (suc zero)) le lt = omega arith
words_rise zero (suc (suc (suc zero))) le lt = omega arith
words_rise (suc zero) (suc zero) le lt = omega arith
words_rise (suc zero) (suc (suc zero)) le lt = omega arith
words_rise (suc zero) (suc (suc (suc zero))) le lt = omega arith
words_rise (suc (suc zero)) (suc (suc zero)) le lt = omega arith
words_rise (suc (suc zero)) (suc (suc (suc zero))) le lt = omega arith
words_rise (suc (suc (suc zero))) (suc (suc (suc zero))) le lt = omega arith
words_rise i (suc (suc (suc (suc j)))) le lt = absurd (omega (arith, lt))
words_rise (suc i) zero le lt = absurd (omega (arith, le))
words_rise (suc (suc i)) (suc zero) le lt = absurd (omega (arith, le))
words_rise (suc (suc (suc i))) (suc (suc zero)) le lt = absurd (omega (arith, le))
words_rise (suc (suc (suc (suc i)))) (suc (suc (suc zero))) le lt = absurd (omega (arith, le))

moments_rise : (i j : ℕ) → i ≤ j → j < 4 → moment_at moments i ≤ moment_at moments j
moments_rise zero zero le lt = omega arith
moments_rise zero (suc zero) le lt = omega arith
moments_rise zero (suc (suc zero)) le lt = omega arith
moments_rise zero (suc (suc (suc zero))) le lt = omega arith
moments_rise (suc zero) (suc zero) le lt = omega arith
moments_rise (suc zero) (suc (suc zero)) le lt = omega arith
moments_rise (suc zero) (suc (suc (suc zero))) le lt = omega arith
moments_rise (suc (suc zero)) (suc (suc zero)) le lt = omega arith
moments_rise (suc (suc zero)) (suc (suc (suc zero))) le lt = omega arith
moments_rise (suc (suc (suc zero))) (suc (suc (suc zero))) le lt = omega arith
moments_rise i (suc (suc (suc (suc j)))) le lt = absurd (omega (arith, lt))
moments_rise (suc i) zero le lt = absurd (omega (arith, le))
moments_rise (suc (suc i)) (suc zero) le lt = absurd (omega (arith, le))
moments_rise (suc (suc (suc i))) (suc (suc zero)) le lt = absurd (omega (arith, le))
moments_rise (suc (suc (suc (suc i)))) (suc (suc (suc zero))) le lt = absurd (omega (arith, le))

times_near : (j : ℕ) → j < 4 → (moment_at moments j ≤ time_at words j * 100000 + 6000000) × (time_at words j * 100000 ≤ moment_at moments j + 6000000)
times_near zero lt = (omega arith, omega arith)
times_near (suc zero) lt = (omega arith, omega arith)
times_near (suc (suc zero)) lt = (omega arith, omega arith)
times_near (suc (suc (suc zero))) lt = (omega arith, omega arith)
times_near (suc (suc (suc (suc j)))) lt = absurd (omega (arith, lt))

heard_same : (i : ℕ) → i < 2 → mark_at example_heard i ≡ mark_at words (1 + i)
heard_same zero lt = refl
heard_same (suc zero) lt = refl
heard_same (suc (suc i)) lt = absurd (omega (arith, lt))

after_piece : (j : ℕ) → 3 ≤ j → j < 4 → 5000 ≤ time_at words j
after_piece zero le lt = absurd (omega (arith, le))
after_piece (suc zero) le lt = absurd (omega (arith, le))
after_piece (suc (suc zero)) le lt = absurd (omega (arith, le))
after_piece (suc (suc (suc zero))) le lt = omega arith
after_piece (suc (suc (suc (suc j)))) le lt = absurd (omega (arith, lt))

piece : IsPieceOf 5000 100000 6000000 words (moment_at moments) example_heard
piece = record {
  early = λ j lt. (times_near j lt).0;
  late = λ j lt. (times_near j lt).1;
  rise = IsNonDecreasingBy-from_default (λ (a : Mark). a.time) words no_mark words_rise;
  skipped = 1;
  within = omega arith;
  same = heard_same;
  rest = after_piece;
}

slots : AreSlots example_facts 1 100000 example_begin
slots = record { soonest = λ n. omega arith; latest = λ n. omega arith }

same_words : (k : ℕ) → k < 2 → (mark_at example_sends k).raw ≡ (mark_at words ((send_at (box_sends example_facts example_begin moments 4) (1 + k)).count - 1)).raw
same_words zero lt = refl
same_words (suc zero) lt = refl
same_words (suc (suc k)) lt = absurd (omega (arith, lt))

early_enough : (k : ℕ) → k < 2 → example_begin (send_at (box_sends example_facts example_begin moments 4) (1 + k)).slot + 10000000 ≤ time_at example_sends k * 100000 + 6000000
early_enough zero lt = omega arith
early_enough (suc zero) lt = omega arith
early_enough (suc (suc k)) lt = absurd (omega (arith, lt))

late_enough : (k : ℕ) → k < 2 → time_at example_sends k * 100000 ≤ example_begin (send_at (box_sends example_facts example_begin moments 4) (1 + k)).slot + 10000000 + 6000000
late_enough zero lt = omega arith
late_enough (suc zero) lt = omega arith
late_enough (suc (suc k)) lt = absurd (omega (arith, lt))

before_log : (k : ℕ) → k < 1 → (send_at (box_sends example_facts example_begin moments 4) k).slot < 1
before_log zero lt = omega arith
before_log (suc k) lt = absurd (omega (arith, lt))

first_slots : (n : ℕ) → n < 1 → example_begin n + 10000000 ≤ 1900 * 100000 + 6000000
first_slots zero lt = omega arith
first_slots (suc n) lt = absurd (omega (arith, lt))

pub returns : goal.returns
unfolding piece
returns c = (
  record { rate = omega arith; least = omega arith; greatest = omega arith; period = omega arith; hold = one_hold },
  record {
    finer = 1;
    wrong = 6000000;
    drift = 100000;
    near = record { fine = omega arith; bounded = omega arith; slower = omega arith };
    words = words;
    moments = moments;
    timed = refl;
    rise = IsNonDecreasingBy-from_default (λ (m : ℕ). m) moments 0 moments_rise;
    piece = piece;
    begin = example_begin;
    slots = slots;
    delay = 10000000;
    short = omega arith;
    passed = 4;
    skipped = 1;
    enough = omega arith;
    same = same_words;
    early = early_enough;
    late = late_enough;
    from = 1;
    earlier = before_log;
    before = first_slots;
    opens = omega arith;
    after = λ k more lt. absurd (omega (arith, more, lt));
    ends = omega arith;
  },
  refl,
  refl,
  refl,
  refl,
  refl,
  refl,
)
