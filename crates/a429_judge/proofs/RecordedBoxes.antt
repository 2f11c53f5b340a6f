-- A box that sends by its slots is a right box.
use Rattle.std.proofs.Common.{◌≡◌, ℕ, ◌+◌, ◌-◌, ◌*◌, ◌<◌, ◌≤◌, List, length, take, Bool, true, false, true≢false, refl, sym, ap, ◌∙◌, inl, inr, ◌⊎◌, arith, Some, None}
use Rattle.std.specs.Prelude.{Option, count_by, nat_lt, ◌==◌}
use Rattle.std.specs.List.Sorted.{IsNonDecreasingBy}
use Rattle.std.proofs.lemmas.Bool.{cases_lt}
use Rattle.std.proofs.lemmas.Bool.Decides.{nat_tests}
use Rattle.std.proofs.lemmas.List.{length-take}
use Rattle.std.proofs.lemmas.List.Sums.{count_by-le-length, fails_before_first, passes_at_first}
use Rattle.a429_judge.specs.declared.facts.Facts.{Facts}
use Rattle.a429_judge.specs.declared.facts.Mark.{Mark}
use Rattle.a429_judge.specs.declared.facts.Span.{Span}
use Rattle.a429_judge.specs.Laws.{ArePlanned, IsRightBox}
use Rattle.a429_judge.specs.Machine.{IsRecordOf, SlotSend, box_sends, is_used_up, known_by, moment_at, send_at, slot_sends}
use Rattle.a429_judge.proofs.Firsts.{first_earlier, first_within}
use Rattle.a429_judge.proofs.BoxSends.{slots_rise}
use Rattle.a429_judge.proofs.SlotSends.{Rises, are_sends, last_have_it, one_counted, other_before, slot_after, slot_is_used, slots_of_places}

-- ---- how many words are known at a moment

known_rise : (moments : List ℕ) (m n : ℕ) → m ≤ n → known_by moments m ≤ known_by moments n
known_rise moments m n le =
    first_earlier (λ a. nat_lt m a) (λ a. nat_lt n a) moments 0 (λ a h.
    let after : n < a = grind (arith, nat_tests, h) in
    grind (arith, nat_tests, after, le))

-- a word among those known was accepted by then
known_then : (moments : List ℕ) (now i : ℕ) → i < known_by moments now → moment_at moments i ≤ now
known_then moments now i lt =
    let fails : nat_lt now (moment_at moments i) ≡ false = fails_before_first (λ (a : ℕ). nat_lt now a) moments i 0 lt in
    grind (arith, nat_tests, fails)

-- one that is not among them was accepted later
unknown_then : (moments : List ℕ) (now j : ℕ) → IsNonDecreasingBy (λ (m : ℕ). m) moments → known_by moments now ≤ j → j < length moments → now < moment_at moments j
unknown_then moments now j rise le lt =
    let within : known_by moments now < length moments = omega (arith, le, lt) in
    let passes : nat_lt now (moment_at moments (known_by moments now)) ≡ true = passes_at_first (λ (a : ℕ). nat_lt now a) moments 0 within in
    let after : now < moment_at moments (known_by moments now) = grind (arith, nat_tests, passes) in
    let sorted : moment_at moments (known_by moments now) ≤ moment_at moments j = rise (known_by moments now) j 0 le lt in
    omega (arith, after, sorted)

-- a word that was accepted by then is known
known_if : (moments : List ℕ) (now i : ℕ) → IsNonDecreasingBy (λ (m : ℕ). m) moments → i < length moments → moment_at moments i ≤ now → i < known_by moments now
known_if moments now i rise lt le = elim (cases_lt i (known_by moments now)) [
  | inl less ↦ less
  | inr most ↦ let later = unknown_then moments now i rise most lt in absurd {A = i < known_by moments now} (omega (arith, later, le))
]

-- ---- the parts of a right box

box_begins_rise : (f : Facts) (span : Span) (accepted sends : List Mark) (b : IsRecordOf f span accepted sends) (m n : ℕ) → m ≤ n → b.begin m ≤ b.begin n
box_begins_rise f span accepted sends b m n le = slots_rise f b.finer b.wrong b.drift b.begin m n b.near b.slots le

rises : (f : Facts) (span : Span) (accepted sends : List Mark) (b : IsRecordOf f span accepted sends) → Rises (λ n. known_by b.moments (b.begin n))
rises f span accepted sends b = λ m n le. known_rise b.moments (b.begin m) (b.begin n) (box_begins_rise f span accepted sends b m n le)

-- the latest word of the slot after a send is used up: it is that of the send, and of the last `hold` sends
record IsSpent (f : Facts) (span : Span) (accepted sends : List Mark) (b : IsRecordOf f span accepted sends) (j : ℕ) : Type 0 where
  pub hold : ℕ
  pub held : f.hold ≡ Some hold
  pub count : (send_at (box_sends f b.begin b.moments b.passed) j).count ≡ known_by b.moments (b.begin ((send_at (box_sends f b.begin b.moments b.passed) j).slot + 1))
  pub most : hold ≤ j + 1
  pub last : (k : ℕ) → j + 1 ≤ k + hold → k ≤ j → (send_at (box_sends f b.begin b.moments b.passed) k).count ≡ (send_at (box_sends f b.begin b.moments b.passed) j).count

spent_by : (f : Facts) (span : Span) (accepted sends : List Mark) (b : IsRecordOf f span accepted sends) (j hold : ℕ) → ArePlanned f → j < length (box_sends f b.begin b.moments b.passed) → f.hold ≡ Some hold
    → hold ≤ count_by (λ c. c.count == known_by b.moments (b.begin ((send_at (box_sends f b.begin b.moments b.passed) j).slot + 1))) (take (j + 1) (box_sends f b.begin b.moments b.passed))
    → IsSpent f span accepted sends b j
spent_by f span accepted sends b j hold plan lt is enough =
    let known : ℕ → ℕ = λ m. known_by b.moments (b.begin m) in
    let M = box_sends f b.begin b.moments b.passed in
    let r = are_sends f.hold known b.passed in
    let rise = rises f span accepted sends b in
    let s = (send_at M j).slot in
    let up = rise s (s + 1) (omega arith) in
    let here = r.counts j lt in
    let top : (send_at M j).count ≤ known (s + 1) = omega (arith, here, up) in
    let some = plan.hold hold is in
    let size : length (take (j + 1) M) ≡ j + 1 = omega (arith, length-take (j + 1) M, lt) in
    let fewer = count_by-le-length (λ (c : SlotSend). c.count == known (s + 1)) (take (j + 1) M) in
    let all : (k : ℕ) → j + 1 ≤ k + hold → k ≤ j → (send_at M k).count ≡ known (s + 1) =
    λ k near le. last_have_it f.hold known b.passed M j hold (known (s + 1)) k rise r lt top enough near le in
    let own : (send_at M j).count ≡ known (s + 1) = all j (omega (arith, some)) (omega arith) in record {
      hold = hold;
      held = is;
      count = own;
      most = omega (arith, enough, fewer, size);
      last = λ k near le. all k near le ∙ sym own;
    }

-- what comes after the last send of a slot: the next send is in the next slot, or the box ends, or the word is used up
what_follows : (f : Facts) (span : Span) (accepted sends : List Mark) (b : IsRecordOf f span accepted sends) (j : ℕ) → ArePlanned f → j < length (box_sends f b.begin b.moments b.passed)
    → ((j + 1 < length (box_sends f b.begin b.moments b.passed)) × ((send_at (box_sends f b.begin b.moments b.passed) (j + 1)).slot ≡ (send_at (box_sends f b.begin b.moments b.passed) j).slot + 1))
    ⊎ ((b.passed ≤ (send_at (box_sends f b.begin b.moments b.passed) j).slot + 1) ⊎ IsSpent f span accepted sends b j)
what_follows f span accepted sends b j plan lt = elim (cases_lt ((send_at (box_sends f b.begin b.moments b.passed) j).slot + 1) b.passed) [
  | inl less ↦ elim (slot_after f.hold (λ m. known_by b.moments (b.begin m)) b.passed j (rises f span accepted sends b) lt less) [
    | inl next ↦ inl next
    | inr used ↦ inr (inr (spent_by f span accepted sends b j used.0 plan lt used.1 used.2))
  ]
  | inr most ↦ inr (inl most)
]

-- a word that is not after a spent one comes in later than the slot
none_newer : (f : Facts) (span : Span) (accepted sends : List Mark) (b : IsRecordOf f span accepted sends) (j w : ℕ) → j < length (box_sends f b.begin b.moments b.passed) → IsSpent f span accepted sends b j
    → (send_at (box_sends f b.begin b.moments b.passed) j).count - 1 < w → w < length b.words → b.begin ((send_at (box_sends f b.begin b.moments b.passed) j).slot + 1) < moment_at b.moments w
none_newer f span accepted sends b j w lt spent more within =
    unknown_then b.moments (b.begin ((send_at (box_sends f b.begin b.moments b.passed) j).slot + 1)) w b.rise (omega (arith, spent.count, more)) (omega (arith, within, b.timed))

-- the word of a send was accepted when its slot began
known_send : (f : Facts) (span : Span) (accepted sends : List Mark) (b : IsRecordOf f span accepted sends) (j : ℕ) → j < length (box_sends f b.begin b.moments b.passed)
    → moment_at b.moments ((send_at (box_sends f b.begin b.moments b.passed) j).count - 1) ≤ b.begin (send_at (box_sends f b.begin b.moments b.passed) j).slot
known_send f span accepted sends b j lt =
    let r = are_sends f.hold (λ m. known_by b.moments (b.begin m)) b.passed in
    let count = r.counts j lt in
    let some = r.some j lt in
    known_then b.moments (b.begin (send_at (box_sends f b.begin b.moments b.passed) j).slot) ((send_at (box_sends f b.begin b.moments b.passed) j).count - 1) (omega (arith, count, some))

-- what the box does after send k of the log
abbrev AfterSend : (f : Facts) (span : Span) (accepted sends : List Mark) → IsRecordOf f span accepted sends → ℕ → Type 0
AfterSend f span accepted sends b k =
    ((k + 1 < length sends) × ((send_at (box_sends f b.begin b.moments b.passed) (b.skipped + (k + 1))).slot ≡ (send_at (box_sends f b.begin b.moments b.passed) (b.skipped + k)).slot + 1))
    ⊎ (((k + 1 ≡ length sends) × (span.last * (f.rate * b.finer) ≤ b.begin ((send_at (box_sends f b.begin b.moments b.passed) (b.skipped + k)).slot + 1) + b.delay + b.wrong))
    ⊎ ((hold : ℕ) × (f.hold ≡ Some hold)
    × ((j : ℕ) → (send_at (box_sends f b.begin b.moments b.passed) (b.skipped + k)).count - 1 < j → j < length b.words → b.begin ((send_at (box_sends f b.begin b.moments b.passed) (b.skipped + k)).slot + 1) < moment_at b.moments j)
    × (((hold ≤ k + 1) × ((send_at (box_sends f b.begin b.moments b.passed) (b.skipped + (k + 1 - hold))).count - 1 ≡ (send_at (box_sends f b.begin b.moments b.passed) (b.skipped + k)).count - 1))
    ⊎ ((m : ℕ) × (k + 1 < hold) × (m < b.from) × (m + hold ≤ (send_at (box_sends f b.begin b.moments b.passed) (b.skipped + k)).slot + 1)
    × (moment_at b.moments ((send_at (box_sends f b.begin b.moments b.passed) (b.skipped + k)).count - 1) ≤ b.begin m)))))

spent_after : (f : Facts) (span : Span) (accepted sends : List Mark) (b : IsRecordOf f span accepted sends) (k : ℕ) → ArePlanned f → k < length sends → IsSpent f span accepted sends b (b.skipped + k) → AfterSend f span accepted sends b k
spent_after f span accepted sends b k plan lt spent =
    let M = box_sends f b.begin b.moments b.passed in
    let r = are_sends f.hold (λ m. known_by b.moments (b.begin m)) b.passed in
    let inside : b.skipped + k < length M = omega (arith, b.enough, lt) in
    let some = plan.hold spent.hold spent.held in
    inr (inr (
      spent.hold,
      spent.held,
      λ j more within. none_newer f span accepted sends b (b.skipped + k) j inside spent more within,
      elim (cases_lt (k + 1) spent.hold) [
        | inl few ↦
            let i = b.skipped + k + 1 - spent.hold in
            let most = spent.most in
            let count = spent.last i (omega (arith, most)) (omega (arith, some)) in
            let e : i + (spent.hold - 1) ≡ b.skipped + k = omega (arith, most, some) in
            let far = slots_of_places f.hold (λ m. known_by b.moments (b.begin m)) b.passed M i (spent.hold - 1) r (omega (arith, e, inside)) in
            let far_at = ap (λ (n : ℕ). (send_at M n).slot) e in
            let known = known_send f span accepted sends b i (omega (arith, inside, some)) in
            let same = ap (λ (n : ℕ). moment_at b.moments (n - 1)) count in
            inr ((send_at M i).slot, few, b.earlier i (omega (arith, few, most)), omega (arith, far, far_at, some), omega (arith, known, same))
        | inr many ↦
            let count = spent.last (b.skipped + (k + 1 - spent.hold)) (omega (arith, many)) (omega (arith, some)) in
            inl (many, ap (λ (n : ℕ). n - 1) count)
      ],
    ))

after_send : (f : Facts) (span : Span) (accepted sends : List Mark) (b : IsRecordOf f span accepted sends) (k : ℕ) → ArePlanned f → k < length sends → AfterSend f span accepted sends b k
after_send f span accepted sends b k plan lt =
    let M = box_sends f b.begin b.moments b.passed in
    let s = (send_at M (b.skipped + k)).slot in
    let inside : b.skipped + k < length M = omega (arith, b.enough, lt) in
    let r = are_sends f.hold (λ m. known_by b.moments (b.begin m)) b.passed in
    let sum : b.skipped + k + 1 ≡ b.skipped + (k + 1) = omega arith in
    let sum_slot = ap (λ (n : ℕ). (send_at M n).slot) sum in
    elim (what_follows f span accepted sends b (b.skipped + k) plan inside) [
      | inl next ↦ elim (cases_lt (k + 1) (length sends)) [
        | inl more ↦ inl (more, omega (arith, sum_slot, next.1))
        | inr end ↦
            let after = b.after (b.skipped + (k + 1)) (omega (arith, end)) (omega (arith, next.0, sum)) in
            let e : (send_at M (b.skipped + (k + 1))).slot ≡ s + 1 = omega (arith, sum_slot, next.1) in
            let at = ap b.begin e in
            inr (inl (omega (arith, end, lt), omega (arith, after, at)))
      ]
      | inr rest ↦ elim rest [
        | inl ended ↦
            let last : k + 1 ≡ length sends = elim (cases_lt (k + 1) (length sends)) [
              | inl more ↦
                  let a = r.apart (b.skipped + k) (b.skipped + (k + 1)) (omega arith) (omega (arith, more, b.enough)) in
                  let before = r.before (b.skipped + (k + 1)) (omega (arith, more, b.enough)) in
                  absurd {A = k + 1 ≡ length sends} (omega (arith, a, before, ended))
              | inr most ↦ omega (arith, most, lt)
            ] in
            let up = box_begins_rise f span accepted sends b b.passed (s + 1) ended in
            inr (inl (last, omega (arith, up, b.ends)))
        | inr spent ↦ spent_after f span accepted sends b k plan lt spent
      ]
    ]

-- the place of a send that is in the log
in_log : (f : Facts) (span : Span) (accepted sends : List Mark) (b : IsRecordOf f span accepted sends) (n j : ℕ) → b.from ≤ n → b.begin n + b.delay + b.wrong < span.last * (f.rate * b.finer)
    → j < length (box_sends f b.begin b.moments b.passed) → (send_at (box_sends f b.begin b.moments b.passed) j).slot ≡ n
    → (k : ℕ) × (k < length sends) × ((send_at (box_sends f b.begin b.moments b.passed) (b.skipped + k)).slot ≡ n)
in_log f span accepted sends b n j from inside lt is =
    let M = box_sends f b.begin b.moments b.passed in
    let begin_is = ap b.begin is in
    let least : b.skipped ≤ j = elim (cases_lt j b.skipped) [
      | inl less ↦ let before = b.earlier j less in absurd {A = b.skipped ≤ j} (omega (arith, before, from, is))
      | inr most ↦ most
    ] in
    let most : j < b.skipped + length sends = elim (cases_lt j (b.skipped + length sends)) [
      | inl less ↦ less
      | inr more ↦ let after = b.after j more lt in absurd {A = j < b.skipped + length sends} (omega (arith, after, begin_is, inside))
    ] in
    let sum : b.skipped + (j - b.skipped) ≡ j = omega (arith, least) in
    (j - b.skipped, omega (arith, most, least), ap (λ (i : ℕ). (send_at M i).slot) sum ∙ is)

held_by : (hold : Option ℕ) (earlier : List SlotSend) (count : ℕ) → is_used_up hold earlier count ≡ true → (most : ℕ) × (hold ≡ Some most) × (most ≤ count_by (λ c. c.count == count) earlier)
held_by None earlier count h = absurd (true≢false (sym h))
held_by (Some most) earlier count h = (most, refl, grind (arith, nat_tests, h))

-- a slot at or after a word has a send, or one before it that is at or after the word
slot_by : (f : Facts) (span : Span) (accepted sends : List Mark) (b : IsRecordOf f span accepted sends) (n i : ℕ) (used : Bool) → ArePlanned f → n < b.passed → i < length b.words → moment_at b.moments i ≤ b.begin n
    → is_used_up f.hold (slot_sends f.hold (λ m. known_by b.moments (b.begin m)) n) (known_by b.moments (b.begin n)) ≡ used
    → ((j : ℕ) × (j < length (box_sends f b.begin b.moments b.passed)) × ((send_at (box_sends f b.begin b.moments b.passed) j).slot ≡ n))
    ⊎ ((hold m : ℕ) × (f.hold ≡ Some hold) × (m < n) × (moment_at b.moments i ≤ b.begin m))
slot_by f span accepted sends b n i false plan lt within reached e =
    let known : ℕ → ℕ = λ m. known_by b.moments (b.begin m) in
    let at : i < known_by b.moments (b.begin n) = known_if b.moments (b.begin n) i b.rise (omega (arith, within, b.timed)) reached in
    let some : (known n == 0) ≡ false = grind (arith, nat_tests, at) in
    inl (slot_is_used f.hold known n b.passed lt (rw some e))
slot_by f span accepted sends b n i true plan lt within reached e =
    let known : ℕ → ℕ = λ m. known_by b.moments (b.begin m) in
    let P = slot_sends f.hold known n in
    let r = are_sends f.hold known n in
    let at : i < known n = known_if b.moments (b.begin n) i b.rise (omega (arith, within, b.timed)) reached in
    let held = held_by f.hold P (known n) e in
    let least = plan.hold held.0 held.1 in
    let one = one_counted (λ c. c.count == known n) P (omega (arith, least, held.2)) in
    let is : (send_at P one.0).count ≡ known n = count_is (send_at P one.0).count (known n) one.2 in
    let counts = r.counts one.0 one.1 in
    inr (held.0, (send_at P one.0).slot, held.1, r.before one.0 one.1, known_then b.moments (b.begin (send_at P one.0).slot) i (omega (arith, at, is, counts)))
  where
    count_is : (m n : ℕ) → (m == n) ≡ true → m ≡ n
    count_is m n h = grind (arith, nat_tests, h)

pub recorded_is_right : (f : Facts) (span : Span) (accepted sends : List Mark) → ArePlanned f → IsRecordOf f span accepted sends → IsRightBox f span accepted sends
recorded_is_right f span accepted sends plan b =
    let known : ℕ → ℕ = λ m. known_by b.moments (b.begin m) in
    let M = box_sends f b.begin b.moments b.passed in
    let r = are_sends f.hold known b.passed in
    let rise = rises f span accepted sends b in
    let enough = b.enough in record {
      finer = b.finer;
      wrong = b.wrong;
      drift = b.drift;
      near = b.near;
      words = b.words;
      moment = moment_at b.moments;
      piece = b.piece;
      begin = b.begin;
      slots = b.slots;
      delay = b.delay;
      short = b.short;
      slot = λ k. (send_at M (b.skipped + k)).slot;
      word = λ k. (send_at M (b.skipped + k)).count - 1;
      in_order = λ k lt. r.apart (b.skipped + k) (b.skipped + (k + 1)) (omega arith) (omega (arith, lt, enough));
      early = b.early;
      late = b.late;
      known = λ k lt.
          let count = r.counts (b.skipped + k) (omega (arith, lt, enough)) in
          let some = r.some (b.skipped + k) (omega (arith, lt, enough)) in
          let within = first_within (λ (a : ℕ). nat_lt (b.begin (send_at M (b.skipped + k)).slot) a) b.moments in
          omega (arith, count, some, within, b.timed);
      same = λ k lt. sym (b.same k lt);
      since = λ k lt. known_send f span accepted sends b (b.skipped + k) (omega (arith, lt, enough));
      until = λ k j lt more within.
          let count = r.counts (b.skipped + k) (omega (arith, lt, enough)) in
          unknown_then b.moments (b.begin (send_at M (b.skipped + k)).slot) j b.rise (omega (arith, count, more)) (omega (arith, within, b.timed));
      held = λ k hold is le lt.
          let less = other_before f.hold known b.passed M (b.skipped + k) hold rise r is (omega (arith, le)) (omega (arith, lt, enough)) in
          let sum : b.skipped + k - hold ≡ b.skipped + (k - hold) = omega (arith, le) in
          let e = ap (λ (i : ℕ). (send_at M i).count) sum in
          let some = r.some (b.skipped + (k - hold)) (omega (arith, lt, le, enough)) in
          omega (arith, less, e, some);
      from = b.from;
      before = b.before;
      opens = b.opens;
      next = λ k lt. after_send f span accepted sends b k plan lt;
      whole = λ n i from within reached inside.
          let less : n < b.passed = elim (cases_lt n b.passed) [
            | inl less ↦ less
            | inr most ↦
                let later = box_begins_rise f span accepted sends b b.passed n most in
                absurd {A = n < b.passed} (omega (arith, b.ends, later, inside))
          ] in
          elim (slot_by f span accepted sends b n i (is_used_up f.hold (slot_sends f.hold known n) (known n)) plan less within reached refl) [
            | inl sent ↦ inl (in_log f span accepted sends b n sent.0 from inside sent.1 sent.2)
            | inr held ↦ inr held
          ];
    }
