-- The sends of a box by its slots.
use Rattle.std.proofs.Common.{◌≡◌, ℕ, zero, suc, ◌+◌, ◌-◌, ◌<◌, ◌≤◌, List, [], ◌∷◌, ◌++◌, length, take, Bool, true, false, true≢false, refl, sym, ap, subst, ◌∙◌, inl, inr, ◌⊎◌, arith, Some, None, append-nil}
use Rattle.std.specs.Prelude.{Option, count_by, if◌then◌else◌, nat_le, ◌||◌, ◌==◌}
use Rattle.std.specs.Option.{option_map_or}
use Rattle.std.proofs.lemmas.Bool.{cases_lt}
use Rattle.std.proofs.lemmas.Bool.Decides.{nat_tests}
use Rattle.std.proofs.Math.ListN.{get_or-append}
use Rattle.std.proofs.lemmas.List.{get_or_push, get_or-take, length_push, length-take, take-append-le, take_all}
use Rattle.std.proofs.lemmas.List.Sums.{count_by-le-length, sum_by-cons}
use Rattle.a429_judge.specs.Machine.{SlotSend, is_used_up, no_send, send_at, slot_sends}

-- ---- counts

count_first : (p : SlotSend → Bool) (x : SlotSend) (xs : List SlotSend) → count_by p (x ∷ xs) ≡ (if p x then 1 else 0) + count_by p xs
count_first p x xs = sum_by-cons (λ y. if p y then 1 else 0) x xs

count_yes : (p : SlotSend → Bool) (x : SlotSend) (xs : List SlotSend) → p x ≡ true → count_by p (x ∷ xs) ≡ 1 + count_by p xs
count_yes p x xs h = count_first p x xs ∙ ap (λ (b : Bool). (if b then 1 else 0) + count_by p xs) h

count_no : (p : SlotSend → Bool) (x : SlotSend) (xs : List SlotSend) → p x ≡ false → count_by p (x ∷ xs) ≡ 0 + count_by p xs
count_no p x xs h = count_first p x xs ∙ ap (λ (b : Bool). (if b then 1 else 0) + count_by p xs) h

count_any : (p : SlotSend → Bool) (x : SlotSend) (xs : List SlotSend) (b : Bool) → p x ≡ b → count_by p xs ≤ count_by p (x ∷ xs)
count_any p x xs true h = omega (arith, count_yes p x xs h)
count_any p x xs false h = omega (arith, count_no p x xs h)

-- if the first n do not pass, at most the others do
few_pass : (p : SlotSend → Bool) (xs : List SlotSend) (n : ℕ) → n ≤ length xs → ((k : ℕ) → k < n → p (send_at xs k) ≡ false) → count_by p xs + n ≤ length xs
few_pass p xs zero le h = omega (arith, count_by-le-length p xs)
few_pass p [] (suc n) le h = absurd (omega (arith, le))
few_pass p (x ∷ xs) (suc n) le h =
    let rest = few_pass p xs n (omega (arith, le)) (λ k lt. h (suc k) (omega (arith, lt))) in
    let here : p x ≡ false = h 0 (omega arith) in
    omega (arith, rest, count_no p x xs here)

-- if all from n on pass, at most the first n do not
pub many_pass : (p : SlotSend → Bool) (xs : List SlotSend) (n : ℕ) → ((k : ℕ) → n ≤ k → k < length xs → p (send_at xs k) ≡ true) → length xs ≤ count_by p xs + n
many_pass p [] n h = omega arith
many_pass p (x ∷ xs) zero h =
    let rest = many_pass p xs zero (λ k le lt. h (suc k) (omega arith) (omega (arith, lt))) in
    let here : p x ≡ true = h 0 (omega arith) (omega arith) in
    omega (arith, rest, count_yes p x xs here)
many_pass p (x ∷ xs) (suc n) h =
    let rest = many_pass p xs n (λ k le lt. h (suc k) (omega (arith, le)) (omega (arith, lt))) in
    omega (arith, rest, count_any p x xs (p x) refl)

-- ---- what is true of the sends of the first n slots

abbrev pub Rises : (ℕ → ℕ) → Type 0
Rises known = (m n : ℕ) → m ≤ n → known m ≤ known n

pub record AreSends (hold : Option ℕ) (known : ℕ → ℕ) (n : ℕ) (M : List SlotSend) : Type 0 where
  pub before : (j : ℕ) → j < length M → (send_at M j).slot < n
  pub counts : (j : ℕ) → j < length M → (send_at M j).count ≡ known (send_at M j).slot
  pub some : (j : ℕ) → j < length M → 1 ≤ (send_at M j).count
  pub apart : (i j : ℕ) → i < j → j < length M → (send_at M i).slot < (send_at M j).slot
  pub held : (j most : ℕ) → j < length M → hold ≡ Some most → count_by (λ c. c.count == (send_at M j).count) (take j M) < most

at_last : (M : List SlotSend) (x : SlotSend) (j : ℕ) → j < length (M ++ x ∷ []) → (j < length M × (send_at (M ++ x ∷ []) j ≡ send_at M j)) ⊎ (j ≡ length M × (send_at (M ++ x ∷ []) j ≡ x))
at_last M x j lt = elim (cases_lt j (length M)) [
  | inl less ↦ inl (less, get_or-append M (x ∷ []) no_send j less)
  | inr most ↦
      let is : j ≡ length M = omega (arith, lt, most, length_push M x) in
      inr (is, get_or_push M x no_send j (sym is))
]

same_rest : (M : List SlotSend) (x : SlotSend) (j : ℕ) → j ≤ length M → take j (M ++ x ∷ []) ≡ take j M
same_rest M x j le = take-append-le j M (x ∷ []) le

not_used_up : (hold : Option ℕ) (earlier : List SlotSend) (count most : ℕ) → is_used_up hold earlier count ≡ false → hold ≡ Some most → count_by (λ c. c.count == count) earlier < most
not_used_up hold earlier count most h is =
    let at : nat_le most (count_by (λ c. c.count == count) earlier) ≡ false = ap (λ (o : Option ℕ). option_map_or (λ m. nat_le m (count_by (λ c. c.count == count) earlier)) o false) (sym is) ∙ h in
    grind (arith, nat_tests, at)

one_more : (hold : Option ℕ) (known : ℕ → ℕ) (n : ℕ) (M : List SlotSend) → AreSends hold known n M → (known n == 0 || is_used_up hold M (known n)) ≡ false → AreSends hold known (suc n) (M ++ record { slot = n; count = known n } ∷ [])
one_more hold known n M r h =
    let x : SlotSend = record { slot = n; count = known n } in
    let some : 1 ≤ known n = grind (arith, nat_tests, h) in
    let unused : is_used_up hold M (known n) ≡ false = grind (arith, h) in record {
      before = λ j lt. elim (at_last M x j lt) [
        | inl old ↦ let b = r.before j old.0 in let e = ap (λ (c : SlotSend). c.slot) old.1 in omega (arith, b, e)
        | inr new ↦ let e = ap (λ (c : SlotSend). c.slot) new.1 in omega (arith, e)
      ];
      counts = λ j lt. elim (at_last M x j lt) [
        | inl old ↦ ap (λ (c : SlotSend). c.count) old.1 ∙ r.counts j old.0 ∙ ap (λ (c : SlotSend). known c.slot) (sym old.1)
        | inr new ↦ ap (λ (c : SlotSend). c.count) new.1 ∙ ap (λ (c : SlotSend). known c.slot) (sym new.1)
      ];
      some = λ j lt. elim (at_last M x j lt) [
        | inl old ↦ let b = r.some j old.0 in let e = ap (λ (c : SlotSend). c.count) old.1 in omega (arith, b, e)
        | inr new ↦ let e = ap (λ (c : SlotSend). c.count) new.1 in omega (arith, e, some)
      ];
      apart = λ i j less lt. elim (at_last M x j lt) [
        | inl old ↦
            let b = r.apart i j less old.0 in
            let first : send_at (M ++ x ∷ []) i ≡ send_at M i = get_or-append M (x ∷ []) no_send i (omega (arith, less, old.0)) in
            let e = ap (λ (c : SlotSend). c.slot) old.1 in
            let g = ap (λ (c : SlotSend). c.slot) first in
            omega (arith, b, e, g)
        | inr new ↦
            let inside : i < length M = omega (arith, less, new.0) in
            let first : send_at (M ++ x ∷ []) i ≡ send_at M i = get_or-append M (x ∷ []) no_send i inside in
            let b = r.before i inside in
            let e = ap (λ (c : SlotSend). c.slot) new.1 in
            let g = ap (λ (c : SlotSend). c.slot) first in
            omega (arith, b, e, g)
      ];
      held = λ j most lt is. elim (at_last M x j lt) [
        | inl old ↦
            let rest = same_rest M x j (omega (arith, old.0)) in
            subst (λ (ys : List SlotSend). count_by (λ c. c.count == (send_at (M ++ x ∷ []) j).count) ys < most) (sym rest)
            (subst (λ (y : SlotSend). count_by (λ c. c.count == y.count) (take j M) < most) (sym old.1) (r.held j most old.0 is))
        | inr new ↦
            let rest = same_rest M x j (omega (arith, new.0)) ∙ take_all j M (omega (arith, new.0)) in
            subst (λ (ys : List SlotSend). count_by (λ c. c.count == (send_at (M ++ x ∷ []) j).count) ys < most) (sym rest)
            (subst (λ (y : SlotSend). count_by (λ c. c.count == y.count) M < most) (sym new.1) (not_used_up hold M (known n) most unused is))
      ];
    }

none_more : (hold : Option ℕ) (known : ℕ → ℕ) (n : ℕ) (M : List SlotSend) → AreSends hold known n M → AreSends hold known (suc n) M
none_more hold known n M r = record {
  before = λ j lt. let b = r.before j lt in omega (arith, b);
  counts = r.counts;
  some = r.some;
  apart = r.apart;
  held = r.held;
}

sends_more : (hold : Option ℕ) (known : ℕ → ℕ) (n : ℕ) (M : List SlotSend) (b : Bool) → (known n == 0 || is_used_up hold M (known n)) ≡ b → AreSends hold known n M → AreSends hold known (suc n) (M ++ (if b then [] else record { slot = n; count = known n } ∷ []))
sends_more hold known n M true h r = subst (λ (ys : List SlotSend). AreSends hold known (suc n) ys) (sym (append-nil M)) (none_more hold known n M r)
sends_more hold known n M false h r = one_more hold known n M r h

pub are_sends : (hold : Option ℕ) (known : ℕ → ℕ) (n : ℕ) → AreSends hold known n (slot_sends hold known n)
are_sends hold known zero = record {
  before = λ j lt. absurd (omega (arith, lt));
  counts = λ j lt. absurd (omega (arith, lt));
  some = λ j lt. absurd (omega (arith, lt));
  apart = λ i j less lt. absurd (omega (arith, lt));
  held = λ j most lt is. absurd (omega (arith, lt));
}
are_sends hold known (suc n) =
    sends_more hold known n (slot_sends hold known n) (known n == 0 || is_used_up hold (slot_sends hold known n) (known n)) refl (are_sends hold known n)

-- ---- the sends of the first slots begin those of more

record Begins (m : ℕ) (P M : List SlotSend) : Type 0 where
  pub most : length P ≤ length M
  pub taken : take (length P) M ≡ P
  pub above : (j : ℕ) → length P ≤ j → j < length M → m ≤ (send_at M j).slot

begins_more : (m n count : ℕ) (P M : List SlotSend) (b : Bool) → m ≤ n → Begins m P M → Begins m P (M ++ (if b then [] else record { slot = n; count = count } ∷ []))
begins_more m n count P M true le r = subst (λ (ys : List SlotSend). Begins m P ys) (sym (append-nil M)) r
begins_more m n count P M false le r =
    let x : SlotSend = record { slot = n; count = count } in record {
      most = omega (arith, r.most, length_push M x);
      taken = take-append-le (length P) M (x ∷ []) r.most ∙ r.taken;
      above = λ j more lt. elim (at_last M x j lt) [
        | inl old ↦ let b = r.above j more old.0 in let e = ap (λ (c : SlotSend). c.slot) old.1 in omega (arith, b, e)
        | inr new ↦ let e = ap (λ (c : SlotSend). c.slot) new.1 in omega (arith, e, le)
      ];
    }

begins_all : (m : ℕ) (M : List SlotSend) → Begins m M M
begins_all m M = record {
  most = omega arith;
  taken = take_all (length M) M (omega arith);
  above = λ j more lt. absurd (omega (arith, more, lt));
}

begins : (hold : Option ℕ) (known : ℕ → ℕ) (m n : ℕ) → m ≤ n → Begins m (slot_sends hold known m) (slot_sends hold known n)
begins hold known m zero le = let is : m ≡ 0 = omega (arith, le) in subst (λ (k : ℕ). Begins k (slot_sends hold known k) []) (sym is) (begins_all 0 [])
begins hold known m (suc n) le = elim (cases_lt n m) [
  | inl more ↦
      let is : m ≡ suc n = omega (arith, le, more) in
      subst (λ (k : ℕ). Begins k (slot_sends hold known k) (slot_sends hold known (suc n))) (sym is) (begins_all (suc n) (slot_sends hold known (suc n)))
  | inr most ↦
      begins_more m n (known n) (slot_sends hold known m) (slot_sends hold known n) (known n == 0 || is_used_up hold (slot_sends hold known n) (known n)) most (begins hold known m n most)
]

begin_is : (m : ℕ) (P M : List SlotSend) (j : ℕ) → Begins m P M → j < length P → send_at M j ≡ send_at P j
begin_is m P M j r lt = sym (get_or-take (length P) M j no_send lt) ∙ ap (λ (ys : List SlotSend). send_at ys j) r.taken

-- a slot with a word that may be sent has a send
used_at : (known : ℕ → ℕ) (m : ℕ) (P M : List SlotSend) (b : Bool) → b ≡ false → Begins (suc m) (P ++ (if b then [] else record { slot = m; count = known m } ∷ [])) M → (j : ℕ) × (j < length M) × ((send_at M j).slot ≡ m)
used_at known m P M true e r = absurd (true≢false e)
used_at known m P M false e r =
    let x : SlotSend = record { slot = m; count = known m } in
    let within : length P < length (P ++ x ∷ []) = omega (arith, length_push P x) in
    let is : send_at M (length P) ≡ x = begin_is (suc m) (P ++ x ∷ []) M (length P) r within ∙ get_or_push P x no_send (length P) refl in
    (length P, omega (arith, within, r.most), ap (λ (c : SlotSend). c.slot) is)

pub slot_is_used : (hold : Option ℕ) (known : ℕ → ℕ) (m n : ℕ) → m < n → (known m == 0 || is_used_up hold (slot_sends hold known m) (known m)) ≡ false
    → (j : ℕ) × (j < length (slot_sends hold known n)) × ((send_at (slot_sends hold known n) j).slot ≡ m)
slot_is_used hold known m n lt h =
    used_at known m (slot_sends hold known m) (slot_sends hold known n) (known m == 0 || is_used_up hold (slot_sends hold known m) (known m)) h (begins hold known (suc m) n (omega (arith, lt)))

-- ---- numbers of words never fall

pub counts_rise : (hold : Option ℕ) (known : ℕ → ℕ) (n : ℕ) (M : List SlotSend) (i j : ℕ) → Rises known → AreSends hold known n M → i ≤ j → j < length M → (send_at M i).count ≤ (send_at M j).count
counts_rise hold known n M i j rise r le lt = elim (cases_lt i j) [
  | inl less ↦
      let slots = r.apart i j less lt in
      let first = r.counts i (omega (arith, less, lt)) in
      let second = r.counts j lt in
      let up = rise (send_at M i).slot (send_at M j).slot (omega (arith, slots)) in
      omega (arith, first, second, up)
  | inr most ↦ let is : i ≡ j = omega (arith, le, most) in let e = ap (λ (k : ℕ). (send_at M k).count) is in omega (arith, e)
]

-- `most` sends back another word was sent
pub other_before : (hold : Option ℕ) (known : ℕ → ℕ) (n : ℕ) (M : List SlotSend) (j most : ℕ) → Rises known → AreSends hold known n M → hold ≡ Some most → most ≤ j → j < length M → (send_at M (j - most)).count < (send_at M j).count
other_before hold known n M j most rise r is le lt = elim (cases_lt (send_at M (j - most)).count (send_at M j).count) [
  | inl less ↦ less
  | inr same ↦
      let fewer = r.held j most lt is in
      let size : length (take j M) ≡ j = length-take-of j M (omega (arith, lt)) in
      let all = many_pass (λ c. c.count == (send_at M j).count) (take j M) (j - most) (λ k more within.
      let inside : k < j = omega (arith, within, size) in
      let here : send_at (take j M) k ≡ send_at M k = get_or-take j M k no_send inside in
      let above = counts_rise hold known n M (j - most) k rise r more (omega (arith, inside, lt)) in
      let below = counts_rise hold known n M k j rise r (omega (arith, inside)) lt in
      let equal : (send_at M k).count ≡ (send_at M j).count = omega (arith, above, below, same) in
      let count : (send_at (take j M) k).count ≡ (send_at M j).count = ap (λ (c : SlotSend). c.count) here ∙ equal in
      grind (arith, nat_tests, count)) in
      absurd {A = (send_at M (j - most)).count < (send_at M j).count} (omega (arith, all, fewer, size, le))
]
  where
    length-take-of : (j : ℕ) (M : List SlotSend) → j ≤ length M → length (take j M) ≡ j
    length-take-of j M le = omega (arith, le, length-take j M)

-- ---- the slot after a send

used_by : (hold : Option ℕ) (earlier : List SlotSend) (count : ℕ) → is_used_up hold earlier count ≡ true → (most : ℕ) × (hold ≡ Some most) × (most ≤ count_by (λ c. c.count == count) earlier)
used_by None earlier count h = absurd (true≢false (sym h))
used_by (Some most) earlier count h = (most, refl, grind (arith, nat_tests, h))

or_either : (a b : Bool) → (a || b) ≡ true → (a ≡ true) ⊎ (b ≡ true)
or_either true b h = inl refl
or_either false b h = inr h

-- the slot m is after send j and not after the next one, if there is one: the sends before it are those up to j
sends_up_to : (m : ℕ) (P M : List SlotSend) (j : ℕ) → Begins m P M → ((k : ℕ) → k < length P → (send_at P k).slot < m) → (send_at M j).slot < m → (j + 1 < length M → m ≤ (send_at M (j + 1)).slot) → j < length M → P ≡ take (j + 1) M
sends_up_to m P M j r before below above lt =
    let here : j < length P = elim (cases_lt j (length P)) [
      | inl less ↦ less
      | inr most ↦ let a = r.above j most lt in absurd {A = j < length P} (omega (arith, a, below))
    ] in
    let next : length P ≤ j + 1 = elim (cases_lt (j + 1) (length P)) [
      | inl less ↦
          let e = ap (λ (c : SlotSend). c.slot) (begin_is m P M (j + 1) r less) in
          let a = before (j + 1) less in
          let past = above (omega (arith, less, r.most)) in
          absurd {A = length P ≤ j + 1} (omega (arith, a, e, past))
      | inr most ↦ most
    ] in
    let size : length P ≡ j + 1 = omega (arith, here, next) in
    sym r.taken ∙ ap (λ (k : ℕ). take k M) size

-- the slot after send j has the next send, or its word is used up
abbrev pub IsAfter : Option ℕ → (ℕ → ℕ) → List SlotSend → ℕ → Type 0
IsAfter hold known M j =
    ((j + 1 < length M) × ((send_at M (j + 1)).slot ≡ (send_at M j).slot + 1))
    ⊎ ((most : ℕ) × (hold ≡ Some most) × (most ≤ count_by (λ c. c.count == known ((send_at M j).slot + 1)) (take (j + 1) M)))

after_by : (hold : Option ℕ) (known : ℕ → ℕ) (n j : ℕ) (b : Bool) → Rises known → j < length (slot_sends hold known n) → (send_at (slot_sends hold known n) j).slot + 1 < n
    → (known ((send_at (slot_sends hold known n) j).slot + 1) == 0 || is_used_up hold (slot_sends hold known ((send_at (slot_sends hold known n) j).slot + 1)) (known ((send_at (slot_sends hold known n) j).slot + 1))) ≡ b
    → IsAfter hold known (slot_sends hold known n) j
after_by hold known n j false rise lt few h =
    let M = slot_sends hold known n in
    let r = are_sends hold known n in
    let used = slot_is_used hold known ((send_at (slot_sends hold known n) j).slot + 1) n few h in
    elim (cases_lt j used.0) [
      | inl more ↦ elim (cases_lt (j + 1) used.0) [
        | inl past ↦
            let a = r.apart (j + 1) used.0 past used.1 in
            let b = r.apart j (j + 1) (omega arith) (omega (arith, past, used.1)) in
            absurd (omega (arith, a, b, used.2))
        | inr at ↦
            let same : used.0 ≡ j + 1 = omega (arith, more, at) in
            let e = ap (λ (k : ℕ). (send_at (slot_sends hold known n) k).slot) same in
            inl (omega (arith, same, used.1), omega (arith, e, used.2))
      ]
      | inr back ↦ elim (cases_lt used.0 j) [
        | inl less ↦ let a = r.apart used.0 j less lt in absurd (omega (arith, a, used.2))
        | inr at ↦
            let same : used.0 ≡ j = omega (arith, back, at) in
            let e = ap (λ (k : ℕ). (send_at (slot_sends hold known n) k).slot) same in
            absurd (omega (arith, e, used.2))
      ]
    ]
after_by hold known n j true rise lt few h =
    let s = (send_at (slot_sends hold known n) j).slot in
    let r = are_sends hold known n in
    let some = r.some j lt in
    let here = r.counts j lt in
    let up = rise s (s + 1) (omega arith) in
    let positive : 1 ≤ known (s + 1) = omega (arith, some, here, up) in
    let used_up : is_used_up hold (slot_sends hold known (s + 1)) (known (s + 1)) ≡ true = elim (or_either (known (s + 1) == 0) (is_used_up hold (slot_sends hold known (s + 1)) (known (s + 1))) h) [
      | inl none ↦ let zero_known : known (s + 1) ≡ 0 = grind (arith, nat_tests, none) in absurd (omega (arith, zero_known, positive))
      | inr used ↦ used
    ] in
    let used = used_by hold (slot_sends hold known (s + 1)) (known (s + 1)) used_up in
    let same = sends_up_to (s + 1) (slot_sends hold known (s + 1)) (slot_sends hold known n) j (begins hold known (s + 1) n (omega (arith, few))) (are_sends hold known (s + 1)).before (omega arith)
    (λ more. let a = r.apart j (j + 1) (omega arith) more in omega (arith, a)) lt in
    inr (used.0, used.1, subst (λ (ys : List SlotSend). used.0 ≤ count_by (λ c. c.count == known (s + 1)) ys) same used.2)

pub slot_after : (hold : Option ℕ) (known : ℕ → ℕ) (n j : ℕ) → Rises known → j < length (slot_sends hold known n) → (send_at (slot_sends hold known n) j).slot + 1 < n → IsAfter hold known (slot_sends hold known n) j
slot_after hold known n j rise lt few =
    let s = (send_at (slot_sends hold known n) j).slot in
    after_by hold known n j (known (s + 1) == 0 || is_used_up hold (slot_sends hold known (s + 1)) (known (s + 1))) rise lt few refl

-- sends that are d places apart are d slots apart at least
pub slots_of_places : (hold : Option ℕ) (known : ℕ → ℕ) (n : ℕ) (M : List SlotSend) (i d : ℕ) → AreSends hold known n M → i + d < length M → (send_at M i).slot + d ≤ (send_at M (i + d)).slot
slots_of_places hold known n M i zero r lt = let e : i ≡ i + 0 = omega arith in let g = ap (λ (k : ℕ). (send_at M k).slot) e in omega (arith, g)
slots_of_places hold known n M i (suc d) r lt =
    let rest = slots_of_places hold known n M i d r (omega (arith, lt)) in
    let e : i + d + 1 ≡ i + suc d = omega arith in
    let g = ap (λ (k : ℕ). (send_at M k).slot) e in
    let a = r.apart (i + d) (i + d + 1) (omega arith) (omega (arith, lt)) in
    omega (arith, rest, g, a)

-- of sends that are counted there is one
one_counted_by : (p : SlotSend → Bool) (x : SlotSend) (xs : List SlotSend) (b : Bool) → p x ≡ b → 1 ≤ count_by p (x ∷ xs) → (1 ≤ count_by p xs → (k : ℕ) × (k < length xs) × (p (send_at xs k) ≡ true))
    → (k : ℕ) × (k < length (x ∷ xs)) × (p (send_at (x ∷ xs) k) ≡ true)
one_counted_by p x xs true e h rest = (0, omega arith, e)
one_counted_by p x xs false e h rest =
    let later = rest (omega (arith, h, count_no p x xs e)) in
    (suc later.0, omega (arith, later.1), later.2)

pub one_counted : (p : SlotSend → Bool) (xs : List SlotSend) → 1 ≤ count_by p xs → (k : ℕ) × (k < length xs) × (p (send_at xs k) ≡ true)
one_counted p [] h = absurd (omega (arith, h))
one_counted p (x ∷ xs) h = one_counted_by p x xs (p x) refl h (one_counted p xs)

-- if the last sends of a count are `most` or more, the last `most` sends have it
pub last_have_it : (hold : Option ℕ) (known : ℕ → ℕ) (n : ℕ) (M : List SlotSend) (j most count k : ℕ) → Rises known → AreSends hold known n M → j < length M → (send_at M j).count ≤ count
    → most ≤ count_by (λ c. c.count == count) (take (j + 1) M) → j + 1 ≤ k + most → k ≤ j → (send_at M k).count ≡ count
last_have_it hold known n M j most count k rise r lt top enough near le = elim (cases_lt (send_at M k).count count) [
  | inl less ↦
      let size : length (take (j + 1) M) ≡ j + 1 = omega (arith, length-take (j + 1) M, lt) in
      let few = few_pass (λ c. c.count == count) (take (j + 1) M) (k + 1) (omega (arith, size, le)) (λ i below.
      let here : send_at (take (j + 1) M) i ≡ send_at M i = get_or-take (j + 1) M i no_send (omega (arith, below, le)) in
      let up = counts_rise hold known n M i k rise r (omega (arith, below)) (omega (arith, le, lt)) in
      let under : (send_at M i).count < count = omega (arith, up, less) in
      let at : (send_at (take (j + 1) M) i).count ≡ (send_at M i).count = ap (λ (c : SlotSend). c.count) here in
      grind (arith, nat_tests, under, at)) in
      absurd {A = (send_at M k).count ≡ count} (omega (arith, few, size, enough, near))
  | inr most_count ↦
      let up = counts_rise hold known n M k j rise r le lt in
      omega (arith, up, top, most_count)
]
