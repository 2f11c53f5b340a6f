-- The places of a run of a group, and how many of its cells and frames come before each.
use Rattle.std.proofs.Common.{◌≡◌, ℕ, zero, suc, ◌+◌, ◌-◌, ◌<◌, ◌≤◌, ◌⊎◌, true, false, List, [], ◌∷◌, ◌++◌, length, take, ◌∙◌, sym, ap, subst, refl, inl, inr, arith, append-nil}
use Rattle.std.specs.Prelude.{Option, Some, None, filter, filter_map, slice_get}
use Rattle.std.specs.List.{zip}
use Rattle.std.proofs.lemmas.Bool.{cases_Bool, cases_lt}
use Rattle.std.proofs.lemmas.List.{length-append}
use Rattle.std.proofs.lemmas.List.Elements.{filter-append}
use Rattle.std.proofs.lemmas.Option.{none-some, same_Some, slice_get_within}
use mathlib.Core.List.{IsPrefix}
use Rattle.a429_word.proofs.Lists.{prefix_on, prefix_self, get_within}
use Rattle.a429_slots.specs.Tables.{SlotTable}
use Rattle.a429_slots.specs.Events.{Event, Arrive, Cell, Frame, Publish}
use Rattle.a429_slots.specs.History.{Opening, is_cell, is_frame}
use Rattle.a429_slots.specs.GoingOn.{OthersPass, stands_after}
use Rattle.a429_slots.specs.declared.answers.Answer.{Answer}
use Rattle.a429_slots.specs.Answers.{answer, answers}
use Rattle.a429_slots.proofs.Histories.{take_following}
use Rattle.a429_workers.specs.Runs.{answered, is_sending}

abbrev pub CutsAlike : Type 0
CutsAlike = (C : ℕ) (o : Opening) (E xs ys : List Event) → answers C o E (xs ++ ys) ≡ answers C o E xs ++ answers C o (E ++ xs) ys

zip_push : {A B : Type 0} (xs : List A) (ys : List B) (a : A) (b : B) → length xs ≡ length ys → zip (xs ++ a ∷ []) (ys ++ b ∷ []) ≡ zip xs ys ++ (a, b) ∷ []
zip_push [] [] a b same = refl
zip_push [] (y ∷ ys) a b same = absurd (omega (arith, same))
zip_push (x ∷ xs) [] a b same = absurd (omega (arith, same))
zip_push (x ∷ xs) (y ∷ ys) a b same = ap (λ zs. (x, y) ∷ zs) (zip_push xs ys a b (omega (arith, same)))

pub length-answers : (C : ℕ) (o : Opening) (E xs : List Event) → length (answers C o E xs) ≡ length xs
length-answers C o E [] = refl
length-answers C o E (x ∷ xs) = ap suc (length-answers C o (E ++ x ∷ []) xs)

-- the elements of a list up to one that passes a test
pub record IsNth {X Y : Type 0} (f : X → Option Y) (xs : List X) (n : ℕ) (y : Y) : Type 0 where
  pub number : ℕ
  pub x : X
  pub there : slice_get xs number ≡ Some x
  pub is : f x ≡ Some y
  pub before : length (filter_map f (take number xs)) ≡ n

some_is : {Y : Type 0} (o : Option Y) → (o ≡ None) ⊎ ((y : Y) × (o ≡ Some y))
some_is None = inl refl
some_is (Some y) = inr (y, refl)

cons_some : {X Y : Type 0} (f : X → Option Y) (x : X) (xs : List X) (z : Y) → f x ≡ Some z → filter_map f (x ∷ xs) ≡ z ∷ filter_map f xs
cons_some f x xs z is = rw is refl

cons_none : {X Y : Type 0} (f : X → Option Y) (x : X) (xs : List X) → f x ≡ None → filter_map f (x ∷ xs) ≡ filter_map f xs
cons_none f x xs none = rw none refl

-- after an element that passes
nth_behind : {X Y : Type 0} (f : X → Option Y) (x : X) (xs : List X) (z : Y) → f x ≡ Some z → (n : ℕ) (y : Y) → slice_get (filter_map f (x ∷ xs)) n ≡ Some y
    → ((k : ℕ) → slice_get (filter_map f xs) k ≡ Some y → IsNth f xs k y) → IsNth f (x ∷ xs) n y
nth_behind {X} {Y} f x xs z is zero y h rest =
    let on = cons_some f x xs z is in
    let same : z ≡ y = same_Some z y (ap (λ (zs : List Y). slice_get zs 0) (sym on) ∙ h) in
    record { number = 0; x = x; there = refl; is = is ∙ ap (λ (w : Y). Some w) same; before = refl }
nth_behind {X} {Y} f x xs z is (suc n) y h rest =
    let on = cons_some f x xs z is in
    let N = rest n (ap (λ (zs : List Y). slice_get zs (suc n)) (sym on) ∙ h) in
    record { number = suc N.number; x = N.x; there = N.there; is = N.is; before = ap (λ (zs : List Y). length zs) (cons_some f x (take N.number xs) z is) ∙ ap suc N.before }

pub nth : {X Y : Type 0} (f : X → Option Y) (xs : List X) (n : ℕ) (y : Y) → slice_get (filter_map f xs) n ≡ Some y → IsNth f xs n y
nth f [] n y h = absurd (none-some y h)
nth {X} {Y} f (x ∷ xs) n y h = elim (some_is (f x)) [
  | inl none ↦
      let on = cons_none f x xs none in
      let N = nth f xs n y (ap (λ (zs : List Y). slice_get zs n) (sym on) ∙ h) in
      record { number = suc N.number; x = N.x; there = N.there; is = N.is; before = ap (λ (zs : List Y). length zs) (cons_none f x (take N.number xs) none) ∙ N.before }
  | inr some ↦ nth_behind f x xs some.0 some.1 n y h (λ k there. nth f xs k y there)
]

-- one more element adds one at most
pub adds_one : {X Y : Type 0} (f : X → Option Y) (xs : List X) (n : ℕ) → length (filter_map f (take n xs)) ≤ length (filter_map f (take (suc n) xs))
adds_one f [] zero = omega arith
adds_one f [] (suc n) = omega arith
adds_one f (x ∷ xs) zero = omega arith
adds_one {X} {Y} f (x ∷ xs) (suc n) = elim (some_is (f x)) [
  | inl none ↦ rw none (adds_one f xs n)
  | inr some ↦ rw some.1 (omega (arith, adds_one f xs n))
]

pub no_more_than_one : {X Y : Type 0} (f : X → Option Y) (xs : List X) (n : ℕ) → length (filter_map f (take (suc n) xs)) ≤ length (filter_map f (take n xs)) + 1
no_more_than_one f [] zero = omega arith
no_more_than_one f [] (suc n) = omega arith
no_more_than_one f (x ∷ xs) zero = elim (some_is (f x)) [
  | inl none ↦ rw none (omega arith)
  | inr some ↦ rw some.1 (omega arith)
]
no_more_than_one f (x ∷ xs) (suc n) = elim (some_is (f x)) [
  | inl none ↦ rw none (no_more_than_one f xs n)
  | inr some ↦ rw some.1 (omega (arith, no_more_than_one f xs n))
]

-- so each number of them on the way is that of some beginning
pub record IsOnTheWay {X Y : Type 0} (f : X → Option Y) (xs : List X) (h k m : ℕ) : Type 0 where
  pub number : ℕ
  pub from : h ≤ number
  pub to : number ≤ k
  pub many : length (filter_map f (take number xs)) ≡ m

on_the_way_by : {X Y : Type 0} (f : X → Option Y) (xs : List X) (h d m : ℕ) → length (filter_map f (take h xs)) ≤ m → m ≤ length (filter_map f (take (d + h) xs)) → IsOnTheWay f xs h (d + h) m
on_the_way_by f xs h zero m low high =
    let same : zero + h ≡ h = omega arith in
    record { number = h; from = omega arith; to = omega arith; many = omega (arith, low, high, ap (λ (n : ℕ). length (filter_map f (take n xs))) same) }
on_the_way_by f xs h (suc d) m low high =
    let on : suc d + h ≡ suc (d + h) = omega arith in
    let at : length (filter_map f (take (suc d + h) xs)) ≡ length (filter_map f (take (suc (d + h)) xs)) = ap (λ (n : ℕ). length (filter_map f (take n xs))) on in
    elim (cases_lt (length (filter_map f (take (d + h) xs))) m) [
      | inr there ↦ let W = on_the_way_by f xs h d m low there in record { number = W.number; from = W.from; to = let to : W.number ≤ d + h = W.to in omega (arith, to); many = W.many }
      | inl more ↦ record { number = suc (d + h); from = omega arith; to = omega arith; many = omega (arith, more, high, at, no_more_than_one f xs (d + h)) }
    ]

pub on_the_way : {X Y : Type 0} (f : X → Option Y) (xs : List X) (h k m : ℕ) → h ≤ k → length (filter_map f (take h xs)) ≤ m → m ≤ length (filter_map f (take k xs)) → IsOnTheWay f xs h k m
on_the_way f xs h k m after low high =
    let rest : (k - h) + h ≡ k = omega (arith, after) in
    subst (λ (z : ℕ). IsOnTheWay f xs h z m) rest (on_the_way_by f xs h (k - h) m low (subst (λ (z : ℕ). m ≤ length (filter_map f (take z xs))) (sym rest) high))

module _ (alike : CutsAlike) (C : ℕ) (o : Opening) (E : List Event) where
  -- the cells and frames before a place, with their answers
  abbrev pub sends_at : ℕ → List (Event × Answer)
  sends_at m = filter (λ x. is_sending x.0) (answered C o (take m E))

  abbrev pub count_at : ℕ → ℕ
  count_at m = length (sends_at m)

  one_more : (m : ℕ) (e : Event) → slice_get E m ≡ Some e → answered C o (take (suc m) E) ≡ answered C o (take m E) ++ (e, answer C o (take m E) e) ∷ []
  one_more m e there =
      let F = take m E in
      ap (answered C o) (take_following E m e there)
      ∙ (ap (λ (replies : List Answer). zip (F ++ e ∷ []) replies) (alike C o [] F (e ∷ []))
      ∙ zip_push F (answers C o [] F) e (answer C o F e) (sym (length-answers C o [] F)))

  next_sends : (m : ℕ) (e : Event) → slice_get E m ≡ Some e → sends_at (suc m) ≡ sends_at m ++ filter (λ x. is_sending x.0) ((e, answer C o (take m E) e) ∷ [])
  next_sends m e there =
      ap (filter (λ (x : Event × Answer). is_sending x.0)) (one_more m e there) ∙ filter-append (λ (x : Event × Answer). is_sending x.0) (answered C o (take m E)) ((e, answer C o (take m E) e) ∷ [])

  pub sends_one : (m : ℕ) (e : Event) → slice_get E m ≡ Some e → is_sending e ≡ true → sends_at (suc m) ≡ sends_at m ++ (e, answer C o (take m E) e) ∷ []
  sends_one m e there yes' = next_sends m e there ∙ rw yes' refl

  sends_none : (m : ℕ) (e : Event) → slice_get E m ≡ Some e → is_sending e ≡ false → sends_at (suc m) ≡ sends_at m
  sends_none m e there no' = next_sends m e there ∙ rw no' (append-nil (sends_at m))

  grows_by : (a d : ℕ) → d + a ≤ length E → IsPrefix (sends_at a) (sends_at (d + a))
  grows_by a zero few =
      let same : zero + a ≡ a = omega arith in
      subst (λ (k : ℕ). IsPrefix (sends_at a) (sends_at k)) (sym same) (prefix_self (sends_at a))
  grows_by a (suc d) few =
      let on : suc d + a ≡ suc (d + a) = omega arith in
      let (e, there) = get_within E (d + a) (omega (arith, few)) in
      let before = grows_by a d (omega (arith, few)) in
      subst (λ (k : ℕ). IsPrefix (sends_at a) (sends_at k)) (sym on)
      (prefix_on (sends_at a) (sends_at (d + a)) (sends_at (suc (d + a))) before (filter (λ x. is_sending x.0) ((e, answer C o (take (d + a) E) e) ∷ []), sym (next_sends (d + a) e there)))

  pub grows : (a b : ℕ) → a ≤ b → b ≤ length E → IsPrefix (sends_at a) (sends_at b)
  grows a b after few =
      let rest : (b - a) + a ≡ b = omega (arith, after) in
      subst (λ (k : ℕ). IsPrefix (sends_at a) (sends_at k)) rest (grows_by a (b - a) (omega (arith, few, rest)))

  pub count_grows : (a b : ℕ) → a ≤ b → b ≤ length E → count_at a ≤ count_at b
  count_grows a b after few =
      let P = grows a b after few in
      omega (arith, ap (λ (xs : List (Event × Answer)). length xs) P.1, length-append (sends_at a) P.0)

  -- more of them come before a later place only
  pub earlier : (a b : ℕ) → a ≤ length E → count_at a < count_at b → a < b
  earlier a b few less = elim (cases_lt a b) [
    | inl lt ↦ lt
    | inr ge ↦ absurd (omega (arith, less, count_grows b a ge few))
  ]

  -- of which number one is
  pub at_count : (m k : ℕ) (e : Event) → slice_get E m ≡ Some e → is_sending e ≡ true → m < k → k ≤ length E → (slice_get (sends_at k) (count_at m) ≡ Some (e, answer C o (take m E) e)) × (count_at m < count_at k)
  at_count m k e there yes' before few =
      let one = sends_one m e there yes' in
      let P = grows (suc m) k (omega (arith, before)) few in
      let x : Event × Answer = (e, answer C o (take m E) e) in
      let is : sends_at k ≡ (sends_at m ++ x ∷ []) ++ P.0 = sym P.1 ∙ ap (λ (xs : List (Event × Answer)). xs ++ P.0) one in (
        ap (λ (xs : List (Event × Answer)). slice_get xs (count_at m)) is ∙ seam (sends_at m) x P.0,
        omega (arith, ap (λ (xs : List (Event × Answer)). length xs) is, length-append (sends_at m ++ x ∷ []) P.0, length-append (sends_at m) (x ∷ [])),
      )
    where
      seam : {X : Type 0} (xs : List X) (x : X) (ys : List X) → slice_get ((xs ++ x ∷ []) ++ ys) (length xs) ≡ Some x
      seam [] x ys = refl
      seam (y ∷ xs) x ys = seam xs x ys

  -- two of one number are one
  pub same_place : (a b : ℕ) (e f : Event) → slice_get E a ≡ Some e → is_sending e ≡ true → slice_get E b ≡ Some f → is_sending f ≡ true → count_at a ≡ count_at b → a ≡ b
  same_place a b e f here yes' there too same = elim (cases_lt a b) [
    | inl lt ↦ absurd (omega (arith, same, (at_count a b e here yes' lt (within b f there)).1))
    | inr ge ↦ elim (cases_lt b a) [
      | inl lt ↦ absurd (omega (arith, same, (at_count b a f there too lt (within a e here)).1))
      | inr le ↦ omega (arith, ge, le)
    ]
  ]
    where
      within : (k : ℕ) (e : Event) → slice_get E k ≡ Some e → k ≤ length E
      within k e there = let below : k < length E = slice_get_within E k e there in omega (arith, below)

  -- ---- the state of the group

  still : (g : ℕ) (e : Event) → is_sending e ≡ false → (is_frame g e ≡ false) × (is_cell g e ≡ false)
  still g (Arrive r raw) h = (refl, refl)
  still g (Publish q) h = (refl, refl)
  still g (Cell k) h = absurd (cc)
  still g (Frame k) h = absurd (cc)

  stands_by : OthersPass → (g : ℕ) (p : SlotTable) (a d : ℕ) → d + a ≤ length E → count_at (d + a) ≡ count_at a → stands_after o g p (take (d + a) E) ≡ stands_after o g p (take a E)
  stands_by pass g p a zero few same =
      let is : zero + a ≡ a = omega arith in
      ap (λ (k : ℕ). stands_after o g p (take k E)) is
  stands_by pass g p a (suc d) few same =
      let on : suc d + a ≡ suc (d + a) = omega arith in
      let (e, there) = get_within E (d + a) (omega (arith, few)) in
      let low = count_grows a (d + a) (omega arith) (omega (arith, few)) in
      let at : count_at (suc d + a) ≡ count_at (suc (d + a)) = ap count_at on in
      elim (cases_Bool (is_sending e)) [
        | inl yes' ↦ absurd (omega (arith, same, at, low, (at_count (d + a) (suc (d + a)) e there yes' (omega arith) (omega (arith, few))).1))
        | inr no' ↦
            let none = sends_none (d + a) e there no' in
            let (frame, cell) = still g e no' in
            ap (λ (k : ℕ). stands_after o g p (take k E)) on
            ∙ (ap (stands_after o g p) (take_following E (d + a) e there)
            ∙ (pass o g p (take (d + a) E) e frame cell
            ∙ stands_by pass g p a d (omega (arith, few)) (omega (arith, same, at, ap (λ (xs : List (Event × Answer)). length xs) none))))
      ]

  stands_to : OthersPass → (g : ℕ) (p : SlotTable) (a b : ℕ) → a ≤ b → b ≤ length E → count_at b ≡ count_at a → stands_after o g p (take b E) ≡ stands_after o g p (take a E)
  stands_to pass g p a b after few same =
      let rest : (b - a) + a ≡ b = omega (arith, after) in
      subst (λ (k : ℕ). stands_after o g p (take k E) ≡ stands_after o g p (take a E)) rest
      (stands_by pass g p a (b - a) (omega (arith, few, rest)) (ap count_at rest ∙ same))

  -- as many of them lead to one place in a frame
  pub stands_alike : OthersPass → (g : ℕ) (p : SlotTable) (a b : ℕ) → a ≤ length E → b ≤ length E → count_at a ≡ count_at b → stands_after o g p (take a E) ≡ stands_after o g p (take b E)
  stands_alike pass g p a b few fits same = elim (cases_lt a b) [
    | inl lt ↦ sym (stands_to pass g p a b (omega (arith, lt)) fits (sym same))
    | inr ge ↦ stands_to pass g p b a ge few same
  ]
