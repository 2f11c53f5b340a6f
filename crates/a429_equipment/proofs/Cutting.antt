-- The least cuts show the loads that any cuts show.
use Rattle.std.proofs.Common.{◌≡◌, ℕ, zero, suc, ◌+◌, ◌-◌, ◌<◌, ◌≤◌, eqb, Bool, true, false, cond, List, [], ◌∷◌, ◌++◌, length, take, drop, map, refl, sym, ap, ◌∙◌, subst, arith, zero-le, le_refl, length-append, append-nil, eq-eqb, inl, inr}
use Rattle.std.specs.Prelude.{Option, Some, None, filter, slice_get}
use Rattle.std.proofs.lemmas.List.{take-append-drop, map-append, length_push, get_or_push}
use Rattle.std.proofs.lemmas.List.Elements.{filter-append}
use Rattle.std.proofs.lemmas.Bool.{eqb-true, and_parts, and_from, cases_lt, lt-leb, le-leb}
use Rattle.std.proofs.lemmas.Option.{none-some, same_Some, cond_some, slice_get-get_or}
use lib.Seq.{take-length}
use Rattle.a429_equipment.specs.declared.loads.Load.{Load}
use Rattle.a429_equipment.specs.Agreement.{words_of, last_of, load_after, IsCutOfLoad, Cuts, reach, least_cut, same_word, is_load, next_cut, last_cut}

pub words_append : (s : ℕ) (A B : List (ℕ × ℕ)) → words_of s (A ++ B) ≡ words_of s A ++ words_of s B
words_append s A B =
    ap (map (λ (e : ℕ × ℕ). e.1)) (filter-append (λ (e : ℕ × ℕ). eqb e.0 s) A B)
    ∙ map-append (λ (e : ℕ × ℕ). e.1) (filter (λ (e : ℕ × ℕ). eqb e.0 s) A) (filter (λ (e : ℕ × ℕ). eqb e.0 s) B)

pub last_push : {A : Type 0} (xs : List A) (w : A) → last_of (xs ++ w ∷ []) ≡ Some w
last_push xs w =
    let len : length (xs ++ w ∷ []) ≡ length xs + 1 = length_push xs w in
    let within : length xs < length (xs ++ w ∷ []) = omega arith in
    let here : length (xs ++ w ∷ []) - 1 ≡ length xs = omega arith in
    ap (slice_get (xs ++ w ∷ [])) here ∙ (slice_get-get_or (xs ++ w ∷ []) (length xs) w within ∙ ap (λ y. Some y) (get_or_push xs w w (length xs) refl))

shorter : (a b : ℕ) (A : List (ℕ × ℕ)) → a ≤ b → take a A ≡ take a (take b A)
shorter zero b A le = refl
shorter (suc a) zero A le = absurd (omega arith)
shorter (suc a) (suc b) [] le = refl
shorter (suc a) (suc b) (x ∷ A) le = ap (λ (l : List (ℕ × ℕ)). x ∷ l) (shorter a b A (omega arith))

two_parts : (s a b : ℕ) (A : List (ℕ × ℕ)) → a ≤ b → words_of s (take b A) ≡ words_of s (take a A) ++ words_of s (drop a (take b A))
two_parts s a b A le =
    ap (words_of s) (sym (take-append-drop a (take b A)))
    ∙ words_append s (take a (take b A)) (drop a (take b A))
    ∙ ap (λ (l : List (ℕ × ℕ)). words_of s l ++ words_of s (drop a (take b A))) (sym (shorter a b A le))

no_more : (xs ys : List ℕ) → length (xs ++ ys) ≤ length xs → xs ++ ys ≡ xs
no_more xs [] h = append-nil xs
no_more xs (y ∷ ys) h = absurd (omega (arith, length-append xs (y ∷ ys)))

same_words : (s a b : ℕ) (A : List (ℕ × ℕ)) → a ≤ b → length (words_of s (take b A)) ≤ length (words_of s (take a A)) → words_of s (take a A) ≡ words_of s (take b A)
same_words s a b A le few =
    let parts = two_parts s a b A le in
    sym (parts ∙ no_more (words_of s (take a A)) (words_of s (drop a (take b A))) (subst (λ (l : List ℕ). length l ≤ length (words_of s (take a A))) parts few))

pub count_up : (s a b : ℕ) (A : List (ℕ × ℕ)) → a ≤ b → length (words_of s (take a A)) ≤ length (words_of s (take b A))
count_up s a b A le = omega (arith, ap (λ (l : List ℕ). length l) (two_parts s a b A le) ∙ length-append (words_of s (take a A)) (words_of s (drop a (take b A))))

-- ---- the shortest prefix with this number of words

reach_within : (s n : ℕ) (A : List (ℕ × ℕ)) → reach s n A ≤ length A
reach_within s zero A = zero-le
reach_within s (suc n) [] = le_refl 0
reach_within s (suc n) (e ∷ A) = go (eqb e.0 s) (reach_within s n A) (reach_within s (suc n) A)
  where
    go : (b : Bool) → reach s n A ≤ length A → reach s (suc n) A ≤ length A → suc (cond b (reach s n A) (reach s (suc n) A)) ≤ suc (length A)
    go true h k = omega arith
    go false h k = omega arith

-- the words of a list that begins with e, if the test of e gave b
abbrev pub words_from : ℕ → ℕ × ℕ → Bool → List (ℕ × ℕ) → List ℕ
words_from s e b A = map (λ (x : ℕ × ℕ). x.1) (cond b (e ∷ filter (λ (x : ℕ × ℕ). eqb x.0 s) A) (filter (λ (x : ℕ × ℕ). eqb x.0 s) A))

reach_counts : (s n : ℕ) (A : List (ℕ × ℕ)) → n ≤ length (words_of s A) → length (words_of s (take (reach s n A) A)) ≡ n
reach_counts s zero A h = refl
reach_counts s (suc n) [] h = absurd (omega arith)
reach_counts s (suc n) (e ∷ A) h = go (eqb e.0 s) (reach_counts s n A) (reach_counts s (suc n) A) h
  where
    go : (b : Bool) → (n ≤ length (words_of s A) → length (words_of s (take (reach s n A) A)) ≡ n) → (suc n ≤ length (words_of s A) → length (words_of s (take (reach s (suc n) A) A)) ≡ suc n)
        → suc n ≤ length (words_from s e b A) → length (words_from s e b (take (cond b (reach s n A) (reach s (suc n) A)) A)) ≡ suc n
    go true f g l = ap suc (f (omega arith))
    go false f g l = g l

reach_least : (s n c : ℕ) (A : List (ℕ × ℕ)) → n ≤ length (words_of s (take c A)) → reach s n A ≤ c
reach_least s zero c A h = zero-le
reach_least s (suc n) c [] h = zero-le
reach_least s (suc n) zero (e ∷ A) h = absurd (omega arith)
reach_least s (suc n) (suc c) (e ∷ A) h = go (eqb e.0 s) (reach_least s n c A) (reach_least s (suc n) c A) h
  where
    go : (b : Bool) → (n ≤ length (words_of s (take c A)) → reach s n A ≤ c) → (suc n ≤ length (words_of s (take c A)) → reach s (suc n) A ≤ c)
        → suc n ≤ length (words_from s e b (take c A)) → suc (cond b (reach s n A) (reach s (suc n) A)) ≤ suc c
    go true f g l = let k = f (omega arith) in omega arith
    go false f g l = let k = g l in omega arith

-- ---- one load

least_cases : (A : List (ℕ × ℕ)) (before : ℕ) (l : Load) → (before ≤ least_cut A before l) × (reach l.source l.count A ≤ least_cut A before l) × ((c : ℕ) → before ≤ c → reach l.source l.count A ≤ c → least_cut A before l ≤ c)
least_cases A before l = elim (cases_lt (reach l.source l.count A) before) [
  | inl lt ↦
      let is : least_cut A before l ≡ before = rw (lt-leb before (reach l.source l.count A) lt) refl in
      (omega (arith, is), omega (arith, is), λ c h k. omega (arith, is))
  | inr ge ↦
      let is : least_cut A before l ≡ reach l.source l.count A = rw (le-leb before (reach l.source l.count A) ge) refl in
      (omega (arith, is), omega (arith, is), λ c h k. omega (arith, is))
]

same_word_true : (v w : Option ℕ) → same_word v w ≡ true → v ≡ w
same_word_true None None h = refl
same_word_true (Some v) (Some w) h = ap (λ (x : ℕ). Some x) (eqb-true v w h)
same_word_true None (Some w) h = absurd (cc)
same_word_true (Some v) None h = absurd (cc)

same_word_itself : (v : Option ℕ) → same_word v v ≡ true
same_word_itself None = refl
same_word_itself (Some v) = eq-eqb v v refl

is_the_load : (l m : Load) → l.source ≡ m.source → is_load l m ≡ true → l ≡ m
is_the_load l m source h =
    let parts = and_parts (eqb l.count m.count) (same_word l.word m.word) h in
    let count : l.count ≡ m.count = eqb-true l.count m.count parts.0 in
    let word : l.word ≡ m.word = same_word_true l.word m.word parts.1 in
    λ i. record { source = source i; count = count i; word = word i }

is_load_itself : (l m : Load) → l ≡ m → is_load l m ≡ true
is_load_itself l m is = subst (λ (x : Load). is_load l x ≡ true) is (and_from (eqb l.count l.count) (same_word l.word l.word) (eq-eqb l.count l.count refl) (same_word_itself l.word))

found_step : (b : Bool) (A : List (ℕ × ℕ)) (before : ℕ) (l : Load) (cut : ℕ) → before ≤ length A → next_cut b A before l ≡ Some cut → IsCutOfLoad b A before l cut × (cut ≤ length A)
found_step false A before l cut le e = let same : before ≡ cut = same_Some before cut e in (same, omega (arith, same))
found_step true A before l cut le e =
    let least = least_cut A before l in
    let parts = cond_some (is_load l (load_after l.source (take least A))) least cut e in
    let cases = least_cases A before l in
    let within : least ≤ length A = cases.2 (length A) le (reach_within l.source l.count A) in
    let is : l ≡ load_after l.source (take least A) = is_the_load l (load_after l.source (take least A)) refl parts.0 in
    let P : ℕ → Type 0 = λ c. ((before ≤ c) × (c ≤ length A) × (l ≡ load_after l.source (take c A))) × (c ≤ length A) in
    subst P parts.1 ((cases.0, within, is), within)

pub found : (mine : ℕ → Bool) (A : List (ℕ × ℕ)) (before : ℕ) (ls : List Load) (last : ℕ) → before ≤ length A → last_cut mine A (Some before) ls ≡ Some last → Cuts mine A before ls last
found mine A before [] last le e = same_Some before last e
found mine A before (l ∷ ls) last le e = go (λ cut within f. found mine A cut ls last within f) (next_cut (mine l.source) A before l) refl e
  where
    go : ((cut : ℕ) → cut ≤ length A → last_cut mine A (Some cut) ls ≡ Some last → Cuts mine A cut ls last) → (o : Option ℕ) → next_cut (mine l.source) A before l ≡ o → last_cut mine A o ls ≡ Some last → Cuts mine A before (l ∷ ls) last
    go rest None n e = absurd (none-some last e)
    go rest (Some cut) n e = let step = found_step (mine l.source) A before l cut le n in (cut, step.0, rest cut step.1 e)

least_step : (b : Bool) (A : List (ℕ × ℕ)) (before from : ℕ) (l : Load) (cut : ℕ) → from ≤ before → before ≤ length A → IsCutOfLoad b A before l cut
    → (least : ℕ) × (next_cut b A from l ≡ Some least) × (least ≤ cut) × (cut ≤ length A)
least_step false A before from l cut le within h = (from, refl, omega (arith, h), omega (arith, h))
least_step true A before from l cut le within h =
    let s : ℕ = l.source in
    let least = least_cut A from l in
    let cases = least_cases A from l in
    let count : l.count ≡ length (words_of s (take cut A)) = ap (λ (x : Load). x.count) h.2 in
    let low : reach s l.count A ≤ cut = reach_least s l.count cut A (omega (arith, count)) in
    let under : least ≤ cut = cases.2 cut (omega (arith, h.0)) low in
    let some : l.count ≤ length (words_of s (take (length A) A)) = omega (arith, count, count_up s cut (length A) A h.1) in
    let all : l.count ≤ length (words_of s A) = subst (λ (B : List (ℕ × ℕ)). l.count ≤ length (words_of s B)) (take-length A) some in
    let reached : length (words_of s (take (reach s l.count A) A)) ≡ l.count = reach_counts s l.count A all in
    let many : length (words_of s (take cut A)) ≤ length (words_of s (take least A)) = omega (arith, reached, count, count_up s (reach s l.count A) least A cases.1) in
    let same : words_of s (take least A) ≡ words_of s (take cut A) = same_words s least cut A under many in
    let is : l ≡ load_after s (take least A) = h.2 ∙ sym (ap (λ (ws : List ℕ). record { source = s; count = length ws; word = last_of ws }) same) in
    (least, rw (is_load_itself l (load_after s (take least A)) is) refl, under, h.1)

pub least : (mine : ℕ → Bool) (A : List (ℕ × ℕ)) (before from : ℕ) (ls : List Load) (last : ℕ) → from ≤ before → before ≤ length A → Cuts mine A before ls last
    → (least : ℕ) × (last_cut mine A (Some from) ls ≡ Some least) × (least ≤ last)
least mine A before from [] last le within h = (from, refl, omega (arith, h))
least mine A before from (l ∷ ls) last le within h =
    let (next, cut_is, low, inside) = least_step (mine l.source) A before from l h.0 le within h.1 in
    let rest = least mine A h.0 next ls last low inside h.2 in
    (rest.0, ap (λ (o : Option ℕ). last_cut mine A o ls) cut_is ∙ rest.1, rest.2)
