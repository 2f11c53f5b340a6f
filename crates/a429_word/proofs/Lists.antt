-- What is true of any lists, options and tests. The libraries above use these too.
use Rattle.std.proofs.Common.{◌≡◌, ℕ, zero, suc, ◌+◌, ◌*◌, ◌/◌, ◌^◌, ◌<◌, ◌≤◌, List, [], ◌∷◌, ◌++◌, length, take, drop, get_or, Bool, true, false, true≢false, refl, sym, ap, ap₂, subst, ◌∙◌, inl, inr, ◌⊎◌, arith, append-nil, append_assoc, length-append}
use Rattle.std.specs.Prelude.{Option, Some, None, Result, Ok, map, not, if◌then◌else◌, is_some, slice_get, slice_set, position, ◌&&◌, ◌||◌}
use Rattle.std.specs.List.{AllByRecursion, AllZip, position_or_len, range_with_len, zip}
use Rattle.std.proofs.Math.Nat.{div-lt_iff_lt-mul, div-mul-le_self, div-zero, mul_comm}
use Rattle.std.proofs.lemmas.Bool.{cases_lt, lt-ltb}
use Rattle.std.proofs.lemmas.Nat.{le-div, pow_below}
use Rattle.std.proofs.lemmas.List.{drop_more, get_or-set_same, length-set, length-take, take-append-le, take_all, take_more}
use Rattle.std.proofs.lemmas.List.Sums.{fails_before_first}
use Rattle.std.proofs.lemmas.Option.{get_or_from_slice_get, none-some, same_Some, slice_get-get_or, slice_get_cases, slice_get_within}
use Rattle.std.proofs.lemmas.Slice.Zip.{all_zipped_more}
use mathlib.Core.List.{IsPrefix}

-- ---- tests, options and results

pub clash : false ≡ true → ⊥
clash h = true≢false (sym h)

pub false_unless : (b : Bool) → (b ≡ true → ⊥) → b ≡ false
false_unless true h = absurd (h refl)
false_unless false h = refl

pub and_false : (a b : Bool) → b ≡ false → (a && b) ≡ false
and_false true b h = h
and_false false b h = refl

pub not_false : (b : Bool) → not b ≡ false → b ≡ true
not_false true h = refl
not_false false h = sym h

pub or_parts : (a b : Bool) → (a || b) ≡ true → (a ≡ true) ⊎ (b ≡ true)
or_parts true b h = inl refl
or_parts false b h = inr h

pub either_none : (b : Bool) → ◌≡◌ {A = Option ℕ} (if b then None else None) None
either_none true = refl
either_none false = refl

pub some_word : (x : Option ℕ) → is_some x ≡ true → (w : ℕ) × (x ≡ Some w)
some_word None h = absurd (clash h)
some_word (Some w) h = (w, refl)

pub same_Ok : {X E : Type 0} (x y : X) → ◌≡◌ {A = Result X E} (Ok x) (Ok y) → x ≡ y
same_Ok x y same = cc

-- ---- numbers

pub same_power : (i j : ℕ) → 2 ^ i ≡ 2 ^ j → i ≡ j
same_power i j same = elim (cases_lt i j) [
  | inl less ↦ absurd (omega (arith, pow_below i j less, same))
  | inr most ↦ elim (cases_lt j i) [
    | inl more ↦ absurd (omega (arith, pow_below j i more, same))
    | inr equal ↦ omega (arith, most, equal)
  ]
]

pub positive : (k m H : ℕ) → k < m * H → 0 < m
positive k zero H lt = let none : zero * H ≡ zero = omega arith in absurd (omega (arith, lt, none))
positive k (suc m) H lt = omega arith

pub div_more : (c m : ℕ) → c / m ≤ (c + 1) / m
div_more c zero = omega (arith, div-zero c)
div_more c (suc m) = le-div (c / suc m) (c + 1) (suc m) (omega arith) (omega (arith, div-mul-le_self c (suc m)))

-- the number of a frame of H is that of a slot over H
pub in_frame : (k m H : ℕ) → k < m * H → k / m < H
in_frame k m H lt = (div-lt_iff_lt-mul (positive k m H lt)).1 (subst (λ (n : ℕ). k < n) (mul_comm m H) lt)

pub range_next : (a n : ℕ) → range_with_len a (suc n) ≡ range_with_len a n ++ (a + n) ∷ []
range_next a zero = let e : a ≡ a + 0 = omega arith in ap (λ (m : ℕ). m ∷ []) e
range_next a (suc n) =
    let e : a + 1 + n ≡ a + suc n = omega arith in
    ap (λ (xs : List ℕ). a ∷ xs) (range_next (a + 1) n ∙ ap (λ (m : ℕ). range_with_len (a + 1) n ++ m ∷ []) e)

-- ---- elements

pub read_is : {X : Type 0} (xs : List X) (i : ℕ) (x : X) → i < length xs → x ≡ get_or xs i x → slice_get xs i ≡ Some x
read_is xs i x below is = slice_get-get_or xs i x below ∙ ap (λ y. Some y) (sym is)

pub none_cut : {X : Type 0} (n : ℕ) → ◌≡◌ {A = List X} (take n []) []
none_cut zero = refl
none_cut (suc n) = refl

pub get_within : {X : Type 0} (xs : List X) (i : ℕ) → i < length xs → (x : X) × (slice_get xs i ≡ Some x)
get_within xs i below = elim (slice_get_cases xs i).1 [
  | inl hit ↦ (hit.0, hit.2)
  | inr miss ↦ absurd (omega (arith, below, miss.0))
]

pub take_next : {X : Type 0} (xs : List X) (i : ℕ) (x : X) → slice_get xs i ≡ Some x → take (i + 1) xs ≡ take i xs ++ x ∷ []
take_next xs i x h = take_more xs i x (slice_get_within xs i x h) ∙ ap (λ y. take i xs ++ y ∷ []) (get_or_from_slice_get xs i x x h)

pub drop_at : {X : Type 0} (xs : List X) (i : ℕ) (x : X) → slice_get xs i ≡ Some x → drop i xs ≡ x ∷ drop (i + 1) xs
drop_at xs i x at = drop_more xs i x (slice_get_within xs i x at) ∙ ap (λ y. y ∷ drop (i + 1) xs) (get_or_from_slice_get xs i x x at)

pub take_push_room : {A : Type 0} (n : ℕ) (xs : List A) (w : A) → length (take n xs) < n → take n (xs ++ w ∷ []) ≡ take n xs ++ w ∷ []
take_push_room n xs w h =
    let short : length xs < n = omega (arith, length-take n xs) in
    let fits : length (xs ++ w ∷ []) ≤ n = omega (arith, length-append xs (w ∷ [])) in
    take_all n (xs ++ w ∷ []) fits ∙ ap (λ ys. ys ++ w ∷ []) (sym (take_all n xs (omega arith)))

pub take_push_full : {A : Type 0} (n : ℕ) (xs : List A) (w : A) → n ≤ length (take n xs) → take n (xs ++ w ∷ []) ≡ take n xs
take_push_full n xs w h = take-append-le n xs (w ∷ []) (omega (arith, length-take n xs))

pub get_set_same : {X : Type 0} (xs : List X) (i : ℕ) (y : X) → i < length xs → slice_get (slice_set xs i y) i ≡ Some y
get_set_same xs i y l =
    let within : i < length (slice_set xs i y) = omega (arith, length-set xs i y) in
    slice_get-get_or (slice_set xs i y) i y within ∙ ap (λ z. Some z) (get_or-set_same xs i y y l)

pub get_set_other : {X : Type 0} (xs : List X) (i j : ℕ) (y : X) → (j ≡ i → ⊥) → slice_get (slice_set xs i y) j ≡ slice_get xs j
get_set_other [] i j y n = refl
get_set_other (x ∷ xs) zero zero y n = absurd (n refl)
get_set_other (x ∷ xs) zero (suc j) y n = refl
get_set_other (x ∷ xs) (suc i) zero y n = refl
get_set_other (x ∷ xs) (suc i) (suc j) y n = get_set_other xs i j y (λ e. n (ap suc e))

pub none_passes : {X : Type 0} (p : X → Bool) (xs : List X) → position p xs ≡ None → (i : ℕ) (x : X) → slice_get xs i ≡ Some x → p x ≡ false
none_passes p xs e i x h =
    let l : i < length xs = slice_get_within xs i x h in
    elim (cases_lt (position_or_len p xs) (length xs)) [
      | inl found ↦
          let is_some : position p xs ≡ Some (position_or_len p xs) = rw (lt-ltb (position_or_len p xs) (length xs) found) refl in
          absurd (none-some (position_or_len p xs) (sym e ∙ is_some))
      | inr past ↦
          let k : i < position_or_len p xs = omega arith in
          subst (λ (y : _). p y ≡ false) (get_or_from_slice_get xs i x x h) (fails_before_first p xs i x k)
    ]

-- ---- what is true of each element

pub all_at : {X : Type 0} (P : X → Type 0) (xs : List X) (i : ℕ) (x : X) → AllByRecursion P xs → slice_get xs i ≡ Some x → P x
all_at P [] i x h e = absurd (none-some x e)
all_at P (y ∷ ys) zero x h e = subst P (same_Some y x e) h.0
all_at P (y ∷ ys) (suc i) x h e = all_at P ys i x h.1 e

pub all_push : {X : Type 0} (P : X → Type 0) (xs : List X) (x : X) → AllByRecursion P xs → P x → AllByRecursion P (xs ++ x ∷ [])
all_push P [] x all holds = (holds, tt)
all_push P (y ∷ ys) x all holds = (all.0, all_push P ys x all.1 holds)

pub all_parts : {X : Type 0} (P : X → Type 0) (xs ys : List X) → AllByRecursion P (xs ++ ys) → AllByRecursion P xs × AllByRecursion P ys
all_parts P [] ys all = (tt, all)
all_parts P (x ∷ xs) ys all = let rest = all_parts P xs ys all.1 in ((all.0, rest.0), rest.1)

pub all_front : {A : Type 0} (P : A → Type 0) (xs ys : List A) → AllByRecursion P (xs ++ ys) → AllByRecursion P xs
all_front P xs ys all = (all_parts P xs ys all).0

pub all_back : {A : Type 0} (P : A → Type 0) (xs ys : List A) → AllByRecursion P (xs ++ ys) → AllByRecursion P ys
all_back P xs ys all = (all_parts P xs ys all).1

pub all_mapped : {X Y : Type 0} (f : X → Y) (Q : Y → Type 0) (xs : List X) → AllByRecursion (λ x. Q (f x)) xs → AllByRecursion Q (map f xs)
all_mapped f Q [] h = tt
all_mapped f Q (x ∷ xs) h = (h.0, all_mapped f Q xs h.1)

pub all_beginning : {A : Type 0} (P : A → Type 0) (xs ys : List A) → IsPrefix xs ys → AllByRecursion P ys → AllByRecursion P xs
all_beginning P xs ys p all = all_front P xs p.0 (subst (AllByRecursion P) (sym p.1) all)

-- ---- beginnings

pub prefix_self : {A : Type 0} (xs : List A) → IsPrefix xs xs
prefix_self xs = ([], append-nil xs)

pub prefix_on : {A : Type 0} (xs ys zs : List A) → IsPrefix xs ys → IsPrefix ys zs → IsPrefix xs zs
prefix_on xs ys zs p q = (p.0 ++ q.0, sym (append_assoc xs p.0 q.0) ∙ ap (λ w. w ++ q.0) p.1 ∙ q.1)

-- ---- two lists side by side

pub zip_at : {X Y : Type 0} (xs : List X) (ys : List Y) (i : ℕ) (x : X) (y : Y) → slice_get xs i ≡ Some x → slice_get ys i ≡ Some y → slice_get (zip xs ys) i ≡ Some (x, y)
zip_at [] ys i x y here there = absurd (none-some x here)
zip_at (a ∷ xs) [] i x y here there = absurd (none-some y there)
zip_at (a ∷ xs) (b ∷ ys) zero x y here there = ap₂ (λ s t. Some (s, t)) (same_Some a x here) (same_Some b y there)
zip_at (a ∷ xs) (b ∷ ys) (suc i) x y here there = zip_at xs ys i x y here there

pub zipped_at : {A B : Type 0} (R : A → B → Type 0) (xs : List A) (ys : List B) (i : ℕ) (d : A) (e : B) → i < length xs → AllZip R xs ys → R (get_or xs i d) (get_or ys i e)
zipped_at R [] ys i d e below all = absurd (omega arith)
zipped_at R (x ∷ xs) [] i d e below all = absurd all
zipped_at R (x ∷ xs) (y ∷ ys) zero d e below all = all.0
zipped_at R (x ∷ xs) (y ∷ ys) (suc i) d e below all = zipped_at R xs ys i d e (omega arith) all.1

pub zip_next : {A B : Type 0} (R : A → B → Type 0) (xs : List A) (ys : List B) (i : ℕ) (x : A) (y : B) → slice_get xs i ≡ Some x → AllZip R (take i xs) ys → R x y → AllZip R (take (i + 1) xs) (ys ++ y ∷ [])
zip_next {A} {B} R xs ys i x y h old new =
    subst (λ (zs : List A). AllZip R zs (ys ++ y ∷ [])) (sym (take_next xs i x h)) (all_zipped_more R (take i xs) ys x y old new)

-- the element of the other list at the same place
pub partner : {A B : Type 0} (R : A → B → Type 0) (xs : List A) (ys : List B) (i : ℕ) (x : A) → AllZip R xs ys → slice_get xs i ≡ Some x → (y : B) × R x y
partner R [] ys i x all there = absurd (none-some x there)
partner R (a ∷ xs) [] i x all there = absurd all
partner {A} {B} R (a ∷ xs) (b ∷ ys) zero x all there = (b, subst (λ (z : A). R z b) (same_Some a x there) all.0)
partner R (a ∷ xs) (b ∷ ys) (suc i) x all there = partner R xs ys i x all.1 there
