-- Items by their places, in lists that grow, that workers lead to others, and that are three in a row.
use Rattle.std.proofs.Common.{◌≡◌, ℕ, zero, suc, ◌+◌, ◌<◌, ◌≤◌, List, [], ◌∷◌, ◌++◌, length, get_or, take, map, ap, subst, sym, refl, ◌∙◌, drop, arith, append-nil, append_assoc}
use Rattle.std.specs.Prelude.{◌==◌, ◌||◌, Bool, false, IsTrue, Result, Ok, slice_get}
use Rattle.std.specs.List.{AllByRecursion, AllZip, list_any, range_with_len}
use Rattle.std.proofs.lemmas.Bool.{ne_eqb}
use Rattle.std.proofs.lemmas.List.{length-append, map-append}
use Rattle.std.proofs.lemmas.Option.{same_Some}
use Rattle.a429_station.specs.Numbered.{AllNumbered, AllOfTwo, AllOfThree}

-- ---- the last item

pub all_but_last : {A : Type 0} (P : A → Type 0) (xs : List A) (x : A) → AllByRecursion P (xs ++ x ∷ []) → AllByRecursion P xs
all_but_last P [] x all = tt
all_but_last P (y ∷ ys) x all = (all.0, all_but_last P ys x all.1)

pub all_last : {A : Type 0} (P : A → Type 0) (xs : List A) (x : A) → AllByRecursion P (xs ++ x ∷ []) → P x
all_last P [] x all = all.0
all_last P (y ∷ ys) x all = all_last P ys x all.1

-- ---- numbers that were given out

-- if those are all lower, this one was not
pub none_taken : (number : ℕ) (xs : List ℕ) → AllByRecursion (λ y. y < number) xs → IsTrue (list_any (λ y. y == number) xs) → ⊥
none_taken number [] low taken = absurd (cc taken)
none_taken number (x ∷ xs) low taken =
    let other : (x == number) ≡ false = ne_eqb x number (λ e. omega (arith, low.0, e)) in
    none_taken number xs low.1 (subst (λ (b : Bool). IsTrue (b || list_any (λ y. y == number) xs)) other taken)

pub given_more : (number : ℕ) (xs : List ℕ) → AllByRecursion (λ y. y < number) xs → AllByRecursion (λ y. y < number + 1) (xs ++ number ∷ [])
given_more number [] low = (omega arith, tt)
given_more number (x ∷ xs) low = (omega (arith, low.0), given_more number xs low.1)

-- ---- one list

pub numbered_push : {X : Type 0} (P : ℕ → X → Type 0) (xs : List X) (x : X) → AllNumbered P xs → P (length xs) x → AllNumbered P (xs ++ x ∷ [])
numbered_push P [] x all one = (one, tt)
numbered_push P (y ∷ ys) x all one = (all.0, numbered_push (λ k. P (suc k)) ys x all.1 one)

pub numbered_get : {X : Type 0} (P : ℕ → X → Type 0) (xs : List X) (k : ℕ) (d : X) → k < length xs → AllNumbered P xs → P k (get_or xs k d)
numbered_get P [] k d inside all = absurd (omega (arith, inside))
numbered_get P (y ∷ ys) zero d inside all = all.0
numbered_get P (y ∷ ys) (suc k) d inside all = numbered_get (λ j. P (suc j)) ys k d (omega (arith, inside)) all.1

-- a list with one more item at its end
pub numbered_pushed : {X : Type 0} (P : ℕ → X → Type 0) (xs ys : List X) (n : ℕ) (x : X) → ys ≡ xs ++ x ∷ [] → n ≡ length xs → AllNumbered P xs → P n x → AllNumbered P ys
numbered_pushed P xs ys n x grown count all one = subst (AllNumbered P) (sym grown) (numbered_push P xs x all (subst (λ (k : ℕ). P k x) count one))

pub pushed_count : {X : Type 0} (xs ys : List X) (n : ℕ) (x : X) → ys ≡ xs ++ x ∷ [] → n ≡ length xs → n + 1 ≡ length ys
pushed_count {X} xs ys n x grown count = ap (λ (k : ℕ). k + 1) count ∙ (sym (length-append xs (x ∷ [])) ∙ ap (λ (l : List X). length l) (sym grown))

-- the item before the rest of a list that is mapped
pub pushed_mapped : {X Y : Type 0} (f : X → Y) (xs ys : List X) (x : X) (y : Y) (before rest all : List Y) → ys ≡ xs ++ x ∷ [] → f x ≡ y → before ≡ y ∷ rest → map f xs ++ before ≡ all → map f ys ++ rest ≡ all
pushed_mapped {X} {Y} f xs ys x y before rest all grown is next so_far =
    ap (λ (l : List X). map f l ++ rest) grown
    ∙ (ap (λ (l : List Y). l ++ rest) (map-append f xs (x ∷ []))
    ∙ (append_assoc (map f xs) (f x ∷ []) rest
    ∙ (ap (λ (z : Y). map f xs ++ z ∷ rest) is ∙ (ap (λ (l : List Y). map f xs ++ l) (sym next) ∙ so_far))))

-- the items before the rest of a list, which is mapped
pub mapped_grown : {X Y : Type 0} (f : X → Y) (xs ys : List Y) (x : X) (before rest : List X) (all : List Y) → ys ≡ xs ++ f x ∷ [] → before ≡ x ∷ rest → xs ++ map f before ≡ all → ys ++ map f rest ≡ all
mapped_grown {X} {Y} f xs ys x before rest all grown next so_far =
    ap (λ (l : List Y). l ++ map f rest) grown
    ∙ (append_assoc xs (f x ∷ []) (map f rest) ∙ (ap (λ (l : List X). xs ++ map f l) (sym next) ∙ so_far))

-- ---- counts of what is left

-- this number of those that are left come after it
pub inside_of : (n more now all most : ℕ) → n + now ≡ all → more + 1 ≡ now → all ≤ most → n < most
inside_of n more now all most left one few = omega (arith, left, one, few)

pub one_less_by : (n m more now all : ℕ) → n + now ≡ all → more + 1 ≡ now → m ≡ n + 1 → m + more ≡ all
one_less_by n m more now all left one next = omega (arith, left, one, next)

pub both_less : (more now rest have : ℕ) → more + 1 ≡ now → rest + 1 ≡ have → now ≤ have → more ≤ rest
both_less more now rest have one other enough = omega (arith, one, other, enough)

pub at_most : (n m k : ℕ) → n ≡ m → k ≡ m → n ≤ k
at_most n m k one other = omega (arith, one, other)

-- this number of items has room for one more of those that are left
pub has_room : (n more now cap : ℕ) → n + now ≤ cap → more + 1 ≡ now → n < cap
has_room n more now cap room one = omega (arith, room, one)

pub room_left : (n m more now cap wide : ℕ) → n + now ≤ cap → more + 1 ≡ now → m ≡ n + 1 → cap ≤ wide → m + more ≤ wide
room_left n m more now cap wide room one next wider = omega (arith, room, one, next, wider)

-- all were taken, so none is left
pub all_taken : {Y : Type 0} (xs rest all : List Y) → rest ≡ [] → xs ++ rest ≡ all → xs ≡ all
all_taken {Y} xs rest all none whole = sym (append-nil xs) ∙ (ap (λ (l : List Y). xs ++ l) (sym none) ∙ whole)

-- what is true of one place
pub numbered_place : {X : Type 0} (P : ℕ → Type 0) (xs : List X) (k : ℕ) → k < length xs → AllNumbered (λ j x. P j) xs → P k
numbered_place P [] k inside all = absurd (omega (arith, inside))
numbered_place P (x ∷ xs) zero inside all = all.0
numbered_place P (x ∷ xs) (suc k) inside all = numbered_place (λ j. P (suc j)) xs k (omega (arith, inside)) all.1

pub numbered_weaker : {X : Type 0} (P Q : ℕ → X → Type 0) → ((k : ℕ) (x : X) → P k x → Q k x) → (xs : List X) → AllNumbered P xs → AllNumbered Q xs
numbered_weaker P Q on [] all = tt
numbered_weaker P Q on (x ∷ xs) all = (on 0 x all.0, numbered_weaker (λ k. P (suc k)) (λ k. Q (suc k)) (λ k. on (suc k)) xs all.1)

pub numbered_both : {X : Type 0} (P Q : ℕ → X → Type 0) (xs : List X) → AllNumbered P xs → AllNumbered Q xs → AllNumbered (λ k x. P k x × Q k x) xs
numbered_both P Q [] p q = tt
numbered_both P Q (x ∷ xs) p q = ((p.0, q.0), numbered_both (λ k. P (suc k)) (λ k. Q (suc k)) xs p.1 q.1)

pub numbered_all : {X : Type 0} (P : X → Type 0) (xs : List X) → AllNumbered (λ k x. P x) xs → AllByRecursion P xs
numbered_all P [] all = tt
numbered_all P (x ∷ xs) all = (all.0, numbered_all P xs all.1)

pub numbered_also : {X : Type 0} (P : X → Type 0) (xs : List X) → AllByRecursion P xs → AllNumbered (λ k x. P x) xs
numbered_also P [] all = tt
numbered_also P (x ∷ xs) all = (all.0, numbered_also P xs all.1)

pub numbered_mapped : {X Y : Type 0} (f : X → Y) (P : ℕ → Y → Type 0) (xs : List X) → AllNumbered (λ k x. P k (f x)) xs → AllNumbered P (map f xs)
numbered_mapped f P [] all = tt
numbered_mapped f P (x ∷ xs) all = (all.0, numbered_mapped f (λ k. P (suc k)) xs all.1)

-- whose numbers are their places: those before a place have lower numbers
pub numbers_below : {X : Type 0} (f : X → ℕ) (h : ℕ → ℕ) (xs : List X) (n most : ℕ) → AllNumbered (λ k x. f x ≡ h k) xs → ((k : ℕ) → k < n → h k < most) → AllByRecursion (λ x. f x < most) (take n xs)
numbers_below f h [] zero most all low = tt
numbers_below f h [] (suc n) most all low = tt
numbers_below f h (x ∷ xs) zero most all low = tt
numbers_below f h (x ∷ xs) (suc n) most all low =
    (omega (arith, all.0, low 0 (omega arith)), numbers_below f (λ k. h (suc k)) xs n most all.1 (λ k lt. low (suc k) (omega (arith, lt))))

-- a list that is computed of its items' places
pub mapped_range : {X Y : Type 0} (f : X → Y) (h : ℕ → Y) (n : ℕ) (xs : List X) → AllNumbered (λ k x. f x ≡ h (n + k)) xs → map f xs ≡ map h (range_with_len n (length xs))
mapped_range f h n [] all = refl
mapped_range {X} {Y} f h n (x ∷ xs) all =
    let first : f x ≡ h n = all.0 ∙ ap h (omega arith) in
    let rest = mapped_range f h (n + 1) xs (numbered_weaker (λ k x. f x ≡ h (n + suc k)) (λ k x. f x ≡ h (n + 1 + k)) (λ k x e. e ∙ ap h (omega arith)) xs all.1) in
    ap (λ (y : Y). y ∷ map f xs) first ∙ ap (λ (l : List Y). h n ∷ l) rest

-- ---- what workers lead to

pub zip_numbered : {A B : Type 0} (R : A → B → Type 0) (P : ℕ → A → Type 0) (Q : ℕ → B → Type 0) → ((k : ℕ) (a : A) (b : B) → R a b → P k a → Q k b)
    → (xs : List A) (ys : List B) → AllZip R xs ys → AllNumbered P xs → AllNumbered Q ys
zip_numbered R P Q on [] [] z all = tt
zip_numbered R P Q on [] (y ∷ ys) z all = absurd z
zip_numbered R P Q on (x ∷ xs) [] z all = absurd z
zip_numbered R P Q on (x ∷ xs) (y ∷ ys) z all = (on 0 x y z.0 all.0, zip_numbered R (λ k. P (suc k)) (λ k. Q (suc k)) (λ k. on (suc k)) xs ys z.1 all.1)

pub two_of : {A B C D : Type 0} (R : A → B → Type 0) (P : ℕ → A → Type 0) (Q : ℕ → C → D → Type 0) (f : A → C) (h : B → D) → ((k : ℕ) (a : A) (b : B) → R a b → P k a → Q k (f a) (h b))
    → (xs : List A) (ys : List B) → AllZip R xs ys → AllNumbered P xs → AllOfTwo Q (map f xs) (map h ys)
two_of R P Q f h on [] [] z all = tt
two_of R P Q f h on [] (y ∷ ys) z all = absurd z
two_of R P Q f h on (x ∷ xs) [] z all = absurd z
two_of R P Q f h on (x ∷ xs) (y ∷ ys) z all = (on 0 x y z.0 all.0, two_of R (λ k. P (suc k)) (λ k. Q (suc k)) f h (λ k. on (suc k)) xs ys z.1 all.1)

pub zip_length : {A B : Type 0} (R : A → B → Type 0) (xs : List A) (ys : List B) → AllZip R xs ys → length xs ≡ length ys
zip_length R [] [] z = refl
zip_length R [] (y ∷ ys) z = absurd z
zip_length R (x ∷ xs) [] z = absurd z
zip_length R (x ∷ xs) (y ∷ ys) z = ap suc (zip_length R xs ys z.1)

pub zip_with : {A B : Type 0} (R : A → B → Type 0) (Q : B → Type 0) (xs : List A) (ys : List B) → AllZip R xs ys → AllByRecursion Q ys → AllZip (λ x y. R x y × Q y) xs ys
zip_with R Q [] [] z all = tt
zip_with R Q [] (y ∷ ys) z all = absurd z
zip_with R Q (x ∷ xs) [] z all = absurd z
zip_with R Q (x ∷ xs) (y ∷ ys) z all = ((z.0, all.0), zip_with R Q xs ys z.1 all.1)

-- what each step shows, by its place
abbrev pub shown : {A B : Type 0} {W : Type 0} (R : A → B → Type 0) (show : (a : A) (b : B) → R a b → List W) (xs : List A) (ys : List B) → AllZip R xs ys → ℕ → List W
shown R show [] ys z k = []
shown R show (x ∷ xs) [] z k = []
shown R show (x ∷ xs) (y ∷ ys) z zero = show x y z.0
shown R show (x ∷ xs) (y ∷ ys) z (suc k) = shown R show xs ys z.1 k

pub shown_past : {A B : Type 0} {W : Type 0} (R : A → B → Type 0) (show : (a : A) (b : B) → R a b → List W) (xs : List A) (ys : List B) (z : AllZip R xs ys) (k : ℕ) → length xs ≤ k → shown R show xs ys z k ≡ []
shown_past R show [] ys z k past = refl
shown_past R show (x ∷ xs) [] z k past = refl
shown_past R show (x ∷ xs) (y ∷ ys) z zero past = absurd (omega (arith, past))
shown_past R show (x ∷ xs) (y ∷ ys) z (suc k) past = shown_past R show xs ys z.1 k (omega (arith, past))

-- ---- three lists

module _ {A D X Y T E W : Type 0} (R : A → D → Type 0) (show : (a : A) (d : D) → R a d → List W) (before : A → X) (after : D → Y) (answer : D → Result T E) where
  -- workers that all ended well, with what each step shows: `came` is that, by its place
  pub three_of : (P : ℕ → A → Type 0) (Q : ℕ → X → Y → T → Type 0) (came : ℕ → List W)
      → ((k : ℕ) (a : A) (d : D) (t : T) (h : R a d) → P k a → answer d ≡ Ok t → came k ≡ show a d h → Q k (before a) (after d) t)
      → (ws : List A) (ds : List D) (ts : List T) (z : AllZip R ws ds) → AllNumbered P ws → map (λ (t : T). Ok t) ts ≡ map answer ds
      → ((k : ℕ) → came k ≡ shown R show ws ds z k) → AllOfThree Q (map before ws) (map after ds) ts
  three_of P Q came on [] [] [] z all same is = tt
  three_of P Q came on [] [] (t ∷ ts) z all same is = absurd (cc same)
  three_of P Q came on [] (d ∷ ds) ts z all same is = absurd z
  three_of P Q came on (w ∷ ws) [] ts z all same is = absurd z
  three_of P Q came on (w ∷ ws) (d ∷ ds) [] z all same is = absurd (cc same)
  three_of P Q came on (w ∷ ws) (d ∷ ds) (t ∷ ts) z all same is =
      let first : Ok t ≡ answer d = same_Some (Ok t) (answer d) (ap (λ (l : List (Result T E)). slice_get l 0) same) in (
        on 0 w d t z.0 all.0 (sym first) (is 0),
        three_of (λ k. P (suc k)) (λ k. Q (suc k)) (λ k. came (suc k)) (λ k. on (suc k)) ws ds ts z.1 all.1 (ap (λ (l : List (Result T E)). drop 1 l) same) (λ k. is (suc k)),
      )

pub middle : {X Y Z : Type 0} (P : ℕ → Y → Type 0) (xs : List X) (ys : List Y) (zs : List Z) → AllOfThree (λ k x y z. P k y) xs ys zs → AllNumbered P ys
middle P [] [] [] all = tt
middle P [] [] (z ∷ zs) all = absurd all
middle P [] (y ∷ ys) zs all = absurd all
middle P (x ∷ xs) [] zs all = absurd all
middle P (x ∷ xs) (y ∷ ys) [] all = absurd all
middle P (x ∷ xs) (y ∷ ys) (z ∷ zs) all = (all.0, middle (λ k. P (suc k)) xs ys zs all.1)
