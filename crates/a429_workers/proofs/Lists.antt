-- Lists: their elements, their ends, and lists that are two lists in a row.
use Rattle.std.proofs.Common.{◌≡◌, ℕ, zero, suc, ◌-◌, List, [], ◌∷◌, ◌++◌, length, take, drop, map, ◌∙◌, sym, ap, subst, refl, arith, append_assoc}
use Rattle.std.specs.Prelude.{Option, Some, None, slice_get, unwrap_or, option_map}
use Rattle.std.specs.Option.{option_map_or}
use Rattle.std.specs.List.{AllByRecursion}
use Rattle.std.proofs.lemmas.Option.{none-some, same_Some, slice_get-map}
use Rattle.std.proofs.Math.Seq.{take-append_seam, drop-append_seam}
use Rattle.std.proofs.lemmas.List.{length-map}
use mathlib.Core.List.{IsPrefix}
use Rattle.a429_word.proofs.Lists.{prefix_on, get_within}
use Rattle.a429_slots.specs.History.{last_of}

-- ---- elements

pub drop_next : {X : Type 0} (xs : List X) (i : ℕ) (x : X) → slice_get xs i ≡ Some x → drop i xs ≡ x ∷ drop (suc i) xs
drop_next [] i x h = absurd (none-some x h)
drop_next (y ∷ ys) zero x h = let same : y ≡ x = same_Some y x h in ap (λ z. z ∷ ys) same
drop_next (y ∷ ys) (suc i) x h = drop_next ys i x h

pub get_front : {X : Type 0} (xs ys : List X) (i : ℕ) (x : X) → slice_get xs i ≡ Some x → slice_get (xs ++ ys) i ≡ Some x
get_front [] ys i x h = absurd (none-some x h)
get_front (y ∷ xs) ys zero x h = h
get_front (y ∷ xs) ys (suc i) x h = get_front xs ys i x h

pub get_seam : {X : Type 0} (xs : List X) (x : X) (ys : List X) → slice_get (xs ++ x ∷ ys) (length xs) ≡ Some x
get_seam [] x ys = refl
get_seam (y ∷ xs) x ys = get_seam xs x ys

pub all_get : {X : Type 0} (P : X → Type 0) (xs : List X) (i : ℕ) (x : X) → slice_get xs i ≡ Some x → AllByRecursion P xs → P x
all_get P [] i x h all = absurd (none-some x h)
all_get P (y ∷ ys) zero x h all = subst P (same_Some y x h) all.0
all_get P (y ∷ ys) (suc i) x h all = all_get P ys i x h all.1

-- ---- two in a row

pub same_front : {X : Type 0} (xs ys zs ws : List X) → xs ++ ys ≡ zs ++ ws → length xs ≡ length zs → xs ≡ zs
same_front {X} xs ys zs ws h len = sym (take-append_seam xs ys) ∙ (ap (λ (l : List X). take (length xs) l) h ∙ (ap (λ (n : ℕ). take n (zs ++ ws)) len ∙ take-append_seam zs ws))

pub same_back : {X : Type 0} (xs ys zs : List X) → xs ++ ys ≡ xs ++ zs → ys ≡ zs
same_back {X} xs ys zs h = sym (drop-append_seam xs ys) ∙ (ap (λ (l : List X). drop (length xs) l) h ∙ drop-append_seam xs zs)

-- a mapped list that is two lists in a row is of two lists in a row
record IsSplit {X Y : Type 0} (f : X → Y) (xs : List X) (ys zs : List Y) : Type 0 where
  pub front : List X
  pub back : List X
  pub whole : xs ≡ front ++ back
  pub of_front : map f front ≡ ys
  pub of_back : map f back ≡ zs

split_map : {X Y : Type 0} (f : X → Y) (xs : List X) (ys zs : List Y) → map f xs ≡ ys ++ zs → IsSplit f xs ys zs
split_map f xs [] zs h = record { front = []; back = xs; whole = refl; of_front = refl; of_back = h }
split_map f [] (y ∷ ys) zs h = absurd (cc h)
split_map {X} {Y} f (x ∷ xs) (y ∷ ys) zs h =
    let first : f x ≡ y = same_Some (f x) y (ap (λ (l : List Y). slice_get l 0) h) in
    let rest = split_map f xs ys zs (ap (λ (l : List Y). drop 1 l) h) in
    record {
      front = x ∷ rest.front;
      back = rest.back;
      whole = ap (λ (l : List X). x ∷ l) rest.whole;
      of_front = ap (λ (w : Y). w ∷ map f rest.front) first ∙ ap (λ (l : List Y). y ∷ l) rest.of_front;
      of_back = rest.of_back;
    }

-- what of a list is newly seen, if `plans` were seen instead of `seen`, and `end` are seen in the end
pub record IsNewlySeen {X Y : Type 0} (f : X → Y) (seen plans end : List Y) (rest : List X) : Type 0 where
  pub front : List X
  pub back : List X
  pub whole : rest ≡ front ++ back
  pub grown : seen ++ map f front ≡ plans
  pub still : IsPrefix end (plans ++ map f back)

pub newly_seen : {X Y : Type 0} (f : X → Y) (seen plans end : List Y) (rest : List X) → IsPrefix seen plans → IsPrefix plans end → IsPrefix end (seen ++ map f rest) → IsNewlySeen f seen plans end rest
newly_seen {X} {Y} f seen plans end rest more some all =
    let left = prefix_on plans end (seen ++ map f rest) some all in
    let parts : seen ++ map f rest ≡ seen ++ (more.0 ++ left.0) = sym left.1 ∙ (ap (λ (l : List Y). l ++ left.0) (sym more.1) ∙ append_assoc seen more.0 left.0) in
    let S = split_map f rest more.0 left.0 (same_back seen (map f rest) (more.0 ++ left.0) parts) in
    let same : plans ++ map f S.back ≡ seen ++ map f rest = ap (λ (l : List Y). plans ++ l) S.of_back ∙ left.1 in
    record { front = S.front; back = S.back; whole = S.whole; grown = ap (λ (l : List Y). seen ++ l) S.of_front ∙ more.1; still = subst (IsPrefix end) (sym same) all }

-- ---- the last element

pub last_get : {X : Type 0} (x : X) (xs : List X) → (w : X) × (last_of (x ∷ xs) ≡ Some w)
last_get x xs = get_within (x ∷ xs) (length (x ∷ xs) - 1) (omega arith)

last_more : {X : Type 0} (x : X) (xs : List X) → last_of (x ∷ xs) ≡ Some (unwrap_or (last_of xs) x)
last_more x [] = refl
last_more {X} x (y ∷ ys) =
    let more : length (x ∷ y ∷ ys) - 1 ≡ suc (length (y ∷ ys) - 1) = omega arith in
    let (w, is) = last_get y ys in
    ap (slice_get (x ∷ y ∷ ys)) more ∙ (is ∙ ap (λ (z : Option X). Some (unwrap_or z x)) (sym is))

-- the last of a list that begins with x
pub last_from : {X Y : Type 0} (f : Y → X) (x : X) (ys : List Y) → last_of (x ∷ map f ys) ≡ Some (option_map_or f (last_of ys) x)
last_from {X} {Y} f x ys =
    last_more x (map f ys)
    ∙ (ap (λ (n : ℕ). Some (unwrap_or (slice_get (map f ys) (n - 1)) x)) (length-map ys f) ∙ (ap (λ (z : Option X). Some (unwrap_or z x)) (slice_get-map f ys (length ys - 1)) ∙ ap (λ (z : X). Some z) (by (last_of ys))))
  where
    by : (z : Option Y) → unwrap_or (option_map f z) x ≡ option_map_or f z x
    by None = refl
    by (Some y) = refl
