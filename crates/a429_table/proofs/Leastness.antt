-- The first fault is the least.
use Rattle.std.proofs.Common.{◌≡◌, Bool, true, false, cond, List, [], ◌∷◌, ◌++◌, Option, Some, None, refl, sym, ap, subst, ◌∙◌}
use Rattle.std.proofs.lemmas.Option.{same_Some}
use Rattle.std.specs.List.{find, flat_map, AllByRecursion}
use Rattle.toml.specs.Data.{Data}
use Rattle.a429_table.specs.declared.fault.FaultKind.{FaultKind}
use Rattle.a429_table.specs.declared.fault.TablePlace.{TablePlace}
use Rattle.a429_table.specs.Walk.{Stop, walk}
use Rattle.a429_table.specs.Faults.{first, faults, faults_of, kinds, stands}
use Rattle.a429_table.specs.Least.{StandsAtNone, IsLeast}
use Rattle.a429_table.proofs.Firsts.{first_of_two}

-- the first element that passes, and those before it
record Split {X : Type 0} (p : X → Bool) (xs : List X) (x : X) : Type 0 where
  front : List X
  back : List X
  is : xs ≡ front ++ x ∷ back
  passes : p x ≡ true
  before : AllByRecursion (λ y. p y ≡ false) front

split_at : {X : Type 0} (p : X → Bool) (y : X) (ys : List X) (x : X) (b : Bool) → p y ≡ b → cond b (Some y) (find p ys) ≡ Some x → (find p ys ≡ Some x → Split p ys x) → Split p (y ∷ ys) x
split_at p y ys x true e h rest =
    let same : y ≡ x = cc in
    record { front = []; back = ys; is = ap (λ z. z ∷ ys) same; passes = rw (← same) e; before = tt }
split_at p y ys x false e h rest =
    let s = rest h in
    record { front = y ∷ s.front; back = s.back; is = ap (λ zs. y ∷ zs) s.is; passes = s.passes; before = (e, s.before) }

split : {X : Type 0} (p : X → Bool) (xs : List X) (x : X) → find p xs ≡ Some x → Split p xs x
split p [] x h = cc
split p (y ∷ ys) x h = split_at p y ys x (p y) refl h (split p ys x)

none_at : {X : Type 0} (p : X → Bool) (y : X) (ys : List X) (b : Bool) → p y ≡ b → cond b (Some y) (find p ys) ≡ None → (find p ys ≡ None → AllByRecursion (λ x. p x ≡ false) ys) → AllByRecursion (λ x. p x ≡ false) (y ∷ ys)
none_at p y ys true e h rest = cc
none_at p y ys false e h rest = (e, rest h)

pub all_fail : {X : Type 0} (p : X → Bool) (xs : List X) → find p xs ≡ None → AllByRecursion (λ x. p x ≡ false) xs
all_fail p [] h = tt
all_fail p (y ∷ ys) h = none_at p y ys (p y) refl h (all_fail p ys)

-- the same for a list of kinds instead of all kinds
record LeastOf (root : Data) (ks : List FaultKind) (kind : FaultKind) (place : TablePlace) : Type 0 where
  before : List FaultKind
  after : List FaultKind
  value : Data
  kinds_are : ks ≡ before ++ kind ∷ after
  there : Split (stands root kind) (walk root) (place, value)
  no_earlier_kind : AllByRecursion (StandsAtNone root (walk root)) before

least_at : (root : Data) (k : FaultKind) (ks : List FaultKind) (kind : FaultKind) (place : TablePlace) (o : Option Stop) → find (stands root k) (walk root) ≡ o
    → first (flat_map (faults_of root) (k ∷ ks)) ≡ Some (kind, place)
    → (first (flat_map (faults_of root) ks) ≡ Some (kind, place) → LeastOf root ks kind place) → LeastOf root (k ∷ ks) kind place
least_at root k ks kind place None e h rest =
    let l = rest (sym (first_of_two (stands root) (walk root) k ks None (rw e)) ∙ h) in
    record { before = k ∷ l.before; after = l.after; value = l.value; kinds_are = ap (λ zs. k ∷ zs) l.kinds_are; there = l.there; no_earlier_kind = (all_fail (stands root k) (walk root) e, l.no_earlier_kind) }
least_at root k ks kind place (Some s) e h rest =
    let t : first (flat_map (faults_of root) (k ∷ ks)) ≡ Some (k, s.0) = first_of_two (stands root) (walk root) k ks (Some (s.0)) (rw e) in
    let pair : (k, s.0) ≡ (kind, place) = same_Some _ _ (sym t ∙ h) in
    let same_kind : k ≡ kind = ap (λ p. p.0) pair in
    let same_place : s.0 ≡ place = ap (λ p. p.1) pair in
    let at_place : TablePlace → Type 0 = λ pl. Split (stands root k) (walk root) (pl, s.1) in
    let of_kind : FaultKind → Type 0 = λ z. Split (stands root z) (walk root) (place, s.1) in
    record {
      before = [];
      after = ks;
      value = s.1;
      kinds_are = ap (λ z. z ∷ ks) same_kind;
      there = subst of_kind same_kind (subst at_place same_place (split (stands root k) (walk root) s e));
      no_earlier_kind = tt;
    }

least_of : (root : Data) (ks : List FaultKind) (kind : FaultKind) (place : TablePlace) → first (flat_map (faults_of root) ks) ≡ Some (kind, place) → LeastOf root ks kind place
least_of root [] kind place h = cc
least_of root (k ∷ ks) kind place h = least_at root k ks kind place (find (stands root k) (walk root)) refl h (least_of root ks kind place)

pub is_least : (root : Data) (kind : FaultKind) (place : TablePlace) → first (faults root) ≡ Some (kind, place) → IsLeast root kind place
unfolding faults
is_least root kind place h =
    let l = least_of root kinds kind place h in
    record { before = l.before; after = l.after; front = l.there.front; value = l.value; back = l.there.back; kinds_are = l.kinds_are; walk_is = l.there.is; stands_there = l.there.passes; at_no_earlier_place = l.there.before; no_earlier_kind = l.no_earlier_kind }
