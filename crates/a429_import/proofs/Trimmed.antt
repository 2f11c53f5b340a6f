-- Texts without blanks round them.
use Rattle.std.proofs.Common.{◌≡◌, ◌∙◌, ◌∷◌, ◌-◌, ◌<◌, [], ℕ, zero, suc, true, false, Bool, List, None, Option, Some, ap, ap₂, arith, cond, length, map, not, refl, sym}
use Rattle.std.specs.Prelude.{◌==◌}
use Rattle.std.specs.List.{list_all}
use Rattle.std.specs.Option.{is_some, option_map, option_map_or}
use Rattle.std.proofs.lemmas.Option.{none-some}
use Rattle.std.proofs.lemmas.Bool.{and_parts}
use Rattle.a429_import.specs.ImportWords.{after_blank, back_blank, before_blank, front_blank, has_no_blank, stepped, trimmed}

-- ---- steps

pub one_step : (step : List ℕ → Option (List ℕ)) (n : ℕ) (text rest : List ℕ) → 0 < n → step text ≡ Some rest → stepped step n text ≡ stepped step (n - 1) rest
unfolding stepped
one_step step zero text rest some is = absurd (omega (arith, some))
one_step step (suc n) text rest some is =
    let one : n ≡ suc n - 1 = omega arith in
    ap (λ (o : Option (List ℕ)). option_map_or (stepped step n) o text) is ∙ ap (λ (m : ℕ). stepped step m rest) one

pub no_step : (step : List ℕ → Option (List ℕ)) (n : ℕ) (text : List ℕ) → step text ≡ None → stepped step n text ≡ text
unfolding stepped
no_step step zero text is = refl
no_step step (suc n) text is = ap (λ (o : Option (List ℕ)). option_map_or (stepped step n) o text) is

pub last_step : (step : List ℕ → Option (List ℕ)) (n : ℕ) (text : List ℕ) → n ≡ 0 → stepped step n text ≡ text
unfolding stepped
last_step step n text is = ap (λ (m : ℕ). stepped step m text) is

-- ---- a field without blanks round it stays

some_unless : {X Y : Type 0} (f : X → Y) (o : Option X) (b : Bool) (y : Y) → option_map f o ≡ cond b None (Some y) → is_some o ≡ not b
some_unless f None true y e = refl
some_unless f None false y e = absurd (none-some y e)
some_unless f (Some x) true y e = absurd (none-some (f x) (sym e))
some_unless f (Some x) false y e = refl

not_same : (a b : Bool) → not a ≡ not b → a ≡ b
not_same true true e = refl
not_same true false e = sym e
not_same false true e = sym e
not_same false false e = refl

-- whether there is no blank, as the call of `is_none` answers it
pub none_if : {X Y : Type 0} (f : X → Y) (o : Option X) (b none : Bool) (y : Y) → option_map f o ≡ cond b None (Some y) → is_some o ≡ not none → none ≡ b
none_if f o b none y e some = not_same none b (sym some ∙ some_unless f o b y e)

no_front : (text : List ℕ) → (front_blank text == 0) ≡ true → after_blank text ≡ None
no_front text h = rw h refl

no_back : (text : List ℕ) → (back_blank text == 0) ≡ true → before_blank text ≡ None
no_back text h = rw h refl

pub field_stays : (field : List ℕ) → has_no_blank field ≡ true → trimmed field ≡ field
unfolding trimmed
field_stays field h =
    let parts = and_parts (front_blank field == 0) (back_blank field == 0) h in
    let front : stepped after_blank (length field) field ≡ field = no_step after_blank (length field) field (no_front field parts.0) in
    ap (λ (f : List ℕ). stepped before_blank (length f) f) front ∙ no_step before_blank (length field) field (no_back field parts.1)

pub fields_stay : (fields : List (List ℕ)) → list_all has_no_blank fields ≡ true → map trimmed fields ≡ fields
fields_stay [] h = refl
fields_stay (field ∷ fields) h =
    let parts = and_parts (has_no_blank field) (list_all has_no_blank fields) h in
    ap₂ (λ (x : List ℕ) (xs : List (List ℕ)). x ∷ xs) (field_stays field parts.0) (fields_stay fields parts.1)
