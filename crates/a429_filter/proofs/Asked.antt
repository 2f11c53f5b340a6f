-- one word more that a source was asked for
use Rattle.std.proofs.Common.{◌≡◌, ◌∙◌, ℕ, Bool, true, false, List, [], ◌∷◌, ◌++◌, map, refl, sym, ap, subst, append_assoc}
use Rattle.std.specs.Prelude.{Ok, Option, Some, None, filter, if◌then◌else◌, option_map}
use Rattle.std.proofs.lemmas.Option.{none-some}
use Rattle.std.specs.List.{FoldsTo}
use Rattle.std.proofs.lemmas.Fn.{FoldsTo-push}
use Rattle.std.proofs.lemmas.List.{map-append}
use Rattle.std.proofs.lemmas.List.Elements.{filter-append}
use Rattle.a429_filter.specs.Sources.{SourceAnswer}

abbrev answered : ℕ → SourceAnswer
answered raw = Ok (Some raw)

pub asked_next : {L : Type 0} (steps : L → SourceAnswer → L → Type 0) (p : L) (taken : List ℕ) (q : L) (raw : ℕ) (u : L)
    → FoldsTo steps p (map answered taken) q → steps q (Ok (Some raw)) u → FoldsTo steps p (map answered (taken ++ raw ∷ [])) u
asked_next steps p taken q raw u all one =
    subst (λ (answers : List SourceAnswer). FoldsTo steps p answers u) (sym (map-append answered taken (raw ∷ []))) (FoldsTo-push steps p (map answered taken) q (Ok (Some raw)) u all one)

pub given_next : (old taken mid now : List ℕ) (raw : ℕ) → mid ≡ old ++ taken → now ≡ mid ++ raw ∷ [] → now ≡ old ++ (taken ++ raw ∷ [])
given_next old taken mid now raw all one = one ∙ (ap (λ (x : List ℕ). x ++ raw ∷ []) all ∙ append_assoc old taken (raw ∷ []))

pub left_next : (taken : List ℕ) (raw : ℕ) (a m n : Option (List ℕ)) → a ≡ option_map (λ more. taken ++ more) m → m ≡ option_map (λ more. raw ∷ more) n → a ≡ option_map (λ more. (taken ++ raw ∷ []) ++ more) n
left_next taken raw a m None all one = all ∙ ap (option_map (λ (more : List ℕ). taken ++ more)) one
left_next taken raw a m (Some left) all one =
    all ∙ (ap (option_map (λ (more : List ℕ). taken ++ more)) one ∙ ap Some (sym (append_assoc taken (raw ∷ []) left)))

refused_one : (test : ℕ → Bool) (raw : ℕ) (b : Bool) → test raw ≡ b → (answer : Option ℕ) → answer ≡ (if b then Some raw else None) → answer ≡ None → filter test (raw ∷ []) ≡ []
refused_one test raw true is answer e none = absurd (none-some raw (sym none ∙ e))
refused_one test raw false is answer e none = rw is refl

pub refused_next : (test : ℕ → Bool) (taken : List ℕ) (raw : ℕ) (answer : Option ℕ) → filter test taken ≡ [] → answer ≡ (if test raw then Some raw else None) → answer ≡ None → filter test (taken ++ raw ∷ []) ≡ []
refused_next test taken raw answer all e none =
    filter-append test taken (raw ∷ []) ∙ (ap (λ (x : List ℕ). x ++ filter test (raw ∷ [])) all ∙ refused_one test raw (test raw) refl answer e none)
