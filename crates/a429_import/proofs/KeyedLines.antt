-- Lines with keys of sources.
use Rattle.std.proofs.Common.{◌≡◌, ◌∙◌, ℕ, ◌<◌, Bool, cond, List, [], Option, None, Some, get_or, get_or-set_other, get_or-set_same, inl, inr, length, length-set, set, ap, refl, sym}
use Rattle.std.proofs.lemmas.Bool.{cases_eq, eq-eqb, ne_eqb}
use Rattle.a429_import.specs.KeyedLines.{is_place, with_text}

pub keyed_length : (source : Option ℕ) (text : List ℕ) (fields : List (List ℕ)) → length (with_text source text fields) ≡ length fields
keyed_length None text fields = refl
keyed_length (Some place) text fields = length-set fields place text

-- the field at a place, with the text
pub keyed_field : (source : Option ℕ) (text : List ℕ) (fields : List (List ℕ)) (i : ℕ) → i < length fields
    → get_or (with_text source text fields) i [] ≡ cond (is_place i source) text (get_or fields i [])
keyed_field None text fields i below = refl
keyed_field (Some place) text fields i below =
    let own : List ℕ = get_or fields i [] in
    elim (cases_eq place i) [
      | inl same ↦
          ap (λ (n : ℕ). get_or (set fields n text) i []) same ∙ get_or-set_same fields i text [] below
          ∙ sym (ap (λ (b : Bool). cond b text own) (eq-eqb place i same))
      | inr apart ↦
          get_or-set_other fields place i text [] (λ e. apart (sym e)) ∙ sym (ap (λ (b : Bool). cond b text own) (ne_eqb place i apart))
    ]
