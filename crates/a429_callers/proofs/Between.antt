-- A load between two meetings.
use Rattle.std.proofs.Common.{◌≡◌, ◌∙◌, ◌++◌, ℕ, List, [], ◌∷◌, sym, subst, ap, arith, append-nil, append_assoc}
use Rattle.std.specs.Prelude.{Bool, true, Option}
use Rattle.std.proofs.lemmas.List.{take_all}
use Rattle.a429_equipment.specs.declared.loads.Load.{Load}
use Rattle.a429_equipment.specs.TableRecord.{TableRecord}
use Rattle.a429_equipment.specs.Agreement.{AgreesTo, Cuts, IsCutOfLoad, is_of, last_of, words_of}
use Rattle.a429_values.specs.Later.{StaysWhole}

pub between : (t : TableRecord) (r s count last : ℕ) (A : List (ℕ × ℕ)) (loads rest : List Load) (word : Option ℕ)
    → is_of t r s ≡ true → StaysWhole t r A loads
    → AgreesTo t r A ((loads ++ record { source = s; count = count; word = word } ∷ []) ++ rest) last
    → word ≡ last_of (words_of s A)
between t r s count last A loads rest word own whole agrees =
    let l : Load = record { source = s; count = count; word = word } in
    let flat : AgreesTo t r A (loads ++ l ∷ rest) last = subst (λ (ls : List Load). AgreesTo t r A ls last) (append_assoc loads (l ∷ []) rest) agrees in
    let all : Cuts (is_of t r) (A ++ []) 0 (loads ++ l ∷ rest) last = subst (λ (B : List (ℕ × ℕ)). Cuts (is_of t r) B 0 (loads ++ l ∷ rest) last) (sym (append-nil A)) flat in
    let (cut, within, before, cuts) = whole [] (l ∷ rest) last all in
    let later : Cuts (is_of t r) A cut (l ∷ rest) last = subst (λ (B : List (ℕ × ℕ)). Cuts (is_of t r) B cut (l ∷ rest) last) (append-nil A) cuts in
    let is : IsCutOfLoad true A cut l later.0 = subst (λ (b : Bool). IsCutOfLoad b A cut l later.0) own later.1 in
    ap (λ (x : Load). x.word) is.2 ∙ ap (λ (B : List (ℕ × ℕ)). last_of (words_of s B)) (take_all later.0 A (omega (arith, within, is.0)))
