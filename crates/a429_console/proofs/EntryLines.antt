-- What the first line of a text states, and the lines after it.
use Rattle.std.proofs.Common.{◌≡◌, ◌∙◌, ◌+◌, ◌<◌, ℕ, List, [], ◌∷◌, ◌++◌, length, refl, sym, ap, arith, append_assoc, length-append}
use Rattle.std.specs.Prelude.{Option, Some, None, Result, Ok, Err, option_map, option_and_then}
use Rattle.a429_text.specs.CutText.{cut}
use Rattle.a429_console.specs.Lines.{entries_after, entries_before, entries_from, entry_then, first_entry}
use Rattle.a429_text.proofs.CutLines.{lines_by, lines-cut}

-- what the first entry of a text says of all
abbrev pub after_first : {A : Type 0} → (List ℕ → Option A) → ℕ → Option (A × List ℕ) → Result (List A) ℕ
after_first states n None = Err (n + 1)
after_first states n (Some p) = entries_before (p.0 ∷ []) (entries_after states (n + 1) p.1)

-- the first entry, by the cut and by what the line before it states
abbrev first_by : {A : Type 0} → List ℕ → Option A → Option (A × List ℕ)
first_by rest entry = option_map (λ e. (e, rest)) entry

from_line : {A : Type 0} (states : List ℕ → Option A) (n : ℕ) (rest : List ℕ) (entry : Option A)
    → entry_then entry (n + 1) (entries_after states (n + 1) rest) ≡ after_first states n (first_by rest entry)
from_line states n rest None = refl
from_line states n rest (Some e) = refl

from_cut : {A : Type 0} (states : List ℕ → Option A) (n x : ℕ) (xs : List ℕ) (o : Option (List ℕ × List ℕ))
    → entries_from states (n + 1) (lines_by o (x ∷ xs)).0 (lines_by o (x ∷ xs)).1 ≡ after_first states n (option_and_then (λ p. first_by p.1 (states p.0)) o)
from_cut states n x xs None = refl
from_cut states n x xs (Some p) = from_line states n p.1 (states p.0)

-- the entries of a text that is not empty, after n lines
pub entries_step : {A : Type 0} (states : List ℕ → Option A) (n : ℕ) (text : List ℕ) → 0 < length text → entries_after states n text ≡ after_first states n (first_entry states text)
entries_step states n [] some = absurd (omega (arith, some))
entries_step states n (x ∷ xs) some =
    ap (λ (l : List (List ℕ) × List ℕ). entries_from states (n + 1) l.0 l.1) (lines-cut (x ∷ xs)) ∙ from_cut states n x xs (cut 10 (x ∷ xs))

pub entries_before-nil : {A : Type 0} (r : Result (List A) ℕ) → entries_before [] r ≡ r
entries_before-nil (Ok entries) = refl
entries_before-nil (Err n) = refl

pub entries_before-append : {A : Type 0} (es : List A) (e : A) (r : Result (List A) ℕ) → entries_before es (entries_before (e ∷ []) r) ≡ entries_before (es ++ e ∷ []) r
entries_before-append es e (Ok later) = ap Ok (sym (append_assoc es (e ∷ []) later))
entries_before-append es e (Err n) = refl

-- ---- entries taken one after another

no_first : {A : Type 0} (states : List ℕ → Option A) (e : A) (rest : List ℕ) → first_entry states [] ≡ Some (e, rest) → ⊥
unfolding cut
no_first states e rest first = cc

-- one entry more
pub entries_next : {A : Type 0} (states : List ℕ → Option A) (done : List A) (e : A) (text rest : List ℕ) → first_entry states text ≡ Some (e, rest)
    → entries_before done (entries_after states (length done) text) ≡ entries_before (done ++ e ∷ []) (entries_after states (length (done ++ e ∷ [])) rest)
entries_next states done e [] rest first = absurd (no_first states e rest first)
entries_next states done e (x ∷ xs) rest first =
    let step = entries_step states (length done) (x ∷ xs) (omega arith) in
    let count : length (done ++ e ∷ []) ≡ length done + 1 = length-append done (e ∷ []) in
    rw (step, first, entries_before-append done e (entries_after states (length done + 1) rest), count) refl
