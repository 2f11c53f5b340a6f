-- The places of an index while its sources are numbered.
use Rattle.std.proofs.Common.{◌≡◌, ◌==◌, ℕ, ◌+◌, ◌*◌, ◌<◌, ◌≤◌, ⊎_elim, Bool, true, false, cond, eqb, ltb, List, ◌∷◌, length, drop, get_or, replicate, set, drop_of_length-le, Fits, w8, Option, Some, None, refl, sym, subst, ap, ◌∙◌, arith}
use Rattle.std.proofs.lemmas.Bool.{and_parts, and_right, and_from, eqb-true, eq-eqb, cases_eq, cases_lt, false_from_ne_true, lt-ltb, le-ltb, ne_eqb, cases_order}
use Rattle.std.proofs.lemmas.Grind.{get_or-set_at}
use Rattle.std.proofs.lemmas.List.{at_drop_more, get_or-replicate, get_or-set_other, get_or_past, length-replicate}
use Rattle.std.proofs.lemmas.Iterator.Adapters.{position_from-zero}
use Rattle.std.specs.List.{position, position_from}
use Rattle.std.specs.Option.{option_map_or, option_or}
use Rattle.a429_equipment.specs.declared.rows.SourceRow.{SourceRow}
use Rattle.a429_equipment.specs.Index.{has_words, place, entry_at, given_at, with_words}

-- the source has words of this SDI
abbrev takes : SourceRow → ℕ → Bool
takes s sdi = option_map_or (λ k. k == sdi) s.sdi true

one_place : (r label k q other j : ℕ) → label < 256 → k < 4 → other < 256 → j < 4 → place r label k ≡ place q other j → (r ≡ q) × (label ≡ other) × (k ≡ j)
unfolding place
one_place r label k q other j a b c d e = (omega arith, omega arith, omega arith)

not_given : (x : Option ℕ) (m : ℕ) (b c : Bool) → (b ≡ true → c ≡ false) → cond b (option_or x (cond c (Some m) None)) x ≡ x
not_given x m true true h = let no = h refl in cc
not_given None m true false h = refl
not_given (Some y) m true false h = refl
not_given x m false c h = refl

-- what a place gets when one SDI of a source is noted
abbrev IsNoted : List (Option ℕ) → List (Option ℕ) → ℕ → SourceRow → ℕ → ℕ → ℕ → ℕ → Type 0
IsNoted new old m s j r label k = entry_at new r label k ≡ cond (eqb k j) (given_at old m s r label k) (entry_at old r label k)

noted_here : (old new : List (Option ℕ)) (m : ℕ) (s : SourceRow) (j r label k : ℕ) → takes s j ≡ true → r ≡ s.receiver → label ≡ s.label → k ≡ j
    → entry_at new r label k ≡ option_or (entry_at old s.receiver s.label j) (Some m) → IsNoted new old m s j r label k
noted_here old new m s j r label k taken same_r same_label same_k e =
    let has : has_words r label k s ≡ true = and_from _ _ (eq-eqb s.receiver r (sym same_r)) (and_from _ _ (eq-eqb s.label label (sym same_label)) (rw same_k taken)) in
    let at : entry_at old s.receiver s.label j ≡ entry_at old r label k = rw (same_r, same_label, same_k) in
    rw (eq-eqb k j same_k, has, ← at) e

noted_elsewhere : (old new : List (Option ℕ)) (m : ℕ) (s : SourceRow) (j r label k : ℕ) → (place r label k ≡ place s.receiver s.label j → ⊥)
    → entry_at new r label k ≡ entry_at old r label k → IsNoted new old m s j r label k
noted_elsewhere old new m s j r label k apart e =
    let no_words : eqb k j ≡ true → has_words r label k s ≡ false = λ same.
    false_from_ne_true (has_words r label k s) (λ has.
    let (receiver, rest) = and_parts _ _ has in
    let (own, _) = and_parts _ _ rest in
    apart (rw (eqb-true s.receiver r receiver, eqb-true s.label label own, eqb-true k j same))) in
    e ∙ sym (not_given (entry_at old r label k) m (eqb k j) (has_words r label k s) no_words)

noted_at : (old : List (Option ℕ)) (m : ℕ) (s : SourceRow) (j : ℕ) (b : Bool) → takes s j ≡ b → j < 4 → s.label < 256 → place s.receiver s.label j < length old
    → (r label k : ℕ) → label < 256 → k < 4 → IsNoted (with_words old m s j) old m s j r label k
unfolding with_words
noted_at old m s j true taken few own within r label k small less =
    let q = place s.receiver s.label j in
    let v = option_or (entry_at old s.receiver s.label j) (Some m) in
    rw taken
    (⊎_elim
    (λ same.
    let (same_r, same_label, same_k) = one_place r label k s.receiver s.label j small less own few same in
    noted_here old (set old q v) m s j r label k taken same_r same_label same_k (get_or-set_at old q (place r label k) v None same within))
    (λ apart. noted_elsewhere old (set old q v) m s j r label k apart (get_or-set_other old q (place r label k) v None apart))
    (cases_eq (place r label k) q))
noted_at old m s j false taken few own within r label k small less =
    let no_words : eqb k j ≡ true → has_words r label k s ≡ false = λ same.
    let own_words : takes s k ≡ false = rw (eqb-true k j same) taken in
    and_right _ _ (and_right _ _ own_words) in
    rw taken (sym (not_given (entry_at old r label k) m (eqb k j) (has_words r label k s) no_words))

-- one more SDI: x is the entry after it, y before it, and z at the start
one_more : (k j : ℕ) (x y z given_y given_z : Option ℕ) → x ≡ cond (eqb k j) given_y y → y ≡ cond (ltb k j) given_z z → (y ≡ z → given_y ≡ given_z) → x ≡ cond (ltb k (j + 1)) given_z z
one_more k j x y z given_y given_z e f g =
    ⊎_elim
    (λ same.
    let before : y ≡ z = rw (le-ltb k j (omega arith)) at f in
    rw (lt-ltb k (j + 1) (omega arith)) ((rw (eq-eqb k j same) at e) ∙ g before))
    (⊎_elim
    (λ below. rw (lt-ltb k (j + 1) (omega arith)) ((rw (ne_eqb k j (λ same. omega arith)) at e) ∙ (rw (lt-ltb k j below) at f)))
    (λ above. rw (le-ltb k (j + 1) (omega arith)) ((rw (ne_eqb k j (λ same. omega arith)) at e) ∙ (rw (le-ltb k j (omega arith)) at f))))
    (cases_order k j)

-- the step of the loop over the SDIs of a source
pub words_more : (initial old : List (Option ℕ)) (m : ℕ) (s : SourceRow) (j : ℕ) → j < 4 → s.label < 256 → 1024 * s.receiver + 1024 ≤ length old
    → ((r label k : ℕ) → label < 256 → k < 4 → entry_at old r label k ≡ cond (ltb k j) (given_at initial m s r label k) (entry_at initial r label k))
    → (r label k : ℕ) → label < 256 → k < 4 → entry_at (with_words old m s j) r label k ≡ cond (ltb k (j + 1)) (given_at initial m s r label k) (entry_at initial r label k)
unfolding place
words_more initial old m s j few own known before r label k small less =
    one_more k j _ (entry_at old r label k) (entry_at initial r label k) (given_at old m s r label k) (given_at initial m s r label k)
    (noted_at old m s j (takes s j) refl few own (omega arith) r label k small less)
    (before r label k small less)
    (λ same. rw same)

or_none : (o : Option ℕ) → o ≡ option_or o None
or_none None = refl
or_none (Some x) = refl

-- the entry once no source is left
pub all_noted : (o : Option ℕ) (p : SourceRow → Bool) (n : ℕ) (sources : List SourceRow) → length sources ≤ n → option_or o (position_from p n (drop n sources)) ≡ position_from p 0 sources
    → o ≡ position p sources
all_noted o p n sources end h = or_none o ∙ (rw (drop_of_length-le sources end) at h) ∙ sym (position_from-zero p sources)

-- ---- the loop over the sources

-- at first no place has a number
pub none_noted : (places : List (Option ℕ)) (n p : ℕ) (rest : Option ℕ) → places ≡ replicate n None → option_or (get_or places p None) rest ≡ rest
none_noted places n p rest free =
    let nowhere : List (Option ℕ) = replicate n None in
    let long : length nowhere ≡ n = length-replicate n None in
    let none : get_or nowhere p None ≡ None = ⊎_elim (λ below. get_or-replicate n p None None below) (λ past. get_or_past nowhere p None (subst (λ m. m ≤ p) (sym long) past)) (cases_lt p n) in
    rw (free, none) refl

gives_more : (o : Option ℕ) (b : Bool) (n : ℕ) (rest : Option ℕ) → option_or (option_or o (cond b (Some n) None)) rest ≡ option_or o (cond b (Some n) rest)
gives_more None true n rest = refl
gives_more None false n rest = refl
gives_more (Some m) b n rest = refl

pub source_noted : (old new : List (Option ℕ)) (number : ℕ) (s : SourceRow) (sources : List SourceRow) (r label k : ℕ) → number < length sources → s ≡ get_or sources number s
    → entry_at new r label k ≡ given_at old number s r label k
    → option_or (entry_at old r label k) (position_from (has_words r label k) number (drop number sources)) ≡ position_from (has_words r label k) 0 sources
    → option_or (entry_at new r label k) (position_from (has_words r label k) (number + 1) (drop (number + 1) sources)) ≡ position_from (has_words r label k) 0 sources
source_noted old new number s sources r label k below is given before =
    let p = has_words r label k in
    let entry = entry_at old r label k in
    let rest = drop (number + 1) sources in
    ap (λ e. option_or e (position_from p (number + 1) rest)) given
    ∙ gives_more entry (p s) number (position_from p (number + 1) rest)
    ∙ ap (λ x. option_or entry (position_from p number (x ∷ rest))) is
    ∙ sym (at_drop_more (λ xs. option_or entry (position_from p number xs)) sources number s below)
    ∙ before

pub number_fits : (number count : ℕ) → number < count → count ≤ 256 → Fits w8 number
number_fits number count below few = omega arith

-- a source has a receiver, so the places have room for its words
pub places_fit : (places : List (Option ℕ)) (sources : List SourceRow) (number receivers : ℕ) (s : SourceRow) → ((k : ℕ) (d : SourceRow) → k < length sources → (get_or sources k d).receiver < receivers) → number < length sources → s ≡ get_or sources number s
    → receivers ≤ 16 → length places ≡ 1024 * receivers → (s.receiver < 16) × (1024 * s.receiver + 1024 ≤ length places)
places_fit places sources number receivers s known below is few size =
    let own : s.receiver < receivers = subst (λ (x : SourceRow). x.receiver < receivers) (sym is) (known number s below) in
    (omega arith, omega arith)
