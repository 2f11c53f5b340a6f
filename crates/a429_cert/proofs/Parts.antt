-- The parts of a line that only a text of version 2 has: what is read is spelled so, and what is spelled so is read.
use Rattle.std.proofs.Common.{◌≡◌, ℕ, Bool, true, false, cond, List, ◌++◌, Option, Some, None, refl, sym, ap, subst, ◌∙◌, arith, rules}
use Rattle.std.specs.Prelude.{codes, is_some, IfSome}
use Rattle.std.specs.List.{list_all}
use Rattle.std.specs.Char.{is_ascii_digit}
use Rattle.std.specs.Fmt.{decimal}
use Rattle.std.specs.Str.{bytes_eq}
use Rattle.std.proofs.lemmas.Fmt.{digits_decimal}
use Rattle.std.proofs.lemmas.Option.{same_Some, some_pair_parts}
use Rattle.std.proofs.lemmas.Slice.Eq.{bytes_eq-Decides}
use Rattle.a429_cert.specs.Spelling.{says_more, said_in, when, rate_before, limit_text, hold_before, IsWord, IsShort, IsShortLimit, IsPart}
use Rattle.a429_cert.specs.Reading.{◌>>=◌, after, word, number_after, limit_of, limit, said_rate, rate_part, said_hold, hold_part}
use Rattle.a429_word.specs.Decimal.{decimal_number}
use Rattle.a429_word.proofs.Numerals.{digits_model}
use Rattle.a429_cert.proofs.Fields.{bind_some, after_takes, after_again, EndsWord, word_takes, word_again, value_takes, value_again, decimal_word, number_after_takes, number_after_again}

-- ---- what is said if a text says more

pub part_said : {A : Type 0} (P : A → Type 0) (version : ℕ) (x : A) → P x → IsPart version P (said_in version x)
part_said P version x h = by_test (says_more version) refl
  where
    by_test : (t : Bool) → says_more version ≡ t → IsPart version P (when (says_more version) x)
    by_test true e = rw e (record { there = sym e; holds = h })
    by_test false e = rw e (record { there = sym e; holds = tt })

-- ---- a limit

same_none : (w : List ℕ) → bytes_eq w (codes "none") ≡ true → w ≡ codes "none"
same_none w h = search (rules, bytes_eq-Decides)

limit_parts : (t : Bool) (w : List ℕ) (l : Option ℕ) → IsWord w → bytes_eq w (codes "none") ≡ t
    → cond {A = Option (Option ℕ)} t (Some None) (decimal_number w >>= λ n. Some (Some n)) ≡ Some l → (w ≡ limit_text l) × IsShortLimit l
limit_parts true w l word e h = subst (λ (l : Option ℕ). (w ≡ limit_text l) × IsShortLimit l) (same_Some None l h) (same_none w e, tt)
limit_parts false w l word e h =
    bind_some (decimal_number w) _ _ h (λ n at-n h. subst (λ (l : Option ℕ). (w ≡ limit_text l) × IsShortLimit l) (same_Some (Some n) l h) (value_takes w n word at-n))

limit_of_takes : (w : List ℕ) (l : Option ℕ) → IsWord w → limit_of w ≡ Some l → (w ≡ limit_text l) × IsShortLimit l
unfolding limit_of
limit_of_takes w l word h = limit_parts (bytes_eq w (codes "none")) w l word refl h

no_digits : (ds : List ℕ) → list_all is_ascii_digit ds ≡ true → bytes_eq ds (codes "none") ≡ false
no_digits ds h = by_test (bytes_eq ds (codes "none")) refl
  where
    by_test : (t : Bool) → bytes_eq ds (codes "none") ≡ t → bytes_eq ds (codes "none") ≡ false
    by_test true e = absurd (let none : list_all is_ascii_digit (codes "none") ≡ true = ap (list_all is_ascii_digit) (sym (same_none ds e)) ∙ h in cc)
    by_test false e = e

limit_of_again : (l : Option ℕ) → IsShortLimit l → limit_of (limit_text l) ≡ Some l
unfolding limit_of
limit_of_again None h = refl
limit_of_again (Some n) h = rw (no_digits (decimal n) (digits_decimal digits_model n (omega arith)), value_again n h) refl

limit_word : (l : Option ℕ) → IsShortLimit l → IsWord (limit_text l)
limit_word None h = record { some_byte = omega arith; unbroken = (refl, (refl, (refl, (refl, tt)))) }
limit_word (Some n) h = decimal_word n h

limit_takes : (bytes : List ℕ) (l : Option ℕ) (rest : List ℕ) → limit bytes ≡ Some (l, rest) → (bytes ≡ limit_text l ++ rest) × IsShortLimit l
unfolding limit
limit_takes bytes l rest e =
    bind_some (word bytes) _ _ e (λ w word-is e1. bind_some (limit_of w.0) _ _ e1 (λ m limit-is e2.
    let p = some_pair_parts m l w.1 rest e2 in
    let taken = word_takes bytes w.0 w.1 word-is in
    let spelled = limit_of_takes w.0 m taken.1 limit-is in
    (rw (← p.0, ← p.1) (taken.0 ∙ ap (λ (x : List ℕ). x ++ w.1) spelled.0), rw (← p.0) spelled.1)))

limit_again : (l : Option ℕ) (rest : List ℕ) → IsShortLimit l → EndsWord rest → limit (limit_text l ++ rest) ≡ Some (l, rest)
unfolding limit
limit_again l rest h ends = rw (word_again (limit_text l) rest (limit_word l h) ends, limit_of_again l h) refl

-- ---- the rate

rate_parts : (t : Bool) (bytes : List ℕ) (said : Option ℕ) (rest : List ℕ) → cond {A = Option (Option ℕ × List ℕ)} t (said_rate bytes) (Some (None, bytes)) ≡ Some (said, rest)
    → (bytes ≡ rate_before said rest) × (is_some said ≡ t) × IfSome said IsShort
unfolding said_rate
rate_parts true bytes said rest e =
    bind_some (number_after (codes " rate ") bytes) _ _ e (λ n at-n e.
    let p = some_pair_parts (Some n.0) said n.1 rest e in
    let t = number_after_takes (codes " rate ") bytes n.0 n.1 at-n in
    rw (← p.0, ← p.1) (t.0, refl, t.1))
rate_parts false bytes said rest e = let p = some_pair_parts None said bytes rest e in rw (← p.0) (p.1, refl, tt)

pub rate_part_takes : (version : ℕ) (bytes : List ℕ) (said : Option ℕ) (rest : List ℕ) → rate_part version bytes ≡ Some (said, rest)
    → (bytes ≡ rate_before said rest) × IsPart version IsShort said
unfolding rate_part
rate_part_takes version bytes said rest e = let p = rate_parts (says_more version) bytes said rest e in (p.0, record { there = p.1; holds = p.2 })

pub rate_part_again : (version : ℕ) (said : Option ℕ) (rest : List ℕ) → IsPart version IsShort said → EndsWord rest → rate_part version (rate_before said rest) ≡ Some (said, rest)
unfolding rate_part said_rate
rate_part_again version None rest h ends = let none = h.there in rw (← none) refl
rate_part_again version (Some rate) rest h ends = let some = h.there in rw (← some, number_after_again (codes " rate ") rate rest h.holds ends) refl

pub ends_rate : (said : Option ℕ) (rest : List ℕ) → EndsWord rest → EndsWord (rate_before said rest)
ends_rate None rest ends = ends
ends_rate (Some rate) rest ends = refl

-- ---- the hold

hold_parts : (t : Bool) (bytes : List ℕ) (said : Option (Option ℕ)) (rest : List ℕ)
    → cond {A = Option (Option (Option ℕ) × List ℕ)} t (said_hold bytes) (Some (None, bytes)) ≡ Some (said, rest)
    → (bytes ≡ hold_before said rest) × (is_some said ≡ t) × IfSome said IsShortLimit
unfolding said_hold
hold_parts true bytes said rest e =
    bind_some (after (codes " hold ") bytes) _ _ e (λ a at-a e. bind_some (limit a) _ _ e (λ n at-n e.
    let p = some_pair_parts (Some n.0) said n.1 rest e in
    let t0 = after_takes (codes " hold ") bytes a at-a in
    let t1 = limit_takes a n.0 n.1 at-n in
    rw (← p.0, ← p.1) (t0 ∙ ap (λ (x : List ℕ). codes " hold " ++ x) t1.0, refl, t1.1)))
hold_parts false bytes said rest e = let p = some_pair_parts None said bytes rest e in rw (← p.0) (p.1, refl, tt)

pub hold_part_takes : (version : ℕ) (bytes : List ℕ) (said : Option (Option ℕ)) (rest : List ℕ) → hold_part version bytes ≡ Some (said, rest)
    → (bytes ≡ hold_before said rest) × IsPart version IsShortLimit said
unfolding hold_part
hold_part_takes version bytes said rest e = let p = hold_parts (says_more version) bytes said rest e in (p.0, record { there = p.1; holds = p.2 })

pub hold_part_again : (version : ℕ) (said : Option (Option ℕ)) (rest : List ℕ) → IsPart version IsShortLimit said → EndsWord rest
    → hold_part version (hold_before said rest) ≡ Some (said, rest)
unfolding hold_part said_hold
hold_part_again version None rest h ends = let none = h.there in rw (← none) refl
hold_part_again version (Some hold) rest h ends = let some = h.there in rw (← some, after_again (codes " hold ") _, limit_again hold rest h.holds ends) refl

pub ends_hold : (said : Option (Option ℕ)) (rest : List ℕ) → EndsWord rest → EndsWord (hold_before said rest)
ends_hold None rest ends = ends
ends_hold (Some hold) rest ends = refl
