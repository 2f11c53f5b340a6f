-- The two laws of a line: what is read is spelled so, and what is spelled so is read.
use Rattle.std.proofs.Common.{◌≡◌, ℕ, true, List, ◌++◌, Some, refl, subst, rules}
use Rattle.std.specs.Prelude.{codes}
use Rattle.std.specs.Fmt.{decimal}
use Rattle.std.proofs.lemmas.Slice.Eq.{bytes_eq-Decides}
use Rattle.a429_cert.specs.Spelling.{Heading, Listing, Bounding, version_text, rate_text, group_text, output_text, bound_text, IsShort, FitsHeading, FitsListing, FitsBounding}
use Rattle.a429_cert.specs.Reading.{word_after, number_after, is_end, number_line, plan_line, rate_line, rate_part, hold_part, group_line, output_line, bound_line}
use Rattle.a429_cert.proofs.Fields.{bind_some, when_some, word_after_takes, word_after_again, number_after_takes, number_after_again}
use Rattle.a429_cert.proofs.Parts.{rate_part_takes, rate_part_again, ends_rate, hold_part_takes, hold_part_again, ends_hold}

end_is : (bytes : List ℕ) → is_end bytes ≡ true → bytes ≡ codes "\n"
unfolding is_end
end_is bytes h = search (rules, bytes_eq-Decides)

end_again : is_end (codes "\n") ≡ true
unfolding is_end
end_again = refl

number_line_takes : (text line : List ℕ) (n : ℕ) → number_line text line ≡ Some n → (line ≡ text ++ (decimal n ++ codes "\n")) × IsShort n
unfolding number_line
number_line_takes text line n e =
    bind_some (number_after text line) _ _ e (λ m at-m e.
    let w = when_some _ _ _ e in
    let t0 = number_after_takes text line m.0 m.1 at-m in
    let t1 = end_is m.1 w.0 in
    subst (λ (k : ℕ). (line ≡ text ++ (decimal k ++ codes "\n")) × IsShort k) w.1 (cc, t0.1))

number_line_again : (text : List ℕ) (n : ℕ) → IsShort n → number_line text (text ++ (decimal n ++ codes "\n")) ≡ Some n
unfolding number_line
number_line_again text n fits = rw (number_after_again text n _ fits refl, end_again) refl

pub plan_takes : (line : List ℕ) (version : ℕ) → plan_line line ≡ Some version → (line ≡ version_text version) × IsShort version
plan_takes line version e = number_line_takes (codes "plan ") line version e

pub plan_again : (version : ℕ) → IsShort version → plan_line (version_text version) ≡ Some version
plan_again version fits = number_line_again (codes "plan ") version fits

pub rate_takes : (line : List ℕ) (rate : ℕ) → rate_line line ≡ Some rate → (line ≡ rate_text rate) × IsShort rate
rate_takes line rate e = number_line_takes (codes "rate ") line rate e

pub rate_again : (rate : ℕ) → IsShort rate → rate_line (rate_text rate) ≡ Some rate
rate_again rate fits = number_line_again (codes "rate ") rate fits

pub group_takes : (version : ℕ) (line : List ℕ) (h : Heading) → group_line version line ≡ Some h → (line ≡ group_text h) × FitsHeading version h
unfolding group_line
group_takes version line h e =
    bind_some (word_after (codes "group ") line) _ _ e (λ n at-n e.
    bind_some (rate_part version n.1) _ _ e (λ r at-r e.
    bind_some (number_after (codes " frame ") r.1) _ _ e (λ f at-f e.
    bind_some (number_after (codes " buses ") f.1) _ _ e (λ m at-m e.
    let w = when_some _ _ _ e in
    let t0 = word_after_takes (codes "group ") line n.0 n.1 at-n in
    let t1 = rate_part_takes version n.1 r.0 r.1 at-r in
    let t2 = number_after_takes (codes " frame ") r.1 f.0 f.1 at-f in
    let t3 = number_after_takes (codes " buses ") f.1 m.0 m.1 at-m in
    let t4 = end_is m.1 w.0 in
    subst (λ (h : Heading). (line ≡ group_text h) × FitsHeading version h) w.1 (cc, record { name = t0.1; rate = t1.1; frame = t2.1; buses = t3.1 })))))

pub group_again : (version : ℕ) (h : Heading) → FitsHeading version h → group_line version (group_text h) ≡ Some h
unfolding group_line
group_again version h fits =
    rw (word_after_again (codes "group ") h.name _ fits.name (ends_rate h.rate _ refl), rate_part_again version h.rate _ fits.rate refl, number_after_again (codes " frame ") h.frame _ fits.frame refl, number_after_again (codes " buses ") h.buses _ fits.buses refl, end_again) refl

pub output_takes : (version : ℕ) (line : List ℕ) (l : Listing) → output_line version line ≡ Some l → (line ≡ output_text l) × FitsListing version l
unfolding output_line
output_takes version line l e =
    bind_some (word_after (codes "output ") line) _ _ e (λ s at-s e.
    bind_some (number_after (codes " period ") s.1) _ _ e (λ p at-p e.
    bind_some (number_after (codes " bus ") p.1) _ _ e (λ u at-u e.
    bind_some (number_after (codes " offset ") u.1) _ _ e (λ o at-o e.
    bind_some (hold_part version o.1) _ _ e (λ h at-h e.
    let w = when_some _ _ _ e in
    let t0 = word_after_takes (codes "output ") line s.0 s.1 at-s in
    let t1 = number_after_takes (codes " period ") s.1 p.0 p.1 at-p in
    let t2 = number_after_takes (codes " bus ") p.1 u.0 u.1 at-u in
    let t3 = number_after_takes (codes " offset ") u.1 o.0 o.1 at-o in
    let t4 = hold_part_takes version o.1 h.0 h.1 at-h in
    let t5 = end_is h.1 w.0 in
    subst (λ (l : Listing). (line ≡ output_text l) × FitsListing version l) w.1 (cc, record { source = t0.1; period = t1.1; bus = t2.1; offset = t3.1; hold = t4.1 }))))))

pub output_again : (version : ℕ) (l : Listing) → FitsListing version l → output_line version (output_text l) ≡ Some l
unfolding output_line
output_again version l fits =
    rw (word_after_again (codes "output ") l.source _ fits.source refl, number_after_again (codes " period ") l.period _ fits.period refl, number_after_again (codes " bus ") l.bus _ fits.bus refl, number_after_again (codes " offset ") l.offset _ fits.offset (ends_hold l.hold _ refl), hold_part_again version l.hold _ fits.hold refl, end_again) refl

pub bound_takes : (line : List ℕ) (b : Bounding) → bound_line line ≡ Some b → (line ≡ bound_text b) × FitsBounding b
unfolding bound_line
bound_takes line b e =
    bind_some (number_after (codes "bound ") line) _ _ e (λ d at-d e.
    bind_some (number_after (codes " > ") d.1) _ _ e (λ f at-f e.
    bind_some (number_after (codes " * ") f.1) _ _ e (λ h at-h e.
    let w = when_some _ _ _ e in
    let t0 = number_after_takes (codes "bound ") line d.0 d.1 at-d in
    let t1 = number_after_takes (codes " > ") d.1 f.0 f.1 at-f in
    let t2 = number_after_takes (codes " * ") f.1 h.0 h.1 at-h in
    let t3 = end_is h.1 w.0 in
    subst (λ (b : Bounding). (line ≡ bound_text b) × FitsBounding b) w.1 (cc, record { demand = t0.1; full_buses = t1.1; frame = t2.1 }))))

pub bound_again : (b : Bounding) → FitsBounding b → bound_line (bound_text b) ≡ Some b
unfolding bound_line
bound_again b fits =
    rw (number_after_again (codes "bound ") b.demand _ fits.demand refl, number_after_again (codes " > ") b.full_buses _ fits.full_buses refl, number_after_again (codes " * ") b.frame _ fits.frame refl, end_again) refl
