-- The reason against the line of an output, by the tests that it passes before.
use Rattle.std.proofs.Common.{◌≡◌, ◌≢◌, ℕ, ◌<◌, true, false, List, Some, None, refl, rules, tests}
use Rattle.std.specs.List.{list_any}
use Rattle.a429_cert.specs.declared.verdicts.Reason.{Reason}
use Rattle.a429_cert.specs.declared.verdicts.Reason.TheVariants as reasons
use Rattle.a429_cert.specs.declared.due.DueOutput.{DueOutput}
use Rattle.a429_cert.specs.declared.due.DueGroup.{DueGroup}
use Rattle.a429_cert.specs.Spelling.{Listing}
use Rattle.a429_cert.specs.Reading.{output_line}
use Rattle.a429_cert.specs.Faults.{output_of, is_listed, shares, says_other_hold, output_fault}

pub form_fault : (version : ℕ) (g : DueGroup) (buses : ℕ) (earlier : List Listing) (line : List ℕ) (r : Reason) → r ≡ reasons.Form → None ≡ output_line version line
    → output_fault version g buses earlier line ≡ Some r
unfolding output_fault
form_fault version g buses earlier line r is e = rw (is, ← e) refl

pub unknown_fault : (version : ℕ) (g : DueGroup) (buses : ℕ) (earlier : List Listing) (line : List ℕ) (l : Listing) (r : Reason) → r ≡ reasons.Output → Some l ≡ output_line version line
    → None ≡ output_of g l.source → output_fault version g buses earlier line ≡ Some r
unfolding output_fault
unknown_fault version g buses earlier line l r is e d = rw (is, ← e, ← d) refl

pub listed_fault : (version : ℕ) (g : DueGroup) (buses : ℕ) (earlier : List Listing) (line : List ℕ) (l : Listing) (o : DueOutput) (r : Reason) → r ≡ reasons.Output → Some l ≡ output_line version line
    → Some o ≡ output_of g l.source → true ≡ is_listed earlier l.source → output_fault version g buses earlier line ≡ Some r
unfolding output_fault
listed_fault version g buses earlier line l o r is e d n = rw (is, ← e, ← d, ← n) refl

pub period_fault : (version : ℕ) (g : DueGroup) (buses : ℕ) (earlier : List Listing) (line : List ℕ) (l : Listing) (o : DueOutput) (r : Reason) → r ≡ reasons.Period → Some l ≡ output_line version line
    → Some o ≡ output_of g l.source → false ≡ is_listed earlier l.source → l.period ≢ o.period → output_fault version g buses earlier line ≡ Some r
unfolding output_fault
period_fault version g buses earlier line l o r is e d n p = rw (is, ← e, ← d, ← n) (search (tests, rules))

pub shared_fault : (version : ℕ) (g : DueGroup) (buses : ℕ) (earlier : List Listing) (line : List ℕ) (l : Listing) (o : DueOutput) (r : Reason) → r ≡ reasons.Shared → Some l ≡ output_line version line
    → Some o ≡ output_of g l.source → false ≡ is_listed earlier l.source → l.period ≡ o.period → l.bus < buses → l.offset < l.period
    → true ≡ list_any (shares l) earlier → output_fault version g buses earlier line ≡ Some r
unfolding output_fault
shared_fault version g buses earlier line l o r is e d n p b f s = rw (is, ← e, ← d, ← n, ← s) (search (tests, rules))

pub hold_fault : (version : ℕ) (g : DueGroup) (buses : ℕ) (earlier : List Listing) (line : List ℕ) (l : Listing) (o : DueOutput) (r : Reason) → r ≡ reasons.Hold → Some l ≡ output_line version line
    → Some o ≡ output_of g l.source → false ≡ is_listed earlier l.source → l.period ≡ o.period → l.bus < buses → l.offset < l.period
    → false ≡ list_any (shares l) earlier → true ≡ says_other_hold l.hold o.hold → output_fault version g buses earlier line ≡ Some r
unfolding output_fault
hold_fault version g buses earlier line l o r is e d n p b f s h = rw (is, ← e, ← d, ← n, ← s, ← h) (search (tests, rules))

pub no_fault : (version : ℕ) (g : DueGroup) (buses : ℕ) (earlier : List Listing) (line : List ℕ) (l : Listing) (o : DueOutput) → Some l ≡ output_line version line
    → Some o ≡ output_of g l.source → false ≡ is_listed earlier l.source → l.period ≡ o.period → l.bus < buses → l.offset < l.period
    → false ≡ list_any (shares l) earlier → false ≡ says_other_hold l.hold o.hold → output_fault version g buses earlier line ≡ None
unfolding output_fault
no_fault version g buses earlier line l o e d n p b f s h = rw (← e, ← d, ← n, ← s, ← h) (search (tests, rules))
