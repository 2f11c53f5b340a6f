-- Lines that state a checked plan have no fault.
use Rattle.std.proofs.Common.{◌≡◌, ◌≢◌, ℕ, ◌+◌, ◌-◌, ◌*◌, ◌<◌, ◌≤◌, Bool, true, false, cond, eqb, ltb, ◌&&◌, ◌||◌, List, [], ◌∷◌, ◌++◌, length, Option, Some, None, refl, sym, ◌∙◌, arith, rules, eq-eqb, ◌%◌, min, inl, inr, map, take, append_assoc, add-one}
use Rattle.std.specs.List.{AllByRecursion, list_any, onto_first, filter_map}
use Rattle.std.specs.Str.{bytes_eq}
use Rattle.std.proofs.lemmas.Bool.{and_parts, eqb-true, cases_lt, lt-ltb, le-leb}
use Rattle.std.proofs.lemmas.List.{length-map, take_at, length-append, map-append}
use Rattle.std.proofs.Math.Nat.{mod-eq_of_lt}
use Rattle.std.proofs.lemmas.Bool.Decides.{nat_tests}
use Rattle.std.proofs.lemmas.Slice.Eq.{bytes_eq-Decides}
use Rattle.a429_word.proofs.Lists.{false_unless, all_push}
use Rattle.a429_equipment.specs.SameStation.{same_number}
use Rattle.a429_cert.specs.declared.due.DueGroup.{DueGroup}
use Rattle.a429_cert.specs.Spelling.{Heading, Listing, Bounding, when, says_more, group_text, output_text, bound_text, FitsHeading, FitsListing, FitsBounding}
use Rattle.a429_cert.specs.Reading.{output_line}
use Rattle.a429_cert.specs.Lines.{lines_of, line_at}
use Rattle.a429_cert.specs.Faults.{group_fault, output_fault, hold_of, says_other_rate, says_other_hold, frame, is_listed, shares, has_bad_place, output_faults, first_no, group_faults, bound_fault, bound_holds, demand, buses_of}
use Rattle.a429_cert.specs.Checked.{Stated, CellsAreApart, EachPair}
use Rattle.a429_cert.proofs.DuePlans.{IsCheckedAsDue, IsPlacedAsDue}
use Rattle.a429_cert.proofs.LineLaws.{group_again, output_again, bound_again}
use Rattle.a429_cert.proofs.CheckedPlans.{HeadingHolds, ListingHolds, same_bytes, buses_said}
use Rattle.a429_cert.proofs.Groups.{pass_front}

-- a line at the front of a text
line_more : (t : Bool) (b : ℕ) (w rest : List ℕ) (lines : List (List ℕ)) → t ≡ false → lines ≡ (w ++ 10 ∷ []) ∷ lines_of rest
    → cond t ((b ∷ []) ∷ lines) (onto_first b lines) ≡ (b ∷ (w ++ 10 ∷ [])) ∷ lines_of rest
line_more t b w rest lines f e = rw (f, e) refl

pub lines_front : (w rest : List ℕ) → AllByRecursion (λ b. eqb b 10 ≡ false) w → lines_of (w ++ 10 ∷ rest) ≡ (w ++ 10 ∷ []) ∷ lines_of rest
lines_front [] rest h = refl
lines_front (b ∷ bs) rest h = line_more (eqb b 10) b bs rest (lines_of (bs ++ 10 ∷ rest)) h.0 (lines_front bs rest h.1)

pub same_again : (xs ys : List ℕ) → xs ≡ ys → bytes_eq xs ys ≡ true
same_again xs ys e = search (rules, bytes_eq-Decides)

passes_rate : (t : Bool) (rate : ℕ) → says_other_rate (when t rate) rate ≡ false
passes_rate true rate = rw (eq-eqb rate rate refl) refl
passes_rate false rate = refl

same_limits : (l : Option ℕ) → same_number l l ≡ true
same_limits None = refl
same_limits (Some n) = eq-eqb n n refl

passes_hold : (t : Bool) (hold : Option ℕ) → says_other_hold (when t hold) hold ≡ false
passes_hold true hold = rw (same_limits hold) refl
passes_hold false hold = refl

pub heading_passes : (version : ℕ) (g : DueGroup) (h : Heading) → FitsHeading version h → HeadingHolds version g h → group_fault version g (group_text h) ≡ None
unfolding group_fault
heading_passes version g h fits holds =
    let rate : says_other_rate h.rate g.rate ≡ false = rw holds.rate (passes_rate (says_more version) g.rate) in
    let name = same_again h.name g.name holds.name in
    let greatest : eqb h.frame (frame g) ≡ true = eq-eqb h.frame (frame g) holds.greatest in
    let few : (eqb h.buses 0 || ltb 16 h.buses) ≡ false = let a = holds.some_bus in let b = holds.few_buses in grind (arith, nat_tests) in
    rw (group_again version h fits, rate, name, greatest, few) refl

pub listing_passes : (version : ℕ) (g : DueGroup) (buses : ℕ) (earlier : List Listing) (l : Listing) → FitsListing version l → ListingHolds version g buses earlier l → output_fault version g buses earlier (output_text l) ≡ None
unfolding output_fault
listing_passes version g buses earlier l fits holds =
    let place : has_bad_place buses l ≡ false = let a = holds.placed.bus in let b = holds.placed.offset in grind (arith, nat_tests) in
    let same : eqb l.period l.period ≡ true = eq-eqb l.period l.period refl in
    let hold : says_other_hold l.hold (hold_of g l.source) ≡ false = rw holds.placed.hold (passes_hold (says_more version) (hold_of g l.source)) in
    rw (output_again version l fits, hold, holds.placed.listed, holds.new, same, place, holds.alone) refl

either_false : (a b : Bool) → a ≡ false → b ≡ false → (a || b) ≡ false
either_false a b e f = rw (e, f) refl

-- ---- two outputs with no common cell

small_rest : (o p : ℕ) → o < p → o % p ≡ o
small_rest o p lt = mod-eq_of_lt lt

-- offsets that are equal modulo the smaller period meet at the offset of the greater one
meet_here : (k l : Listing) → k.offset < k.period → l.offset < l.period → l.bus ≡ k.bus → l.offset % l.period ≡ k.offset % l.period → CellsAreApart k l → ⊥
meet_here k l small-k small-l bus same apart =
    apart k.bus k.offset (record { on_bus = refl; at_offset = small_rest k.offset k.period small-k }) (record { on_bus = sym bus; at_offset = sym same ∙ small_rest l.offset l.period small-l })

meet_there : (k l : Listing) → k.offset < k.period → l.offset < l.period → l.bus ≡ k.bus → l.offset % k.period ≡ k.offset % k.period → CellsAreApart k l → ⊥
meet_there k l small-k small-l bus same apart =
    apart k.bus l.offset (record { on_bus = refl; at_offset = same ∙ small_rest k.offset k.period small-k }) (record { on_bus = sym bus; at_offset = small_rest l.offset l.period small-l })

pub apart_passes : (k l : Listing) → k.offset < k.period → l.offset < l.period → CellsAreApart k l → shares l k ≡ false
apart_passes k l small-k small-l apart =
    false_unless (shares l k) (λ t.
    let p = and_parts _ _ t in
    let bus = eqb-true l.bus k.bus p.0 in
    let same = eqb-true (l.offset % min l.period k.period) (k.offset % min l.period k.period) p.1 in
    elim (cases_lt k.period l.period) [
      | inl lt ↦ let m : min l.period k.period ≡ k.period = omega arith in meet_there k l small-k small-l bus (rw m at same) apart
      | inr le ↦ let m : min l.period k.period ≡ l.period = omega arith in meet_here k l small-k small-l bus (rw m at same) apart
    ])

-- ---- the lines of a group's outputs

texts_listed : (version : ℕ) (ls : List Listing) → AllByRecursion (FitsListing version) ls → filter_map (output_line version) (map output_text ls) ≡ ls
texts_listed version [] h = refl
texts_listed version (l ∷ ls) h = rw (output_again version l h.0, texts_listed version ls h.1) refl

-- each listing holds with the ones before it
abbrev pub EachHolds : ℕ → DueGroup → ℕ → List Listing → List Listing → Type 0
EachHolds version g buses earlier [] = Unit {0}
EachHolds version g buses earlier (l ∷ ls) = ListingHolds version g buses earlier l × EachHolds version g buses (earlier ++ l ∷ []) ls

get_or_at : (xs : List (List ℕ)) (y : List ℕ) (ys : List (List ℕ)) (n : ℕ) → length xs ≡ n → line_at (xs ++ y ∷ ys) n ≡ y
get_or_at [] y ys n e = rw (← e) refl
get_or_at (x ∷ xs) y ys n e = rw (← e) (get_or_at xs y ys (length xs) refl)

pub outputs_pass : (version : ℕ) (g : DueGroup) (buses number : ℕ) (lines rest : List (List ℕ)) (earlier todo : List Listing) → AllByRecursion (FitsListing version) earlier → AllByRecursion (FitsListing version) todo → EachHolds version g buses earlier todo
    → lines ≡ map output_text earlier ++ (map output_text todo ++ rest)
    → first_no number (output_faults version g buses lines (length earlier) (length todo)) ≡ None
outputs_pass version g buses number lines rest earlier [] fits-e fits-t h e = refl
outputs_pass version g buses number lines rest earlier (l ∷ ls) fits-e fits-t h e =
    let mapped : length (map output_text earlier) ≡ length earlier = length-map earlier output_text in
    let listed : filter_map (output_line version) (take (length earlier) lines) ≡ earlier = rw (e, take_at (map output_text earlier) (map output_text (l ∷ ls) ++ rest) (length earlier) mapped) (texts_listed version earlier fits-e) in
    let at-line : line_at lines (length earlier) ≡ output_text l = rw e (get_or_at (map output_text earlier) (output_text l) (map output_text ls ++ rest) (length earlier) mapped) in
    let none : output_fault version g buses (filter_map (output_line version) (take (length earlier) lines)) (line_at lines (length earlier)) ≡ None = rw (listed, at-line) (listing_passes version g buses earlier l fits-t.0 h.0) in
    let next : length (earlier ++ l ∷ []) ≡ length earlier + 1 = length-append earlier (l ∷ []) in
    let regrouped : lines ≡ map output_text (earlier ++ l ∷ []) ++ (map output_text ls ++ rest) = e ∙ rw (map-append, append_assoc) refl in
    rw (none, ← next) (outputs_pass version g buses (number + 1) lines rest (earlier ++ l ∷ []) ls (all_push (FitsListing version) earlier l fits-e fits-t.0) fits-t.1 h.1 regrouped)

-- ---- from pairs to each listing with the ones before it

all_at : (P : Listing → Type 0) (xs : List Listing) (y : Listing) (ys : List Listing) → AllByRecursion P (xs ++ y ∷ ys) → P y
all_at P [] y ys h = h.0
all_at P (x ∷ xs) y ys h = all_at P xs y ys h.1

pair_before : (R : Listing → Listing → Type 0) (xs : List Listing) (y : Listing) (ys : List Listing) → EachPair R (xs ++ y ∷ ys) → AllByRecursion (λ x. R x y) xs
pair_before R [] y ys h = tt
pair_before R (x ∷ xs) y ys h = (all_at (R x) xs y ys h.0, pair_before R xs y ys h.1)

differ_again : (xs ys : List ℕ) → xs ≢ ys → bytes_eq xs ys ≡ false
differ_again xs ys h = false_unless (bytes_eq xs ys) (λ t. h (same_bytes xs ys t))

new_again : (earlier : List Listing) (l : Listing) → AllByRecursion (λ k. k.source ≢ l.source) earlier → is_listed earlier l.source ≡ false
new_again [] l h = refl
new_again (k ∷ ks) l h = rw (differ_again k.source l.source h.0, new_again ks l h.1) refl

alone_again : (version : ℕ) (g : DueGroup) (buses : ℕ) (earlier : List Listing) (l : Listing) → AllByRecursion (IsPlacedAsDue version g buses) earlier → IsPlacedAsDue version g buses l → AllByRecursion (λ k. CellsAreApart k l) earlier → list_any (shares l) earlier ≡ false
alone_again version g buses [] l placed pl h = refl
alone_again version g buses (k ∷ ks) l placed pl h = either_false (shares l k) (list_any (shares l) ks) (apart_passes k l placed.0.offset pl.offset h.0) (alone_again version g buses ks l placed.1 pl h.1)

placed_push : (version : ℕ) (g : DueGroup) (buses : ℕ) (xs : List Listing) (y : Listing) → AllByRecursion (IsPlacedAsDue version g buses) xs → IsPlacedAsDue version g buses y → AllByRecursion (IsPlacedAsDue version g buses) (xs ++ y ∷ [])
placed_push version g buses [] y h p = (p, tt)
placed_push version g buses (x ∷ xs) y h p = (h.0, placed_push version g buses xs y h.1 p)

pub each_holds : (version : ℕ) (g : DueGroup) (buses : ℕ) (earlier todo : List Listing) → AllByRecursion (IsPlacedAsDue version g buses) earlier → AllByRecursion (IsPlacedAsDue version g buses) todo
    → EachPair (λ k l. k.source ≢ l.source) (earlier ++ todo) → EachPair CellsAreApart (earlier ++ todo) → EachHolds version g buses earlier todo
each_holds version g buses earlier [] pe pt once apart = tt
each_holds version g buses earlier (l ∷ ls) pe pt once apart =
    let regrouped : (earlier ++ l ∷ []) ++ ls ≡ earlier ++ l ∷ ls = append_assoc earlier (l ∷ []) ls in (
      record {
        placed = pt.0;
        new = new_again earlier l (pair_before (λ k l. k.source ≢ l.source) earlier l ls once);
        alone = alone_again version g buses earlier l pe pt.0 (pair_before CellsAreApart earlier l ls apart);
      },
      each_holds version g buses (earlier ++ l ∷ []) ls (placed_push version g buses earlier l pe pt.0) pt.1 (rw regrouped once) (rw regrouped apart),
    )

-- ---- a group

five_true : (a b c d e : Bool) → a ≡ true → b ≡ true → c ≡ true → d ≡ true → e ≡ true → (a && b && c && d && e) ≡ true
five_true a b c d e p q r s t = cc

-- what the last line of a checked plan states
pub record StatesBound (g : DueGroup) (buses : ℕ) (b : Bounding) : Type 0 where
  pub demand : b.demand ≡ demand g
  pub full : b.full_buses ≡ buses - 1
  pub frame : b.frame ≡ frame g
  pub above : b.full_buses * b.frame < b.demand
  pub within : b.demand ≤ buses * b.frame

pub bound_passes : (g : DueGroup) (buses : ℕ) (b : Bounding) → FitsBounding b → StatesBound g buses b → bound_fault g buses (bound_text b) ≡ None
unfolding bound_fault
bound_passes g buses b fits h =
    let holds : bound_holds g buses b ≡ true = five_true _ _ _ _ _ (eq-eqb _ _ h.demand) (eq-eqb _ _ h.full) (eq-eqb _ _ h.frame) (lt-ltb _ _ h.above) (le-leb _ _ h.within) in
    rw (bound_again b fits, holds) refl

-- what is spelled
pub record FitsStated (version : ℕ) (s : Stated) : Type 0 where
  pub heading : FitsHeading version s.heading
  pub outputs : AllByRecursion (FitsListing version) s.outputs
  pub bound : FitsBounding s.bound

pub group_passes_again : (version : ℕ) (g : DueGroup) (number : ℕ) (s : Stated) (more : List (List ℕ)) → FitsStated version s → IsCheckedAsDue version g s → StatesBound g s.heading.buses s.bound
    → first_no number (group_faults version g (group_text s.heading ∷ (map output_text s.outputs ++ bound_text s.bound ∷ more))) ≡ None
group_passes_again version g number s more fits checked bound =
    let holds : HeadingHolds version g s.heading = record { name = checked.name; rate = checked.rate; greatest = checked.greatest; some_bus = checked.some_bus; few_buses = checked.few_buses } in
    let none = heading_passes version g s.heading fits.heading holds in
    let buses-are : buses_of version (group_text s.heading) ≡ s.heading.buses = buses_said version (group_text s.heading) s.heading (group_again version s.heading fits.heading) in
    let each = each_holds version g s.heading.buses [] s.outputs tt checked.placed checked.once checked.apart in
    let outs = outputs_pass version g s.heading.buses (number + 1) (map output_text s.outputs ++ bound_text s.bound ∷ more) (bound_text s.bound ∷ more) [] s.outputs tt fits.outputs each refl in
    let outputs-none : first_no (number + 1) (output_faults version g s.heading.buses (map output_text s.outputs ++ bound_text s.bound ∷ more) 0 (length g.outputs.items)) ≡ None = rw checked.count at outs in
    let mapped : length (map output_text s.outputs) ≡ length g.outputs.items = length-map s.outputs output_text ∙ checked.count in
    let last : line_at (group_text s.heading ∷ (map output_text s.outputs ++ bound_text s.bound ∷ more)) (length g.outputs.items + 1) ≡ bound_text s.bound = rw add-one (get_or_at (map output_text s.outputs) (bound_text s.bound) more (length g.outputs.items) mapped) in
    let bound-none = bound_passes g s.heading.buses s.bound fits.bound bound in
    rw (none, buses-are, last, pass_front (number + 1) (output_faults version g s.heading.buses (map output_text s.outputs ++ bound_text s.bound ∷ more) 0 (length g.outputs.items)) (bound_fault g s.heading.buses (bound_text s.bound) ∷ []) outputs-none, bound-none) refl
