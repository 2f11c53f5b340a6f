-- Lines without a fault state a checked plan.
use Rattle.std.proofs.Common.{◌≡◌, ◌≢◌, ℕ, zero, suc, ◌+◌, ◌-◌, ◌*◌, ◌%◌, ◌<◌, ◌≤◌, min, Bool, true, false, eqb, ltb, leb, not, ◌&&◌, ◌||◌, List, [], ◌∷◌, ◌++◌, length, take, drop, Option, Some, None, refl, sym, ap, ◌∙◌, arith, inl, inr, rules, ◌/◌}
use Rattle.std.specs.Prelude.{unwrap_or, is_none, is_some}
use Rattle.std.specs.List.{AllByRecursion, list_any, filter_map}
use Rattle.std.specs.Str.{bytes_eq}
use Rattle.std.proofs.lemmas.Bool.{eqb-true, leb-true, ltb-true, cases_lt, and_parts}
use Rattle.std.proofs.lemmas.Bool.Decides.{nat_tests}
use Rattle.std.proofs.lemmas.Slice.Eq.{bytes_eq-Decides}
use Rattle.std.proofs.lemmas.List.{length-append}
use Rattle.std.proofs.Math.Nat.{mul_assoc, mul-add-mod_self_left}
use Rattle.a429_word.proofs.Lists.{all_push, not_false}
use Rattle.a429_equipment.specs.SameStation.{same_number}
use Rattle.a429_cert.specs.declared.verdicts.Reason.{Reason}
use Rattle.a429_cert.specs.declared.due.DueTable.{DueTable}
use Rattle.a429_cert.specs.declared.due.DueGroup.{DueGroup}
use Rattle.a429_cert.specs.Spelling.{Heading, Listing, Bounding, says_more, said_in}
use Rattle.a429_cert.specs.Reading.{group_line, output_line, bound_line}
use Rattle.a429_cert.specs.Lines.{line_at, lines_of, lines_of_groups}
use Rattle.a429_cert.specs.Faults.{first_reason, of_form, group_fault, output_fault, output_faults, bound_fault, bound_holds, group_faults, groups_faults, end_fault, faults, plan_fault, rate_fault, rate_faults, first_no, frame, demand, period_of, hold_of, says_other_rate, says_other_hold, is_listed, shares, has_bad_place, buses_of}
use Rattle.a429_cert.specs.Checked.{Stated, Fills, CellsAreApart, EachPair}
use Rattle.a429_cert.proofs.DuePlans.{IsPlacedAsDue, PeriodsNest, StatesAsDue, StateAsDue}
use Rattle.a429_cert.proofs.LineLaws.{group_takes, output_takes}
use Rattle.a429_cert.proofs.Walk.{listed_more}

-- ---- nothing fails

none_head : (n : ℕ) (f : Option Reason) (fs : List (Option Reason)) → first_no n (f ∷ fs) ≡ None → (f ≡ None) × (first_no (n + 1) fs ≡ None)
none_head n None fs e = (refl, e)
none_head n (Some r) fs e = absurd cc

none_parts : (n : ℕ) (xs ys : List (Option Reason)) → first_no n (xs ++ ys) ≡ None → (first_no n xs ≡ None) × (first_no (n + length xs) ys ≡ None)
none_parts n [] ys e = (refl, let same : n + 0 ≡ n = omega arith in rw same e)
none_parts n (None ∷ xs) ys e =
    let p = none_parts (n + 1) xs ys e in
    let same : n + suc (length xs) ≡ n + 1 + length xs = omega arith in
    (p.0, rw same p.1)
none_parts n (Some r ∷ xs) ys e = absurd cc

formed : {A : Type 0} (o : Option A) (f : A → List (Bool × Reason)) → of_form o f ≡ None → (x : A) × (o ≡ Some x) × (first_reason (f x) ≡ None)
formed None f e = absurd cc
formed (Some x) f e = (x, refl, e)

fine : (b : Bool) (r : Reason) (rs : List (Bool × Reason)) → first_reason ((b, r) ∷ rs) ≡ None → (b ≡ false) × (first_reason rs ≡ None)
fine true r rs e = absurd cc
fine false r rs e = (refl, e)

neither : (a b : Bool) → (a || b) ≡ false → (a ≡ false) × (b ≡ false)
neither true b e = absurd cc
neither false b e = (refl, e)

pub same_bytes : (xs ys : List ℕ) → bytes_eq xs ys ≡ true → xs ≡ ys
same_bytes xs ys h = search (rules, bytes_eq-Decides)

-- ---- the lines of a group

pub record HeadingHolds (version : ℕ) (g : DueGroup) (h : Heading) : Type 0 where
  pub name : h.name ≡ g.name
  pub rate : h.rate ≡ said_in version g.rate
  pub greatest : h.frame ≡ frame g
  pub some_bus : 1 ≤ h.buses
  pub few_buses : h.buses ≤ 16

buses_between : (n : ℕ) → (eqb n 0 || ltb 16 n) ≡ false → (1 ≤ n) × (n ≤ 16)
buses_between n h = (grind (arith, nat_tests), grind (arith, nat_tests))

four_fine : (a b c d : Bool) (p q r s : Reason) → first_reason ((a, p) ∷ (b, q) ∷ (c, r) ∷ (d, s) ∷ []) ≡ None → (a ≡ false) × (b ≡ false) × (c ≡ false) × (d ≡ false)
four_fine false false false false p q r s e = (refl, refl, refl, refl)
four_fine true b c d p q r s e = absurd cc
four_fine false true c d p q r s e = absurd cc
four_fine false false true d p q r s e = absurd cc
four_fine false false false true p q r s e = absurd cc

five_fine : (a b c d f : Bool) (p q r s t : Reason) → first_reason ((a, p) ∷ (b, q) ∷ (c, r) ∷ (d, s) ∷ (f, t) ∷ []) ≡ None
    → (a ≡ false) × (b ≡ false) × (c ≡ false) × (d ≡ false) × (f ≡ false)
five_fine true b c d f p q r s t e = absurd cc
five_fine false b c d f p q r s t e = let rest = four_fine b c d f q r s t e in (refl, rest.0, rest.1, rest.2, rest.3)

-- ---- what is said in version 2

rate_same : (version : ℕ) (said : Option ℕ) (rate : ℕ) → is_some said ≡ says_more version → says_other_rate said rate ≡ false → said ≡ said_in version rate
rate_same version None rate there h = let no : eqb version 2 ≡ false = sym there in rw no refl
rate_same version (Some r) rate there h = let yes : eqb version 2 ≡ true = sym there in rw yes (ap (λ (n : ℕ). Some n) (eqb-true r rate (not_false _ h)))

limit_same : (m n : Option ℕ) → same_number m n ≡ true → m ≡ n
limit_same None None h = refl
limit_same None (Some n) h = absurd cc
limit_same (Some m) None h = absurd cc
limit_same (Some m) (Some n) h = ap (λ (k : ℕ). Some k) (eqb-true m n h)

hold_same : (version : ℕ) (said : Option (Option ℕ)) (hold : Option ℕ) → is_some said ≡ says_more version → says_other_hold said hold ≡ false → said ≡ said_in version hold
hold_same version None hold there h = let no : eqb version 2 ≡ false = sym there in rw no refl
hold_same version (Some l) hold there h = let yes : eqb version 2 ≡ true = sym there in rw yes (ap (λ (k : Option ℕ). Some k) (limit_same l hold (not_false _ h)))

pub heading_holds : (version : ℕ) (g : DueGroup) (line : List ℕ) → group_fault version g line ≡ None → (h : Heading) × (group_line version line ≡ Some h) × HeadingHolds version g h
unfolding group_fault
heading_holds version g line e =
    let a = formed (group_line version line) _ e in
    let b = four_fine (says_other_rate a.0.rate g.rate) (not (bytes_eq a.0.name g.name)) (not (eqb a.0.frame (frame g))) (eqb a.0.buses 0 || ltb 16 a.0.buses) _ _ _ _ a.2 in
    let between = buses_between a.0.buses b.3 in
    let fits = (group_takes version line a.0 a.1).1 in (
      a.0,
      a.1,
      record {
        name = same_bytes _ _ (not_false _ b.1);
        rate = rate_same version a.0.rate g.rate fits.rate.there b.0;
        greatest = eqb-true _ _ (not_false _ b.2);
        some_bus = between.0;
        few_buses = between.1;
      },
    )

pub record ListingHolds (version : ℕ) (g : DueGroup) (buses : ℕ) (earlier : List Listing) (l : Listing) : Type 0 where
  pub placed : IsPlacedAsDue version g buses l
  pub new : is_listed earlier l.source ≡ false
  pub alone : list_any (shares l) earlier ≡ false

found_some : (o : Option ℕ) (p : ℕ) → is_none o ≡ false → eqb p (unwrap_or o 0) ≡ true → o ≡ Some p
found_some None p e f = absurd cc
found_some (Some q) p e f = ap Some (sym (eqb-true p q f))

place_within : (buses bus period offset : ℕ) → (leb buses bus || leb period offset) ≡ false → (bus < buses) × (offset < period)
place_within buses bus period offset h = (grind (arith, nat_tests), grind (arith, nat_tests))

pub listing_holds : (version : ℕ) (g : DueGroup) (buses : ℕ) (earlier : List Listing) (line : List ℕ) → output_fault version g buses earlier line ≡ None → (l : Listing) × (output_line version line ≡ Some l) × ListingHolds version g buses earlier l
unfolding output_fault
listing_holds version g buses earlier line e =
    let a = formed (output_line version line) _ e in
    let b = five_fine (is_none (period_of g a.0.source) || is_listed earlier a.0.source) (not (eqb a.0.period (unwrap_or (period_of g a.0.source) 0))) (has_bad_place buses a.0) (list_any (shares a.0) earlier) (says_other_hold a.0.hold (hold_of g a.0.source)) _ _ _ _ _ a.2 in
    let known = neither _ _ b.0 in
    let within = place_within buses a.0.bus a.0.period a.0.offset b.2 in
    let fits = (output_takes version line a.0 a.1).1 in
    let hold = hold_same version a.0.hold (hold_of g a.0.source) fits.hold.there b.4 in
    (a.0, a.1, record { placed = record { listed = found_some _ _ known.0 (not_false _ b.1); hold = hold; bus = within.0; offset = within.1 }; new = known.1; alone = b.3 })

-- ---- the listings together

pair_push : (R : Listing → Listing → Type 0) (xs : List Listing) (y : Listing) → EachPair R xs → AllByRecursion (λ x. R x y) xs → EachPair R (xs ++ y ∷ [])
pair_push R [] y h p = (tt, tt)
pair_push R (x ∷ xs) y h p = (all_push (R x) xs y h.0 p.0, pair_push R xs y h.1 p.1)

differ : (xs ys : List ℕ) → bytes_eq xs ys ≡ false → xs ≢ ys
differ xs ys h = search (rules, bytes_eq-Decides)

new_among : (earlier : List Listing) (l : Listing) → is_listed earlier l.source ≡ false → AllByRecursion (λ k. k.source ≢ l.source) earlier
new_among [] l e = tt
new_among (k ∷ ks) l e =
    let p = neither _ _ e in
    let apart : k.source ≢ l.source = differ k.source l.source p.0 in
    (apart, new_among ks l p.1)

pub record ListingsHold (version : ℕ) (g : DueGroup) (buses : ℕ) (ls : List Listing) : Type 0 where
  pub placed : AllByRecursion (IsPlacedAsDue version g buses) ls
  pub once : EachPair (λ k l. k.source ≢ l.source) ls
  pub apart : EachPair CellsAreApart ls

-- ---- cells

residue : (slot m p c : ℕ) → p ≡ m * c → 0 < p → slot % p % m ≡ slot % m
residue slot m p c e pos =
    let parts : p * (slot / p) + slot % p ≡ slot = omega arith in
    let regrouped : p * (slot / p) ≡ m * (c * (slot / p)) = grind (arith, mul_assoc) in
    sym (mul-add-mod_self_left m (c * (slot / p)) (slot % p)) ∙ ap (λ (n : ℕ). (n + slot % p) % m) (sym regrouped) ∙ ap (λ (n : ℕ). n % m) parts

share_from : (a b x y : ℕ) → a ≡ b → x ≡ y → (eqb a b && eqb x y) ≡ false → ⊥
share_from a b x y e f h = grind (arith, nat_tests)

tied : (k l : Listing) (bus slot m c d : ℕ) → m ≡ min l.period k.period → l.period ≡ m * c → k.period ≡ m * d → 0 < l.period → 0 < k.period → Fills k bus slot → Fills l bus slot → shares l k ≡ false → ⊥
tied k l bus slot m c d m-is e f pl pk at-k at-l h =
    let same-bus : l.bus ≡ k.bus = sym at-l.on_bus ∙ at-k.on_bus in
    let same-rest : l.offset % m ≡ k.offset % m =
    ap (λ (n : ℕ). n % m) (sym at-l.at_offset) ∙ residue slot m l.period c e pl ∙ sym (residue slot m k.period d f pk) ∙ ap (λ (n : ℕ). n % m) at-k.at_offset in
    share_from l.bus k.bus (l.offset % min l.period k.period) (k.offset % min l.period k.period) same-bus (rw m-is at same-rest) h

pub apart_one : (version : ℕ) (g : DueGroup) (buses : ℕ) (k l : Listing) → PeriodsNest g → IsPlacedAsDue version g buses k → IsPlacedAsDue version g buses l → shares l k ≡ false → CellsAreApart k l
apart_one version g buses k l nest pk pl h bus slot at-k at-l =
    let k-pos : 0 < k.period = omega (arith, pk.offset) in
    let l-pos : 0 < l.period = omega (arith, pl.offset) in
    elim (cases_lt k.period l.period) [
      | inl lt ↦
          let n = nest k.source l.source k.period l.period pk.listed pl.listed (omega arith) in
          let m-is : k.period ≡ min l.period k.period = omega arith in
          let one : k.period ≡ k.period * 1 = omega arith in
          tied k l bus slot k.period n.0 1 m-is n.1 one l-pos k-pos at-k at-l h
      | inr le ↦
          let n = nest l.source k.source l.period k.period pl.listed pk.listed (omega arith) in
          let m-is : l.period ≡ min l.period k.period = omega arith in
          let one : l.period ≡ l.period * 1 = omega arith in
          tied k l bus slot l.period 1 n.0 m-is one n.1 l-pos k-pos at-k at-l h
    ]

apart_among : (version : ℕ) (g : DueGroup) (buses : ℕ) (earlier : List Listing) (l : Listing) → PeriodsNest g → AllByRecursion (IsPlacedAsDue version g buses) earlier → IsPlacedAsDue version g buses l → list_any (shares l) earlier ≡ false → AllByRecursion (λ k. CellsAreApart k l) earlier
apart_among version g buses [] l nest placed pl e = tt
apart_among version g buses (k ∷ ks) l nest placed pl e =
    let p = neither _ _ e in
    (apart_one version g buses k l nest placed.0 pl p.0, apart_among version g buses ks l nest placed.1 pl p.1)

listing_more : (version : ℕ) (g : DueGroup) (buses : ℕ) (ls : List Listing) (l : Listing) → PeriodsNest g → ListingsHold version g buses ls → ListingHolds version g buses ls l → ListingsHold version g buses (ls ++ l ∷ [])
listing_more version g buses ls l nest h one = record {
  placed = all_push (IsPlacedAsDue version g buses) ls l h.placed one.placed;
  once = pair_push (λ k l. k.source ≢ l.source) ls l h.once (new_among ls l one.new);
  apart = pair_push CellsAreApart ls l h.apart (apart_among version g buses ls l nest h.placed one.placed one.alone);
}

pub listings_hold : (version : ℕ) (g : DueGroup) (buses number j n : ℕ) (lines : List (List ℕ)) → PeriodsNest g → ListingsHold version g buses (filter_map (output_line version) (take j lines)) → length (filter_map (output_line version) (take j lines)) ≡ j
    → first_no number (output_faults version g buses lines j n) ≡ None → ListingsHold version g buses (filter_map (output_line version) (take (j + n) lines)) × (length (filter_map (output_line version) (take (j + n) lines)) ≡ j + n)
listings_hold version g buses number j zero lines nest h count e = let same : j + 0 ≡ j = omega arith in rw same (h, count)
listings_hold version g buses number j (suc n) lines nest h count e =
    let parts = none_head number _ _ e in
    let one = listing_holds version g buses (filter_map (output_line version) (take j lines)) (line_at lines j) parts.0 in
    let more = listed_more version lines j one.0 one.1 in
    let next : ListingsHold version g buses (filter_map (output_line version) (take (j + 1) lines)) = rw more (listing_more version g buses _ one.0 nest h one.2) in
    let counted : length (filter_map (output_line version) (take (j + 1) lines)) ≡ j + 1 = rw more (omega (arith, count, length-append (filter_map (output_line version) (take j lines)) (one.0 ∷ []))) in
    let same : j + suc n ≡ j + 1 + n = omega arith in
    rw same (listings_hold version g buses (number + 1) (j + 1) n lines nest next counted parts.1)

-- ---- a group

bound_parts : (d e f m b h k x : ℕ) → (eqb d e && eqb f m && eqb b h && ltb (f * b) d && leb d (k * b)) ≡ true
    → (m * h < e) × (e ≤ k * h) × ((d ≡ e) × (f ≡ m) × (b ≡ h))
bound_parts d e f m b h k x t =
    let t1 = and_parts _ _ t in
    let t2 = and_parts _ _ t1.0 in
    let t3 = and_parts _ _ t2.0 in
    let t4 = and_parts _ _ t3.0 in
    let de = eqb-true d e t4.0 in
    let fm = eqb-true f m t4.1 in
    let bh = eqb-true b h t3.1 in
    let above = ltb-true (f * b) d t2.1 in
    let within = leb-true d (k * b) t1.1 in
    (rw (← de, ← fm, ← bh) above, rw (← de, ← bh) within, (de, fm, bh))

bound_parted : (b : Bounding) (d f h : ℕ) → b.demand ≡ d → b.full_buses ≡ f → b.frame ≡ h → b ≡ record { demand = d; full_buses = f; frame = h }
bound_parted b d f h de fm bh =
    ap (λ (x : ℕ). said x b.full_buses b.frame) de ∙ ap (λ (x : ℕ). said d x b.frame) fm ∙ ap (λ (x : ℕ). said d f x) bh
  where
    said : ℕ → ℕ → ℕ → Bounding
    said x y z = record { demand = x; full_buses = y; frame = z }

one_fine : (a : Bool) (p : Reason) → first_reason ((a, p) ∷ []) ≡ None → a ≡ false
one_fine false p e = refl
one_fine true p e = absurd cc

bound_says : (g : DueGroup) (buses : ℕ) (line : List ℕ) → bound_fault g buses line ≡ None → (b : Bounding) × (bound_line line ≡ Some b) × ((buses - 1) * frame g < demand g) × (demand g ≤ buses * frame g)
    × (b ≡ record { demand = demand g; full_buses = buses - 1; frame = frame g })
unfolding bound_fault
bound_says g buses line e =
    let a = formed (bound_line line) _ e in
    let t = not_false _ (one_fine (not (bound_holds g buses a.0)) _ a.2) in
    let p = bound_parts a.0.demand (demand g) a.0.full_buses (buses - 1) a.0.frame (frame g) buses 0 t in
    let (de, fm, bh) = p.2 in
    (a.0, a.1, p.0, p.1, bound_parted a.0 (demand g) (buses - 1) (frame g) de fm bh)

pub buses_said : (version : ℕ) (line : List ℕ) (h : Heading) → group_line version line ≡ Some h → buses_of version line ≡ h.buses
unfolding buses_of
buses_said version line h e = rw e refl

pub group_states : (version : ℕ) (g : DueGroup) (number : ℕ) (lines : List (List ℕ)) → PeriodsNest g → first_no number (group_faults version g lines) ≡ None → StatesAsDue version g lines
group_states version g number lines nest e =
    let a = none_head number _ _ e in
    let b = none_parts (number + 1) (output_faults version g (buses_of version (line_at lines 0)) (drop 1 lines) 0 (length g.outputs.items)) _ a.1 in
    let c = none_head (number + 1 + length (output_faults version g (buses_of version (line_at lines 0)) (drop 1 lines) 0 (length g.outputs.items))) _ _ b.1 in
    let h = heading_holds version g (line_at lines 0) a.0 in
    let buses-are : buses_of version (line_at lines 0) ≡ h.0.buses = buses_said version (line_at lines 0) h.0 h.1 in
    let none : ListingsHold version g (buses_of version (line_at lines 0)) [] = record { placed = tt; once = tt; apart = tt } in
    let ls = listings_hold version g (buses_of version (line_at lines 0)) (number + 1) 0 (length g.outputs.items) (drop 1 lines) nest none refl b.0 in
    let all : 0 + length g.outputs.items ≡ length g.outputs.items = omega arith in
    let held = rw (all, buses-are) at ls in
    let d = bound_says g (buses_of version (line_at lines 0)) (line_at lines (length g.outputs.items + 1)) c.0 in
    let s : Stated = record { heading = h.0; outputs = filter_map (output_line version) (take (length g.outputs.items) (drop 1 lines)); bound = d.0 } in
    record {
      stated = s;
      heading = h.1;
      outputs = refl;
      bound = d.1;
      checked = record {
        name = h.2.name;
        rate = h.2.rate;
        greatest = h.2.greatest;
        some_bus = h.2.some_bus;
        few_buses = h.2.few_buses;
        count = held.1;
        placed = held.0.placed;
        once = held.0.once;
        apart = held.0.apart;
        above = rw (h.2.greatest, ← buses-are) d.2;
        within = rw (h.2.greatest, ← buses-are) d.3;
      };
      states = d.4 ∙ ap (λ (buses : ℕ). bounding (demand g) (buses - 1) (frame g)) buses-are;
    }
  where
    bounding : ℕ → ℕ → ℕ → Bounding
    bounding x y z = record { demand = x; full_buses = y; frame = z }

no_line_left : (number : ℕ) (lines : List (List ℕ)) → first_no number (end_fault lines ∷ []) ≡ None → lines ≡ []
no_line_left number [] e = refl
no_line_left number (l ∷ ls) e = absurd cc

pub groups_state : (version : ℕ) (gs : List DueGroup) (number : ℕ) (lines : List (List ℕ)) → AllByRecursion PeriodsNest gs → first_no number (groups_faults version gs lines) ≡ None → StateAsDue version gs lines
groups_state version [] number lines nest e = no_line_left number lines e
groups_state version (g ∷ gs) number lines nest e =
    let p = none_parts number (group_faults version g lines) _ e in
    (group_states version g number lines nest.0 p.0, groups_state version gs (number + length (group_faults version g lines)) (drop (length g.outputs.items + 2) lines) nest.1 p.1)

behind_head : (version : ℕ) (rate : Option ℕ) (gs : List DueGroup) (lines : List (List ℕ)) → AllByRecursion PeriodsNest gs
    → first_no 2 (rate_faults rate (line_at lines 1) ++ groups_faults version gs (lines_of_groups rate lines)) ≡ None → StateAsDue version gs (lines_of_groups rate lines)
behind_head version None gs lines nest e = groups_state version gs 2 (drop 1 lines) nest e
behind_head version (Some rate) gs lines nest e =
    let a = none_head 2 (rate_fault rate (line_at lines 1)) (groups_faults version gs (drop 2 lines)) e in
    groups_state version gs 3 (drop 2 lines) nest a.1

-- a text without a fault
pub fewest_states : (t : DueTable) (text : List ℕ) → AllByRecursion PeriodsNest t.groups.items → first_no 1 (faults t (lines_of text)) ≡ None
    → StateAsDue t.version t.groups.items (lines_of_groups t.rate (lines_of text))
fewest_states t text nest e =
    let a = none_head 1 (plan_fault t.version (line_at (lines_of text) 0)) _ e in
    behind_head t.version t.rate t.groups.items (lines_of text) nest a.1
