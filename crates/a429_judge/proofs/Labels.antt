-- The outputs of a group by their labels, and the words that go to them.
use Rattle.std.proofs.Common.{◌≡◌, ℕ, zero, suc, ◌+◌, ◌-◌, ◌<◌, ◌≤◌, List, [], ◌∷◌, ◌++◌, length, drop, get_or, set, Bool, true, false, refl, sym, ap, subst, ◌∙◌, inl, inr, arith, add-zero, append-nil, drop-cons, length-set}
use Rattle.std.specs.Prelude.{◌==◌, ◌&&◌, ◌||◌}
use Rattle.std.specs.List.{list_any}
use Rattle.std.specs.Option.{option_map_or}
use Rattle.std.proofs.lemmas.Bool.{cases_eq, cases_lt, eqb-true, ne_eqb}
use Rattle.std.proofs.lemmas.List.{get_or-set_other, get_or-set_same}
use Rattle.a429_word.specs.Bits.{has_odd_parity, label_of, sdi_of}
use Rattle.a429_judge.specs.declared.duties.Duty.{Duty}
use Rattle.a429_judge.specs.declared.duties.Sent.{Sent}
use Rattle.a429_judge.specs.declared.facts.Mark.{Mark}
use Rattle.a429_judge.specs.Keeping.{AreNoted, IsIndexed, IsNext, marks_if}
use Rattle.a429_judge.specs.Recordings.{duty_at, fits, no_duty}

-- ---- the index

-- the index of the outputs from a place on
pub record IsIndexedFrom (ds : List Duty) (place : ℕ) (first next : List ℕ) : Type 0 where
  pub within : place ≤ length ds
  pub starts : (label d : ℕ) → label < 256 → IsNext ds label place (get_or first label d)
  pub links : (o d : ℕ) → place ≤ o → o < length ds → IsNext ds (duty_at ds o).label (o + 1) (get_or next o d)

none_next : (ds : List Duty) (label place : ℕ) → place ≡ length ds → IsNext ds label (length ds) place
none_next ds label place is = record {
  above = omega (arith, is);
  within = omega (arith, is);
  skipped = λ o from to. absurd (omega (arith, is, from, to));
  here = λ lt. absurd (omega (arith, is, lt));
}

pub index_none : (ds : List Duty) (first next : List ℕ) → ((label d : ℕ) → label < 256 → get_or first label d ≡ length ds) → IsIndexedFrom ds (length ds) first next
index_none ds first next none = record {
  within = omega arith;
  starts = λ label d lt. none_next ds label (get_or first label d) (none label d lt);
  links = λ o d from lt. absurd (omega (arith, from, lt));
}

here_next : (ds : List Duty) (label k place : ℕ) → k < length ds → (duty_at ds k).label ≡ label → place ≡ k → IsNext ds label k place
here_next ds label k place lt same is = record {
  above = omega (arith, is);
  within = omega (arith, is, lt);
  skipped = λ o from to. absurd (omega (arith, is, from, to));
  here = λ less. rw is (rw same (grind arith));
}

next_before : (ds : List Duty) (label p k place : ℕ) → p ≡ k + 1 → ((duty_at ds k).label == label) ≡ false → IsNext ds label p place → IsNext ds label k place
next_before ds label p k place is other n = record {
  above = omega (arith, is, n.above);
  within = n.within;
  skipped = λ o from to. elim (cases_eq o k) [
    | inl same ↦ rw same other
    | inr apart ↦ n.skipped o (omega (arith, is, from, apart)) to
  ];
  here = n.here;
}

pub index_more : (ds : List Duty) (first next : List ℕ) (p k label : ℕ) → p ≡ k + 1 → k < length ds → (duty_at ds k).label ≡ label → label < 256 → length first ≡ 256 → length next ≡ length ds
    → IsIndexedFrom ds p first next → IsIndexedFrom ds k (set first label k) (set next k (get_or first label 0))
index_more ds first next p k label is lt same small labels places h = record {
  within = omega (arith, lt);
  starts = λ l d less. elim (cases_eq l label) [
    | inl equal ↦ subst (λ (m : ℕ). IsNext ds m k (get_or (set first label k) m d)) (sym equal)
        (here_next ds label k (get_or (set first label k) label d) lt same (get_or-set_same first label k d (omega (arith, labels, small))))
    | inr apart ↦ subst (λ (m : ℕ). IsNext ds l k m) (sym (get_or-set_other first label l k d apart))
        (next_before ds l p k (get_or first l d) is (ne_eqb (duty_at ds k).label l (λ e. apart (sym e ∙ same))) (h.starts l d less))
  ];
  links = λ o d from less. elim (cases_eq o k) [
    | inl equal ↦ subst (λ (m : ℕ). IsNext ds (duty_at ds m).label (m + 1) (get_or (set next k (get_or first label 0)) m d)) (sym equal)
        (subst (λ (m : ℕ). IsNext ds (duty_at ds k).label (k + 1) m) (sym (get_or-set_same next k (get_or first label 0) d (omega (arith, places, lt))))
        (subst (λ (m : ℕ). IsNext ds m (k + 1) (get_or first label 0)) (sym same) (subst (λ (m : ℕ). IsNext ds label m (get_or first label 0)) is (h.starts label 0 small))))
    | inr apart ↦ subst (λ (m : ℕ). IsNext ds (duty_at ds o).label (o + 1) m) (sym (get_or-set_other next k o (get_or first label 0) d apart))
        (h.links o d (omega (arith, is, from, apart)) less)
  ];
}

pub index_all : (ds : List Duty) (first next : List ℕ) (place : ℕ) → place ≡ 0 → length first ≡ 256 → length next ≡ length ds → IsIndexedFrom ds place first next → IsIndexed ds first next
index_all ds first next place is labels places h = record {
  labels = labels;
  starts = λ label d lt. subst (λ (m : ℕ). IsNext ds label m (get_or first label d)) is (h.starts label d lt);
  linked = record { places = places; links = λ o d lt. h.links o d (omega (arith, is)) lt };
}

-- ---- the words of outputs

no_marks : (ms : List Mark) (wanted : Bool) (m : Mark) → wanted ≡ false → ms ≡ ms ++ marks_if wanted m
no_marks ms wanted m fails = rw fails (sym (append-nil ms))

third_fails : (a b c d : Bool) → c ≡ false → (a && (b && (c && d))) ≡ false
third_fails true true c d e = rw e refl
third_fails true false c d e = refl
third_fails false b c d e = refl

second_fails : (a b c : Bool) → b ≡ false → (a && (b && c)) ≡ false
second_fails true b c e = rw e refl
second_fails false b c e = refl

-- a word of another label is not of the output
label_fails : (d : Duty) (w : Sent) → (d.label == label_of w.mark.raw) ≡ false → fits d w ≡ false
label_fails d w e = third_fails (w.group == d.group) (has_odd_parity w.mark.raw) (d.label == label_of w.mark.raw) (option_map_or (λ k. k == sdi_of w.mark.raw) d.sdi true && option_map_or (λ bus. bus == d.bus) w.bus true) e

parity_fails : (d : Duty) (w : Sent) → has_odd_parity w.mark.raw ≡ false → fits d w ≡ false
parity_fails d w e = second_fails (w.group == d.group) (has_odd_parity w.mark.raw) (d.label == label_of w.mark.raw && (option_map_or (λ k. k == sdi_of w.mark.raw) d.sdi true && option_map_or (λ bus. bus == d.bus) w.bus true)) e

-- a word of even parity is of none
pub none_fit : (ds : List Duty) (w : Sent) → has_odd_parity w.mark.raw ≡ false → list_any (λ d. fits d w) ds ≡ false
none_fit [] w e = refl
none_fit (d ∷ ds) w e =
    ap (λ (b : Bool). b || list_any (λ c. fits c w) ds) (parity_fails d w e) ∙ none_fit ds w e

-- a word is added to no list
pub AreNoted-same : (ds : List Duty) (w : Sent) (lists : List (List Mark)) → has_odd_parity w.mark.raw ≡ false → AreNoted ds w lists lists
AreNoted-same ds w lists e = record {
  lists = refl;
  words = λ o lt. no_marks (get_or lists o []) (fits (duty_at ds o) w) w.mark (parity_fails (duty_at ds o) w e);
}

-- elements that do not pass may be left out
any_skip : (p : Duty → Bool) (ds : List Duty) (a n : ℕ) → a + n ≤ length ds → ((k : ℕ) → a ≤ k → k < a + n → p (duty_at ds k) ≡ false) → list_any p (drop a ds) ≡ list_any p (drop (a + n) ds)
any_skip p ds a zero le none = rw add-zero refl
any_skip p ds a (suc n) le none =
    let e : a + suc n ≡ suc (a + n) = omega arith in
    let lt : a + n < length ds = omega (arith, le) in
    any_skip p ds a n (omega (arith, le)) (λ k from to. none k from (omega (arith, to)))
    ∙ ap (list_any p) (drop-cons ds (a + n) no_duty lt)
    ∙ ap (λ (b : Bool). b || list_any p (drop (suc (a + n)) ds)) (none (a + n) (omega arith) (omega arith))
    ∙ ap (λ (m : ℕ). list_any p (drop m ds)) (sym e)

any_between : (p : Duty → Bool) (ds : List Duty) (a b : ℕ) → a ≤ b → b ≤ length ds → ((k : ℕ) → a ≤ k → k < b → p (duty_at ds k) ≡ false) → list_any p (drop a ds) ≡ list_any p (drop b ds)
any_between p ds a b le within none =
    let e : a + (b - a) ≡ b = omega (arith, le) in
    any_skip p ds a (b - a) (omega (arith, le, within)) (λ k from to. none k from (omega (arith, e, to))) ∙ ap (λ (m : ℕ). list_any p (drop m ds)) e

-- The outputs before a place have a word, those from it on do not.
pub record AreAdded (ds : List Duty) (w : Sent) (place : ℕ) (old now : List (List Mark)) (own : Bool) : Type 0 where
  pub within : place ≤ length ds
  pub here : place < length ds → (duty_at ds place).label ≡ label_of w.mark.raw
  pub lists : length now ≡ length old
  pub before : (o : ℕ) → o < place → get_or now o [] ≡ get_or old o [] ++ marks_if (fits (duty_at ds o) w) w.mark
  pub after : (o : ℕ) → place ≤ o → get_or now o [] ≡ get_or old o []
  pub any : (own || list_any (λ d. fits d w) (drop place ds)) ≡ list_any (λ d. fits d w) ds

label_is : (ds : List Duty) (label place : ℕ) → ((duty_at ds place).label == label) ≡ true → (duty_at ds place).label ≡ label
label_is ds label place e = eqb-true (duty_at ds place).label label e

pub none_added : (ds : List Duty) (w : Sent) (first : ℕ) (old : List (List Mark)) → IsNext ds (label_of w.mark.raw) 0 first → AreAdded ds w first old old false
none_added ds w first old n =
    let other : (o : ℕ) → o < first → fits (duty_at ds o) w ≡ false = λ o lt. label_fails (duty_at ds o) w (n.skipped o (omega arith) lt) in
    record {
      within = n.within;
      here = λ lt. label_is ds (label_of w.mark.raw) first (n.here lt);
      lists = refl;
      before = λ o lt. no_marks (get_or old o []) (fits (duty_at ds o) w) w.mark (other o lt);
      after = λ o le. refl;
      any = sym (any_between (λ d. fits d w) ds 0 first (omega arith) n.within (λ k from to. other k to));
    }

or_more : (own b rest all total : Bool) → all ≡ (b || rest) → (own || all) ≡ total → ((own || b) || rest) ≡ total
or_more true b rest all total e is = is
or_more false b rest all total e is = sym e ∙ is

pub one_added : (ds : List Duty) (w : Sent) (place next : ℕ) (old now : List (List Mark)) (list item : List Mark) (own fit : Bool) → place < length ds → length old ≡ length ds
    → IsNext ds (duty_at ds place).label (place + 1) next → item ≡ get_or now place [] → list ≡ item ++ marks_if (fits (duty_at ds place) w) w.mark → fit ≡ fits (duty_at ds place) w
    → AreAdded ds w place old now own → AreAdded ds w next old (set now place list) (own || fit)
one_added ds w place next old now list item own fit lt long n item_is list_is fit_is a =
    let label : (duty_at ds place).label ≡ label_of w.mark.raw = a.here lt in
    let other : (o : ℕ) → place < o → o < next → fits (duty_at ds o) w ≡ false =
    λ o from to. label_fails (duty_at ds o) w (subst (λ (l : ℕ). ((duty_at ds o).label == l) ≡ false) label (n.skipped o (omega (arith, from)) to)) in
    let same : (o : ℕ) → (o ≡ place → ⊥) → get_or (set now place list) o [] ≡ get_or now o [] = λ o apart. get_or-set_other now place o list [] apart in
    let here : get_or (set now place list) place [] ≡ get_or now place [] ++ marks_if (fits (duty_at ds place) w) w.mark =
    get_or-set_same now place list [] (omega (arith, lt, long, a.lists)) ∙ list_is ∙ ap (λ (ms : List Mark). ms ++ marks_if (fits (duty_at ds place) w) w.mark) item_is in
    let p : Duty → Bool = λ d. fits d w in
    record {
      within = n.within;
      here = λ less. label_is ds (duty_at ds place).label next (n.here less) ∙ label;
      lists = length-set now place list ∙ a.lists;
      before = λ o less. elim (cases_lt o place) [
        | inl early ↦ same o (λ e. omega (arith, e, early)) ∙ a.before o early
        | inr late ↦ elim (cases_eq o place) [
          | inl equal ↦ rw equal (here ∙ ap (λ (ms : List Mark). ms ++ marks_if (fits (duty_at ds place) w) w.mark) (a.after place (omega arith)))
          | inr apart ↦ same o apart ∙ a.after o late ∙ no_marks (get_or old o []) (fits (duty_at ds o) w) w.mark (other o (omega (arith, late, apart)) less)
        ]
      ];
      after = λ o le. same o (λ e. omega (arith, e, le, n.above)) ∙ a.after o (omega (arith, le, n.above));
      any = ap (λ (b : Bool). (own || b) || list_any p (drop next ds)) fit_is
          ∙ or_more own (p (duty_at ds place)) (list_any p (drop next ds)) (list_any p (drop place ds)) (list_any p ds)
          (ap (list_any p) (drop-cons ds place no_duty lt)
          ∙ ap (λ (b : Bool). p (duty_at ds place) || b)
          (any_between p ds (suc place) next (omega (arith, n.above)) n.within (λ k from to. other k (omega (arith, from)) to)))
          a.any;
    }

pub all_added : (ds : List Duty) (w : Sent) (place : ℕ) (old now : List (List Mark)) (own : Bool) → length ds ≤ place → AreAdded ds w place old now own → AreNoted ds w old now
all_added ds w place old now own most a = record {
  lists = a.lists;
  words = λ o lt. a.before o (omega (arith, most, lt));
}
