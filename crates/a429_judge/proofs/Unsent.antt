-- A judge before its first word.
use Rattle.std.proofs.Common.{◌≡◌, ℕ, ◌+◌, ◌<◌, ◌≤◌, List, [], ◌∷◌, ◌++◌, length, get_or, true, None, refl, sym, ap, subst, ◌∙◌, inl, inr, arith}
use Rattle.std.proofs.lemmas.Bool.{cases_eq}
use Rattle.std.proofs.lemmas.List.{ext_get_or, get_or-map, get_or_append_left, get_or_push, length-map, length_push, map-append}
use Rattle.std.specs.declared.vec.Vec.{Vec}
use Rattle.std.specs.declared.alloc.Global.{Global}
use Rattle.a429_judge.specs.declared.duties.Duty.{Duty}
use Rattle.a429_judge.specs.declared.facts.Mark.{Mark}
use Rattle.a429_judge.specs.Keeping.{AreAllBelow, AreEmpty, AreKept, AreUnsent, Grouped, IsUnsent, outputs_of}
use Rattle.a429_judge.specs.Recordings.{AreOfGroups, duty_at, group_at, lists_of, no_words}

pub lists_of-push : (ds : List (Vec Duty Global)) (d : Vec Duty Global) → lists_of (ds ++ d ∷ []) ≡ lists_of ds ++ d.items ∷ []
lists_of-push ds d = map-append (λ (v : Vec Duty Global). v.items) ds (d ∷ [])

pub lists_of-at : (ds : List (Vec Duty Global)) (g : ℕ) (d : Vec Duty Global) → g < length ds → group_at (lists_of ds) g ≡ (get_or ds g d).items
lists_of-at ds g d lt = get_or-map (λ (v : Vec Duty Global). v.items) ds g d [] lt

pub AreUnsent-push : (ds : List (List Duty)) (groups : List Grouped) (d : List Duty) (b : Grouped) → IsUnsent d b → AreUnsent ds groups → AreUnsent (ds ++ d ∷ []) (groups ++ b ∷ [])
AreUnsent-push ds groups d b more k = record {
  count = length_push groups b ∙ ap (λ (n : ℕ). n + 1) k.count ∙ sym (length_push ds d);
  each = λ g e lt. elim (cases_eq g (length groups)) [
    | inl same ↦ subst (λ (ys : List Duty). IsUnsent ys (get_or (groups ++ b ∷ []) g e)) (sym (get_or_push ds d [] g (sym k.count ∙ sym same)))
        (subst (λ (c : Grouped). IsUnsent d c) (sym (get_or_push groups b e g (sym same))) more)
    | inr apart ↦
        let less : g < length groups = omega (arith, lt, length_push groups b, apart) in
        let within : g < length ds = omega (arith, less, k.count) in
        subst (λ (ys : List Duty). IsUnsent ys (get_or (groups ++ b ∷ []) g e)) (sym (get_or_append_left ds (d ∷ []) [] g within))
        (subst (λ (c : Grouped). IsUnsent (group_at ds g) c) (sym (get_or_append_left groups (b ∷ []) e g less)) (k.each g e less))
  ];
}

no_group : Grouped
no_group = record { outputs = []; sends = []; foreign = []; first = None }

pub outputs_unsent : (ds : List (List Duty)) (groups : List Grouped) → AreUnsent ds groups → outputs_of groups ≡ ds
outputs_unsent ds groups k =
    ext_get_or [] (outputs_of groups) ds (length-map groups (λ b. b.outputs) ∙ k.count)
    (λ g lt. let less : g < length groups = omega (arith, lt, length-map groups (λ b. b.outputs)) in
    get_or-map (λ b. b.outputs) groups g no_group [] less ∙ (k.each g no_group less).0)

pub judge_new : (ds : List (List Duty)) (groups : List Grouped) (accepted : List (List Mark)) → AreOfGroups ds → AreUnsent ds groups → AreEmpty accepted → AreAllBelow (length accepted) ds
    → AreKept groups accepted None true no_words
judge_new ds groups accepted own k empty below = record {
  sent = λ g d lt.
      let u = k.each g d lt in
      record {
        own = λ o less. subst (λ (ys : List Duty). (duty_at ys o).group ≡ g) (sym u.0) (own g o (omega (arith, lt, k.count)) (subst (λ (ys : List Duty). o < length ys) u.0 less));
        lists = u.1 ∙ ap (λ (ys : List Duty). length ys) (sym u.0);
        sends = λ o less. u.2 o;
        foreign = u.3;
        first = u.4;
      };
  below = subst (λ (xs : List (List Duty)). AreAllBelow (length accepted) xs) (sym (outputs_unsent ds groups k)) below;
  heard = λ s lt. empty s;
  opens = refl;
  ordered = λ e. record {
    heard = λ i j d le lt. absurd (omega (arith, lt));
    heard_last = λ d more. absurd (omega (arith, more));
    sent = λ i j d le lt. absurd (omega (arith, lt));
    sent_last = λ d more. absurd (omega (arith, more));
  };
}

-- the greatest number of a source, list by list
pub greatest_more : (ds : List (Vec Duty Global)) (g : ℕ) (d : Vec Duty Global) (old now : ℕ) (list : List Duty) → g < length ds → d ≡ get_or ds g d → list ≡ d.items → old ≤ now
    → ((o : ℕ) → o < length list → (duty_at list o).source ≤ now)
    → ((h o : ℕ) → h < g → o < length (group_at (lists_of ds) h) → (duty_at (group_at (lists_of ds) h) o).source ≤ old)
    → ((h o : ℕ) → h < g + 1 → o < length (group_at (lists_of ds) h) → (duty_at (group_at (lists_of ds) h) o).source ≤ now)
greatest_more ds g d old now list lt is items le here before = λ h o less within. elim (cases_eq h g) [
  | inl same ↦
      let list_is : group_at (lists_of ds) h ≡ list = ap (λ (k : ℕ). group_at (lists_of ds) k) same ∙ lists_of-at ds g d lt ∙ ap (λ (v : Vec Duty Global). v.items) (sym is) ∙ sym items in
      subst (λ (ys : List Duty). (duty_at ys o).source ≤ now) (sym list_is) (here o (subst (λ (ys : List Duty). o < length ys) list_is within))
  | inr apart ↦ omega (arith, le, before h o (omega (arith, less, apart)) within)
]
