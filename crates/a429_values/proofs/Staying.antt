-- A meeting's last cut stays the whole of what was accepted.
use Rattle.std.proofs.Common.{◌≡◌, ◌≢◌, ℕ, zero, suc, ◌+◌, ◌<◌, ◌≤◌, eqb, List, [], ◌∷◌, ◌++◌, length, take, map, cond, Bool, true, false, refl, sym, ap, ◌∙◌, subst, arith, zero-le, append_assoc, append-nil, eq-eqb, inl, inr}
use Rattle.std.specs.Prelude.{filter}
use Rattle.std.specs.List.{range_with_len}
use Rattle.std.proofs.lemmas.Bool.{cases_eq, cases_lt}
use Rattle.std.proofs.lemmas.List.{take-append-le}
use Rattle.a429_equipment.specs.declared.loads.Load.{Load}
use Rattle.a429_equipment.specs.TableRecord.{TableRecord}
use Rattle.a429_equipment.specs.Agreement.{words_of, load_after, is_of, loads_of_all, IsCutOfLoad, Cuts, AgreesTo}
use Rattle.a429_equipment.specs.Receiving.{IsAccepted, AreAccepted}
use Rattle.a429_values.specs.Later.{StaysWhole}
use Rattle.a429_values.proofs.Counted.{of_row, is_of_yes, is_of_row, is_of_not, is_of_inside, row_at}
use Rattle.a429_values.proofs.Cutting.{cuts_longer, cut_in_two, cuts_up}
use Rattle.a429_equipment.proofs.Cutting.{count_up, words_from}

-- a source's load was made at a cut
record LoadedAt (B A : List (ℕ × ℕ)) (s to : ℕ) : Type 0 where
  cut : ℕ
  low : cut ≤ to
  count : length (words_of s A) ≡ length (words_of s (take cut B))

-- each source of the receiver from a on was loaded at a cut no later than the end of these loads
loaded : (t : TableRecord) (r : ℕ) (B A : List (ℕ × ℕ)) (n a from to : ℕ) → Cuts (is_of t r) B from (map (λ s. load_after s A) (filter (is_of t r) (range_with_len a n))) to
    → (s : ℕ) → a ≤ s → s < a + n → is_of t r s ≡ true → LoadedAt B A s to
loaded t r B A zero a from to h s low high own = absurd (omega arith)
loaded t r B A (suc n) a from to h s low high own =
    go (is_of t r a) refl h (λ mid below g. loaded t r B A n (a + 1) mid to g s below (omega arith) own)
  where
    here : (mid : ℕ) → IsCutOfLoad (is_of t r a) B from (load_after a A) mid → mid ≤ to → is_of t r a ≡ true → a ≡ s → LoadedAt B A s to
    here mid c up is at =
        let d : IsCutOfLoad true B from (load_after a A) mid = subst (λ (b : Bool). IsCutOfLoad b B from (load_after a A) mid) is c in
        record { cut = mid; low = up; count = subst (λ (k : ℕ). length (words_of k A) ≡ length (words_of k (take mid B))) at (ap (λ (l : Load). l.count) d.2) }

    go : (b : Bool) → is_of t r a ≡ b → Cuts (is_of t r) B from (map (λ s. load_after s A) (cond b (a ∷ filter (is_of t r) (range_with_len (a + 1) n)) (filter (is_of t r) (range_with_len (a + 1) n)))) to
        → ((mid : ℕ) → a + 1 ≤ s → Cuts (is_of t r) B mid (map (λ s. load_after s A) (filter (is_of t r) (range_with_len (a + 1) n))) to → LoadedAt B A s to) → LoadedAt B A s to
    go true is g rest = elim (cases_eq a s) [
      | inl at ↦ here g.0 g.1 (cuts_up (is_of t r) B g.0 (map (λ s. load_after s A) (filter (is_of t r) (range_with_len (a + 1) n))) to g.2) is at
      | inr away ↦ rest g.0 (omega (arith, low, away)) g.2
    ]
    go false is g rest = elim (cases_eq a s) [
      | inl at ↦ absurd (let clash : false ≡ true = sym is ∙ (ap (is_of t r) at ∙ own) in cc)
      | inr away ↦ rest from (omega (arith, low, away)) g
    ]

-- a shorter prefix lacks a word of some source
record Lacks (t : TableRecord) (r m : ℕ) (A : List (ℕ × ℕ)) : Type 0 where
  source : ℕ
  own : is_of t r source ≡ true
  fewer : length (words_of source (take m A)) < length (words_of source A)

own_source : (t : TableRecord) (r : ℕ) (e : ℕ × ℕ) → IsAccepted t r e → is_of t r e.0 ≡ true
own_source t r e h = is_of_yes t r e.0 h.row h.there (of_row t r e.0 e.1 h.row h h.there).receiver

lacks : (t : TableRecord) (r m : ℕ) (A : List (ℕ × ℕ)) → AreAccepted t r A → m < length A → Lacks t r m A
lacks t r m [] all lt = absurd (omega arith)
lacks t r zero (e ∷ A) all lt =
    let one : words_of e.0 (e ∷ A) ≡ e.1 ∷ words_of e.0 A = ap (λ (b : Bool). words_from e.0 e b A) (eq-eqb e.0 e.0 refl) in
    record { source = e.0; own = own_source t r e all.0; fewer = omega (arith, ap (λ (l : List ℕ). length l) one) }
lacks t r (suc m) (e ∷ A) all lt =
    let rest = lacks t r m A all.1 (omega arith) in
    record { source = rest.source; own = rest.own; fewer = go (eqb e.0 rest.source) rest.source rest.fewer }
  where
    go : (b : Bool) (s : ℕ) → length (words_of s (take m A)) < length (words_of s A) → length (words_from s e b (take m A)) < length (words_from s e b A)
    go true s less = omega (arith, less)
    go false s less = less

pub stays_whole : (t : TableRecord) (r : ℕ) (A : List (ℕ × ℕ)) (before : List Load) → AreAccepted t r A → StaysWhole t r A (before ++ loads_of_all t r A)
stays_whole t r A before all more later last h =
    let mine = is_of t r in
    let B : List (ℕ × ℕ) = A ++ more in
    let met : List Load = loads_of_all t r A in
    let two = cut_in_two mine B 0 (before ++ met) later last h in
    let inner = cut_in_two mine B 0 before met two.0 two.1 in
    (two.0, whole two.0 (λ s own. loaded t r B A (length t.sources) 0 inner.0 two.0 inner.2 s zero-le (omega (arith, is_of_inside t r s own)) own), two.1, two.2)
  where
    whole : (mid : ℕ) → ((s : ℕ) → is_of t r s ≡ true → LoadedAt (A ++ more) A s mid) → length A ≤ mid
    whole mid found = elim (cases_lt mid (length A)) [
      | inr ge ↦ ge
      | inl short ↦
          let l = lacks t r mid A all short in
          let f = found l.source l.own in
          let same : take f.cut (A ++ more) ≡ take f.cut A = take-append-le f.cut A more (omega (arith, f.low, short)) in
          let count : length (words_of l.source A) ≡ length (words_of l.source (take f.cut A)) = f.count ∙ ap (λ (B : List (ℕ × ℕ)). length (words_of l.source B)) same in
          absurd (omega (arith, count, l.fewer, count_up l.source f.cut mid A f.low))
    ]

-- a meeting with another receiver leaves the agreement with this one as it is
others : (t : TableRecord) (r q : ℕ) (A B : List (ℕ × ℕ)) (ss : List ℕ) (from to : ℕ) → q ≢ r → (ls : List Load) → Cuts (is_of t q) B from ls to → Cuts (is_of t q) B from (ls ++ map (λ s. load_after s A) (filter (is_of t r) ss)) to
others t r q A B [] from to ne ls h = subst (λ (x : List Load). Cuts (is_of t q) B from x to) (sym (append-nil ls)) h
others t r q A B (s ∷ ss) from to ne ls h = go (is_of t r s) refl (λ ls h. others t r q A B ss from to ne ls h)
  where
    go : (b : Bool) → is_of t r s ≡ b → ((ls : List Load) → Cuts (is_of t q) B from ls to → Cuts (is_of t q) B from (ls ++ map (λ s. load_after s A) (filter (is_of t r) ss)) to)
        → Cuts (is_of t q) B from (ls ++ map (λ s. load_after s A) (cond b (s ∷ filter (is_of t r) ss) (filter (is_of t r) ss))) to
    go false is rest = rest ls h
    go true is rest =
        let row = row_at t s (is_of_inside t r s is) in
        let away : is_of t q s ≡ false = is_of_not t q s row.0 row.1 (λ e. ne (sym e ∙ is_of_row t r s row.0 row.1 is)) in
        let one : Cuts (is_of t q) B from (ls ++ load_after s A ∷ []) to = cuts_longer (is_of t q) B from ls to (load_after s A) to h (subst (λ (c : Bool). IsCutOfLoad c B to (load_after s A) to) (sym away) refl) in
        subst (λ (x : List Load). Cuts (is_of t q) B from x to) (append_assoc ls (load_after s A ∷ []) (map (λ s. load_after s A) (filter (is_of t r) ss))) (rest (ls ++ load_after s A ∷ []) one)

pub meets_others : (t : TableRecord) (r : ℕ) (A : List (ℕ × ℕ)) (ls : List Load) → (q last : ℕ) (B : List (ℕ × ℕ)) → q ≢ r → AgreesTo t q B ls last → AgreesTo t q B (ls ++ loads_of_all t r A) last
meets_others t r A ls q last B ne h = others t r q A B (range_with_len 0 (length t.sources)) 0 last ne ls h
