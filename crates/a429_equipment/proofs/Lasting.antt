-- Agreement of part of the loads, with more accepted words, and with loads of other receivers' sources.
use Rattle.std.proofs.Common.{◌≡◌, ℕ, ◌≤◌, Bool, true, false, List, [], ◌∷◌, ◌++◌, take, refl, sym, ap, ◌∙◌, subst, arith, length-append}
use Rattle.std.specs.List.{AllByRecursion}
use Rattle.std.proofs.lemmas.List.{take-append-le}
use Rattle.a429_equipment.specs.declared.loads.Load.{Load}
use Rattle.a429_equipment.specs.TableRecord.{TableRecord}
use Rattle.a429_equipment.specs.Agreement.{is_of, load_after, IsCutOfLoad, Cuts, Agrees}

-- ---- more accepted words

pub cut_more : (b : Bool) (A more : List (ℕ × ℕ)) (before : ℕ) (l : Load) (cut : ℕ) → IsCutOfLoad b A before l cut → IsCutOfLoad b (A ++ more) before l cut
cut_more true A more before l cut h =
    let same : take cut (A ++ more) ≡ take cut A = take-append-le cut A more h.1 in
    (h.0, omega (arith, h.1, length-append A more), h.2 ∙ ap (load_after l.source) (sym same))
cut_more false A more before l cut h = h

pub cuts_more : (mine : ℕ → Bool) (A more : List (ℕ × ℕ)) (before : ℕ) (ls : List Load) (last : ℕ) → Cuts mine A before ls last → Cuts mine (A ++ more) before ls last
cuts_more mine A more before [] last h = h
cuts_more mine A more before (l ∷ ls) last h = (h.0, cut_more (mine l.source) A more before l h.0 h.1, cuts_more mine A more h.0 ls last h.2)

pub agrees_more : (t : TableRecord) (r : ℕ) (A more : List (ℕ × ℕ)) (loads : List Load) → Agrees t r A loads → Agrees t r (A ++ more) loads
agrees_more t r A more loads h = (h.0, cuts_more (is_of t r) A more 0 loads h.0 h.1)

-- ---- part of the loads

pub cut_after : (b : Bool) (A : List (ℕ × ℕ)) (before : ℕ) (l : Load) (cut : ℕ) → IsCutOfLoad b A before l cut → before ≤ cut
cut_after true A before l cut h = h.0
cut_after false A before l cut h = omega (arith, h)

-- a load that has a cut from here on has one from an earlier place on, and it is no later
cut_from : (b : Bool) (A : List (ℕ × ℕ)) (from before : ℕ) (l : Load) (cut : ℕ) → from ≤ before → IsCutOfLoad b A before l cut → (c : ℕ) × IsCutOfLoad b A from l c × (c ≤ cut)
cut_from true A from before l cut le h = let low : from ≤ cut = omega (arith, le, h.0) in (cut, (low, h.1, h.2), omega arith)
cut_from false A from before l cut le h = (from, refl, omega (arith, le, h))

cuts_from : (mine : ℕ → Bool) (A : List (ℕ × ℕ)) (from before : ℕ) (ls : List Load) (last : ℕ) → from ≤ before → Cuts mine A before ls last → (end : ℕ) × Cuts mine A from ls end
cuts_from mine A from before [] last le h = (from, refl)
cuts_from mine A from before (l ∷ ls) last le h =
    let (c, is, low) = cut_from (mine l.source) A from before l h.0 le h.1 in
    let rest = cuts_from mine A c h.0 ls last low h.2 in
    (rest.0, (c, is, rest.1))

cuts_front : (mine : ℕ → Bool) (A : List (ℕ × ℕ)) (before : ℕ) (xs ys : List Load) (last : ℕ) → Cuts mine A before (xs ++ ys) last → (end : ℕ) × Cuts mine A before xs end
cuts_front mine A before [] ys last h = (before, refl)
cuts_front mine A before (x ∷ xs) ys last h = let rest = cuts_front mine A h.0 xs ys last h.2 in (rest.0, (h.0, h.1, rest.1))

cuts_back : (mine : ℕ → Bool) (A : List (ℕ × ℕ)) (before : ℕ) (xs ys : List Load) (last : ℕ) → Cuts mine A before (xs ++ ys) last → (end : ℕ) × Cuts mine A before ys end
cuts_back mine A before [] ys last h = (last, h)
cuts_back mine A before (x ∷ xs) ys last h =
    let rest = cuts_back mine A h.0 xs ys last h.2 in
    cuts_from mine A before h.0 ys rest.0 (cut_after (mine x.source) A before x h.0 h.1) rest.1

pub agrees_part : (t : TableRecord) (r : ℕ) (A : List (ℕ × ℕ)) (before loads later : List Load) → Agrees t r A (before ++ (loads ++ later)) → Agrees t r A loads
agrees_part t r A before loads later h =
    let back = cuts_back (is_of t r) A 0 before (loads ++ later) h.0 h.1 in
    cuts_front (is_of t r) A 0 loads later back.0 back.1

-- ---- loads of other receivers' sources

cuts_beside : (mine : ℕ → Bool) (A : List (ℕ × ℕ)) (before : ℕ) (loads others : List Load) (last : ℕ) → AllByRecursion (λ l. mine l.source ≡ false) others → Cuts mine A before loads last → Cuts mine A before (loads ++ others) last
cuts_beside mine A before [] [] last none h = h
cuts_beside mine A before [] (l ∷ others) last none h = (before, subst (λ (b : Bool). IsCutOfLoad b A before l before) (sym none.0) refl, cuts_beside mine A before [] others last none.1 h)
cuts_beside mine A before (l ∷ loads) others last none h = (h.0, h.1, cuts_beside mine A h.0 loads others last none h.2)

pub agrees_beside : (t : TableRecord) (r : ℕ) (A : List (ℕ × ℕ)) (loads others : List Load) → AllByRecursion (λ l. is_of t r l.source ≡ false) others → Agrees t r A loads → Agrees t r A (loads ++ others)
agrees_beside t r A loads others none h = (h.0, cuts_beside (is_of t r) A 0 loads others h.0 none h.1)
