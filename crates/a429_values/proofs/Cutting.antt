-- Cuts stay when a list grows, one more load has a cut of its own, and no count goes back.
use Rattle.std.proofs.Common.{◌≡◌, ℕ, ◌≤◌, List, [], ◌∷◌, ◌++◌, length, take, Bool, true, false, refl, sym, ap, ◌∙◌, subst, arith}
use lib.Seq.{take-length}
use Rattle.a429_equipment.specs.declared.loads.Load.{Load}
use Rattle.a429_equipment.specs.Agreement.{words_of, load_after, CountsNoLess, IsCutOfLoad, Cuts}
use Rattle.a429_equipment.proofs.Lasting.{cut_after}
use Rattle.a429_equipment.proofs.Cutting.{count_up}

pub cuts_longer : (mine : ℕ → Bool) (A : List (ℕ × ℕ)) (before : ℕ) (ls : List Load) (mid : ℕ) (l : Load) (last : ℕ) → Cuts mine A before ls mid → IsCutOfLoad (mine l.source) A mid l last → Cuts mine A before (ls ++ l ∷ []) last
cuts_longer mine A before [] mid l last h c = (last, subst (λ (f : ℕ). IsCutOfLoad (mine l.source) A f l last) (sym h) c, refl)
cuts_longer mine A before (x ∷ xs) mid l last h c = (h.0, h.1, cuts_longer mine A h.0 xs mid l last h.2 c)

pub cut_in_two : (mine : ℕ → Bool) (A : List (ℕ × ℕ)) (before : ℕ) (xs ys : List Load) (last : ℕ) → Cuts mine A before (xs ++ ys) last → (mid : ℕ) × Cuts mine A before xs mid × Cuts mine A mid ys last
cut_in_two mine A before [] ys last h = (before, refl, h)
cut_in_two mine A before (x ∷ xs) ys last h = let r = cut_in_two mine A h.0 xs ys last h.2 in (r.0, (h.0, h.1, r.1), r.2)

pub cuts_up : (mine : ℕ → Bool) (A : List (ℕ × ℕ)) (before : ℕ) (ls : List Load) (last : ℕ) → Cuts mine A before ls last → before ≤ last
cuts_up mine A before [] last h = omega (arith, h)
cuts_up mine A before (l ∷ ls) last h = let a = cut_after (mine l.source) A before l h.0 h.1 in let b = cuts_up mine A h.0 ls last h.2 in omega (arith, a, b)

cut_within : (b : Bool) (A : List (ℕ × ℕ)) (before : ℕ) (l : Load) (cut : ℕ) → before ≤ length A → IsCutOfLoad b A before l cut → cut ≤ length A
cut_within true A before l cut le h = h.1
cut_within false A before l cut le h = omega (arith, h)

pub cuts_within : (mine : ℕ → Bool) (A : List (ℕ × ℕ)) (before : ℕ) (ls : List Load) (last : ℕ) → before ≤ length A → Cuts mine A before ls last → last ≤ length A
cuts_within mine A before [] last le h = omega (arith, h)
cuts_within mine A before (l ∷ ls) last le h = cuts_within mine A h.0 ls last (cut_within (mine l.source) A before l h.0 le h.1) h.2

-- no load of a source that has a cut found more than the load after all that was accepted
pub none_above : (mine : ℕ → Bool) (A : List (ℕ × ℕ)) (s before : ℕ) (ls : List Load) (last : ℕ) → mine s ≡ true → Cuts mine A before ls last → CountsNoLess ls (load_after s A)
none_above mine A s before [] last own h = tt
none_above mine A s before (l ∷ ls) last own h = (here, none_above mine A s h.0 ls last own h.2)
  where
    here : l.source ≡ s → l.count ≤ length (words_of s A)
    here is =
        let cut : IsCutOfLoad true A before l h.0 = subst (λ (b : Bool). IsCutOfLoad b A before l h.0) (ap mine is ∙ own) h.1 in
        let count : l.count ≡ length (words_of s (take h.0 A)) = ap (λ (m : Load). m.count) cut.2 ∙ ap (λ (k : ℕ). length (words_of k (take h.0 A))) is in
        let up : length (words_of s (take h.0 A)) ≤ length (words_of s (take (length A) A)) = count_up s h.0 (length A) A cut.1 in
        omega (arith, count, up, ap (λ (B : List (ℕ × ℕ)). length (words_of s B)) (take-length A))
