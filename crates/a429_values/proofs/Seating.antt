-- Which seat has a view of some kind, when one view changes or a new seat comes.
use Rattle.std.proofs.Common.{◌≡◌, ◌≢◌, ◌⊎◌, ◌↔◌, ℕ, zero, suc, List, [], ◌∷◌, ◌++◌, length, set, Some, None, Option, cond, eqb, eq-eqb, ne_eqb, refl, sym, ap, ◌∙◌, subst, ⊎_elim, inl, inr}
use mathlib.Core.Option.{some, some-injective, some-ne-none}
use mathlib.Core.Logic.{dite}
use native.Mathlib.Decide.{ℕ_discrete}
use lib.ListN.{get_elem?}
use Rattle.atomic_table.proofs.Lists.{at_set, at_last, at_longer, set_else}
use Rattle.a429_values.specs.declared.view.View.{View}
use Rattle.a429_values.specs.Rule.{HasAt, JustAt}

put_at : (views : List View) (id : ℕ) (v w : View) → get_elem? views id ≡ some v → get_elem? (set views id w) id ≡ some w
put_at [] id v w e = absurd (some-ne-none v (sym e))
put_at (x ∷ xs) zero v w e = refl
put_at (x ∷ xs) (suc id) v w e = put_at xs id v w e

pub at_end : (views : List View) (a b : View) (j : ℕ) → get_elem? (views ++ a ∷ []) j ≡ some b → (get_elem? views j ≡ some b) ⊎ ((j ≡ length views) × (a ≡ b))
at_end [] a b zero e = inr (refl, some-injective a b e)
at_end [] a b (suc j) e = absurd (some-ne-none b (sym e))
at_end (x ∷ xs) a b zero e = inl e
at_end (x ∷ xs) a b (suc j) e = ⊎_elim (λ h. inl h) (λ h. inr (ap suc h.0, h.1)) (at_end xs a b j e)

same_seat : (i j : ℕ) → Some i ≡ Some j → i ≡ j
same_seat i j e = cc

module _ (views : List View) (P : View → Type 0) where
  pub one_seat : (seat : Option ℕ) (i j : ℕ) → JustAt views P seat → HasAt views P i → HasAt views P j → i ≡ j
  one_seat seat i j just h g = same_seat i j (sym ((just i).1 h) ∙ (just j).1 g)

  has_set : (id i : ℕ) (v w : View) → get_elem? views id ≡ some v → (P v → P w) → HasAt views P i → HasAt (set views id w) P i
  has_set id i v w here to h = dite (ℕ_discrete i id)
      (λ is. (w, ap (get_elem? (set views id w)) is ∙ put_at views id v w here, to (subst P (some-injective h.0 v (sym h.1 ∙ ap (get_elem? views) is ∙ here)) h.2)))
      (λ ne. (h.0, set_else views id i w ne ∙ h.1, h.2))

  had_set : (id i : ℕ) (v w : View) → get_elem? views id ≡ some v → (P w → P v) → HasAt (set views id w) P i → HasAt views P i
  had_set id i v w here from h = ⊎_elim
      (λ (x : (i ≡ id) × (w ≡ h.0)). (v, ap (get_elem? views) x.0 ∙ here, from (subst P (sym x.1) h.2)))
      (λ (x : (i ≢ id) × (get_elem? views i ≡ some h.0)). (h.0, x.1, h.2))
      (at_set views id i w h.0 h.1)

  -- the new view is what the old one was
  pub just_set : (seat : Option ℕ) (id : ℕ) (v w : View) → get_elem? views id ≡ some v → P v ↔ P w → JustAt views P seat → JustAt (set views id w) P seat
  just_set seat id v w here same just i = ((λ e. has_set id i v w here same.0 ((just i).0 e)), (λ h. (just i).1 (had_set id i v w here same.1 h)))

  -- the new seat is none
  pub just_more : (seat : Option ℕ) (w : View) → (P w → ⊥) → JustAt views P seat → JustAt (views ++ w ∷ []) P seat
  just_more seat w never just i = (
    (λ e. let h = (just i).0 e in (h.0, at_longer views (w ∷ []) i h.0 h.1, h.2)),
    (λ h. ⊎_elim
        (λ (x : get_elem? views i ≡ some h.0). (just i).1 (h.0, x, h.2))
        (λ (x : (i ≡ length views) × (w ≡ h.0)). absurd (never (subst P (sym x.1) h.2)))
        (at_end views w h.0 i h.1)),
  )

  -- the new seat is the first
  pub just_new : (w : View) → P w → JustAt views P None → JustAt (views ++ w ∷ []) P (Some (length views))
  just_new w has none i = (
    (λ e. (w, at_last views w i (same_seat (length views) i e), has)),
    (λ h. ⊎_elim
        (λ (x : get_elem? views i ≡ some h.0). let clash : None ≡ Some i = (none i).1 (h.0, x, h.2) in absurd (cc))
        (λ (x : (i ≡ length views) × (w ≡ h.0)). ap Some (sym x.0))
        (at_end views w h.0 i h.1)),
  )

  -- the view that was one is none now
  pub just_gone : (id : ℕ) (w : View) → (P w → ⊥) → JustAt views P (Some id) → JustAt (set views id w) P None
  just_gone id w never just i = (
    (λ e. absurd (cc)),
    (λ h. ⊎_elim
        (λ (x : (i ≡ id) × (w ≡ h.0)). absurd (never (subst P (sym x.1) h.2)))
        (λ (x : (i ≢ id) × (get_elem? views i ≡ some h.0)). absurd (x.0 (sym (same_seat id i ((just i).1 (h.0, x.1, h.2))))))
        (at_set views id i w h.0 h.1)),
  )

  -- another seat is one instead of the one that was
  pub just_moved : (id other : ℕ) (v b x : View) → get_elem? views id ≡ some v → other ≢ id → P b → (P x → ⊥) → JustAt views P (Some other) → JustAt (set (set views id b) other x) P (Some id)
  just_moved id other v b x here apart has never just i = (
    (λ e. (b, ap (get_elem? (set (set views id b) other x)) (sym (same_seat id i e)) ∙ set_else (set views id b) other id x (λ is. apart (sym is)) ∙ put_at views id v b here, has)),
    (λ h. ⊎_elim
        (λ (y : (i ≡ other) × (x ≡ h.0)). absurd (never (subst P (sym y.1) h.2)))
        (λ (y : (i ≢ other) × (get_elem? (set views id b) i ≡ some h.0)). ⊎_elim
        (λ (z : (i ≡ id) × (b ≡ h.0)). ap Some (sym z.0))
        (λ (z : (i ≢ id) × (get_elem? views i ≡ some h.0)). absurd (y.0 (sym (same_seat other i ((just i).1 (h.0, z.1, h.2))))))
        (at_set views id i b h.0 y.1))
        (at_set (set views id b) other i x h.0 h.1)),
  )

pub just_none : (P : View → Type 0) → JustAt [] P None
just_none P i = ((λ e. absurd (cc)), (λ h. absurd (some-ne-none h.0 (sym h.1))))

-- the seat of number r is i
abbrev pub reseat : ℕ → ℕ → (ℕ → Option ℕ) → ℕ → Option ℕ
reseat r i seat q = cond (eqb q r) (Some i) (seat q)

-- what is true of r at its new seat, and of any other number at its old one, is true of all
pub reseated : (Q : ℕ → Option ℕ → Type 0) (r i : ℕ) (seat : ℕ → Option ℕ) → Q r (Some i) → ((q : ℕ) → q ≢ r → Q q (seat q)) → (q : ℕ) → Q q (reseat r i seat q)
reseated Q r i seat here others q = dite (ℕ_discrete q r)
    (λ is. rw (eq-eqb q r is) (subst (λ (k : ℕ). Q k (Some i)) (sym is) here))
    (λ ne. rw (ne_eqb q r ne) (others q ne))
