-- A `BoxOrNull` as the machine has it: one pointer, and what `held_at` owns at it. Assumes `Logic`.
use Rattle.std.proofs.Common.{◌≡◌, ℕ, T, List, [], ◌∷◌, ◌++◌, refl, subst, lit<}
use seplogic.Ra.Ura.{Ura}
use mir.Raw.{raw as bare}
use mir.Syntax.{Sym, ty_ptr, ty_struct, tcons, tnil}
use mir.Val.{Val, vstruct, vcons, vnil, of_list, has_ty, WT}
use base.Logic.{ent, guard, guard_i, never, via, fst∗, snd∗}
use base.Fraction.{full_share}
use types.Logic.{Logic, sem}
use contract.Monad.{fact_use}
use types.Kit.{Item, Goal, Seq, Step, step, ‵, given, ◌$◌, drop, fsplit, fjoin, fpick, fpack, feq_i, feq_l, use1, learn}
use denote.RattleType.{RattleType, Valss}
use denote.Builtin.{RawPtr}
use denote.Memory.{lone}
use denote.RawPtr.{Ptr, block_ptr, null_ptr, ptr_val, in_a_block, Testable, lies_at}
use denote.Steps.{nothing}
use denote.Struct.Struct.{within}
use denote.Struct.Owning.{shape}
use Rattle.std.specs.declared.option.Option.{Option}
use Rattle.std.specs.declared.option.Option.TheVariants.{None, Some}
use Rattle.std.specs.contracts.impls.GlobalAllocator.TheImpl.{ghosts}
use Rattle.std.proofs.GlobalToken.{dealloc_token-Testable}
use Rattle.std_alloc.specs.Box.Ownership.{box_owns}
use Rattle.a429_c.specs.contracts.pointers.BoxOrNull as berth
use Rattle.a429_c.specs.Held.{heap, held_at}

-- a struct of one pointer
abbrev pub pointer : Val → Val
pointer v = vstruct (vcons v vnil)

pub pointer_good : (ν : Sym) (p : Ptr) → T (has_ty (ty_struct ν (tcons ty_ptr tnil)) (pointer (ptr_val p))) × WT (pointer (ptr_val p))
pointer_good ν (block_ptr b o) = (tt, (tt, tt))
pointer_good ν null_ptr = (tt, (record { fits = lit< tt }, tt))

module _ (R : RattleType) where
  abbrev pub Row : RattleType
  Row = berth.the_row R

  -- a value in a block that may be freed
  abbrev pub boxed : Ptr → R.Denot → base.Fml.Fml
  boxed = box_owns (ghosts.dealloc_token heap) R

  module _ {M : Type 1} {𝓤 : Ura M} (𝓛 : Logic 𝓤) where
    boxed-Testable : (p : Ptr) (x : R.Denot) → ent 𝓤 (sem 𝓛 (boxed p x)) (guard 𝓤 (Testable p) (sem 𝓛 (boxed p x)))
    boxed-Testable p x = fact_use 𝓤 (Testable p) (via 𝓤 _ (snd∗ 𝓤 (sem 𝓛 (lies_at R full_share p x)) (sem 𝓛 (ghosts.dealloc_token heap (bare (lone R.mir)) p))) (dealloc_token-Testable 𝓛 heap (bare (lone R.mir)) p)) (guard_i 𝓤 (Testable p) (sem 𝓛 (boxed p x)))

  module _ {M : Type 1} {𝓤 : Ura M} {𝓛 : Logic 𝓤} {K : Type 0} {Γ : List (Item 𝓤)} {G : Goal 𝓤 𝓛.H} where
    pub row_in : K → (p : Ptr) (x : Option R.Denot)
        → Step K 𝓛 (‵ (Row.own_val (record { at = p; held = x }) (pointer (ptr_val p) ∷ [])) ∷ Γ) G (‵ (held_at R p x) ∷ Γ) G
    row_in t p x = step (λ s. let v : Val = pointer (ptr_val p) in
        nothing t $ feq_i t (List Val) (ptr_val p ∷ []) (ptr_val p ∷ []) refl $ fjoin t $ feq_i t (List Val) (v ∷ []) (v ∷ []) refl $ fjoin t $
        fpack t (Valss (RawPtr ∷ [])) (within (shape (berth.the_type R)) (p, tt) (v ∷ [])) (ptr_val p ∷ [], tt) $ fjoin t $ s)

    pub row_out : K → (d : Row.Denot) (vs : List Val) → (vs ≡ pointer (ptr_val d.at) ∷ [] → Seq K 𝓛 (‵ (held_at R d.at d.held) ∷ Γ) G) → Seq K 𝓛 (‵ (Row.own_val d vs) ∷ Γ) G
    row_out t d vs k =
        fsplit t $ fpick t (λ vss. fsplit t $ feq_l t (λ ev. fsplit t $ feq_l t (λ ep. drop t $
        k (subst (λ (ps : List Val). vs ≡ vstruct (of_list (ps ++ [])) ∷ []) ep ev))))

    -- null, or a block whose address may be compared with null
    pub null_or_block : K → (p : Ptr) (x : Option R.Denot) → (p ≡ null_ptr → x ≡ None → Seq K 𝓛 Γ G)
        → ((b o : ℕ) (y : R.Denot) → p ≡ block_ptr b o → x ≡ Some y → Testable (block_ptr b o) → Seq K 𝓛 (‵ (boxed (block_ptr b o) y) ∷ Γ) G) → Seq K 𝓛 (‵ (held_at R p x) ∷ Γ) G
    null_or_block t p None none one = feq_l t (λ e. none e refl)
    null_or_block t p (Some y) none one =
        in_a_block t p (λ q. boxed q y) (fst∗ 𝓤 (never 𝓤) (sem 𝓛 (ghosts.dealloc_token heap (bare (lone R.mir)) null_ptr))) (λ b o e.
        use1 𝓛 (given (Testable (block_ptr b o)) (‵ (boxed (block_ptr b o) y))) (boxed-Testable 𝓛 (block_ptr b o) y) $ learn t (λ may. one b o y e refl may))
