-- `into_station` keeps the pointer.
use Rattle.std.proofs.Common.{◌≡◌, List, [], ◌∷◌, ◌++◌, refl, sym, subst}
use mir.Val.{Val}
use base.Logic.{SProp, ent, emp, id⊢}
use prog.Wp.{WpFn}
use types.Kit.{‵, raw, ◌⊛◌, ◌$◌, ◌∵◌, !, qed, by, move, keep, split, fsplit, fjoin, suffices, use0, use1}
use types.Run.{stop, fld, of_opd, no_more, and_then, returns, enter}
use types.ByLocal.{alloc_all, pass_all, free_all, look_at, get, get_in, sets}
use types.Part.{agg, sub, whole}
use contract.Monad.{fact, fact_i}
use contract.Running.{tables}
use denote.Exit.{yes}
use denote.RattleType.{RattleType, owns}
use denote.RawPtr.{ptr_val}
use denote.Signature.{types_at, plain}
use denote.Steps.{nothing}
use denote.Triple.Entry.{alive}
use denote.Triple.Walked.{Stays, stay_dropped, walk_of, Goes-dropped}
use Rattle.std.proofs.raw_atomic.Walks.{proved_at, leaves}
use Rattle.core.proofs.atomic.Steps.{Ptr-Good}
use Rattle.a429_c.proofs.OnePointer.{pointer, pointer_good, Row, row_in, row_out}
use Rattle.a429_c.specs.contracts.machine.Machine.{the_row as machine_row}
use Rattle.a429_c.specs.contracts.handle.Handle as handle
use Rattle.a429_c.specs.contracts.handle.Handle.into_station.{ended, clauses}
use Rattle.a429_c.specs.contracts.handle.Handle.into_station.Key.{name as #self}
use Rattle.a429_c.proofs.handle.Handle.into_station.Statement.{statement}
use Rattle.a429_c.proofs.handle.Handle.into_station.Code as code

pub into_station_spec : {M : Type 1} → statement M
into_station_spec 𝓤 𝓛 𝓜 𝓡 wired =
    let H = 𝓛.H in let 𝓣 = tables 𝓤 H 𝓜 𝓡 𝓡.env in let En = ended in let c = clauses 𝓛 𝓜.mem 𝓡.returns in let fn = code.function in let R : RattleType = machine_row in
    let hs : Stays En.signature.params En.kept = (stay_dropped (plain (λ _. handle.the_row)) yes, tt) in
    proved_at 𝓛 En hs c 𝓜 𝓡 (Goes-dropped 𝓛 0 (plain (λ _. handle.the_row)) yes (λ κs x f. refl), tt) #self fn (code.unfolded 𝓤 H 𝓜 𝓡 wired) (λ z are.
    let κs = z.0.0 in let qs = z.0.1 in let d = z.0.3.0 in let Post : Val → SProp 𝓤 = (walk_of 𝓛 En hs c).post z in let Run : List Val → SProp 𝓤 = λ ws. WpFn 𝓤 H 𝓣.C 𝓣.Λ fn ws Post in
    let w : Val = pointer (ptr_val d.at) in
    qed 𝓛 ((raw (alive 𝓛 En.signature κs qs) ⊛ ‵ (owns (types_at En.signature.params κs) z.0.3 z.0.4)) ∷ raw ((c κs z.0.3).requires z.1) ∷ []) ∵ split ! $ move ! (1 ∷ []) $ fsplit ! $
    use1 𝓛 (‵ ((Row R).own_val (record { at = d.at; held = d.held }) z.0.4.0)) (id⊢ 𝓤 _) $ row_out R ! (record { at = d.at; held = d.held }) z.0.4.0 (λ ws.
    suffices ! (Run (w ∷ [])) (subst (λ (us : List Val). ent 𝓤 (Run (w ∷ [])) (Run us)) (sym (λ i. ws i ++ [])) (id⊢ 𝓤 (Run (w ∷ [])))) $
    enter ! 𝓣.C 𝓣.Λ fn (w ∷ []) Post $ alloc_all ! (λ l. pass_all ! refl (pointer_good [] d.at, tt) $
    sets ! (of_opd ! (get_in ! (fld ! refl (stop !)) (sub ! 0 refl (whole !)))) refl (Ptr-Good d.at) $ sets ! (of_opd ! (get ! refl)) refl (Ptr-Good d.at) $
    sets ! (agg ! (and_then ! (get ! refl) (no_more !))) refl (pointer_good [] d.at) $
    -- [what is held; no more parameters; the tokens; nothing]
    row_in R ! d.at d.held $
    use0 𝓛 (raw (fact 𝓤 (d.held ≡ d.held))) (fact_i 𝓤 (d.held ≡ d.held) (emp 𝓤) refl) $ nothing ! $ nothing ! $ fjoin ! $
    returns ! (look_at ! 0 refl) $ free_all ! refl $ keep ! (5 ∷ 0 ∷ 2 ∷ 1 ∷ []) $ by ! (leaves 𝓛 En hs c z w (record { at = d.at; held = d.held }) (tt, tt) (tt, tt)))))
