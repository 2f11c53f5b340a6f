use Rattle.std.proofs.Common.{◌≡◌, ◌∙◌, ◌-◌, ◌^◌, ◌<◌, ◌≤◌, ℕ, Bool, true, false, List, length, rules, ap, refl, subst, sym}
use Rattle.std.specs.Prelude.{Result, Ok, Err, if◌then◌else◌, nat_lt}
use Rattle.std.proofs.lemmas.Bool.{le-leb, lt-leb}
use Rattle.std.proofs.lemmas.List.{length-set}
use Rattle.a429_equipment.specs.declared.arrivals.ArrivalRefusal.{ArrivalRefusal}
use Rattle.a429_equipment.specs.declared.rows.ReceiverRow.{ReceiverRow}
use Rattle.a429_equipment.specs.Arrivals.{sorted}
use Rattle.a429_slots.specs.declared.answers.Answer.{Answer}
use Rattle.a429_slots.specs.declared.answers.Answer.TheVariants.{Accepted, Refused}
use Rattle.a429_slots.specs.declared.answers.Refusal.{Refusal}
use Rattle.a429_slots.specs.declared.answers.Refusal.TheVariants.{NoSuch, CountSpent}
use Rattle.a429_core.specs.declared.sources.Kept.{Kept}
use Rattle.a429_core.specs.MachineStates.{MachineState}
use Rattle.a429_core.specs.MachineSteps.{arrived, count_at, kept_at, put_word}
use Rattle.a429_core.proofs.state.State.arrive.Goals as goal
use Rattle.a429_core.proofs.state.State.arrive.Goals.{then-keep, else-keep}

-- there is no such receiver
when_none : (C r raw : ℕ) (v w : MachineState) (rows : List ReceiverRow) → w ≡ v → rows ≡ w.station.receivers → length rows ≤ r → arrived C v r raw ≡ (Refused NoSuch, v)
when_none C r raw v w rows here are past =
    let low : length v.station.receivers ≤ r = subst (λ (n : ℕ). n ≤ r) (ap (λ (xs : List ReceiverRow). length xs) are ∙ ap (λ (s : MachineState). length s.station.receivers) here) past in
    ap (λ (b : Bool). if b then (Refused NoSuch, v) else put_word C v raw (sorted v.station r raw)) (le-leb (length v.station.receivers) r low)

-- there is, and its equipment sorts the word so
when_sorted : (C r raw : ℕ) (v w : MachineState) (rows : List ReceiverRow) (x : Result ℕ ArrivalRefusal) → w ≡ v → rows ≡ w.station.receivers → r < length rows → sorted w.station r raw ≡ x
    → arrived C v r raw ≡ put_word C w raw x
when_sorted C r raw v w rows x here are inside is =
    ap (λ (s : MachineState). arrived C s r raw) (sym here)
    ∙ ap (λ (b : Bool). if b then (Refused NoSuch, w) else put_word C w raw (sorted w.station r raw)) (lt-leb (length w.station.receivers) r (subst (λ (xs : List ReceiverRow). r < length xs) are inside))
    ∙ ap (put_word C w raw) is

-- the source has room for the word, or none
when_kept : (C limit raw word i : ℕ) (v : MachineState) (kept : Bool) → limit ≡ 2 ^ C - 1 → word ≡ raw → kept ≡ nat_lt (count_at v.sources i) limit
    → put_word C v raw (Ok i) ≡ (if kept then (Accepted i, record v { sources = kept_at v.sources i word }) else (Refused CountSpent, v))
when_kept C limit raw word i v kept most same is =
    sym (ap (λ (b : Bool). if b then (Accepted i, record v { sources = kept_at v.sources i word }) else (Refused CountSpent, v)) (is ∙ ap (nat_lt (count_at v.sources i)) most)
    ∙ ap (λ (w : ℕ). if nat_lt (count_at v.sources i) (2 ^ C - 1) then (Accepted i, record v { sources = kept_at v.sources i w }) else (Refused CountSpent, v)) same)

-- the answer to a word that is sorted, and the state after it
answer_is : (C limit r raw i : ℕ) (v w : MachineState) (kept : Bool) → arrived C v r raw ≡ put_word C w raw (Ok i) → limit ≡ 2 ^ C - 1 → kept ≡ nat_lt (count_at w.sources i) limit
    → (arrived C v r raw).0 ≡ (if kept then Accepted i else Refused CountSpent)
answer_is C limit r raw i v w true is most room = ap (λ (p : Answer × MachineState). p.0) (is ∙ when_kept C limit raw raw i w true most refl room)
answer_is C limit r raw i v w false is most room = ap (λ (p : Answer × MachineState). p.0) (is ∙ when_kept C limit raw raw i w false most refl room)

after_is : (C limit r raw word i : ℕ) (v w : MachineState) (kept : Bool) → arrived C v r raw ≡ put_word C w raw (Ok i) → limit ≡ 2 ^ C - 1 → kept ≡ nat_lt (count_at w.sources i) limit → word ≡ raw
    → record w { sources = if kept then kept_at w.sources i word else w.sources } ≡ (arrived C v r raw).1
after_is C limit r raw word i v w true is most room same = ap (λ (p : Answer × MachineState). p.1) (sym (is ∙ when_kept C limit raw word i w true most same room))
after_is C limit r raw word i v w false is most room same = ap (λ (p : Answer × MachineState). p.1) (sym (is ∙ when_kept C limit raw word i w false most same room))

as_many : (ks : List Kept) (i raw : ℕ) (kept : Bool) → length (if kept then kept_at ks i raw else ks) ≡ length ks
as_many ks i raw true = length-set ks i _
as_many ks i raw false = refl

pub returns-then-receiver-receivers-clause-answer : goal.returns-then-receiver-receivers-clause-answer
returns-then-receiver-receivers-clause-answer g c =
    sym (ap (λ (p : Answer × MachineState). p.0) (when_none g.row.C c.args.receiver c.args.raw c.args.self.now _ c.receivers.result.now c.self.view_is c.receivers.ensures.rows c.if-receiver-receivers.true))

pub returns-then-receiver-receivers-clause-after : goal.returns-then-receiver-receivers-clause-after
returns-then-receiver-receivers-clause-after g c =
    sym (ap (λ (p : Answer × MachineState). p.1) (when_none g.row.C c.args.receiver c.args.raw c.args.self.now _ c.receivers.result.now c.self.view_is c.receivers.ensures.rows c.if-receiver-receivers.true))

pub source_for-requires : goal.source_for-requires
source_for-requires g c = subst (λ (xs : List ReceiverRow). c.args.receiver < length xs) c.receivers.ensures.rows c.if-receiver-receivers.false

pub invariant_of-self : goal.invariant_of-self
invariant_of-self g c =
    let (limit, sources, tables, groups) = c.self.invariant in
    (limit, ap (λ (ks : List Kept). length ks) c.keep.ensures.kept ∙ as_many c.self.inside.sources.items c.in-Ok.source _ c.keep.result ∙ sources, tables, groups)

pub returns-in-Err-clause-answer : goal.returns-in-Err-clause-answer
returns-in-Err-clause-answer g c =
    let is = when_sorted g.row.C c.args.receiver c.args.raw c.args.self.now _ c.receivers.result.now (Err c.in-Err.refusal) c.self.view_is c.receivers.ensures.rows c.if-receiver-receivers.false c.in-Err.ensures.sorted in
    ap (λ (w : Refusal). Refused w) c.from.ensures ∙ sym (ap (λ (p : Answer × MachineState). p.0) is)

pub returns-in-Err-clause-after : goal.returns-in-Err-clause-after
returns-in-Err-clause-after g c =
    let is = when_sorted g.row.C c.args.receiver c.args.raw c.args.self.now _ c.receivers.result.now (Err c.in-Err.refusal) c.self.view_is c.receivers.ensures.rows c.if-receiver-receivers.false c.in-Err.ensures.sorted in
    sym (ap (λ (p : Answer × MachineState). p.1) is ∙ c.self.view_is)

pub returns-after-keep-clause-answer : goal.returns-after-keep-clause-answer
returns-after-keep-clause-answer g c =
    let is = when_sorted g.row.C c.args.receiver c.args.raw c.args.self.now _ c.receivers.result.now (Ok c.in-Ok.source) c.self.view_is c.receivers.ensures.rows c.if-receiver-receivers.false c.in-Ok.ensures.sorted in
    let (limit, sources, tables, groups) = c.self.invariant in
    let told = answer_is g.row.C c.self.inside.limit c.args.receiver c.args.raw c.in-Ok.source c.args.self.now _ c.keep.result is limit c.keep.ensures.room in
    elim c.if-keep.branch [
      | then-keep w ↦ w.result-is ∙ sym (told ∙ ap (λ (b : Bool). if b then Accepted c.in-Ok.source else Refused CountSpent) w.if-keep.true)
      | else-keep w ↦ w.result-is ∙ sym (told ∙ ap (λ (b : Bool). if b then Accepted c.in-Ok.source else Refused CountSpent) w.if-keep.false)
    ]

pub returns-after-keep-clause-after : goal.returns-after-keep-clause-after
returns-after-keep-clause-after g c =
    let here = c.self.inside in
    let is = when_sorted g.row.C c.args.receiver c.args.raw c.args.self.now _ c.receivers.result.now (Ok c.in-Ok.source) c.self.view_is c.receivers.ensures.rows c.if-receiver-receivers.false c.in-Ok.ensures.sorted in
    let (limit, sources, tables, groups) = c.self.invariant in
    ap (λ (ks : List Kept). record { station = here.equipment; sources = ks; groups = here.groups.items; sends = here.sends.items; newest = here.newest.value }) c.keep.ensures.kept
    ∙ after_is g.row.C here.limit c.args.receiver c.args.raw _ c.in-Ok.source c.args.self.now _ c.keep.result is limit c.keep.ensures.room (search (rules, c.in-Ok.ensures.word))
