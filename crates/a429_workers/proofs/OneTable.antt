-- While one slot table is in force, a transmitter's cells of a source are a period apart.
use Rattle.std.proofs.Common.{◌≡◌, ℕ, zero, suc, ◌+◌, ◌-◌, ◌*◌, ◌/◌, ◌%◌, ◌^◌, ◌<◌, ◌≤◌, Bool, true, false, List, [], ◌∷◌, ◌∙◌, sym, ap, subst, refl, inl, inr, arith}
use Rattle.std.specs.Prelude.{Option, Some, None, if◌then◌else◌, length, nat_lt, slice_get, option_and_then, option_map, unwrap_or}
use Rattle.std.specs.List.{AllByRecursion}
use Rattle.std.specs.Option.{option_map_or}
use Rattle.std.proofs.Math.Nat.{mul-le-mul_right}
use Rattle.std.proofs.lemmas.Bool.{cases_eq, cases_lt, lt-ltb, ltb-true}
use Rattle.std.proofs.lemmas.Option.{none-some, same_Some}
use mathlib.Core.List.{IsPrefix}
use Rattle.a429_word.proofs.Lists.{all_beginning, in_frame, prefix_on, prefix_self}
use Rattle.a429_equipment.specs.declared.loads.Load.{Load}
use Rattle.a429_slots.specs.Tables.{Placed, SlotTable, PlanTable, groups_of, frame_of, buses_of, cells_of, output_in}
use Rattle.a429_slots.specs.History.{last_of}
use Rattle.a429_slots.specs.FrameStates.{FrameState, after_cell, fits_next, turned}
use Rattle.a429_slots.specs.Spacing.{IsSpacedTable}
use Rattle.a429_slots.proofs.SamePlan.{alike, later_slot, rest_of_frames, rests_apart}
use Rattle.a429_workers.specs.Calls.{Call, Asks, Turns, Meets, Takes, StaysMid, StaysSpent, Carried, GroupState, IsAnswered, IsLawful, AreLawful, after, state_after, table_of}
use Rattle.a429_workers.specs.SentWords.{AnswersAt, HasOneTable, IsSpacedPlan, IsTooCloseAt, SendsAt, standing_at, table_at, output_due}
use Rattle.a429_workers.specs.Transmitting.{IsReached}
use Rattle.a429_workers.proofs.Calling.{due_is, reached_cell, reached_own, reached_turn, same_table, slot_after}
use Rattle.a429_workers.proofs.Lists.{all_get}
use Rattle.a429_workers.proofs.SentWords.{lawful_at, stands_there, word_near}

-- ---- cells of one table

-- the next cell of the frame has an output, in this slot counted from the station's first
record IsDueIn (t : SlotTable) (f : FrameState) (x : Placed) (slot : ℕ) : Type 0 where
  pub left : f.sent < cells_of t
  pub stands : output_in t (f.sent % buses_of t) (f.sent / buses_of t) ≡ Some x
  pub slot_is : slot ≡ f.first + f.sent / buses_of t

-- some frames on by one table
record IsOn (t : SlotTable) (f h : FrameState) : Type 0 where
  pub frames : ℕ
  pub first : h.first ≡ f.first + frames * frame_of t
  pub sent : frames ≡ 0 → f.sent ≤ h.sent

cells_apart : (t : SlotTable) (f h : FrameState) (x y : Placed) (u v : ℕ) → IsSpacedTable t → IsDueIn t f x u → IsDueIn t h y v → x.source ≡ y.source → IsOn t (record f { sent = f.sent + 1 }) h → u + y.limits.spacing ≤ v
cells_apart t f h x y u v S A B same O =
    let m = buses_of t in
    let H = frame_of t in
    let r = O.frames in
    let a = f.sent / m in
    let b = h.sent / m in
    let L = alike t (f.sent % m) a (h.sent % m) b x y S A.stands B.stands same in
    let rest : a % 2 ^ y.place.period ≡ (r * H + b) % 2 ^ y.place.period = L.rest ∙ sym (rest_of_frames t.frame y.place.period r b L.fits) in
    let later : a < r * H + b = elim (cases_eq r 0) [
      | inl none ↦
          let less : f.sent < h.sent = omega (arith, O.sent none) in
          let zero_frames : r * H ≡ 0 = ap (λ (n : ℕ). n * H) none ∙ omega arith in
          let slot : a < b = later_slot f.sent h.sent m less L.bus in
          omega (arith, zero_frames, slot)
      | inr some ↦
          let inside : a < H = in_frame f.sent m H A.left in
          let one : 1 * H ≤ r * H = mul-le-mul_right {m = 1} {n = r} H (omega (arith, some)) in
          omega (arith, inside, one)
    ] in
    let far : a + 2 ^ y.place.period ≤ r * H + b = rests_apart a (r * H + b) (2 ^ y.place.period) later rest in
    omega (arith, A.slot_is, B.slot_is, O.first, far, L.spaced)

-- ---- calls go on

on_self : (t : SlotTable) (f : FrameState) → IsOn t f f
on_self t f = record { frames = 0; first = omega arith; sent = λ none. omega arith }

on_cell : (t : SlotTable) (f : FrameState) → IsOn t f (after_cell f)
on_cell t f = go (nat_lt f.sent (cells_of f.table))
  where
    go : (b : Bool) → IsOn t f (if b then record f { sent = f.sent + 1 } else f)
    go true = record { frames = 0; first = omega arith; sent = λ none. omega arith }
    go false = on_self t f

on_turn : (t n : SlotTable) (f : FrameState) → f.table ≡ t → IsOn t f (turned f n)
on_turn t n f is = go (fits_next f n)
  where
    go : (b : Bool) → IsOn t f (if b then record { table = n; first = f.first + frame_of f.table; sent = 0 } else f)
    go true = record { frames = 1; first = ap (λ (u : SlotTable). f.first + frame_of u) is ∙ omega arith; sent = λ none. absurd (omega (arith, none)) }
    go false = on_self t f

on_call : (t : SlotTable) (g : ℕ) (p : SlotTable) (s : GroupState) (c : Call) → s.frame.table ≡ t → IsOn t s.frame (after g p s c).frame
on_call t g p s (Asks (Some c)) is = on_cell t s.frame
on_call t g p s (Asks None) is = on_self t s.frame
on_call t g p s (Turns plans (Takes n)) is = on_turn t (table_of g p plans) s.frame is
on_call t g p s (Turns plans StaysMid) is = on_self t s.frame
on_call t g p s (Turns plans StaysSpent) is = on_self t s.frame
on_call t g p s (Meets loads) is = on_self t s.frame

on_further : (t : SlotTable) (f h e : FrameState) → IsOn t f h → IsOn t h e → IsOn t f e
on_further t f h e O P = record {
  frames = O.frames + P.frames;
  first =
      let H = frame_of t in
      let split : (O.frames + P.frames) * H ≡ O.frames * H + P.frames * H = omega arith in
      omega (arith, O.first, P.first, split);
  sent = λ none.
      let one = O.sent (omega (arith, none)) in
      let other = P.sent (omega (arith, none)) in
      omega (arith, one, other);
}

on_calls : (t : SlotTable) (g : ℕ) (p : SlotTable) (s : GroupState) (calls : List Call) (k : ℕ) → ((i : ℕ) → i ≤ k → table_at g p s calls i ≡ t) → IsOn t s.frame (standing_at g p s calls k).frame
on_calls t g p s calls zero all = on_self t s.frame
on_calls t g p s [] (suc k) all = on_self t s.frame
on_calls t g p s (c ∷ calls) (suc k) all =
    on_further t s.frame (after g p s c).frame (standing_at g p (after g p s c) calls k).frame (on_call t g p s c (all 0 (omega arith)))
    (on_calls t g p (after g p s c) calls k (λ i low. all (suc i) (omega (arith, low))))

-- ---- two cells

due_in : (t : SlotTable) (s : GroupState) (c : Carried) (x : Placed) → IsAnswered s c → s.frame.table ≡ t → output_due s ≡ Some x → IsDueIn t s.frame x c.slot
due_in t s c x A is due =
    let f = s.frame in
    let D = due_is f A.cell A.due in
    let bus : f.sent % buses_of f.table ≡ A.cell.0 = ap (λ (p : ℕ × ℕ). p.0) D.place in
    let slot : f.sent / buses_of f.table ≡ A.cell.1 = ap (λ (p : ℕ × ℕ). p.1) D.place in
    let there : output_in f.table (f.sent % buses_of f.table) (f.sent / buses_of f.table) ≡ Some x =
    ap (λ (b : ℕ). output_in f.table b (f.sent / buses_of f.table)) bus ∙ (ap (λ (n : ℕ). output_in f.table A.cell.0 n) slot ∙ stands_there s c x A due) in
    record {
      left = subst (λ (u : SlotTable). f.sent < cells_of u) is (ltb-true f.sent (cells_of f.table) D.left);
      stands = subst (λ (u : SlotTable). output_in u (f.sent % buses_of u) (f.sent / buses_of u) ≡ Some x) is there;
      slot_is = A.slot ∙ ap (λ (n : ℕ). f.first + n) (sym slot ∙ ap (λ (u : SlotTable). f.sent / buses_of u) is);
    }

-- the first call answers a cell
from_here : (t : SlotTable) (g : ℕ) (p : SlotTable) (s : GroupState) (calls : List Call) (k : ℕ) (c d : Carried) (x y : Placed) → IsSpacedTable t → IsAnswered s c → AreLawful g p (after g p s (Asks (Some c))) calls
    → output_due s ≡ Some x → s.frame.table ≡ t → ((i : ℕ) → i ≤ k → table_at g p (after g p s (Asks (Some c))) calls i ≡ t) → AnswersAt g p (after g p s (Asks (Some c))) calls k y d → x.source ≡ y.source
    → c.slot + y.limits.spacing ≤ d.slot
from_here t g p s calls k c d x y S A all due is tables K same =
    let next = after g p s (Asks (Some c)) in
    let I = due_in t s c x A is due in
    let left : s.frame.sent < cells_of s.frame.table = subst (λ (u : SlotTable). s.frame.sent < cells_of u) (sym is) I.left in
    let one : after_cell s.frame ≡ record s.frame { sent = s.frame.sent + 1 } = rw (lt-ltb s.frame.sent (cells_of s.frame.table) left) refl in
    let B = lawful_at g p next calls k (Asks (Some d)) all K.asked in
    cells_apart t s.frame (standing_at g p next calls k).frame x y c.slot d.slot S I
    (due_in t (standing_at g p next calls k) d y B (tables k (omega arith)) K.due) same
    (subst (λ (f : FrameState). IsOn t f (standing_at g p next calls k).frame) one (on_calls t g p next calls k tables))

pub table_apart : (g : ℕ) (p : SlotTable) (s : GroupState) (calls : List Call) (j k : ℕ) (earlier now : Placed) (c d : Carried) → AreLawful g p s calls → j < k → AnswersAt g p s calls j earlier c → AnswersAt g p s calls k now d
    → earlier.source ≡ now.source → IsSpacedTable (table_at g p s calls k) → HasOneTable g p s calls j k → c.slot + now.limits.spacing ≤ d.slot
table_apart g p s calls j zero earlier now c d all less J K same S one = absurd (omega (arith, less))
table_apart g p s [] j (suc k) earlier now c d all less J K same S one = absurd (none-some (Asks (Some c)) J.asked)
table_apart g p s (e ∷ calls) zero (suc k) earlier now c d all less J K same S one =
    let is : e ≡ Asks (Some c) = same_Some e (Asks (Some c)) J.asked in
    let next = after g p s (Asks (Some c)) in
    let A : IsAnswered s c = lawful_at g p s (e ∷ calls) 0 (Asks (Some c)) all J.asked in
    let tables : (i : ℕ) → i ≤ k → table_at g p next calls i ≡ table_at g p (after g p s e) calls k =
    λ i low. subst (λ (x : Call). table_at g p (after g p s x) calls i ≡ table_at g p (after g p s e) calls k) is (one (suc i) (omega arith) (omega (arith, low))) in
    from_here (table_at g p (after g p s e) calls k) g p s calls k c d earlier now S A (subst (λ (x : Call). AreLawful g p (after g p s x) calls) is all.1) J.due (one 0 (omega arith) (omega arith)) tables
    (subst (λ (x : Call). AnswersAt g p (after g p s x) calls k now d) is (record { asked = K.asked; due = K.due })) same
table_apart g p s (e ∷ calls) (suc j) (suc k) earlier now c d all less J K same S one =
    table_apart g p (after g p s e) calls j k earlier now c d all.1 (omega (arith, less)) (record { asked = J.asked; due = J.due }) (record { asked = K.asked; due = K.due }) same S
    (λ i low high. one (suc i) (omega (arith, low)) (omega (arith, high)))

-- ---- slots go on

reached_on : (g : ℕ) (p : SlotTable) (s : GroupState) (c : Call) (slot : ℕ) → IsReached s.frame slot → IsReached (after g p s c).frame slot
reached_on g p s (Asks (Some c)) slot R = reached_cell s.frame slot R
reached_on g p s (Asks None) slot R = R
reached_on g p s (Turns plans (Takes n)) slot R = reached_turn s.frame (table_of g p plans) slot R
reached_on g p s (Turns plans StaysMid) slot R = R
reached_on g p s (Turns plans StaysSpent) slot R = R
reached_on g p s (Meets loads) slot R = R

not_before : (g : ℕ) (p : SlotTable) (s : GroupState) (calls : List Call) (k slot : ℕ) (d : Carried) → AreLawful g p s calls → slice_get calls k ≡ Some (Asks (Some d)) → IsReached s.frame slot → slot ≤ d.slot
not_before g p s [] k slot d all h R = absurd (none-some (Asks (Some d)) h)
not_before g p s (c ∷ calls) zero slot d all h R =
    let A : IsAnswered s d = lawful_at g p s (c ∷ calls) 0 (Asks (Some d)) all h in
    omega (arith, slot_after s.frame A.cell slot A.due R, A.slot)
not_before g p s (c ∷ calls) (suc k) slot d all h R = not_before g p (after g p s c) calls k slot d all.1 h (reached_on g p s c slot R)

slots_grow : (g : ℕ) (p : SlotTable) (s : GroupState) (calls : List Call) (j k : ℕ) (c d : Carried) → AreLawful g p s calls → j < k → slice_get calls j ≡ Some (Asks (Some c)) → slice_get calls k ≡ Some (Asks (Some d)) → c.slot ≤ d.slot
slots_grow g p s calls j zero c d all less a b = absurd (omega (arith, less))
slots_grow g p s [] j (suc k) c d all less a b = absurd (none-some (Asks (Some c)) a)
slots_grow g p s (e ∷ calls) zero (suc k) c d all less a b =
    let is : e ≡ Asks (Some c) = same_Some e (Asks (Some c)) a in
    let A : IsAnswered s c = lawful_at g p s (e ∷ calls) 0 (Asks (Some c)) all a in
    let R : IsReached (after g p s (Asks (Some c))).frame c.slot = subst (λ (n : ℕ). IsReached (after_cell s.frame) n) (sym A.slot) (reached_own s.frame A.cell A.due) in
    not_before g p (after g p s e) calls k c.slot d all.1 b (subst (λ (x : Call). IsReached (after g p s x).frame c.slot) (sym is) R)
slots_grow g p s (e ∷ calls) (suc j) (suc k) c d all less a b = slots_grow g p (after g p s e) calls j k c d all.1 (omega (arith, less)) a b

-- ---- cells that spacing leaves empty

-- an answered cell for which a load was made is an output's
record IsOf (g : ℕ) (p : SlotTable) (s : GroupState) (calls : List Call) (j source : ℕ) (c : Carried) : Type 0 where
  pub output : Placed
  pub answers : AnswersAt g p s calls j output c
  pub own : output.source ≡ source

is_of : (g : ℕ) (p : SlotTable) (s : GroupState) (calls : List Call) (j : ℕ) (c : Carried) (l : Load) → AreLawful g p s calls → SendsAt calls j c l → IsOf g p s calls j l.source c
is_of g p s calls j c l all B =
    let now = standing_at g p s calls j in
    let A : IsAnswered now c = lawful_at g p s calls j (Asks (Some c)) all B.asked in
    let source : Some l.source ≡ option_map (λ (o : Placed). o.source) (output_in now.frame.table A.cell.0 A.cell.1) = ap (λ (x : Option Load). option_map (λ m. m.source) x) (sym B.load) ∙ A.load in
    by now (output_in now.frame.table A.cell.0 A.cell.1) (ap (λ (x : Option (ℕ × ℕ)). option_and_then (λ cell. output_in now.frame.table cell.0 cell.1) x) A.due) source
  where
    by : (now : GroupState) (x : Option Placed) → output_due (standing_at g p s calls j) ≡ x → Some l.source ≡ option_map (λ (o : Placed). o.source) x → IsOf g p s calls j l.source c
    by now None is same = absurd (none-some l.source (sym same))
    by now (Some o) is same = record { output = o; answers = record { asked = B.asked; due = is }; own = sym (same_Some l.source o.source same) }

pub first_only : (g : ℕ) (p : SlotTable) (s : GroupState) (calls : List Call) (i k : ℕ) (earlier now : Placed) (c d : Carried) → s.earlier ≡ [] → AreLawful g p s calls → i < k → AnswersAt g p s calls i earlier c
    → AnswersAt g p s calls k now d → earlier.source ≡ now.source → IsSpacedTable (table_at g p s calls k) → IsTooCloseAt g p s calls k now d → HasOneTable g p s calls i k → ⊥
first_only g p s calls i k earlier now c d none all before I K same S close one =
    let W = word_near g p s calls k now d none close in
    let B = is_of g p s calls W.place W.near.cell W.near.load all W.near.sends in
    let near : d.slot < W.near.cell.slot + now.limits.spacing = W.near.near in
    elim (cases_lt W.place i) [
      | inl less ↦
          let apart = table_apart g p s calls i k earlier now c d all before I K same S one in
          let grown = slots_grow g p s calls W.place i W.near.cell c all less B.answers.asked I.asked in
          omega (arith, near, apart, grown)
      | inr more ↦
          let apart = table_apart g p s calls W.place k B.output now W.near.cell d all W.before B.answers K (B.own ∙ W.near.same) S (λ m low high. one m (omega (arith, more, low)) high) in
          omega (arith, near, apart)
    ]

-- before the table changes
pub none_at_first : (g : ℕ) (p : SlotTable) (s : GroupState) (calls : List Call) (k : ℕ) (now : Placed) (d : Carried) → s.earlier ≡ [] → AreLawful g p s calls → AnswersAt g p s calls k now d
    → IsSpacedTable (table_at g p s calls k) → HasOneTable g p s calls 0 k → IsTooCloseAt g p s calls k now d → ⊥
none_at_first g p s calls k now d none all K S one close =
    let W = word_near g p s calls k now d none close in
    let B = is_of g p s calls W.place W.near.cell W.near.load all W.near.sends in
    let apart = table_apart g p s calls W.place k B.output now W.near.cell d all W.before B.answers K (B.own ∙ W.near.same) S (λ m low high. one m (omega arith) high) in
    omega (arith, W.near.near, apart)

-- ---- tables in force

in_plan : (g : ℕ) (p : SlotTable) (q : PlanTable) → IsSpacedTable p → IsSpacedPlan q → IsSpacedTable (unwrap_or (slice_get (groups_of q) g) p)
in_plan g p q P all = by (slice_get (groups_of q) g) refl
  where
    by : (x : Option SlotTable) → slice_get (groups_of q) g ≡ x → IsSpacedTable (unwrap_or x p)
    by None is = P
    by (Some t) is = all_get IsSpacedTable (groups_of q) g t is all

newest_spaced : (g : ℕ) (p : SlotTable) (plans : List PlanTable) → IsSpacedTable p → AllByRecursion IsSpacedPlan plans → IsSpacedTable (table_of g p plans)
newest_spaced g p plans P all = by (last_of plans) refl
  where
    by : (x : Option PlanTable) → last_of plans ≡ x → IsSpacedTable (option_map_or (λ q. unwrap_or (slice_get (groups_of q) g) p) x p)
    by None is = P
    by (Some q) is = in_plan g p q P (all_get IsSpacedPlan plans (length plans - 1) q is all)

seen_on : (g : ℕ) (p : SlotTable) (s : GroupState) (c : Call) → IsLawful g p s c → IsPrefix s.seen (after g p s c).seen
seen_on g p s (Asks (Some c)) h = prefix_self s.seen
seen_on g p s (Asks None) h = prefix_self s.seen
seen_on g p s (Turns plans (Takes n)) h = h.0
seen_on g p s (Turns plans StaysMid) h = h.0
seen_on g p s (Turns plans StaysSpent) h = h.0
seen_on g p s (Meets loads) h = prefix_self s.seen

seen_all : (g : ℕ) (p : SlotTable) (s : GroupState) (calls : List Call) → AreLawful g p s calls → IsPrefix s.seen (state_after g p s calls).seen
seen_all g p s [] all = prefix_self s.seen
seen_all g p s (c ∷ calls) all = prefix_on s.seen (after g p s c).seen (state_after g p (after g p s c) calls).seen (seen_on g p s c all.0) (seen_all g p (after g p s c) calls all.1)

turned_spaced : (f : FrameState) (n : SlotTable) → IsSpacedTable f.table → IsSpacedTable n → IsSpacedTable (turned f n).table
turned_spaced f n F N = go (fits_next f n)
  where
    go : (b : Bool) → IsSpacedTable (if b then record { table = n; first = f.first + frame_of f.table; sent = 0 } else f).table
    go true = N
    go false = F

spaced_call : (g : ℕ) (p : SlotTable) (s : GroupState) (c : Call) → IsSpacedTable p → IsSpacedTable s.frame.table → AllByRecursion IsSpacedPlan (after g p s c).seen → IsSpacedTable (after g p s c).frame.table
spaced_call g p s (Asks (Some c)) P F all = subst IsSpacedTable (sym (same_table s.frame)) F
spaced_call g p s (Asks None) P F all = F
spaced_call g p s (Turns plans (Takes n)) P F all = turned_spaced s.frame (table_of g p plans) F (newest_spaced g p plans P all)
spaced_call g p s (Turns plans StaysMid) P F all = F
spaced_call g p s (Turns plans StaysSpent) P F all = F
spaced_call g p s (Meets loads) P F all = F

pub in_force : (g : ℕ) (p : SlotTable) (s : GroupState) (calls : List Call) (k : ℕ) → AreLawful g p s calls → IsSpacedTable p → IsSpacedTable s.frame.table → AllByRecursion IsSpacedPlan (state_after g p s calls).seen
    → IsSpacedTable (table_at g p s calls k)
in_force g p s calls zero all P F plans = F
in_force g p s [] (suc k) all P F plans = F
in_force g p s (c ∷ calls) (suc k) all P F plans =
    let next = after g p s c in
    in_force g p next calls k all.1 P (spaced_call g p s c P F (all_beginning IsSpacedPlan next.seen (state_after g p next calls).seen (seen_all g p next calls all.1) plans)) plans
