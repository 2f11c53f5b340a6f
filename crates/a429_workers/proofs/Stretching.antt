-- Stretches of calls, one after another, and what the sink took of them.
use Rattle.std.proofs.Common.{◌≡◌, ℕ, ◌+◌, ◌*◌, ◌<◌, ◌≤◌, List, [], ◌∷◌, ◌++◌, length, ◌∙◌, sym, ap, subst, refl, inl, inr, arith, append-nil, append_assoc, length-append}
use Rattle.std.specs.Prelude.{Option, Some, None, Ok, Err, IsTrue, cond, count_by}
use Rattle.std.proofs.lemmas.List.Elements.{filter_map-append}
use Rattle.std.proofs.lemmas.List.Sums.{sum_by-append}
use Rattle.std.proofs.lemmas.Bool.{lt-ltb}
use Rattle.a429_slots.specs.Tables.{PlanTable, cells_of}
use Rattle.a429_slots.specs.FrameStates.{FrameState, after_cell}
use Rattle.a429_workers.specs.Calls.{Call, Carried, Asks, Turns, Takes, StaysSpent}
use Rattle.a429_workers.specs.Transmitting.{Transmitting, GoesOnByCalls, IsSameGroup, StandsForCalls}
use Rattle.a429_workers.specs.Gates.{GatePoints, HaveCellsPassed, IsStoppedGroup}
use Rattle.a429_workers.specs.Sends.{AreAllSent, AreFewerSent, AreWhole, HasSent, IsCell, IsCellMade, IsFrame, IsTallied, IsTurn, has_word, is_send, is_taken, sending, sent_in, sent_of, with_cells}
use Rattle.a429_workers.specs.declared.cells.Sent.{Sent}
use Rattle.a429_workers.specs.declared.sending.SendTotals.{SendTotals}
use Rattle.a429_workers.specs.declared.sending.SendFault.{SendFault}
use Rattle.a429_workers.specs.declared.sending.SendFault.TheVariants.{Gate, Sink, Change}
use Rattle.a429_workers.proofs.Calling.{same_table}
use Rattle.a429_workers.proofs.Beginning.{all_append}

-- ---- what the sink has

pub cells_none : (taken : Option (List Sent)) → taken ≡ with_cells taken []
cells_none None = refl
cells_none (Some before) = ap (λ (xs : List Sent). Some xs) (sym (append-nil before))

pub cells_more : (taken : Option (List Sent)) (xs ys : List Sent) → with_cells (with_cells taken xs) ys ≡ with_cells taken (xs ++ ys)
cells_more None xs ys = refl
cells_more (Some before) xs ys = ap (λ (zs : List Sent). Some zs) (append_assoc before xs ys)

pub sent_append : (xs ys : List Call) → sent_in (xs ++ ys) ≡ sent_in xs ++ sent_in ys
sent_append xs ys = filter_map-append sent_of xs ys

pub taken_append : (xs ys : List Call) → count_by is_taken (xs ++ ys) ≡ count_by is_taken xs + count_by is_taken ys
taken_append xs ys = sum_by-append (λ (c : Call). cond (is_taken c) 1 0) xs ys

-- ---- stretches

pub same_self : (v : Transmitting) → IsSameGroup v v
same_self v = record { hub = refl; group = refl; board = refl; opened = refl }

pub same_trans : (u v w : Transmitting) → IsSameGroup u v → IsSameGroup v w → IsSameGroup u w
same_trans u v w p q = record { hub = q.hub ∙ p.hub; group = q.group ∙ p.group; board = q.board ∙ p.board; opened = q.opened ∙ p.opened }

pub goes_nowhere : (v : Transmitting) → GoesOnByCalls v [] v
goes_nowhere v b made S = subst (λ (cs : List Call). StandsForCalls b cs v) (sym (append-nil made)) S

pub goes_further : (u v w : Transmitting) (xs ys : List Call) → GoesOnByCalls u xs v → GoesOnByCalls v ys w → GoesOnByCalls u (xs ++ ys) w
goes_further u v w xs ys p q b made S = subst (λ (cs : List Call). StandsForCalls b cs w) (append_assoc made xs ys) (q b (made ++ xs) (p b made S))

pub nothing_sent : (v : Transmitting) (taken : Option (List Sent)) → HasSent v v taken taken [] []
nothing_sent v taken = record { stands = goes_nowhere v; same = same_self v; sends = tt; took = cells_none taken }

-- a cell, which the sink took or not
pub cell_sent : (v w : Transmitting) (c : Carried) (before after : Option (List Sent)) → IsCellMade v w c → after ≡ with_cells before (sent_in (Asks (Some c) ∷ [])) → HasSent v w before after (Asks (Some c) ∷ []) []
cell_sent v w c before after M took = record { stands = M.stands; same = M.same; sends = (refl, tt); took = took }

pub cell_lost : (v w : Transmitting) (c : Carried) (before after : Option (List Sent)) → IsCellMade v w c → after ≡ with_cells before [] → HasSent v w before after [] (Asks (Some c) ∷ [])
cell_lost v w c before after M took = record { stands = M.stands; same = M.same; sends = tt; took = took }

-- one stretch after another
pub further : (u v w : Transmitting) (a b c : Option (List Sent)) (xs ys last : List Call) → HasSent u v a b xs [] → HasSent v w b c ys last → HasSent u w a c (xs ++ ys) last
further u v w a b c xs ys last P Q = record {
  stands = subst (λ (cs : List Call). GoesOnByCalls u cs w) (sym (append_assoc xs ys last)) (goes_further u v w xs (ys ++ last) (subst (λ (cs : List Call). GoesOnByCalls u cs v) (append-nil xs) P.stands) Q.stands);
  same = same_trans u v w P.same Q.same;
  sends = all_append (λ (d : Call). IsTrue (is_send d)) xs ys P.sends Q.sends;
  took = Q.took ∙ (ap (λ (x : Option (List Sent)). with_cells x (sent_in ys)) P.took ∙ (cells_more a (sent_in xs) (sent_in ys) ∙ ap (with_cells a) (sym (sent_append xs ys))));
}

-- ---- totals

pub tallied_none : (t : SendTotals) → IsTallied t t []
tallied_none t = record { cells = omega arith; words = omega arith }

pub tallied_more : (s t u : SendTotals) (xs ys : List Call) → IsTallied s t (sent_in xs) → IsTallied t u (sent_in ys) → IsTallied s u (sent_in (xs ++ ys))
tallied_more s t u xs ys P Q = subst (IsTallied s u) (sym (sent_append xs ys)) (record {
  cells = omega (arith, P.cells, Q.cells, length-append (sent_in xs) (sent_in ys));
  words = omega (arith, P.words, Q.words, sum_by-append (λ (c : Sent). cond (has_word c) 1 0) (sent_in xs) (sent_in ys));
})

-- ---- a frame

-- this number of cells of the frame was sent, and counted
pub record IsInFrame (old now : Transmitting) (before after : Option (List Sent)) (start totals : SendTotals) (n : ℕ) : Type 0 where
  pub calls : List Call
  pub sends : HasSent old now before after calls []
  pub tallied : IsTallied start totals (sent_in calls)
  pub turns : count_by is_taken calls ≡ 0
  pub table : now.frame.table ≡ old.frame.table
  pub sent : now.frame.sent ≡ n
  pub words : totals.words ≤ totals.cells
  pub cells : totals.cells ≡ start.cells + n

pub frame_begins : (v : Transmitting) (taken : Option (List Sent)) (t : SendTotals) → v.frame.sent ≡ 0 → t.words ≤ t.cells → IsInFrame v v taken taken t t 0
frame_begins v taken t none small = record {
  calls = [];
  sends = nothing_sent v taken;
  tallied = tallied_none t;
  turns = refl;
  table = refl;
  sent = none;
  words = small;
  cells = omega arith;
}

pub frame_goes_on : (old now next : Transmitting) (a b c : Option (List Sent)) (start totals later : SendTotals) (n : ℕ) → IsInFrame old now a b start totals n → now.frame.sent < cells_of now.frame.table
    → IsCell now next b c totals later (Ok tt) → (later.words ≤ later.cells) × (later.cells ≡ totals.cells + 1) → IsInFrame old next a c start later (n + 1)
frame_goes_on old now next a b c start totals later n F left C small =
    let M = C.made in
    let one = Asks (Some C.cell) ∷ [] in
    let sent : (after_cell now.frame).sent ≡ now.frame.sent + 1 = rw (lt-ltb now.frame.sent (cells_of now.frame.table) left) refl in
    record {
      calls = F.calls ++ one;
      sends = further old now next a b c F.calls one [] F.sends (cell_sent now next C.cell b c M C.took);
      tallied = tallied_more start totals later F.calls one F.tallied C.tallied;
      turns = taken_append F.calls one ∙ omega (arith, F.turns);
      table = ap (λ (f : FrameState). f.table) M.frame ∙ (same_table now.frame ∙ F.table);
      sent = ap (λ (f : FrameState). f.sent) M.frame ∙ (sent ∙ ap (λ (k : ℕ). k + 1) F.sent);
      words = small.0;
      cells = omega (arith, small.1, F.cells);
    }

pub frame_stops : (old now next : Transmitting) (a b c : Option (List Sent)) (start totals later : SendTotals) (n : ℕ) (fault : SendFault) → IsInFrame old now a b start totals n
    → IsCell now next b c totals later (Err fault) → IsFrame old next a c start later (Err fault)
frame_stops old now next a b c start totals later n Gate F C = elim C [
  | inl left ↦
      record {
        calls = F.calls;
        last = [];
        sent = subst (λ (w : Transmitting). HasSent old w a c F.calls []) (sym left.0) (subst (λ (x : Option (List Sent)). HasSent old now a x F.calls []) (sym left.1) F.sends);
        ended = refl;
        turns = F.turns;
        tallied = subst (λ (t : SendTotals). IsTallied start t (sent_in F.calls)) (sym left.2) F.tallied;
      }
  | inr made ↦
      let one = Asks (Some made.cell) ∷ [] in
      record {
        calls = F.calls ++ one;
        last = [];
        sent = further old now next a b c F.calls one [] F.sends (cell_sent now next made.cell b c made.made made.took);
        ended = refl;
        turns = taken_append F.calls one ∙ omega (arith, F.turns);
        tallied = tallied_more start totals later F.calls one F.tallied made.tallied;
      }
]
frame_stops old now next a b c start totals later n Sink F C = record {
  calls = F.calls ++ [];
  last = Asks (Some C.cell) ∷ [];
  sent = further old now next a b c F.calls [] (Asks (Some C.cell) ∷ []) F.sends (cell_lost now next C.cell b c C.made C.left);
  ended = (C.cell, refl);
  turns = taken_append F.calls [] ∙ omega (arith, F.turns);
  tallied = subst (λ (t : SendTotals). IsTallied start t (sent_in (F.calls ++ []))) (sym C.totals) (tallied_more start totals totals F.calls [] F.tallied (tallied_none totals));
}
frame_stops old now next a b c start totals later n Change F C = absurd C

pub frame_over : (old now : Transmitting) (a b : Option (List Sent)) (start totals : SendTotals) (n : ℕ) → IsInFrame old now a b start totals n → n ≡ cells_of old.frame.table
    → IsFrame old now a b start totals (Ok tt)
frame_over old now a b start totals n F all = record { calls = F.calls; sent = F.sends; tallied = F.tallied; turns = F.turns; over = F.sent ∙ (all ∙ ap (λ t. cells_of t) (sym F.table)) }

-- ---- frames

-- this number of frames was sent, and counted
pub record AreInFrames (old now : Transmitting) (before after : Option (List Sent)) (start totals : SendTotals) (n : ℕ) : Type 0 where
  pub calls : List Call
  pub sends : HasSent old now before after calls []
  pub tallied : IsTallied start totals (sent_in calls)
  pub turns : count_by is_taken calls + 1 ≡ n
  pub over : now.frame.sent ≡ cells_of now.frame.table
  pub words : totals.words ≤ totals.cells
  pub cells : totals.cells ≤ start.cells + n * 131072

turned : (now next : Transmitting) (taken : Option (List Sent)) (plans : List PlanTable) (n : ℕ) → GoesOnByCalls now (Turns plans (Takes n) ∷ []) next → IsSameGroup now next → HasSent now next taken taken (Turns plans (Takes n) ∷ []) []
turned now next taken plans n stands same = record { stands = stands; same = same; sends = (refl, tt); took = cells_none taken }

pub frames_go_on : (old now mid next : Transmitting) (a b c : Option (List Sent)) (start totals later : SendTotals) (n : ℕ) → AreInFrames old now a b start totals n → IsTurn now mid (Ok tt)
    → IsFrame mid next b c totals later (Ok tt) → (later.words ≤ later.cells) × (later.cells ≤ totals.cells + 131072) → AreInFrames old next a c start later (n + 1)
frames_go_on old now mid next a b c start totals later n A T F small =
    let turn = Turns T.plans (Takes T.next) ∷ [] in
    let there : HasSent old mid a b (A.calls ++ turn) [] = further old now mid a b b A.calls turn [] A.sends (turned now mid b T.plans T.next T.stands T.same) in
    let tallied : IsTallied start totals (sent_in (A.calls ++ turn)) = tallied_more start totals totals A.calls turn A.tallied (tallied_none totals) in
    record {
      calls = (A.calls ++ turn) ++ F.calls;
      sends = further old mid next a b c (A.calls ++ turn) F.calls [] there F.sent;
      tallied = tallied_more start totals later (A.calls ++ turn) F.calls tallied F.tallied;
      turns = omega (arith, taken_append (A.calls ++ turn) F.calls, taken_append A.calls turn, A.turns, F.turns);
      over = F.over;
      words = small.0;
      cells = omega (arith, small.1, A.cells);
    }

-- no frame was asked for
pub none_sent : (gate : GatePoints) (g frames : ℕ) (v : Transmitting) (taken : Option (List Sent)) (plan : ℕ) → frames ≡ 0 → plan ≡ v.number
    → AreAllSent gate g frames (sending v taken) (sending v taken) (record { cells = 0; words = 0; plan = plan })
none_sent gate g frames v taken plan none is = record {
  calls = [];
  sent = nothing_sent v taken;
  counted = ap (λ (n : ℕ). record { cells = 0; words = 0; plan = n }) is;
  whole = subst (λ (n : ℕ). AreWhole n [] v.frame) (sym none) refl;
  gated = record { each = λ k low. absurd (omega (arith, low)) };
}

-- ---- at the gate

module _ (gate : GatePoints) (g : ℕ) (start : SendTotals) (none : start.cells ≡ 0) where
  counted : (totals : SendTotals) (calls : List Call) → IsTallied start totals (sent_in calls) → totals.cells ≡ length (sent_in calls)
  counted totals calls T = omega (arith, T.cells, none)

  gated : (totals : SendTotals) (calls : List Call) (fault : SendFault) → IsTallied start totals (sent_in calls) → IsStoppedGroup gate g totals.cells fault
      → IsStoppedGroup gate g (length (sent_in calls)) fault
  gated totals calls fault T G = subst (λ (n : ℕ). IsStoppedGroup gate g n fault) (counted totals calls T) G

  -- the next frame was not taken
  pub frames_end : (old now next : Transmitting) (a b : Option (List Sent)) (totals : SendTotals) (n frames : ℕ) (fault : SendFault) → AreInFrames old now a b start totals n → n < frames
      → IsTurn now next (Err fault) → HaveCellsPassed gate.passes g totals.cells → AreFewerSent gate g frames (sending old a) (sending next b) fault
  frames_end old now next a b totals n frames Change A low T P = record {
    calls = A.calls ++ [];
    last = Turns T.0 StaysSpent ∷ [];
    sent = further old now next a b b A.calls [] (Turns T.0 StaysSpent ∷ []) A.sends (record { stands = T.1; same = T.2; sends = tt; took = cells_none b });
    ended = (T.0, refl);
    fewer = omega (arith, taken_append A.calls [], A.turns, low);
    gated = gated totals (A.calls ++ []) Change (tallied_more start totals totals A.calls [] A.tallied (tallied_none totals)) P;
  }
  frames_end old now next a b totals n frames Gate A low T P = absurd T
  frames_end old now next a b totals n frames Sink A low T P = absurd T

  -- the first frame ended early
  pub frame_first : (old next : Transmitting) (a c : Option (List Sent)) (later : SendTotals) (frames : ℕ) (fault : SendFault) → 0 < frames
      → IsFrame old next a c start later (Err fault) → IsStoppedGroup gate g later.cells fault → AreFewerSent gate g frames (sending old a) (sending next c) fault
  frame_first old next a c later frames fault some F G = record {
    calls = F.calls;
    last = F.last;
    sent = F.sent;
    ended = F.ended;
    fewer = omega (arith, F.turns, some);
    gated = gated later F.calls fault F.tallied G;
  }

  -- a later frame ended early
  pub frames_stop : (old now mid next : Transmitting) (a b c : Option (List Sent)) (totals later : SendTotals) (n frames : ℕ) (fault : SendFault) → AreInFrames old now a b start totals n → n < frames
      → IsTurn now mid (Ok tt) → IsFrame mid next b c totals later (Err fault) → IsStoppedGroup gate g later.cells fault → AreFewerSent gate g frames (sending old a) (sending next c) fault
  frames_stop old now mid next a b c totals later n frames fault A low T F G =
      let turn = Turns T.plans (Takes T.next) ∷ [] in
      let there : HasSent old mid a b (A.calls ++ turn) [] = further old now mid a b b A.calls turn [] A.sends (turned now mid b T.plans T.next T.stands T.same) in
      let tallied : IsTallied start totals (sent_in (A.calls ++ turn)) = tallied_more start totals totals A.calls turn A.tallied (tallied_none totals) in
      record {
        calls = (A.calls ++ turn) ++ F.calls;
        last = F.last;
        sent = further old mid next a b c (A.calls ++ turn) F.calls F.last there F.sent;
        ended = F.ended;
        fewer = omega (arith, taken_append (A.calls ++ turn) F.calls, taken_append A.calls turn, A.turns, F.turns, low);
        gated = gated later ((A.calls ++ turn) ++ F.calls) fault (tallied_more start totals later (A.calls ++ turn) F.calls tallied F.tallied) G;
      }
