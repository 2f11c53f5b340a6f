-- A cell more: what it is answered is lawful, and what is kept of its source is kept on.
use Rattle.std.proofs.Common.{◌≡◌, ℕ, ◌+◌, ◌<◌, ◌≤◌, Bool, false, List, [], ◌∷◌, ◌++◌, length, drop, ◌∙◌, sym, ap, subst, refl, inl, inr, append-nil}
use Rattle.std.specs.Prelude.{Option, Some, None, Ok, ◌||◌, if◌then◌else◌, slice_get, slice_set, option_map, option_and_then}
use Rattle.std.proofs.Math.Seq.{drop-append_seam}
use Rattle.std.proofs.lemmas.Option.{none-some, slice_get_within}
use Rattle.std.proofs.lemmas.Bool.{cases_Bool, cases_eq, ne_eqb}
use Rattle.a429_word.proofs.Lists.{all_front, either_none, get_set_other, get_set_same, all_back}
use Rattle.a429_equipment.specs.declared.loads.Load.{Load}
use Rattle.a429_equipment.specs.TableRecord.{TableRecord}
use Rattle.a429_equipment.specs.Agreement.{CountsNoLess}
use Rattle.a429_slots.specs.Tables.{Placed, SlotTable, cell_at, outputs_of, output_in}
use Rattle.a429_slots.specs.History.{AnsweredCell, has_sent, is_held, is_too_close}
use Rattle.a429_slots.specs.FrameStates.{FrameState, next_cell, after_cell, due_of}
use Rattle.a429_slots.specs.Recalling.{Recent, Recalls, may_send, recent_after, sent_again, source_sends, source_after}
use Rattle.a429_slots.proofs.Remembering.{AreRecalled}
use Rattle.a429_values.specs.Ends as ends
use Rattle.a429_values.specs.Words.{load_of}
use Rattle.a429_workers.specs.Calls.{Call, Asks, Carried, GroupState, IsAnswered, word_of}
use Rattle.a429_workers.specs.Transmitting.{Transmitting, Outset, IsSameGroup, IsKnownTable, IsReached, RemembersLoads, HasMade, IsDone, IsLoaded, cell_call, led_by, loads_since, sent_by}
use Rattle.a429_workers.proofs.Calling.{one_more, none_due, reached_cell, reached_own, same_table, slot_after}
use Rattle.a429_workers.proofs.Lists.{all_get}

-- ---- what is kept of a source

abbrev with_cell : GroupState → AnsweredCell → GroupState
with_cell s c = record s { frame = after_cell s.frame; earlier = s.earlier ++ c ∷ [] }

fewer : (ls more all : List Load) (l : Load) → all ≡ ls ++ more → CountsNoLess all l → CountsNoLess ls l
fewer ls more all l is h =
    all_front (λ (m : Load). m.source ≡ l.source → m.count ≤ l.count) ls more (subst (λ (xs : List Load). CountsNoLess xs l) is h)

-- a cell that sent no word of the source
remembers_other : AreRecalled → (ls more all : List Load) (s : GroupState) (i : ℕ) (x : Option Recent) (c : AnsweredCell) → all ≡ ls ++ more → has_sent i c ≡ false
    → RemembersLoads ls s i x → RemembersLoads all (with_cell s c) i x
remembers_other law ls more all s i x c is unsent R = record {
  recent = R.recent;
  there = R.there;
  recalls = law.other s.earlier i R.recent c R.recalls unsent;
  counted = λ l own h. R.counted l own (fewer ls more all l is h);
  reached = reached_cell s.frame R.recent.slot R.reached;
}

-- a cell without an output
remembers_empty : (ls : List Load) (s : GroupState) (i : ℕ) (x : Option Recent) → RemembersLoads ls s i x → RemembersLoads ls (record s { frame = after_cell s.frame; earlier = s.earlier ++ [] }) i x
remembers_empty ls s i x R = record {
  recent = R.recent;
  there = R.there;
  recalls = subst (λ (cs : List AnsweredCell). Recalls cs i R.recent) (sym (append-nil s.earlier)) R.recalls;
  counted = R.counted;
  reached = reached_cell s.frame R.recent.slot R.reached;
}

-- the cell that sent the word which the load found
remembers_sent : AreRecalled → (ls all : List Load) (s : GroupState) (i slot n u : ℕ) (x y : Option Recent) (cell : ℕ × ℕ) → all ≡ ls ++ load_of i (Some (n, u)) ∷ [] → (R : RemembersLoads ls s i x)
    → R.recent.count ≤ n → next_cell s.frame ≡ Some cell → slot ≡ s.frame.first + cell.1 → y ≡ Some (sent_again R.recent slot n)
    → RemembersLoads all (with_cell s (record { slot = slot; source = i; count = n; word = Some u })) i y
remembers_sent law ls all s i slot n u x y cell is R most due at there = record {
  recent = sent_again R.recent slot n;
  there = there;
  recalls = law.sent s.earlier i R.recent slot n u R.recalls most (subst (λ (m : ℕ). R.recent.slot ≤ m) (sym at) (slot_after s.frame cell R.recent.slot due R.reached));
  counted = λ l own h.
      let last = all_back (λ (m : Load). m.source ≡ l.source → m.count ≤ l.count) ls (load_of i (Some (n, u)) ∷ []) (subst (λ (xs : List Load). CountsNoLess xs l) is h) in
      last.0 (sym own);
  reached = subst (λ (m : ℕ). IsReached (after_cell s.frame) m) (sym at) (reached_own s.frame cell due);
}

-- ---- the output of the cell

-- it sends a source of the station
output_known : (t : TableRecord) (p : SlotTable) (bus slot : ℕ) (o : Placed) → IsKnownTable t p → output_in p bus slot ≡ Some o → o.source < length t.sources
output_known t p bus slot o known is = go (cell_at p bus slot) is
  where
    go : (k : Option ℕ) → option_and_then (λ n. slice_get (outputs_of p) n) k ≡ Some o → o.source < length t.sources
    go None none = absurd (none-some o none)
    go (Some n) there = all_get (λ (q : Placed). q.source < length t.sources) (outputs_of p) n o there known

-- the answered cell of an output, by what the load of its source found
abbrev cell_of : ℕ → ℕ → Option (ℕ × ℕ) → Option ℕ → AnsweredCell
cell_of slot i found word = record { slot = slot; source = i; count = (load_of i found).count; word = word }

-- what goes out for an output is lawful, and what is kept then is kept on
record IsWord (ls all : List Load) (s : GroupState) (o : Placed) (slot n : ℕ) (found : Option (ℕ × ℕ)) (x : Option ℕ × List Recent) : Type 0 where
  pub word : x.0 ≡ word_of s.earlier slot (Some o) (Some (load_of o.source found))
  pub sends : (i : ℕ) → i < n → RemembersLoads all (with_cell s (cell_of slot o.source found x.0)) i (slice_get x.1 i)

word_is : AreRecalled → (ls all : List Load) (rs : List Recent) (s : GroupState) (o : Placed) (slot n : ℕ) (cell : ℕ × ℕ) (found : Option (ℕ × ℕ)) → all ≡ ls ++ load_of o.source found ∷ []
    → CountsNoLess ls (load_of o.source found) → next_cell s.frame ≡ Some cell → slot ≡ s.frame.first + cell.1 → o.source < n → ((i : ℕ) → i < n → RemembersLoads ls s i (slice_get rs i))
    → IsWord ls all s o slot n found (sent_by rs slot (due_of o) found)
word_is law ls all rs s o slot n cell None is least due at low kept = record {
  word = sym (either_none (is_held s.earlier o.source o.limits.hold 0 || is_too_close s.earlier slot o.source o.limits.spacing));
  sends = λ i in_n. remembers_other law ls (load_of o.source None ∷ []) all s i (slice_get rs i) (cell_of slot o.source None None) is refl (kept i in_n);
}
word_is law ls all rs s o slot n cell (Some f) is least due at low kept =
    let R = kept o.source low in
    let r = R.recent in
    let hold = o.limits.hold in
    let q = o.limits.spacing in
    let may = may_send r slot f.0 hold q in
    let new = recent_after r slot f.0 hold q in
    let most : r.count ≤ f.0 = R.counted (load_of o.source (Some f)) refl least in
    let sends : source_sends rs slot f.0 (due_of o) ≡ may = rw R.there refl in
    let set : source_after rs slot f.0 (due_of o) ≡ slice_set rs o.source new = rw R.there refl in
    let told : word_of s.earlier slot (Some o) (Some (load_of o.source (Some f))) ≡ (if may then Some f.1 else None) = law.decides s.earlier o.source r slot f.0 hold q (Some f.1) R.recalls most in
    elim (cases_Bool may) [
      | inl yes' ↦
          let word : (sent_by rs slot (due_of o) (Some f)).0 ≡ Some f.1 = ap (λ (b : Bool). if b then Some f.1 else None) (sends ∙ yes') in
          let made : new ≡ sent_again r slot f.0 = rw yes' refl in
          let there : slice_get (source_after rs slot f.0 (due_of o)) o.source ≡ Some (sent_again r slot f.0) =
          ap (λ (zs : List Recent). slice_get zs o.source) set ∙ (get_set_same rs o.source new (slice_get_within rs o.source r R.there) ∙ ap (λ (z : Recent). Some z) made) in
          record {
            word = word ∙ sym (told ∙ rw yes' refl);
            sends = λ i in_n. subst (λ (w : Option ℕ). RemembersLoads all (with_cell s (cell_of slot o.source (Some f) w)) i (slice_get (source_after rs slot f.0 (due_of o)) i)) (sym word) (elim (cases_eq o.source i) [
              | inl same ↦ subst (λ (j : ℕ). RemembersLoads all (with_cell s (cell_of slot o.source (Some f) (Some f.1))) j (slice_get (source_after rs slot f.0 (due_of o)) j)) same
                  (remembers_sent law ls all s o.source slot f.0 f.1 (slice_get rs o.source) (slice_get (source_after rs slot f.0 (due_of o)) o.source) cell is R most due at there)
              | inr other ↦
                  let beside : slice_get (source_after rs slot f.0 (due_of o)) i ≡ slice_get rs i =
                  ap (λ (zs : List Recent). slice_get zs i) set ∙ get_set_other rs o.source i new (λ e. other (sym e)) in
                  subst (RemembersLoads all (with_cell s (cell_of slot o.source (Some f) (Some f.1))) i) (sym beside)
                  (remembers_other law ls (load_of o.source (Some f) ∷ []) all s i (slice_get rs i) (cell_of slot o.source (Some f) (Some f.1)) is (ne_eqb o.source i other) (kept i in_n))
            ]);
          }
      | inr no' ↦
          let word : (sent_by rs slot (due_of o) (Some f)).0 ≡ None = ap (λ (b : Bool). if b then Some f.1 else None) (sends ∙ no') in
          let made : new ≡ r = rw no' refl in
          record {
            word = word ∙ sym (told ∙ rw no' refl);
            sends = λ i in_n. subst (λ (w : Option ℕ). RemembersLoads all (with_cell s (cell_of slot o.source (Some f) w)) i (slice_get (source_after rs slot f.0 (due_of o)) i)) (sym word)
                (subst (RemembersLoads all (with_cell s (cell_of slot o.source (Some f) None)) i) (sym (elim (cases_eq o.source i) [
                  | inl same ↦ subst (λ (j : ℕ). slice_get (source_after rs slot f.0 (due_of o)) j ≡ slice_get rs j) same
                      (ap (λ (zs : List Recent). slice_get zs o.source) set ∙ (get_set_same rs o.source new (slice_get_within rs o.source r R.there) ∙ (ap (λ (z : Recent). Some z) made ∙ sym R.there)))
                  | inr other ↦ ap (λ (zs : List Recent). slice_get zs i) set ∙ get_set_other rs o.source i new (λ e. other (sym e))
                ]))
                (remembers_other law ls (load_of o.source (Some f) ∷ []) all s i (slice_get rs i) (cell_of slot o.source (Some f) None) is refl (kept i in_n)));
          }
    ]

-- ---- the call

abbrev pub moved : Transmitting → ends.TransmitterEnd → List Recent → Transmitting
moved v t sends = record v { transmitter = t; frame = after_cell v.frame; sends = sends }

pub same_moved : (v : Transmitting) (t : ends.TransmitterEnd) (sends : List Recent) → t.at ≡ v.transmitter.at → t.number ≡ v.transmitter.number → IsSameGroup v (moved v t sends)
same_moved v t sends hub group = record { hub = hub; group = group; board = refl; opened = refl }

-- no cell was due
pub cell_end : (b : Outset) (calls : List Call) (v : Transmitting) → next_cell v.frame ≡ None → HasMade b calls v → HasMade b (calls ++ Asks None ∷ []) (moved v v.transmitter v.sends)
cell_end b calls v none M =
    let still : after_cell v.frame ≡ v.frame = rw (none_due v.frame none) refl in
    subst (λ (f : FrameState). HasMade b (calls ++ Asks None ∷ []) (record v { frame = f })) (sym still)
    (one_more b calls v v (Asks None) M (record {
      same = record { hub = refl; group = refl; board = refl; opened = refl };
      lawful = ap next_cell (sym M.at.frame) ∙ none;
      loads = sym (append-nil v.transmitter.loads);
      known = tt;
      at = M.at;
    }))

-- the answer to a cell, if this load was made
abbrev answer_by : Transmitting → ℕ × ℕ → Option ℕ → Option Load → Carried
answer_by v cell word load = record { bus = cell.0; slot = v.frame.first + cell.1; load = load; word = word }

-- a cell without an output
empty_cell : (b : Outset) (calls : List Call) (v : Transmitting) (cell : ℕ × ℕ) → next_cell v.frame ≡ Some cell → output_in v.frame.table cell.0 cell.1 ≡ None → HasMade b calls v
    → HasMade b (calls ++ Asks (Some (answer_by v cell None None)) ∷ []) (moved v v.transmitter v.sends)
empty_cell b calls v cell due none M =
    let s = led_by b calls in
    let F = M.at.frame in
    one_more b calls v (moved v v.transmitter v.sends) (Asks (Some (answer_by v cell None None))) M (record {
      same = same_moved v v.transmitter v.sends refl refl;
      lawful = subst (λ (f : FrameState). IsAnswered (record s { frame = f }) (answer_by v cell None None)) F (record {
        cell = cell;
        due = due;
        bus = refl;
        slot = refl;
        load = rw none refl;
        word = rw none refl;
      });
      loads = sym (append-nil v.transmitter.loads);
      known = tt;
      at = record {
        group = M.at.group;
        opened = M.at.opened;
        frame = ap after_cell F;
        number = M.at.number;
        seen = M.at.seen;
        sources = subst (IsKnownTable v.transmitter.at.station) (sym (same_table v.frame)) M.at.sources;
        sends = λ i low. remembers_empty v.transmitter.loads s i (slice_get v.sends i) (M.at.sends i low);
      };
    })

-- a cell of an output
output_cell : AreRecalled → (b : Outset) (calls : List Call) (v : Transmitting) (cell : ℕ × ℕ) (o : Placed) (word : Option ℕ) (t : ends.TransmitterEnd) (sends : List Recent) → next_cell v.frame ≡ Some cell
    → output_in v.frame.table cell.0 cell.1 ≡ Some o → o.source < length v.transmitter.at.station.sources → t.at ≡ v.transmitter.at → t.number ≡ v.transmitter.number
    → (L : IsLoaded v.transmitter v.sends (v.frame.first + cell.1) (due_of o) word t sends) → HasMade b calls v
    → HasMade b (calls ++ Asks (Some (answer_by v cell word (Some (load_of o.source L.found)))) ∷ []) (moved v t sends)
output_cell law b calls v cell o word t sends due there low hub group L M =
    let s = led_by b calls in
    let F = M.at.frame in
    let l = load_of o.source L.found in
    let slot = v.frame.first + cell.1 in
    let n = length v.transmitter.at.station.sources in
    let c = answer_by v cell word (Some l) in
    let all : t.loads ≡ v.transmitter.loads ++ l ∷ [] = ap (λ (x : ends.TransmitterEnd). x.loads) L.loads in
    let own : l.source ≡ o.source = load_source o.source L.found in
    let W : IsWord v.transmitter.loads t.loads s o slot n L.found (sent_by v.sends slot (due_of o) L.found) =
    word_is law v.transmitter.loads t.loads v.sends s o slot n cell L.found all L.no_less (ap next_cell (sym F) ∙ due) (ap (λ (f : FrameState). f.first + cell.1) F) low M.at.sends in
    let V : IsWord v.transmitter.loads t.loads s o slot n L.found (word, sends) = subst (IsWord v.transmitter.loads t.loads s o slot n L.found) (sym L.sent) W in
    one_more b calls v (moved v t sends) (Asks (Some c)) M (record {
      same = same_moved v t sends hub group;
      lawful = subst (λ (f : FrameState). IsAnswered (record s { frame = f }) c) F (record {
        cell = cell;
        due = due;
        bus = refl;
        slot = refl;
        load = rw there (ap (λ (k : ℕ). Some k) own);
        word = V.word ∙ ap (λ (x : Option Placed). word_of s.earlier slot x (Some l)) (sym there);
      });
      loads = all;
      known = (subst (λ (k : ℕ). k < n) (sym own) low, tt);
      at = record {
        group = group ∙ M.at.group;
        opened = M.at.opened;
        frame = ap after_cell F;
        number = M.at.number;
        seen = M.at.seen;
        sources = subst (λ (x : ends.Place). IsKnownTable x.station (after_cell v.frame).table) (sym hub) (subst (IsKnownTable v.transmitter.at.station) (sym (same_table v.frame)) M.at.sources);
        sends = λ i in_n. subst (λ (k : ℕ). RemembersLoads t.loads (with_cell s (record { slot = slot; source = k; count = l.count; word = word })) i (slice_get sends i)) (sym own)
            (V.sends i (subst (λ (x : ends.Place). i < length x.station.sources) hub in_n));
      };
    })
  where
    load_source : (i : ℕ) (found : Option (ℕ × ℕ)) → (load_of i found).source ≡ i
    load_source i None = refl
    load_source i (Some f) = refl

-- the load that was made since
first_since : (ls more all : List Load) → all ≡ ls ++ more → slice_get (drop (length ls) all) 0 ≡ slice_get more 0
first_since ls more all is = ap (λ (xs : List Load). slice_get (drop (length ls) xs) 0) is ∙ ap (λ (xs : List Load). slice_get xs 0) (drop-append_seam ls more)

pub cell_made : AreRecalled → (b : Outset) (calls : List Call) (v : Transmitting) (cell : ℕ × ℕ) (word : Option ℕ) (t : ends.TransmitterEnd) (sends : List Recent) → length v.sends ≡ length v.transmitter.at.station.sources
    → next_cell v.frame ≡ Some cell → t.at ≡ v.transmitter.at → t.number ≡ v.transmitter.number
    → IsDone v.transmitter v.sends (v.frame.first + cell.1) (option_map due_of (output_in v.frame.table cell.0 cell.1)) word t sends → HasMade b calls v
    → HasMade b (calls ++ cell_call (Ok (record { bus = cell.0; slot = v.frame.first + cell.1; word = word })) (loads_since v (moved v t sends)) ∷ []) (moved v t sends)
cell_made law b calls v cell word t sends sized due hub group done M = go (output_in v.frame.table cell.0 cell.1) refl done
  where
    go : (x : Option Placed) → output_in v.frame.table cell.0 cell.1 ≡ x → IsDone v.transmitter v.sends (v.frame.first + cell.1) (option_map due_of x) word t sends
        → HasMade b (calls ++ cell_call (Ok (record { bus = cell.0; slot = v.frame.first + cell.1; word = word })) (loads_since v (moved v t sends)) ∷ []) (moved v t sends)
    go None none D =
        let all : t.loads ≡ v.transmitter.loads ++ [] = ap (λ (x : ends.TransmitterEnd). x.loads) D.1 ∙ sym (append-nil v.transmitter.loads) in
        let load : slice_get (drop (length v.transmitter.loads) t.loads) 0 ≡ None = first_since v.transmitter.loads [] t.loads all in
        let made = empty_cell b calls v cell due none M in
        subst (λ (y : Option Load). HasMade b (calls ++ Asks (Some (answer_by v cell word y)) ∷ []) (moved v t sends)) (sym load)
        (subst (λ (w : Option ℕ). HasMade b (calls ++ Asks (Some (answer_by v cell w None)) ∷ []) (moved v t sends)) (sym D.0)
        (subst (λ (u : ends.TransmitterEnd). HasMade b (calls ++ Asks (Some (answer_by v cell None None)) ∷ []) (moved v u sends)) (sym D.1)
        (subst (λ (rs : List Recent). HasMade b (calls ++ Asks (Some (answer_by v cell None None)) ∷ []) (moved v v.transmitter rs)) (sym D.2) made)))
    go (Some o) there D =
        let low : o.source < length v.transmitter.at.station.sources = output_known v.transmitter.at.station v.frame.table cell.0 cell.1 o M.at.sources there in
        let L = D (subst (λ (k : ℕ). o.source < k) (sym sized) low) in
        let all : t.loads ≡ v.transmitter.loads ++ load_of o.source L.found ∷ [] = ap (λ (x : ends.TransmitterEnd). x.loads) L.loads in
        let load : slice_get (drop (length v.transmitter.loads) t.loads) 0 ≡ Some (load_of o.source L.found) = first_since v.transmitter.loads (load_of o.source L.found ∷ []) t.loads all in
        subst (λ (y : Option Load). HasMade b (calls ++ Asks (Some (answer_by v cell word y)) ∷ []) (moved v t sends)) (sym load)
        (output_cell law b calls v cell o word t sends due there low hub group L M)
