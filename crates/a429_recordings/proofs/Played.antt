-- A timeline that is played: steps, and what happened in them.
use Rattle.std.proofs.Common.{◌≡◌, ◌∙◌, ◌+◌, ◌<◌, ◌≤◌, ℕ, suc, true, false, List, [], ◌∷◌, ◌++◌, length, take, refl, sym, ap, ap₂, subst, arith, append-nil, append_assoc, replicate}
use Rattle.std.proofs.Math.Seq.{take-append_seam}
use Rattle.std.specs.Prelude.{Option, Some, None, IfSome, MatchOption, is_some}
use Rattle.a429_equipment.specs.Sound.{OfEach}
use Rattle.a429_slots.specs.Proposed.{Proposed}
use Rattle.a429_recordings.specs.Simulating.{Step, Asks, Comes, cells_in, happenings_after, happenings_of, listed, steps_in, steps_of, turn_after}
use Rattle.a429_recordings.specs.SimulationLog.{AreInTime}
use Rattle.a429_recordings.specs.SimulationRuns.{AreHappenings, BeginsMoment, CanBePlayed, CanBeUnderWay, GoesOn, HasPlayed, PlaysCells, StandsAfter, TakesQuietly, TakesStep, cells_left, left_of, left_to_play}
use Rattle.a429_recordings.specs.Timeline.{TimelineIsBegun}
use Rattle.a429_recordings.specs.Tracks.{IsTimelineAt, IsTrack, TakesMoment, left_in}
use Rattle.a429_recordings.specs.declared.simulate.log.LogWord.{LogWord}
use Rattle.a429_recordings.specs.declared.simulate.machine.Happening.{Happening}
use Rattle.a429_recordings.specs.declared.simulate.machine.Run.{Run}
use Rattle.a429_recordings.specs.declared.simulate.moments.Moment.{Moment}
use Rattle.a429_recordings.specs.declared.simulate.moments.Moment.TheVariants.{Word, Slot}
use Rattle.a429_recordings.specs.declared.simulate.moments.Timeline.{Timeline}
use Rattle.a429_recordings.specs.declared.simulate.playing.Player.{Player}
use Rattle.a429_recordings.specs.declared.simulate.playing.SlotLeft.{SlotLeft}
use Rattle.a429_recordings.proofs.SimulatedSteps.{happenings-append, steps_more}

-- ---- the steps of a slot

pub goes_nowhere : (q : Proposed) (run : Run) (slot : Option SlotLeft) → GoesOn q run slot run slot []
goes_nowhere q run slot = λ past S. ([], refl, subst (λ (p : List Step). StandsAfter q p run) (sym (append-nil past)) S, refl)

pub goes_then : (q : Proposed) (a b c : Run) (s t u : Option SlotLeft) (xs ys : List Happening) → GoesOn q a s b t xs → GoesOn q b t c u ys → GoesOn q a s c u (xs ++ ys)
goes_then q a b c s t u xs ys first later = λ past S.
    let (steps, all, stands, happened) = first past S in
    let (more, rest, end, then) = later (past ++ steps) stands in (
      steps ++ more,
      append_assoc steps more (left_of q u) ∙ (ap (λ (l : List Step). steps ++ l) rest ∙ all),
      subst (λ (p : List Step). StandsAfter q p c) (append_assoc past steps more) end,
      happenings-append q past steps more ∙ ap₂ (λ (x y : List Happening). x ++ y) happened then,
    )

abbrev slot_left : ℕ → ℕ → ℕ → SlotLeft
slot_left g t n = record { group = g; slot = t; cells = n }

module _ (q : Proposed) (first old new : Run) (begun : SlotLeft) (g t n m : ℕ) where
  -- one more cell
  pub goes_cell : (h : Option Happening) → m ≡ n + 1 → GoesOn q first (Some begun) old (Some (slot_left g t m)) [] → TakesStep q (Asks g t) old new h
      → GoesOn q first (Some begun) new (Some (slot_left g t n)) (listed h)
  goes_cell h more earlier takes =
      goes_then q first old new (Some begun) (Some (slot_left g t m)) (Some (slot_left g t n)) [] (listed h) earlier
      (λ past S.
      let (stands, is) = takes past S in
      let count : m ≡ suc n = omega (arith, more) in (
        Asks g t ∷ [],
        ap (λ (k : ℕ). replicate k (Asks g t) ++ turn_after q g t) (sym count),
        stands,
        ap (λ (x : Option Happening). listed x ++ []) (sym is) ∙ append-nil (listed h),
      ))

  -- the slot is over
  pub goes_turn : m ≡ 0 → GoesOn q first (Some begun) old (Some (slot_left g t m)) [] → TakesQuietly q (turn_after q g t) old new → GoesOn q first (Some begun) new None []
  goes_turn none earlier takes =
      goes_then q first old new (Some begun) (Some (slot_left g t m)) None [] [] earlier
      (λ past S.
      let (stands, quiet) = takes past S in
      (turn_after q g t, append-nil (turn_after q g t) ∙ ap (λ (k : ℕ). replicate k (Asks g t) ++ turn_after q g t) (sym none), stands, quiet))

pub none_sent : (h : Option Happening) → is_some h ≡ false → listed h ≡ []
none_sent None is = refl
none_sent (Some x) is = absurd (cc is)

pub over_if : (h : Option Happening) (s : Option SlotLeft) (n m : ℕ) → is_some h ≡ false → MatchOption h (s ≡ None) (λ _. n < m) → s ≡ None
over_if None s n m is fewer = fewer
over_if (Some x) s n m is fewer = absurd (cc is)

pub fewer_if : (h : Option Happening) (s : Option SlotLeft) (n m : ℕ) → is_some h ≡ true → MatchOption h (s ≡ None) (λ _. n < m) → n < m
fewer_if None s n m is fewer = absurd (cc is)
fewer_if (Some x) s n m is fewer = fewer

pub fewer_by : (h : Option Happening) (s : Option SlotLeft) (n m : ℕ) → is_some h ≡ true → n < m → MatchOption h (s ≡ None) (λ _. n < m)
fewer_by None s n m is fewer = absurd (cc is)
fewer_by (Some x) s n m is fewer = fewer

-- a moment more leaves less to play
timeline_on : (q : Proposed) (m : Moment) (p r : Player) (h : Option Happening) → BeginsMoment q m p r h → r.timeline ≡ p.timeline
timeline_on q (Word w) p r h begins = begins.2
timeline_on q (Slot g t) p r h begins = begins.2

few_cells : (q : Proposed) (s : Option SlotLeft) → IfSome s (CanBeUnderWay q) → cells_left s ≤ 16
few_cells q None can = omega arith
few_cells q (Some s) can = can.1

pub moment_shorter : (q : Proposed) (o p r : Player) (left : Timeline) (m : Moment) (h : Option Happening) → p.timeline ≡ o.timeline → left_in left < left_in p.timeline
    → BeginsMoment q m (record p { timeline = left }) r h → CanBePlayed q r → left_to_play r < left_to_play o
moment_shorter q o p r left m h same shorter begins C =
    omega (arith, ap left_in same, shorter, ap left_in (timeline_on q m (record p { timeline = left }) r h begins), few_cells q r.slot C.slot)

-- the timeline has gone on
pub still_playable : (q : Proposed) (p r : Player) → CanBePlayed q p → length r.timeline.tracks.items ≡ length p.timeline.tracks.items → OfEach IsTrack r.timeline.tracks.items
    → r.timeline.words.items ≡ p.timeline.words.items → r.slot ≡ p.slot → CanBePlayed q r
still_playable q p r C many sound words slot = record {
  tracks = (many ∙ C.tracks.0, many ∙ C.tracks.1);
  sound = sound;
  in_time = subst AreInTime (sym words) C.in_time;
  slot = subst (λ (s : Option SlotLeft). IfSome s (CanBeUnderWay q)) (sym slot) C.slot;
}

-- ---- a timeline up to a place

module _ (q : Proposed) (words : List LogWord) (last : ℕ) where
  pub played_on : (told : List Happening) (h : Option Happening) (p r : Player) → HasPlayed q words last told p → PlaysCells q p r h → HasPlayed q words last (told ++ listed h) r
  played_on told h p r H (goes, same) =
      let (steps, left, stands, happened) = goes H.steps H.run in
      record {
        moments = H.moments;
        steps = H.steps ++ steps;
        timeline = subst (IsTimelineAt q words last H.moments) (sym same) H.timeline;
        begun = append_assoc H.steps steps (left_of q r.slot) ∙ (ap (λ (l : List Step). H.steps ++ l) left ∙ H.begun);
        run = stands;
        told_is = ap₂ (λ (x y : List Happening). x ++ y) H.told_is (sym happened) ∙ sym (happenings-append q [] H.steps steps);
      }

  pub told_if : (told : List Happening) (h : Option Happening) (r : Player) → HasPlayed q words last (told ++ listed h) r → is_some h ≡ true
      → MatchOption h (AreHappenings q words last told) (λ x. HasPlayed q words last (told ++ x ∷ []) r)
  told_if told None r H some = absurd (cc some)
  told_if told (Some x) r H some = H

  pub untold_if : (told : List Happening) (h : Option Happening) (r : Player) → HasPlayed q words last (told ++ listed h) r → is_some h ≡ false → HasPlayed q words last told r
  untold_if told h r H none = subst (λ (l : List Happening). HasPlayed q words last l r) (ap (λ (l : List Happening). told ++ l) (none_sent h none) ∙ append-nil told) H

  -- if no slot is under way, all steps were taken
  whole : (told : List Happening) (p : Player) (H : HasPlayed q words last told p) → p.slot ≡ None → H.steps ≡ steps_of q H.moments
  whole told p H none = sym (append-nil H.steps) ∙ (ap (λ (s : Option SlotLeft). H.steps ++ left_of q s) (sym none) ∙ H.begun)

  pub played_end : (told : List Happening) (p : Player) (left : Timeline) → HasPlayed q words last told p → p.slot ≡ None → TakesMoment p.timeline left None
      → AreHappenings q words last told
  played_end told p left H none takes = (H.moments, takes q words last H.moments H.timeline, H.told_is ∙ ap (happenings_of q) (whole told p H none))

  -- a moment more
  pub played_moment : (told : List Happening) (p r : Player) (left : Timeline) (m : Moment) (h : Option Happening) → HasPlayed q words last told p → p.slot ≡ None
      → TakesMoment p.timeline left (Some m) → BeginsMoment q m (record p { timeline = left }) r h → HasPlayed q words last (told ++ listed h) r
  unfolding steps_in
  played_moment told p r left (Word w) h H none takes (step, slot, same) =
      let (stands, is) = step H.steps H.run in
      let all = whole told p H none in
      record {
        moments = H.moments ++ Word w ∷ [];
        steps = H.steps ++ Comes w ∷ [];
        timeline = subst (IsTimelineAt q words last (H.moments ++ Word w ∷ [])) (sym same) (takes q words last H.moments H.timeline);
        begun = ap (λ (s : Option SlotLeft). (H.steps ++ Comes w ∷ []) ++ left_of q s) (slot ∙ none)
            ∙ (append-nil (H.steps ++ Comes w ∷ []) ∙ (ap (λ (l : List Step). l ++ Comes w ∷ []) all ∙ sym (steps_more q H.moments (Word w))));
        run = stands;
        told_is = ap₂ (λ (x y : List Happening). x ++ y) H.told_is (sym (append-nil (listed h)) ∙ ap (λ (x : Option Happening). listed x ++ []) is)
            ∙ sym (happenings-append q [] H.steps (Comes w ∷ []));
      }
  played_moment told p r left (Slot g t) h H none takes (run, slot, same, quiet) =
      let all = whole told p H none in
      record {
        moments = H.moments ++ Slot g t ∷ [];
        steps = H.steps;
        timeline = subst (IsTimelineAt q words last (H.moments ++ Slot g t ∷ [])) (sym same) (takes q words last H.moments H.timeline);
        begun = ap (λ (s : Option SlotLeft). H.steps ++ left_of q s) slot
            ∙ (ap (λ (l : List Step). l ++ (cells_in q g t ++ turn_after q g t)) all ∙ sym (steps_more q H.moments (Slot g t)));
        run = subst (StandsAfter q H.steps) (sym run) H.run;
        told_is = ap (λ (x : Option Happening). told ++ listed x) quiet ∙ (append-nil told ∙ H.told_is);
      }

  -- the events that were given before the last
  pub played_part : (told : List Happening) (h : Happening) (p : Player) → HasPlayed q words last (told ++ h ∷ []) p
      → (moments : List Moment) × (n : ℕ) × TimelineIsBegun q words last moments × (told ≡ take n (happenings_of q (steps_of q moments)))
  played_part told h p H =
      let rest = happenings_after q H.steps (left_of q p.slot) in
      let all : happenings_of q (steps_of q H.moments) ≡ told ++ (h ∷ [] ++ rest) =
      sym (ap (happenings_of q) H.begun) ∙ (happenings-append q [] H.steps (left_of q p.slot)
      ∙ (ap (λ (l : List Happening). l ++ rest) (sym H.told_is) ∙ append_assoc told (h ∷ []) rest)) in
      (H.moments, length told, (_, _, H.timeline.happened), sym (ap (take (length told)) all ∙ take-append_seam told (h ∷ [] ++ rest)))
