use Rattle.std.proofs.Common.{◌≡◌, ◌++◌, ◌∷◌, [], ◌+◌, ◌-◌, ◌<◌, ℕ, List, length, refl, sym, subst, arith}
use Rattle.std.specs.Prelude.{Option, Some, None, MatchOption, sum_by}
use Rattle.std.proofs.lemmas.Option.{slice_get_within}
use Rattle.a429_equipment.specs.Sound.{OfEach}
use Rattle.a429_recordings.specs.Timeline.{IsTimeline}
use Rattle.a429_recordings.specs.Tracks.{ComesFirst, IsNextTrack, IsTimelineAt, IsTrack}
use Rattle.a429_recordings.specs.declared.simulate.log.LogWord.{LogWord}
use Rattle.a429_recordings.specs.declared.simulate.moments.Moment.{Moment}
use Rattle.a429_recordings.specs.declared.simulate.moments.Moment.TheVariants.{Slot}
use Rattle.a429_recordings.specs.declared.simulate.tracks.Track.{Track}
use Rattle.a429_recordings.proofs.TrackOrder.{advanced_sound, fewer_left, none_taken, slot_taken, word_taken}
use Rattle.a429_recordings.proofs.simulate.moments.Timeline.next.Goals as goal

-- what the calls say, of the fields
least_of : (ts us : List Track) (group : Option ℕ) → us ≡ ts → IsNextTrack us (length us) group → IsNextTrack ts (length ts) group
least_of ts us group same L = subst (λ (xs : List Track). IsNextTrack xs (length xs) group) same L

comes_of : (ws vs : List LogWord) (at : ℕ) (ts us : List Track) (group : Option ℕ) (word : Option LogWord) → vs ≡ ws → us ≡ ts → ComesFirst vs at us group word → ComesFirst ws at ts group word
comes_of ws vs at ts us group word words tracks C =
    subst (λ (xs : List LogWord). ComesFirst xs at ts group word) words (subst (λ (xs : List Track). ComesFirst vs at xs group word) tracks C)

pub returns-in-Some-clause-taken : goal.returns-in-Some-clause-taken
returns-in-Some-clause-taken c = λ q words last M T.
    let old = c.args.self.now in
    let group = c.first_group-group.result in
    let least = least_of old.tracks.items c.deref.result.now group c.deref.ensures.value c.first_group-group.ensures.least in
    let comes = comes_of old.words.items c.deref-2.result.now old.at old.tracks.items c.deref-3.result.now group (Some c.in-Some.word) c.deref-2.ensures.value c.deref-3.ensures.value c.in-Some.ensures in
    word_taken q words last M old (record old { at = old.at + 1 }) group c.in-Some.word T least c.requires.sound comes refl refl refl

pub returns-in-Some-clause-shorter : goal.returns-in-Some-clause-shorter
returns-in-Some-clause-shorter c =
    let old = c.args.self.now in
    let group = c.first_group-group.result in
    let comes = comes_of old.words.items c.deref-2.result.now old.at old.tracks.items c.deref-3.result.now group (Some c.in-Some.word) c.deref-2.ensures.value c.deref-3.ensures.value c.in-Some.ensures in
    let below : old.at < length old.words.items = slice_get_within old.words.items old.at c.in-Some.word comes.0 in
    omega (arith, below)

pub returns-in_err-group-clause-taken : goal.returns-in_err-group-clause-taken
returns-in_err-group-clause-taken c = λ q words last M T.
    let old = c.args.self.now in
    let least = least_of old.tracks.items c.deref.result.now c.first_group-group.result c.deref.ensures.value c.first_group-group.ensures.least in
    let comes = comes_of old.words.items c.deref-2.result.now old.at old.tracks.items c.deref-3.result.now c.first_group-group.result c.next_word.result c.deref-2.ensures.value c.deref-3.ensures.value c.next_word.ensures in
    let none : c.first_group-group.result ≡ None = c.in_err-group.was in
    let no_word : c.next_word.result ≡ None = c.in_default.is in
    subst (λ (r : Option Moment). MatchOption r (IsTimeline q words last M) (λ m. IsTimelineAt q words last (M ++ m ∷ []) old)) (sym c.from_residual.ensures)
    (none_taken q words last M old T (subst (IsNextTrack old.tracks.items (length old.tracks.items)) none least)
    (subst (λ (g : Option ℕ). ComesFirst old.words.items old.at old.tracks.items g None) none (subst (ComesFirst old.words.items old.at old.tracks.items c.first_group-group.result) no_word comes)))

pub returns-clause-taken : goal.returns-clause-taken
returns-clause-taken c = λ q words last M T.
    let old = c.args.self.now in
    let g : ℕ = c.in_ok-group.group in
    let least = least_of old.tracks.items c.deref.result.now c.first_group-group.result c.deref.ensures.value c.first_group-group.ensures.least in
    let comes = comes_of old.words.items c.deref-2.result.now old.at old.tracks.items c.deref-3.result.now c.first_group-group.result c.next_word.result c.deref-2.ensures.value c.deref-3.ensures.value c.next_word.ensures in
    let some : c.first_group-group.result ≡ Some g = c.in_ok-group.was in
    let no_word : c.next_word.result ≡ None = c.in_default.is in
    let new = record old { tracks = c.take_slot.new.tracks } in
    subst (λ (t : ℕ). IsTimelineAt q words last (M ++ Slot g t ∷ []) new) (sym c.take_slot.ensures.slot)
    (slot_taken q words last M old new g T (subst (IsNextTrack old.tracks.items (length old.tracks.items)) some least)
    (subst (λ (x : Option ℕ). ComesFirst old.words.items old.at old.tracks.items x None) some (subst (ComesFirst old.words.items old.at old.tracks.items c.first_group-group.result) no_word comes))
    refl c.take_slot.ensures.after refl)

pub returns-clause-sound : goal.returns-clause-sound
returns-clause-sound c =
    let old = c.args.self.now in
    let g : ℕ = c.in_ok-group.group in
    let some : c.first_group-group.result ≡ Some g = c.in_ok-group.was in
    let least = subst (IsNextTrack old.tracks.items (length old.tracks.items)) some (least_of old.tracks.items c.deref.result.now c.first_group-group.result c.deref.ensures.value c.first_group-group.ensures.least) in
    subst (OfEach IsTrack) (sym c.take_slot.ensures.after) (advanced_sound old.tracks.items g least.1 least.2 least.3 c.requires.sound)

pub returns-clause-shorter : goal.returns-clause-shorter
returns-clause-shorter c =
    let old = c.args.self.now in
    let g : ℕ = c.in_ok-group.group in
    let some : c.first_group-group.result ≡ Some g = c.in_ok-group.was in
    let least = subst (IsNextTrack old.tracks.items (length old.tracks.items)) some (least_of old.tracks.items c.deref.result.now c.first_group-group.result c.deref.ensures.value c.first_group-group.ensures.least) in
    let f : Track → ℕ = λ z. z.slots - z.next in
    let fewer = fewer_left old.tracks.items g least.1 least.2 least.3 in
    let less : sum_by f c.take_slot.new.tracks.items < sum_by f old.tracks.items = subst (λ (ts : List Track). sum_by f ts < sum_by f old.tracks.items) (sym c.take_slot.ensures.after) fewer in
    omega (arith, less)
