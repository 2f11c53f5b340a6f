-- What a receiver accepted, what a transmitter loaded, and when the two agree (vocabulary of contracts). An accepted word is a pair of its source's
-- number and the word.
use Rattle.std.specs.Prelude.{◌≡◌, ◌==◌, ◌&&◌, ◌-◌, ◌≤◌, ◌++◌, ℕ, zero, suc, Bool, true, false, List, [], ◌∷◌, Option, Some, None, if◌then◌else◌, nat_le, length, take, map, filter, slice_get}
use Rattle.std.specs.Option.{option_map_or}
use Rattle.std.specs.List.{range_with_len, AllByRecursion}
use Rattle.a429_equipment.specs.declared.loads.Load.{Load}
use Rattle.a429_equipment.specs.TableRecord.{TableRecord}

-- ---- accepted words

-- the words of one source, in order
abbrev pub words_of : ℕ → List (ℕ × ℕ) → List ℕ
words_of s A = map (λ e. e.1) (filter (λ e. e.0 == s) A)

abbrev pub last_of : {A : Type 0} → List A → Option A
last_of xs = slice_get xs (length xs - 1)

-- the source of this number is one of receiver r
abbrev pub is_of : TableRecord → ℕ → ℕ → Bool
is_of t r s = option_map_or (λ row. row.receiver == r) (slice_get t.sources s) false

-- the numbers of the sources of receiver r
abbrev pub sources_of : TableRecord → ℕ → List ℕ
sources_of t r = filter (is_of t r) (range_with_len 0 (length t.sources))

-- ---- loads

-- the load of a source after these words were accepted
abbrev pub load_after : ℕ → List (ℕ × ℕ) → Load
load_after s A = record { source = s; count = length (words_of s A); word = last_of (words_of s A) }

-- the loads of each source of receiver r, if it accepted these words
abbrev pub loads_of_all : TableRecord → ℕ → List (ℕ × ℕ) → List Load
loads_of_all t r A = map (λ s. load_after s A) (sources_of t r)

-- none of the loads found more words of the source than this one: a count never goes back
abbrev pub CountsNoLess : List Load → Load → Type 0
CountsNoLess loads l = AllByRecursion (λ m. m.source ≡ l.source → m.count ≤ l.count) loads

-- ---- agreement

-- The cut of a load is the length of a prefix of what the receiver accepted, after which the load was made. It is at
-- least the cut of the load before. A load of another receiver's source leaves the cut as it was.
abbrev pub IsCutOfLoad : Bool → List (ℕ × ℕ) → ℕ → Load → ℕ → Type 0
IsCutOfLoad true A before l cut = (before ≤ cut) × (cut ≤ length A) × (l ≡ load_after l.source (take cut A))
IsCutOfLoad false A before l cut = before ≡ cut

-- each load has its cut, from the cut `before` on; `last` is the last of them
abbrev pub Cuts : (ℕ → Bool) → List (ℕ × ℕ) → ℕ → List Load → ℕ → Type 0
Cuts mine A before [] last = before ≡ last
Cuts mine A before (l ∷ ls) last = (cut : ℕ) × IsCutOfLoad (mine l.source) A before l cut × Cuts mine A cut ls last

-- the loads agree with what receiver r accepted, by cuts of which this is the last
abbrev pub AgreesTo : TableRecord → ℕ → List (ℕ × ℕ) → List Load → ℕ → Type 0
AgreesTo t r A loads last = Cuts (is_of t r) A 0 loads last

abbrev pub Agrees : TableRecord → ℕ → List (ℕ × ℕ) → List Load → Type 0
Agrees t r A loads = (last : ℕ) × AgreesTo t r A loads last

-- they agree, and if the receiver has a source, the last cut is all that it accepted
abbrev pub AgreesToTheEnd : TableRecord → ℕ → List (ℕ × ℕ) → List Load → Type 0
AgreesToTheEnd t r A loads = (last : ℕ) × AgreesTo t r A loads last × ((s : ℕ) → is_of t r s ≡ true → last ≡ length A)

-- ---- agreement, computed: each load has the least cut that its count and the cut before allow

-- the length of the shortest prefix with n words of the source
abbrev pub reach : ℕ → ℕ → List (ℕ × ℕ) → ℕ
reach s zero A = 0
reach s (suc n) [] = 0
reach s (suc n) (e ∷ A) = suc (if e.0 == s then reach s n A else reach s (suc n) A)

abbrev pub least_cut : List (ℕ × ℕ) → ℕ → Load → ℕ
least_cut A before l = if nat_le before (reach l.source l.count A) then reach l.source l.count A else before

abbrev pub same_word : Option ℕ → Option ℕ → Bool
same_word None None = true
same_word (Some v) (Some w) = v == w
same_word _ _ = false

-- the load is the one after these words
abbrev pub is_load : Load → Load → Bool
is_load l m = l.count == m.count && same_word l.word m.word

abbrev pub next_cut : Bool → List (ℕ × ℕ) → ℕ → Load → Option ℕ
next_cut true A before l =
    if is_load l (load_after l.source (take (least_cut A before l) A)) then Some (least_cut A before l) else None
next_cut false A before l = Some before

-- the last cut; none if some load has no cut
abbrev pub last_cut : (ℕ → Bool) → List (ℕ × ℕ) → Option ℕ → List Load → Option ℕ
last_cut mine A None ls = None
last_cut mine A (Some before) [] = Some before
last_cut mine A (Some before) (l ∷ ls) = last_cut mine A (next_cut (mine l.source) A before l) ls

-- the last cut of loads in what receiver r accepted
abbrev pub last_cut_of : TableRecord → ℕ → List (ℕ × ℕ) → List Load → Option ℕ
last_cut_of t r A loads = last_cut (is_of t r) A (Some 0) loads

-- loads with a last cut that is computed agree with what the receiver accepted, up to that cut
abbrev pub ComputedCutsAgree : Type 0
ComputedCutsAgree =
    (t : TableRecord) (r last : ℕ) (A : List (ℕ × ℕ)) (loads : List Load)
    → last_cut_of t r A loads ≡ Some last → AgreesTo t r A loads last

-- loads that agree up to some cut have a last cut that is computed, and it is no longer
abbrev pub ComputedCutsAreLeast : Type 0
ComputedCutsAreLeast =
    (t : TableRecord) (r last : ℕ) (A : List (ℕ × ℕ)) (loads : List Load) → AgreesTo t r A loads last
    → (least : ℕ) × (last_cut_of t r A loads ≡ Some least) × (least ≤ last)

-- ---- agreement lasts

-- loads that agree with what a receiver accepted still agree with it when the receiver accepts more
abbrev pub AgreesWithMore : Type 0
AgreesWithMore = (t : TableRecord) (r : ℕ) (A more : List (ℕ × ℕ)) (loads : List Load) → Agrees t r A loads → Agrees t r (A ++ more) loads

-- a stretch of them agrees with it
abbrev pub StretchesAgree : Type 0
StretchesAgree =
    (t : TableRecord) (r : ℕ) (A : List (ℕ × ℕ)) (before loads later : List Load) → Agrees t r A (before ++ (loads ++ later)) → Agrees t r A loads

-- they still agree with it if only loads of other receivers' sources follow
abbrev pub AgreesBesideOthers : Type 0
AgreesBesideOthers =
    (t : TableRecord) (r : ℕ) (A : List (ℕ × ℕ)) (loads others : List Load)
    → AllByRecursion (λ l. is_of t r l.source ≡ false) others → Agrees t r A loads → Agrees t r A (loads ++ others)
