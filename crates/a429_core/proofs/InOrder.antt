-- The cells of a frame in order are those that come of counting.
use Rattle.std.proofs.Common.{◌≡◌, ℕ, zero, suc, ◌+◌, ◌-◌, ◌*◌, ◌/◌, ◌%◌, ◌<◌, ◌≤◌, List, ◌∷◌, ◌++◌, length, map, take, replicate, ◌∙◌, sym, ap, refl, inl, inr, arith, append-nil}
use Rattle.std.specs.Prelude.{flat_map, if◌then◌else◌, nat_lt}
use Rattle.std.specs.List.{range_with_len}
use Rattle.std.proofs.lemmas.Simd.{map-map}
use Rattle.std.proofs.lemmas.Grind.{flat_map-append}
use Rattle.std.proofs.lemmas.List.{take-take, map-append, take-append-le, take_all}
use Rattle.std.proofs.lemmas.List.FromFn.{length-map-range_with_len}
use Rattle.std.proofs.lemmas.Nat.{div-mul-add, mod-mul-add}
use Rattle.std.proofs.lemmas.Bool.{cases_lt, lt-ltb, le-ltb}
use Rattle.std.proofs.Math.Nat.{mul_comm}
use Rattle.a429_slots.specs.Tables.{buses_of, frame_of, cells_of}
use Rattle.a429_slots.specs.History.{Current}
use Rattle.a429_slots.specs.declared.answers.Answer.{Answer}
use Rattle.a429_slots.specs.declared.answers.Answer.TheVariants.{Refused}
use Rattle.a429_slots.specs.declared.answers.Refusal.TheVariants.{FrameEnd}
use Rattle.a429_core.specs.Sends.{cells_in_order, cell_sent, in_turn}

range_joined : (a x y : ℕ) → range_with_len a (x + y) ≡ range_with_len a x ++ range_with_len (a + x) y
range_joined a zero y =
    let here : zero + y ≡ y = omega arith in
    let there : a ≡ a + zero = omega arith in
    ap (range_with_len a) here ∙ ap (λ (b : ℕ). range_with_len b y) there
range_joined a (suc x) y =
    let here : suc x + y ≡ suc (x + y) = omega arith in
    let there : a + 1 + x ≡ a + suc x = omega arith in
    ap (range_with_len a) here ∙ ap (λ (ks : List ℕ). a ∷ ks) (range_joined (a + 1) x y ∙ ap (λ (b : ℕ). range_with_len (a + 1) x ++ range_with_len b y) there)

-- the k-th cell of a frame on m buses
abbrev pub cell_number : ℕ → ℕ → ℕ → ℕ × ℕ
cell_number m first k = (k % m, first + k / m)

abbrev row : ℕ → ℕ → ℕ → ℕ → List (ℕ × ℕ)
row first slot b n = map (λ bus. (bus, first + slot)) (range_with_len b n)

-- the cells of one slot
row_is : (m first slot b n : ℕ) → b + n ≤ m → map (cell_number m first) (range_with_len (slot * m + b) n) ≡ row first slot b n
row_is m first slot b zero fits = refl
row_is m first slot b (suc n) fits =
    let low : b < m = omega (arith, fits) in
    let bus : (slot * m + b) % m ≡ b = mod-mul-add slot m b low in
    let time : (slot * m + b) / m ≡ slot = div-mul-add slot m b low in
    let next : slot * m + b + 1 ≡ slot * m + (b + 1) = omega arith in
    ap (λ (c : ℕ × ℕ). c ∷ map (cell_number m first) (range_with_len (slot * m + b + 1) n)) (ap (λ (x : ℕ). (x, first + (slot * m + b) / m)) bus ∙ ap (λ (x : ℕ). (b, first + x)) time)
    ∙ ap (λ (cs : List (ℕ × ℕ)). (b, first + slot) ∷ cs) (ap (λ (a : ℕ). map (cell_number m first) (range_with_len a n)) next ∙ row_is m first slot (b + 1) n (omega (arith, fits)))

all_cells : (m first H : ℕ) → map (cell_number m first) (range_with_len 0 (H * m)) ≡ flat_map (λ slot. row first slot 0 m) (range_with_len 0 H)
all_cells m first zero = let none : zero * m ≡ zero = omega arith in ap (λ (n : ℕ). map (cell_number m first) (range_with_len 0 n)) none
all_cells m first (suc H) =
    let more : suc H * m ≡ H * m + m = omega arith in
    let start : 0 + H * m ≡ H * m + 0 = omega arith in
    let last : 0 + H ≡ H = omega arith in
    let on : suc H ≡ H + 1 = omega arith in
    let one : flat_map (λ slot. row first slot 0 m) (range_with_len (0 + H) 1) ≡ row first H 0 m =
    append-nil (row first (0 + H) 0 m) ∙ ap (λ (slot : ℕ). row first slot 0 m) last in
    let left : map (cell_number m first) (range_with_len 0 (suc H * m)) ≡ flat_map (λ slot. row first slot 0 m) (range_with_len 0 H) ++ row first H 0 m =
    ap (λ (n : ℕ). map (cell_number m first) (range_with_len 0 n)) more
    ∙ (ap (map (cell_number m first)) (range_joined 0 (H * m) m ∙ ap (λ (b : ℕ). range_with_len 0 (H * m) ++ range_with_len b m) start)
    ∙ (map-append (cell_number m first) (range_with_len 0 (H * m)) (range_with_len (H * m + 0) m)
    ∙ (ap (λ (cs : List (ℕ × ℕ)). cs ++ map (cell_number m first) (range_with_len (H * m + 0) m)) (all_cells m first H)
    ∙ ap (λ (cs : List (ℕ × ℕ)). flat_map (λ slot. row first slot 0 m) (range_with_len 0 H) ++ cs) (row_is m first H 0 m (omega arith))))) in
    let right : flat_map (λ slot. row first slot 0 m) (range_with_len 0 (suc H)) ≡ flat_map (λ slot. row first slot 0 m) (range_with_len 0 H) ++ row first H 0 m =
    ap (λ (n : ℕ). flat_map (λ slot. row first slot 0 m) (range_with_len 0 n)) on
    ∙ (ap (flat_map (λ slot. row first slot 0 m)) (range_joined 0 H 1)
    ∙ (flat_map-append (λ slot. row first slot 0 m) (range_with_len 0 H) (range_with_len (0 + H) 1)
    ∙ ap (λ (cs : List (ℕ × ℕ)). flat_map (λ slot. row first slot 0 m) (range_with_len 0 H) ++ cs) one)) in
    left ∙ sym right

-- ---- as answers

-- the k-th answer
abbrev pub turn : Current → ℕ → Answer
turn f k = if nat_lt k (cells_of f.table) then cell_sent (cell_number (buses_of f.table) f.first k) else Refused FrameEnd

padded : (h : ℕ → Answer) (r : Answer) (N c n m : ℕ) → n ≤ m → map (λ k. if nat_lt k N then h k else r) (range_with_len c n) ≡ take n (map h (range_with_len c (N - c)) ++ replicate m r)
padded h r N c zero m fits = refl
padded h r N c (suc n) zero fits = absurd (omega (arith, fits))
padded h r N c (suc n) (suc m) fits = elim (cases_lt c N) [
  | inl lt ↦
      let left : N - c ≡ suc (N - (c + 1)) = omega (arith, lt) in
      let rest = padded h r N (c + 1) n (suc m) (omega (arith, fits)) in
      rw (left, lt-ltb c N lt) (ap (λ (as' : List Answer). h c ∷ as') rest)
  | inr ge ↦
      let left : N - c ≡ 0 = omega (arith, ge) in
      let later : N - (c + 1) ≡ 0 = omega (arith, ge) in
      let rest = padded h r N (c + 1) n m (omega (arith, fits)) in
      let bare = ap (λ (x : ℕ). take n (map h (range_with_len (c + 1) x) ++ replicate m r)) later in
      rw (left, le-ltb c N ge) (ap (λ (as' : List Answer). r ∷ as') (rest ∙ bare))
]

-- the cells of a frame, one for each number
ordered : (f : Current) → map cell_sent (cells_in_order f) ≡ map (λ k. cell_sent (cell_number (buses_of f.table) f.first k)) (range_with_len 0 (cells_of f.table))
ordered f =
    let m = buses_of f.table in
    let H = frame_of f.table in
    ap (map cell_sent) (sym (all_cells m f.first H))
    ∙ (map-map cell_sent (cell_number m f.first) (range_with_len 0 (H * m))
    ∙ ap (λ (n : ℕ). map (λ k. cell_sent (cell_number m f.first k)) (range_with_len 0 n)) (mul_comm H m))

pub in_turn_is : (f : Current) (n : ℕ) → map (turn f) (range_with_len 0 n) ≡ in_turn f n
in_turn_is f n =
    let h = λ (k : ℕ). cell_sent (cell_number (buses_of f.table) f.first k) in
    let N = cells_of f.table in
    let all : N - 0 ≡ N = omega arith in
    padded h (Refused FrameEnd) N 0 n n (omega arith)
    ∙ ap (λ (cs : List Answer). take n (cs ++ replicate n (Refused FrameEnd))) (ap (λ (x : ℕ). map h (range_with_len 0 x)) all ∙ sym (ordered f))

many : (f : Current) → length (map cell_sent (cells_in_order f)) ≡ cells_of f.table
many f = ap (λ (cs : List Answer). length cs) (ordered f)
    ∙ length-map-range_with_len (λ k. cell_sent (cell_number (buses_of f.table) f.first k)) 0 (cells_of f.table)

-- as many as the frame has cells, and maybe more, begin with all of them
pub whole_turn : (f : Current) (n : ℕ) → cells_of f.table ≤ n → take (cells_of f.table) (in_turn f n) ≡ map cell_sent (cells_in_order f)
whole_turn f n fits =
    let N = cells_of f.table in
    let cs = map cell_sent (cells_in_order f) in
    take-take N n (cs ++ replicate n (Refused FrameEnd)) fits
    ∙ (take-append-le N cs (replicate n (Refused FrameEnd)) (omega (arith, many f)) ∙ take_all N cs (omega (arith, many f)))
