-- The lines of a log that comes in pieces.
use Rattle.std.proofs.Common.{◌≡◌, ◌∙◌, ◌<◌, ◌≤◌, ℕ, Bool, true, false, List, Bor, [], ◌∷◌, ◌++◌, length, drop, refl, sym, ap, arith}
use Rattle.std.specs.Prelude.{◌==◌, ◌&&◌, if◌then◌else◌, get_or, Option, Some, None}
use Rattle.std.specs.List.{onto_first, slice_split}
use Rattle.std.proofs.lemmas.List.{append-nil}
use Rattle.std.specs.declared.alloc.Global.{Global}
use Rattle.std.specs.declared.vec.Vec.{Vec}
use Rattle.std.proofs.Math.Seq.{drop-length}
use Rattle.std.proofs.lemmas.List.Splits.{length-slice_split}
use Rattle.a429_text.specs.CutText.{without_byte_order_mark}
use Rattle.a429_logs.specs.LogFields.{Takes, is_separator, parts_in, parts_of}
use Rattle.a429_logs.specs.Logs.{joined, lines_of, numbered, one_more}
use Rattle.a429_logs.specs.LogPieces.{IsBetweenIn, TakesHere, first_lines, left_in, lines_in, next_in, pieces_in, taken_in, texts_in}
use Rattle.a429_logs.specs.declared.lines.Lines.{Lines}
use Rattle.a429_logs.specs.declared.fields.Separator.TheVariants.{LineFeed}

-- ---- the lines of texts that are joined

onto_first-append : {X : Type 0} (x : X) (s t : List (List X)) → 0 < length s → onto_first x (s ++ t) ≡ onto_first x s ++ t
onto_first-append x [] t h = absurd (omega arith)
onto_first-append x (s ∷ ss) t h = refl

split-one : {X : Type 0} (p : X → Bool) (x : X) (xs : List X) (later all : List X) (t : Bool) → p x ≡ t
    → slice_split p all ≡ slice_split p xs ++ slice_split p later → slice_split p (x ∷ all) ≡ slice_split p (x ∷ xs) ++ slice_split p later
split-one p x xs later all true e shorter = rw (e, shorter) refl
split-one p x xs later all false e shorter =
    let some : 0 < length (slice_split p xs) = omega (arith, length-slice_split p xs) in
    rw (e, shorter) (onto_first-append x (slice_split p xs) (slice_split p later) some)

slice_split-append : {X : Type 0} (p : X → Bool) (xs : List X) (y : X) (ys : List X) → p y ≡ true
    → slice_split p (xs ++ (y ∷ ys)) ≡ slice_split p xs ++ slice_split p ys
slice_split-append p [] y ys e = rw e refl
slice_split-append p (x ∷ xs) y ys e = split-one p x xs ys (xs ++ (y ∷ ys)) (p x) refl (slice_split-append p xs y ys e)

-- the lines of a first text, and then those of the later ones
parts_of-joined : (text : List ℕ) (texts : List (List ℕ)) → parts_of LineFeed (joined (text ∷ texts)) ≡ parts_of LineFeed text ++ lines_in texts
parts_of-joined text [] = sym (append-nil (parts_of LineFeed text))
parts_of-joined text (next ∷ texts) =
    slice_split-append (is_separator LineFeed) text 10 (joined (next ∷ texts)) refl
    ∙ ap (λ (lines : List (List ℕ)). parts_of LineFeed text ++ lines) (parts_of-joined next texts)

-- ---- a byte order mark is in the first piece

and-false : (a : Bool) (s t : List ℕ) → (if a && false then s else t) ≡ t
and-false true s t = refl
and-false false s t = refl

and-and-false : (a b : Bool) (s t : List ℕ) → (if a && (b && false) then s else t) ≡ t
and-and-false true b s t = and-false b s t
and-and-false false b s t = refl

if-append : (a : Bool) (s t later : List ℕ) → (if a then s ++ later else t ++ later) ≡ (if a then s else t) ++ later
if-append true s t later = refl
if-append false s t later = refl

separator-append : (text later : List ℕ) → without_byte_order_mark (text ++ (10 ∷ later)) ≡ without_byte_order_mark text ++ (10 ∷ later)
separator-append [] [] = refl
separator-append [] (x ∷ []) = refl
separator-append [] (x ∷ (y ∷ later)) = refl
separator-append (a ∷ []) [] = refl
separator-append (a ∷ []) (x ∷ later) = and-false (a == 239) later (a ∷ (10 ∷ (x ∷ later)))
separator-append (a ∷ (b ∷ [])) later = and-and-false (a == 239) (b == 187) later (a ∷ (b ∷ (10 ∷ later)))
separator-append (a ∷ (b ∷ (c ∷ text))) later = if-append (a == 239 && (b == 187 && c == 191)) text (a ∷ (b ∷ (c ∷ text))) (10 ∷ later)

separator-joined : (text : List ℕ) (texts : List (List ℕ)) → without_byte_order_mark (joined (text ∷ texts)) ≡ joined (without_byte_order_mark text ∷ texts)
separator-joined text [] = refl
separator-joined text (next ∷ texts) = separator-append text (joined (next ∷ texts))

-- the lines of a log are those of its first piece without the separator, and then those of the later pieces
lines-joined : (text : List ℕ) (texts : List (List ℕ))
    → parts_of LineFeed (without_byte_order_mark text) ++ lines_in texts ≡ parts_of LineFeed (without_byte_order_mark (joined (text ∷ texts)))
lines-joined text texts =
    sym (parts_of-joined (without_byte_order_mark text) texts) ∙ ap (λ (t : List ℕ). parts_of LineFeed t) (sym (separator-joined text texts))

-- all lines of a log
pub lines-of-none : (pieces : List (Vec ℕ Global)) → length pieces < 1 → first_lines [] (texts_in (drop 0 pieces)) ≡ lines_of (joined (texts_in pieces))
lines-of-none [] none = refl
lines-of-none (piece ∷ pieces) none = absurd (omega arith)

pub lines-of-some : (pieces : List (Vec ℕ Global)) (piece : Vec ℕ Global) (text : List ℕ) → 1 ≤ length pieces → piece ≡ get_or pieces 0 piece
    → text ≡ piece.items → first_lines text (texts_in (drop 1 pieces)) ≡ lines_of (joined (texts_in pieces))
lines-of-some [] piece text some is same = absurd (omega arith)
lines-of-some (first ∷ pieces) piece text some is same =
    ap (λ (t : List ℕ). first_lines t (texts_in pieces)) (same ∙ ap (λ (p : Vec ℕ Global). p.items) is)
    ∙ ap (λ (lines : List (List ℕ)). numbered 1 lines) (lines-joined first.items (texts_in pieces))

-- what is taken of all is taken of the piece that is read
pub taken-here : {X Y : Type 0} (shown : X → Y) (result : Option X) (old new : List Y) → Takes shown result old new → TakesHere shown result old new
taken-here shown None old new taken = taken.1 ∙ sym taken.0
taken-here shown (Some x) old new taken = taken

ended-by : (n : ℕ) (here : Option (Bor (List ℕ))) (pieces : List (Vec ℕ Global)) (piece : ℕ) → here ≡ None → piece ≡ length pieces
    → numbered n (parts_in LineFeed here ++ lines_in (texts_in (drop piece pieces))) ≡ []
ended-by n here pieces piece none last = rw (none, last, drop-length) refl

-- no line is left if no piece is left, and no line of the one that is read
pub lines-ended : (lines : Lines) → IsBetweenIn lines → next_in lines ≡ length (pieces_in lines) → left_in lines ≡ []
unfolding left_in
lines-ended lines none last = ended-by (one_more (taken_in lines)) lines.here (pieces_in lines) (next_in lines) none last
