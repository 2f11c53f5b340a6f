-- What a call does before and after what it is asked for.
use mathlib.Core.Bool.{beq}
use Rattle.std.proofs.Common.{◌≡◌, ◌≤◌, ◌+◌, ◌∙◌, [], ℕ, List, Bool, true, false, ap, arith, refl, subst, sym}
use Rattle.std.specs.Prelude.{Result, Ok, Err, IfErr, IfOk, OnErr, OnOk, not}
use Rattle.std.specs.Io.KnownBytes.{Appends}
use Rattle.clap.specs.Words.{HasKind, Kinds}
use Rattle.clap.specs.declared.error.Error.{Error}
use Rattle.a429_console.specs.Ends.{EndsBy, IsPassedOn, IsPutTo, IsWhole, Writing}
use Rattle.a429_console.specs.Outputs.{CountsFault, IsPut, NoneFailed, failed_line, is_closing}
use Rattle.a429_arguments.specs.Usage.{elsewhere, kinds_of_words, live_kinds_of_words}
use Rattle.a429_console.specs.declared.output.OutputFault.{OutputFault}
use Rattle.a429_console.proofs.CallEnds.{answered_ends, done_ends, failed_ends}
use Rattle.a429_console.proofs.Endings.{failure_shows}
use Rattle.a429_cli.specs.Calls.{kinds_here}

-- a request for a command of this call is all that the arguments come to
pub none_here : (live : Bool) (words : List (List ℕ)) (run : Bool) → kinds_of_words words ≡ elsewhere run → live_kinds_of_words words ≡ elsewhere (not run) → run ≡ live → kinds_here live words ≡ []
none_here true words run kinds live_kinds same = live_kinds ∙ ap (λ (b : Bool). elsewhere (not b)) same
none_here false words run kinds live_kinds same = kinds ∙ ap elsewhere same

-- a command of the other call
pub other_here : (live : Bool) (words : List (List ℕ)) (run : Bool) → kinds_of_words words ≡ elsewhere run → live_kinds_of_words words ≡ elsewhere (not run) → run ≡ not live → kinds_here live words ≡ elsewhere true
other_here true words run kinds live_kinds other = live_kinds ∙ ap (λ (b : Bool). elsewhere (not b)) other
other_here false words run kinds live_kinds other = kinds ∙ ap elsewhere other

-- the parser's error has a kind that they have for this call
pub kind_here : (live : Bool) (words : List (List ℕ)) (error : Error) → HasKind (kinds_of_words words) error → HasKind (live_kinds_of_words words) error → HasKind (kinds_here live words) error
kind_here true words error kinds live_kinds = live_kinds
kind_here false words error kinds live_kinds = kinds

-- how the call ends, by what was answered
pub answer_ends : {X Y : Type 0} (kinds : Kinds) (out : Writing X) (err : Writing Y) (mid : X) (told : Y) (answered : Result ℕ OutputFault) (status : ℕ) → kinds ≡ [] → mid ≡ out.old → told ≡ err.old
    → IfOk answered (λ s. s ≤ 2) → OnOk answered (IsPassedOn out) → CountsFault answered (out.failures mid) (out.failures out.new) → IfOk answered (λ s. status ≡ s) → OnErr answered (status ≡ 1)
    → IfErr answered (λ fault. is_closing fault ≡ false → NoneFailed (err.failures told) (err.failures err.new) → Appends (err.contents told) (err.contents err.new) failed_line)
    → IfErr answered (λ fault. is_closing fault ≡ true → err.new ≡ told) → (err.failures err.new).count ≤ (err.failures told).count + 1 → EndsBy kinds out err status
answer_ends {X} {Y} kinds out err mid told (Ok s) status none left left_told few flushed faults done failed announced hushed once =
    let kept : CountsFault {X = ℕ} (Ok s) (out.failures out.old) (out.failures out.new) = subst (λ (x : X). CountsFault {X = ℕ} (Ok s) (out.failures x) (out.failures out.new)) left faults in
    let most : (err.failures err.new).count ≤ (err.failures err.old).count + 1 = subst (λ (y : Y). (err.failures err.new).count ≤ (err.failures y).count + 1) left_told once in
    let ends : EndsBy [] out err s = done_ends [] out err s (answered_ends out err (Ok s) few flushed kept tt most) in
    subst (λ (n : ℕ). EndsBy kinds out err n) (sym done) (subst (λ (ks : Kinds). EndsBy ks out err s) (sym none) ends)
answer_ends {X} {Y} kinds out err mid told (Err fault) status none left left_told few flushed faults done failed announced hushed once =
    let counted : CountsFault {X = ℕ} (Err fault) (out.failures out.old) (out.failures out.new) = subst (λ (x : X). CountsFault {X = ℕ} (Err fault) (out.failures x) (out.failures out.new)) left faults in
    let untold : Writing Y = record err { new = err.old } in
    let before = answered_ends out untold (Err fault) tt tt counted refl (omega arith) in
    let ends : EndsBy [] out err 1 = failed_ends [] out err err.old fault before
    (subst (λ (y : Y). is_closing fault ≡ false → NoneFailed (err.failures y) (err.failures err.new) → Appends (err.contents y) (err.contents err.new) failed_line) left_told announced)
    (subst (λ (y : Y). is_closing fault ≡ true → err.new ≡ y) left_told hushed)
    (subst (λ (y : Y). (err.failures err.new).count ≤ (err.failures y).count + 1) left_told once) in
    subst (λ (n : ℕ). EndsBy kinds out err n) (sym failed) (subst (λ (ks : Kinds). EndsBy ks out err 1) (sym none) ends)

-- what was put, if no call of the output failed
pub answer_put : {X : Type 0} (Says : ℕ → List ℕ → Type 0) (out : Writing X) (mid : X) (answered : Result ℕ OutputFault) (status : ℕ) → mid ≡ out.old
    → IfOk answered (IsPut Says (out.contents mid) (out.contents out.new)) → IfOk answered (λ s. status ≡ s) → CountsFault answered (out.failures mid) (out.failures out.new) → IsWhole out → IsPutTo Says out status
answer_put {X} Says out mid (Ok s) status left put done faults whole =
    subst (λ (x : X). IsPut Says (out.contents x) (out.contents out.new) status) left (subst (λ (n : ℕ). IsPut Says (out.contents mid) (out.contents out.new) n) (sym done) put)
answer_put {X} Says out mid (Err fault) status left put done faults whole =
    let counted : CountsFault {X = ℕ} (Err fault) (out.failures out.old) (out.failures out.new) = subst (λ (x : X). CountsFault {X = ℕ} (Err fault) (out.failures x) (out.failures out.new)) left faults in
    absurd (failure_shows fault (out.failures out.old) (out.failures out.new) counted whole)

-- the status is at most this
pub answer_is_few : (answered : Result ℕ OutputFault) (status most : ℕ) → 1 ≤ most → IfOk answered (λ s. s ≤ most) → IfOk answered (λ s. status ≡ s) → OnErr answered (status ≡ 1) → status ≤ most
answer_is_few (Ok s) status most least few done failed = omega (arith, few, done)
answer_is_few (Err fault) status most least few done failed = omega (arith, least, failed)

-- the command is of the other call
pub other_of : (run live : Bool) → beq run live ≡ false → run ≡ not live
other_of true true differ = absurd (cc differ)
other_of true false differ = refl
other_of false true differ = refl
other_of false false differ = absurd (cc differ)

-- so it is none of this one
pub never_other : {A : Type 0} (live : Bool) → not live ≡ live → A
never_other true same = absurd (cc same)
never_other false same = absurd (cc same)
