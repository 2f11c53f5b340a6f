-- How a call ends, by what it did.
use Rattle.std.proofs.Common.{◌≡◌, ◌≢◌, ◌≤◌, ◌+◌, ◌⊎◌, ◌∙◌, ◌∷◌, [], ℕ, zero, suc, List, true, false, arith, inl, inr, refl, subst, sym}
use Rattle.std.specs.Prelude.{Result, Ok, Err, IfOk, OnErr, OnOk}
use Rattle.std.proofs.lemmas.Result.{IfOk-weaker}
use Rattle.std.specs.Io.KnownBytes.{Appends}
use Rattle.clap.specs.Words.{HasKind, Kinds, kind_of}
use Rattle.clap.specs.declared.error.Error.{Error}
use Rattle.clap.specs.declared.error.kind.ErrorKind.{ErrorKind}
use Rattle.clap.specs.declared.error.kind.ErrorKind.TheVariants.{OutOfMemory}
use Rattle.a429_console.specs.Ends.{EndsBy, EndsOrFails, FailsOnce, IsFailed, IsLeft, IsPassedOn, IsPutTo, Writing}
use Rattle.a429_console.specs.Outputs.{CountsFault, FailedCalls, IsMemoryReply, NoneFailed, failed_line, is_closing}
use Rattle.a429_arguments.specs.Usage.{AreHelp, AreMistakes}
use Rattle.a429_console.specs.UsageReplies.{IsReplyOfKind}
use Rattle.a429_console.specs.declared.output.OutputFault.{OutputFault}
use Rattle.a429_console.proofs.Endings.{counted_once, failure_shows, none_counted_once, none_has_failed}
use Rattle.a429_console.proofs.KindReplies.{help_replied, mistake_is_told, mistake_replied, no_request_or}

-- the output did not fail
pub done_ends : {X Y : Type 0} (kinds : Kinds) (out : Writing X) (err : Writing Y) (status : ℕ) → EndsOrFails kinds out err (Ok status) → EndsBy kinds out err status
done_ends kinds out err status e = record {
  few = e.few;
  helped = λ asks whole. e.helped asks;
  mistaken = λ mistake whole. e.mistaken mistake;
  usage = e.usage;
  failed = inr e.faults;
  failed_told = e.failed_told;
  once = none_counted_once (out.failures out.old) (out.failures out.new) e.faults;
  once_told = e.once_told;
  failure = record {
    announced = λ failed whole. absurd (none_has_failed false (out.failures out.old) (out.failures out.new) e.faults failed);
    hushed = λ failed. absurd (none_has_failed true (out.failures out.old) (out.failures out.new) e.faults failed);
  };
  quiet = e.quiet;
  silent = e.silent;
  warned = e.warned;
  passed = λ asks whole. e.passed asks;
  flushed = e.flushed;
  told = λ one whole. e.told one;
}

-- the output failed, and that was reported on the other one, which was left as it was until then
pub failed_ends : {X Y : Type 0} (kinds : Kinds) (out : Writing X) (err : Writing Y) (mid : Y) (fault : OutputFault) → EndsOrFails kinds out (record err { new = mid }) (Err fault)
    → (is_closing fault ≡ false → NoneFailed (err.failures mid) (err.failures err.new) → Appends (err.contents mid) (err.contents err.new) failed_line)
    → (is_closing fault ≡ true → err.new ≡ mid) → (err.failures err.new).count ≤ (err.failures mid).count + 1 → EndsBy kinds out err 1
failed_ends {X} {Y} kinds out err mid fault e announced hushed once =
    let shows = failure_shows fault (out.failures out.old) (out.failures out.new) e.faults in
    record {
      few = omega arith;
      helped = λ asks whole. absurd (shows whole);
      mistaken = λ mistake whole. absurd (shows whole);
      usage = λ mistake none. absurd (omega (arith, none));
      failed = inl refl;
      failed_told = λ none. inl refl;
      once = counted_once fault (out.failures out.old) (out.failures out.new) e.faults;
      once_told = subst (λ (y : Y). (err.failures err.new).count ≤ (err.failures y).count + 1) e.left once;
      failure = record {
        announced = λ failed whole.
            subst (λ (y : Y). Appends (err.contents y) (err.contents err.new) failed_line) e.left
            (announced (sym e.faults.1 ∙ failed.1) (subst (λ (y : Y). NoneFailed (err.failures y) (err.failures err.new)) (sym e.left) whole));
        hushed = λ failed. hushed (sym e.faults.1 ∙ failed.1) ∙ e.left;
      };
      quiet = λ none is. absurd (omega (arith, is));
      silent = λ none is. absurd (omega (arith, is));
      warned = λ none is. absurd (omega (arith, is));
      passed = λ asks whole. absurd (shows whole);
      flushed = λ is. absurd (omega (arith, is));
      told = λ one whole. absurd (shows whole);
    }

no_help : {A : Type 0} → AreHelp [] → A
no_help asks = absurd (asks.0 refl)

no_mistake : {A : Type 0} → AreMistakes [] → A
no_mistake mistake = absurd (mistake.0 refl)

passed_on : (P : Type 0) (Q : ℕ → Type 0) (result : Result ℕ OutputFault) → (P → (status : ℕ) → Q status) → OnOk result P → IfOk result Q
passed_on P Q (Ok status) more p = more p status
passed_on P Q (Err fault) more p = tt

-- what is asked for was answered
pub answered_ends : {X Y : Type 0} (out : Writing X) (err : Writing Y) (result : Result ℕ OutputFault)
    → IfOk result (λ status. status ≤ 2) → OnOk result (IsPassedOn out) → CountsFault result (out.failures out.old) (out.failures out.new)
    → OnErr result (IsLeft err) → FailsOnce err → EndsOrFails [] out err result
answered_ends out err result few flushed faults left once = record {
  few = few;
  helped = no_help;
  mistaken = no_mistake;
  usage = no_mistake;
  failed_told = λ none. absurd (none refl);
  faults = faults;
  once_told = once;
  quiet = λ none. absurd (none refl);
  left = left;
  silent = λ none. absurd (none refl);
  warned = λ none. absurd (none refl);
  passed = λ asks. flushed;
  flushed = passed_on (IsPassedOn out) (λ status. status ≡ 0 → IsPassedOn out) result (λ on status zero. on) flushed;
  told = passed_on (IsPassedOn out) (λ status. status ≡ 1 → IsPassedOn out ⊎ (([] ≢ []) × IsFailed err)) result (λ on status one. inl on) flushed;
}

-- with status 2 the words are no request
two_is_a_mistake : (ks : Kinds) (e : Error) (old new : FailedCalls) → HasKind ks e → (status : ℕ) (bytes : List ℕ) → IsReplyOfKind old new (kind_of e) status bytes → status ≡ 2 → ks ≢ []
two_is_a_mistake ks e old new (inl memory) status bytes reply two =
    let told : IsMemoryReply status bytes = subst (λ (k : ErrorKind). IsReplyOfKind old new k status bytes) memory reply in
    absurd (omega (arith, told.0, two))
two_is_a_mistake [] e old new (inr among) status bytes reply two = absurd among
two_is_a_mistake (k ∷ ks) e old new (inr among) status bytes reply two = λ empty. cc

-- what was put instead of an answer to a request, that an allocation failed, was passed on
passed_by : (P F : Type 0) (kinds : Kinds) (status : ℕ) → kinds ≡ [] → status ≤ 2 → (status ≡ 0 → P) → (status ≡ 1 → P ⊎ ((kinds ≢ []) × F)) → (status ≡ 2 → kinds ≢ []) → P
passed_by P F kinds zero asks few none one two = none refl
passed_by P F kinds (suc zero) asks few none one two = elim (one refl) [
  | inl on ↦ on
  | inr other ↦ absurd (other.0 asks)
]
passed_by P F kinds (suc (suc n)) asks few none one two = absurd (two (omega (arith, few)) asks)

explained_passes : (P F : Type 0) (kinds : Kinds) (result : Result ℕ OutputFault) → kinds ≡ [] → IfOk result (λ status. status ≤ 2) → IfOk result (λ status. status ≡ 0 → P)
    → IfOk result (λ status. status ≡ 1 → P ⊎ ((kinds ≢ []) × F)) → IfOk result (λ status. status ≡ 2 → kinds ≢ []) → OnOk result P
explained_passes P F kinds (Ok status) asks few none one two = passed_by P F kinds status asks few none one two
explained_passes P F kinds (Err fault) asks few none one two = tt

-- an error of one of these kinds was explained in place of an answer
pub explained_ends : {X Y : Type 0} (kinds : Kinds) (error : Error) (out : Writing X) (err : Writing Y) (result : Result ℕ OutputFault) → HasKind kinds error
    → IfOk result (IsPutTo (IsReplyOfKind (err.failures err.old) (err.failures err.new) (kind_of error)) out)
    → CountsFault result (out.failures out.old) (out.failures out.new) → IfOk result (λ status. status ≤ 2)
    → IfOk result (λ status. status ≡ 0 → IsPassedOn out) → IfOk result (λ status. status ≡ 1 → IsPassedOn out ⊎ ((kind_of error ≢ OutOfMemory) × IsFailed err))
    → IfOk result (λ status. status ≡ 2 → IsPassedOn err) → IfOk result (λ status. status ≡ 0 → IsLeft err) → OnErr result (IsLeft err)
    → IfOk result (λ status. status ≡ 2 → IsLeft out) → IfOk result (λ status. (status ≡ 1) ⊎ (err.failures err.new ≡ err.failures err.old)) → FailsOnce err
    → EndsOrFails kinds out err result
explained_ends kinds error out err result has replied faults few flushed told warned quiet left silent failed once = record {
  few = few;
  helped = λ asks. IfOk-weaker result _ _ (λ status put. (put.0, help_replied kinds error _ _ has asks.1 status put.0 put.1, put.2)) replied;
  mistaken = λ mistake. IfOk-weaker result _ _ (λ status put. (put.0, mistake_replied kinds error _ _ has mistake.1 status put.0 put.1, put.2)) replied;
  usage = λ mistake. IfOk-weaker result _ _ (λ status put. mistake_is_told _ _ status put.0 (mistake_replied kinds error _ _ has mistake.1 status put.0 put.1)) replied;
  failed_told = λ none. failed;
  faults = faults;
  once_told = once;
  quiet = λ none. quiet;
  left = left;
  silent = λ none. silent;
  warned = λ none. warned;
  passed = λ asks. explained_passes (IsPassedOn out) (IsFailed err) kinds result asks few flushed
      (IfOk-weaker result _ _ (λ status or one. no_request_or kinds error has (or one)) told) (IfOk-weaker result _ _ (λ status put two. two_is_a_mistake kinds error _ _ has status put.0 put.1 two) replied);
  flushed = flushed;
  told = IfOk-weaker result _ _ (λ status or one. no_request_or kinds error has (or one)) told;
}
