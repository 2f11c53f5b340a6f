-- Readings one after another.
use Rattle.std.proofs.Common.{◌≡◌, ◌∙◌, ◌∷◌, ◌++◌, [], ℕ, List, refl, subst, sym}
use Rattle.std.specs.Prelude.{Bool, Option, Result, Ok, Err, IsTrue}
use Rattle.a429_console.specs.declared.files.FileFault.{FileFault}
use Rattle.a429_console.specs.declared.files.FileFault.TheVariants as fault
use Rattle.a429_console.specs.Readings.{AreAnswered, AreAnswersOf, HasRead, IsAnswerOf, Reading}

answered-append : {S : Type 0} (A : S → List ℕ → Result (List ℕ) FileFault → S → Type 0) (s t u : S) (rs qs : List Reading)
    → AreAnswered A s rs t → AreAnswered A t qs u → AreAnswered A s (rs ++ qs) u
answered-append A s t u [] qs same more = subst (λ v. AreAnswered A v qs u) same more
answered-append A s t u (r ∷ rs) qs (next, is, rest) more = (next, is, answered-append A next t u rs qs rest more)

answers-parts : (file : List ℕ → Option (List ℕ)) (rs qs : List Reading) → AreAnswersOf file (rs ++ qs) → AreAnswersOf file rs × AreAnswersOf file qs
answers-parts file [] qs all = (tt, all)
answers-parts file (r ∷ rs) qs all = let parts = answers-parts file rs qs all.1 in ((all.0, parts.0), parts.1)

-- one call
pub read_once : {S : Type 0} {A : S → List ℕ → Result (List ℕ) FileFault → S → Type 0} {Q : (List ℕ → Option (List ℕ)) → Type 0} {s t : S} (name : List ℕ) (answer : Result (List ℕ) FileFault)
    → A s name answer t → ((file : List ℕ → Option (List ℕ)) → IsAnswerOf file name answer → Q file) → HasRead A Q s t
read_once {t = t} name answer is says = record { readings = (record { name = name; answer = answer }) ∷ []; answered = (t, is, refl); says = λ file by. says file by.0 }

-- no call
pub read_none : {S : Type 0} {A : S → List ℕ → Result (List ℕ) FileFault → S → Type 0} {Q : (List ℕ → Option (List ℕ)) → Type 0} {s t : S} → t ≡ s → ((file : List ℕ → Option (List ℕ)) → Q file) → HasRead A Q s t
read_none same says = record { readings = []; answered = same; says = λ file by. says file }

-- what follows
pub read_weaker : {S : Type 0} {A : S → List ℕ → Result (List ℕ) FileFault → S → Type 0} {P Q : (List ℕ → Option (List ℕ)) → Type 0} {s t : S}
    → HasRead A P s t → ((file : List ℕ → Option (List ℕ)) → P file → Q file) → HasRead A Q s t
read_weaker h more = record { readings = h.readings; answered = h.answered; says = λ file by. more file (h.says file by) }

-- calls after others
pub read_then : {S : Type 0} {A : S → List ℕ → Result (List ℕ) FileFault → S → Type 0} {P Q R : (List ℕ → Option (List ℕ)) → Type 0} {s t u : S}
    → HasRead A P s t → HasRead A Q t u → ((file : List ℕ → Option (List ℕ)) → P file → Q file → R file) → HasRead A R s u
read_then {A = A} {s = s} {t = t} {u = u} h k both = record {
  readings = h.readings ++ k.readings;
  answered = answered-append A s t u h.readings k.readings h.answered k.answered;
  says = λ file by. let parts = answers-parts file h.readings k.readings by in both file (h.says file parts.0) (k.says file parts.1);
}

by_same : (files file : List ℕ → Option (List ℕ)) (name : List ℕ) (answer : Result (List ℕ) FileFault) → file name ≡ files name → IsAnswerOf file name answer → IsAnswerOf files name answer
by_same files file name (Ok bytes) same is = sym same ∙ is
by_same files file name (Err fault.Refused) same is = sym same ∙ is
by_same files file name (Err fault.NoMemory) same is = tt

-- what a reader whose files are known answers to calls is of these files
known-answers : {S : Type 0} (A : S → List ℕ → Result (List ℕ) FileFault → S → Type 0) (tells : S → Bool) (file : S → List ℕ → Option (List ℕ))
    → ((s t : S) (name : List ℕ) (answer : Result (List ℕ) FileFault) → IsTrue (tells s) → A s name answer t
    → IsAnswerOf (file s) name answer × ((other : List ℕ) → file t other ≡ file s other) × IsTrue (tells t))
    → (files : List ℕ → Option (List ℕ)) (s t : S) (rs : List Reading) → IsTrue (tells s) → ((other : List ℕ) → file s other ≡ files other) → AreAnswered A s rs t → AreAnswersOf files rs
known-answers A tells file known files s t [] told same answered = tt
known-answers A tells file known files s t (r ∷ rs) told same (next, is, rest) =
    let k = known s next r.name r.answer told is in
    (by_same files (file s) r.name r.answer (same r.name) k.0, known-answers A tells file known files next t rs k.2 (λ other. k.1 other ∙ same other) rest)

pub known_read : {S : Type 0} (A : S → List ℕ → Result (List ℕ) FileFault → S → Type 0) (tells : S → Bool) (file : S → List ℕ → Option (List ℕ))
    → ((s t : S) (name : List ℕ) (answer : Result (List ℕ) FileFault) → IsTrue (tells s) → A s name answer t
    → IsAnswerOf (file s) name answer × ((other : List ℕ) → file t other ≡ file s other) × IsTrue (tells t))
    → {P : (List ℕ → Option (List ℕ)) → Type 0} (s t : S) → HasRead A P s t → IsTrue (tells s) → P (file s)
known_read A tells file known s t h told = h.says (file s) (known-answers A tells file known (file s) s t h.readings told (λ other. refl) h.answered)
