-- The program on words in memory gets these words.
use Rattle.std.proofs.Common.{◌≡◌, ◌∷◌, ◌+◌, ◌≤◌, [], ℕ, zero, suc, List, arith, drop, inl, inr, length, subst, sym}
use Rattle.std.proofs.lemmas.List.{drop_all, drop_more}
use Rattle.std.proofs.lemmas.Option.{get_or_from_slice_get, none-some, same_Some, slice_get_within}
use Rattle.std.specs.Prelude.{Option}
use Rattle.std.specs.Str.{IsUtf8}
use Rattle.a429_console.specs.Ends.{Writing}
use Rattle.a429_arguments.specs.GivenWords.{AreAllWords, AreFrom, HasNoText, HasNoWordAt, IsWordAt}
use Rattle.a429_cli.specs.ProgramRuns.{CommandIsDone, HasRunProgram, Reader}
use Rattle.a429_commands.specs.WordsInMemory.{AreTexts, ProgramGetsItsWords, after_path}

-- a place without a word is past the last
past_last : (words : List (List ℕ)) (place : ℕ) → HasNoWordAt words place → length words ≤ place
past_last [] place none = omega arith
past_last (word ∷ words) zero none = absurd (none-some word (sym none))
past_last (word ∷ words) (suc place) none = omega (arith, past_last words place none)

-- words that are given from a place on, after which none is, are the words from there on
given_from : (words : List (List ℕ)) (place : ℕ) (given : List (List ℕ)) → AreFrom (IsWordAt words) place given → HasNoWordAt words (length given + place) → given ≡ drop place words
given_from words place [] are ends = sym (drop_all place words (past_last words place (subst (HasNoWordAt words) (omega arith) ends)))
given_from words place (word ∷ given) are ends =
    let here = get_or_from_slice_get words place word word are.0 in
    let rest = given_from words (place + 1) given are.1 (subst (HasNoWordAt words) (omega arith) ends) in
    let cut = drop_more words place word (slice_get_within words place word are.0) in
    cc

-- the words that are given are all that follow the path, in order
pub all_words : (words given : List (List ℕ)) → AreAllWords (IsWordAt words) (HasNoWordAt words) given → given ≡ after_path words
all_words words given all = given_from words 1 given all.0 all.1

-- each of some texts is UTF-8
text_at : (words : List (List ℕ)) (place : ℕ) (bytes : List ℕ) → AreTexts words → IsWordAt words place bytes → IsUtf8 bytes
text_at [] place bytes texts is = absurd (none-some bytes is)
text_at (word ∷ words) zero bytes texts is = subst IsUtf8 (same_Some word bytes is) texts.0
text_at (word ∷ words) (suc place) bytes texts is = text_at words place bytes texts.1 is

-- so if one is not, they are no texts
no_texts : (words : List (List ℕ)) → HasNoText (IsWordAt words) → ¬ (AreTexts (after_path words))
no_texts [] (place, bytes, follows, is, unlike) texts = none-some bytes is
no_texts (path ∷ words) (zero, bytes, follows, is, unlike) texts = omega arith
no_texts (path ∷ words) (suc place, bytes, follows, is, unlike) texts = unlike (text_at words place bytes texts is)

pub gets_its_words : {X Y : Type 0} (words : List (List ℕ)) (reader : Reader) (Reads : ((List ℕ → Option (List ℕ)) → Type 0) → Type 0) (out : Writing X) (err : Writing Y) (status : ℕ)
    → HasRunProgram (IsWordAt words) (HasNoWordAt words) reader Reads out err status → ProgramGetsItsWords words reader Reads out err status
gets_its_words words reader Reads out err status (inl (given, all, done)) =
    inl (inl (subst (λ (ws : List (List ℕ)). CommandIsDone ws reader Reads out err status) (all_words words given all) done))
gets_its_words words reader Reads out err status (inr (inl (none, told))) = inr (no_texts words none, told)
gets_its_words words reader Reads out err status (inr (inr refused)) = inl (inr refused)
