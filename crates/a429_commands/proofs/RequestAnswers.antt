-- A request whose words went to their command was answered.
use Rattle.std.proofs.Common.{◌≡◌, ◌∷◌, ◌∙◌, ◌++◌, ◌<◌, [], ℕ, List, Some, ap, false, inl, inr, lit<, refl, subst, sym}
use Rattle.std.proofs.lemmas.List.Elements.{All-from_recursion}
use Rattle.std.proofs.lemmas.Str.{IsUtf8-from_ascii}
use Rattle.std.proofs.lemmas.Str.Ascii.{IsAscii-from_all}
use Rattle.std.specs.Prelude.{IsTrue, Option, codes}
use Rattle.std.specs.Str.{IsUtf8}
use Rattle.a429_console.specs.Ends.{IsPutTo, IsWhole, Writing}
use Rattle.a429_console.specs.Outputs.{IsPut}
use Rattle.a429_arguments.specs.RequestRows.{AsksFor}
use Rattle.a429_arguments.specs.Requests.{AskedBytes, HasWords, IsName, asked_by_names}
use Rattle.a429_arguments.specs.Usage.{is_run}
use Rattle.a429_arguments.specs.declared.forms.Verb.TheVariants as verb
use Rattle.a429_arguments.proofs.NoOptions.{can_give_nothing}
use Rattle.a429_cli.specs.ProgramRuns.{IsDoneOrRefused, Reader, is_live}
use Rattle.a429_cli.specs.Replies.{IsReplyOrMemory}
use Rattle.a429_commands.specs.WordsInMemory.{AreTexts, ProgramGetsItsWords}

-- what was put to an output without bytes is all that it has
pub all_is_put : (Says : ℕ → List ℕ → Type 0) (status : ℕ) (old new : List ℕ) → old ≡ [] → IsPut Says (Some old) (Some new) status → Says status new
all_is_put Says status old new none (bytes, says, put) = subst (Says status) (sym (put ∙ ap (λ (bs : List ℕ). bs ++ bytes) none)) says

replay_is_text : IsUtf8 (codes "replay")
replay_is_text =
    IsUtf8-from_ascii (codes "replay")
    (IsAscii-from_all (codes "replay") (All-from_recursion (λ (b : ℕ). b < 128) (codes "replay") (lit< tt, (lit< tt, (lit< tt, (lit< tt, (lit< tt, (lit< tt, tt))))))))

-- a replay of two names has words
pub replay_has_words : (table script : List ℕ) → IsName table → IsName script → HasWords (asked_by_names verb.Replay table script [])
replay_has_words table script a b = record {
  first = a;
  second = b;
  number = refl;
  more = tt;
  options = can_give_nothing;
  rules = refl;
  others = λ name none. refl;
}

module _ {X Y : Type 0} (reader : Reader) (Reads : ((List ℕ → Option (List ℕ)) → Type 0) → Type 0) (out : Writing X) (err : Writing Y) (status : ℕ) where
  -- the arguments of a request went to `command`, which answered it
  request_is_answered : (words : List (List ℕ)) (r : AskedBytes) → is_live words ≡ false → is_run r.verb ≡ false → AsksFor words r → IsTrue reader.tells → IsWhole out
      → IsDoneOrRefused words reader Reads out err status → IsPutTo (IsReplyOrMemory reader.file r) out status
  request_is_answered words r other command asks tells whole (inl done) = (done.answered r (command ∙ sym other) asks).1 tells whole
  request_is_answered words r other command asks tells whole (inr refused) =
      let told = refused.put whole in
      (told.0, inr told.1, told.2)

  -- words that are texts went to their command
  texts_went : (path : List ℕ) (words : List (List ℕ)) → AreTexts words → ProgramGetsItsWords (path ∷ words) reader Reads out err status → IsDoneOrRefused words reader Reads out err status
  texts_went path words texts (inl done) = done
  texts_went path words texts (inr (none, told)) = absurd (none texts)

  -- the program answered a replay of these names
  pub replay_is_answered : (path table script : List ℕ) → IsUtf8 table → IsUtf8 script → AsksFor (codes "replay" ∷ table ∷ script ∷ []) (asked_by_names verb.Replay table script []) → IsTrue reader.tells
      → IsWhole out → ProgramGetsItsWords (path ∷ codes "replay" ∷ table ∷ script ∷ []) reader Reads out err status → IsPutTo (IsReplyOrMemory reader.file (asked_by_names verb.Replay table script [])) out status
  replay_is_answered path table script table_text script_text asks tells whole gets =
      let words : List (List ℕ) = codes "replay" ∷ table ∷ script ∷ [] in
      let texts : AreTexts words = (replay_is_text, (table_text, (script_text, tt))) in
      request_is_answered words (asked_by_names verb.Replay table script []) refl refl asks tells whole (texts_went path words texts gets)
