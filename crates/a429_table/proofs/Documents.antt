-- The root table of the bytes.
use Rattle.std.proofs.Common.{◌≡◌, ℕ, Bool, true, false, List, [], ◌∷◌, Option, Some, None, option_map, Result, Ok, Err, refl, sym, ap, ◌∙◌}
use Rattle.std.specs.Str.{IsUtf8, is_utf8}
use Rattle.std.proofs.lemmas.Str.{IsUtf8-from_is_utf8, is_utf8-from_IsUtf8}
use Rattle.toml.specs.Data.{Data, Members, table}
use Rattle.toml.specs.Parse.{parse_document}
use Rattle.a429_table.specs.declared.fault.FaultKind.{FaultKind}
use Rattle.a429_table.specs.declared.fault.TablePlace.{TablePlace}
use Rattle.a429_table.specs.declared.fault.TableFault.{TableFault}
use Rattle.a429_table.specs.declared.fault.TableFault.TheVariants.{NoMemory, At}
use Rattle.a429_table.specs.Faults.{first, faults}
use Rattle.a429_equipment.specs.TableRecord.{TableRecord}
use Rattle.a429_table.specs.Stated.{stated}
use Rattle.a429_table.specs.Reading.{document, root_of, judged, reading, GivesUnlessMemory, IsJudged}

abbrev Fault : Type 0
Fault = FaultKind × TablePlace

no_text : (b : Bool) (bytes : List ℕ) → is_utf8 bytes ≡ b → (IsUtf8 bytes → ⊥) → is_utf8 bytes ≡ false
no_text true bytes e not_text = absurd (not_text (IsUtf8-from_is_utf8 bytes e))
no_text false bytes e not_text = e

pub document-no_text : (bytes : List ℕ) → (IsUtf8 bytes → ⊥) → document bytes ≡ None
unfolding document
document-no_text bytes not_text = rw (no_text (is_utf8 bytes) bytes refl not_text)

pub document-text : (bytes : List ℕ) (parsed : Option Members) → IsUtf8 bytes → parse_document bytes ≡ parsed → document bytes ≡ option_map table parsed
unfolding document
document-text bytes parsed text e = rw (is_utf8-from_IsUtf8 bytes text, e)

no_document : (bytes : List ℕ) → is_utf8 bytes ≡ false → document bytes ≡ None
unfolding document
no_document bytes is = rw is

text_if : (b : Bool) (bytes : List ℕ) (root : Data) → is_utf8 bytes ≡ b → root_of (document bytes) ≡ Ok root → is_utf8 bytes ≡ true
text_if true bytes root is e = is
text_if false bytes root is e =
    absurd (let none : root_of (document bytes) ≡ root_of None = ap root_of (no_document bytes is) in let clash : root_of None ≡ Ok root = sym none ∙ e in cc)

-- a root table is of a text
root_is_text : (bytes : List ℕ) (root : Data) → root_of (document bytes) ≡ Ok root → is_utf8 bytes ≡ true
root_is_text bytes root e = text_if (is_utf8 bytes) bytes root refl e

pub judged_fault : (root : Data) (fs : List Fault) (f : Fault) → first fs ≡ Some f → judged root fs ≡ Err f
judged_fault root [] f e = cc
judged_fault root (g ∷ gs) f e = cc

pub judged_none : (root : Data) (fs : List Fault) → first fs ≡ None → judged root fs ≡ Ok (stated root)
judged_none root [] e = refl
judged_none root (g ∷ gs) e = cc

judged-reads : (bytes : List ℕ) (root : Data) → root_of (document bytes) ≡ Ok root → reading bytes ≡ judged root (faults root)
unfolding reading
judged-reads bytes root is_root = rw is_root refl

-- what is judged of a root table is what its bytes state
pub judged_gives : (bytes : List ℕ) (root : Data) (result : Result TableRecord TableFault) → root_of (document bytes) ≡ Ok root → IsJudged root result → GivesUnlessMemory (λ e. e) bytes result (reading bytes)
judged_gives bytes root (Ok x) is_root is = judged-reads bytes root is_root ∙ is
judged_gives bytes root (Err NoMemory) is_root is = root_is_text bytes root is_root
judged_gives bytes root (Err (At kind place)) is_root is = judged-reads bytes root is_root ∙ is

reading-no_root : (bytes : List ℕ) (f : Fault) → root_of (document bytes) ≡ Err f → reading bytes ≡ Err f
unfolding reading
reading-no_root bytes f e = rw e

pub no_root_passes : {X Y : Type 0} (v : X → Data) (w : Y → TableRecord) (bytes : List ℕ) (e : TableFault) → GivesUnlessMemory v bytes (Err e) (root_of (document bytes)) → GivesUnlessMemory w bytes (Err e) (reading bytes)
no_root_passes v w bytes NoMemory h = h
no_root_passes v w bytes (At kind place) h = reading-no_root bytes (kind, place) h
