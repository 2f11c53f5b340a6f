-- Tables that fit their columns lack no key, and have no value of another kind.
use Rattle.std.proofs.Common.{◌≡◌, Bool, true, false, not, ◌&&◌, ◌||◌, List, [], ◌∷◌, Option, Some, None, refl, ap}
use Rattle.std.specs.Prelude.{is_none}
use Rattle.std.specs.List.{find, list_all, list_any}
use Rattle.std.specs.Option.{option_map_or}
use Rattle.std.proofs.lemmas.Bool.{and_parts}
use Rattle.toml.specs.Data.{Data, get}
use Rattle.a429_word.proofs.Lists.{and_false}
use Rattle.a429_equipment.specs.declared.version.TableVersion.{TableVersion}
use Rattle.a429_table.specs.declared.fault.FaultKind.TheVariants.{MissingKey, WrongKind}
use Rattle.a429_table.specs.Columns.{Column, columns}
use Rattle.a429_table.specs.Faults.{all_fit_columns, fills, fits_columns, has_shape, has_wrong_kind, lacks_key, misfits}
use Rattle.a429_table.specs.Early.{shows}
use Rattle.a429_table.specs.Tree.{is_table}
use Rattle.a429_table.specs.Walk.{Stop}

not_lacked : (required : Bool) (test : Data → Bool) (found : Option Data) → option_map_or test found (not required) ≡ true → (required && is_none found) ≡ false
not_lacked false test found h = refl
not_lacked true test None h = cc
not_lacked true test (Some v) h = refl

not_misfit : (required : Bool) (test : Data → Bool) (found : Option Data) → option_map_or test found (not required) ≡ true
    → option_map_or (λ v. not (test v)) found false ≡ false
not_misfit required test None h = refl
not_misfit required test (Some v) h = rw h refl

neither : (a b : Bool) → a ≡ false → b ≡ false → (a || b) ≡ false
neither true b h k = h
neither false b h k = k

none_lacked : (d : Data) (cs : List Column) → list_all (fills d) cs ≡ true → list_any (λ c. c.required && is_none (get c.key d)) cs ≡ false
none_lacked d [] h = refl
none_lacked d (c ∷ cs) h =
    let p = and_parts _ _ h in
    neither _ _ (not_lacked c.required (has_shape c.shape) (get c.key d) p.0) (none_lacked d cs p.1)

none_misfits : (d : Data) (cs : List Column) → list_all (fills d) cs ≡ true → list_any (misfits d) cs ≡ false
none_misfits d [] h = refl
none_misfits d (c ∷ cs) h =
    let p = and_parts _ _ h in
    neither _ _ (not_misfit c.required (has_shape c.shape) (get c.key d) p.0) (none_misfits d cs p.1)

fitting_lacks : (version : TableVersion) (s : Stop) → fits_columns version s ≡ true → lacks_key version s.0 s.1 ≡ false
unfolding fits_columns lacks_key
fitting_lacks version s h =
    let p = and_parts (is_table s.1) (list_all (fills s.1) (columns version s.0)) h in
    and_false (is_table s.1) _ (none_lacked s.1 (columns version s.0) p.1)

fitting_kind : (version : TableVersion) (s : Stop) → fits_columns version s ≡ true → has_wrong_kind version s.0 s.1 ≡ false
unfolding fits_columns has_wrong_kind
fitting_kind version s h =
    let p = and_parts (is_table s.1) (list_all (fills s.1) (columns version s.0)) h in
    neither (not (is_table s.1)) _ (ap not p.0) (none_misfits s.1 (columns version s.0) p.1)

nowhere : (test fits : Stop → Bool) (stops : List Stop) → ((s : Stop) → fits s ≡ true → test s ≡ false) → list_all fits stops ≡ true → find test stops ≡ None
nowhere test fits [] none h = refl
nowhere test fits (s ∷ stops) none h =
    let p = and_parts _ _ h in
    rw (none s p.0) (nowhere test fits stops none p.1)

pub no_missing_key : (version : TableVersion) (stops : List Stop) → all_fit_columns version stops ≡ true → find (shows version MissingKey) stops ≡ None
unfolding shows
no_missing_key version stops h = nowhere _ (fits_columns version) stops (λ s fits. fitting_lacks version s fits) h

pub no_wrong_kind : (version : TableVersion) (stops : List Stop) → all_fit_columns version stops ≡ true → find (shows version WrongKind) stops ≡ None
unfolding shows
no_wrong_kind version stops h = nowhere _ (fits_columns version) stops (λ s fits. fitting_kind version s fits) h
