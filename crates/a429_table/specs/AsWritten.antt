-- The record of a table says what is written in the document: no value is made up for one that is absent or of another kind
-- (profile: equipment table).
use Rattle.std.specs.Prelude.{codes, ◌≡◌, ℕ, pos, List, [], ◌∷◌, ◌++◌, Option, Some, None, IfSome, slice_get}
use Rattle.toml.specs.Data.{Data, Items, string, integer, array, get}
use Rattle.a429_word.specs.Texts.{octal}
use Rattle.a429_filter.specs.declared.filters.Filter.{Filter}
use Rattle.a429_equipment.specs.declared.rows.ReceiverRow.{ReceiverRow}
use Rattle.a429_equipment.specs.declared.rows.SourceRow.{SourceRow}
use Rattle.a429_equipment.specs.declared.rows.GroupRow.{GroupRow}
use Rattle.a429_equipment.specs.declared.rows.OutputRow.{OutputRow}
use Rattle.a429_equipment.specs.TableRecord.{TableRecord}
use Rattle.a429_table.specs.Tree.{elements}
use Rattle.a429_table.specs.Reading.{document}

-- the key has this text
abbrev pub HasText : List ℕ → Data → List ℕ → Type 0
HasText key d text = get key d ≡ Some (string text)

-- the key has this integer
abbrev pub HasInteger : List ℕ → Data → ℕ → Type 0
HasInteger key d n = get key d ≡ Some (integer (pos n))

-- as many rows as elements, and each is of the element at its place
abbrev pub AreOf : {X : Type 0} → (Data → X → Type 0) → List Data → List X → Type 0
AreOf P [] [] = Unit {0}
AreOf P [] (x ∷ xs) = ⊥
AreOf P (d ∷ ds) [] = ⊥
AreOf P (d ∷ ds) (x ∷ xs) = P d x × AreOf P ds xs

-- the key has an array, and these are its rows
abbrev pub HasRows : {X : Type 0} → List ℕ → Data → (Data → X → Type 0) → List X → Type 0
HasRows key d P xs = (rows : Items) × (get key d ≡ Some (array rows)) × AreOf P (elements rows) xs

-- a label and a mask, for example 203/377
abbrev pub IsFilterText : Data → Filter → Type 0
IsFilterText d f = d ≡ string (octal f.label ++ 47 ∷ octal f.mask)

abbrev pub HasFilters : Data → Option (List Filter) → Type 0
HasFilters d None = get (codes "filters") d ≡ None
HasFilters d (Some filters) = HasRows (codes "filters") d IsFilterText filters

abbrev pub HasSdi : Data → Option ℕ → Type 0
HasSdi d None = HasText (codes "sdi") d (codes "any")
HasSdi d (Some sdi) = HasInteger (codes "sdi") d sdi

abbrev pub HasHold : Data → Option ℕ → Type 0
HasHold d None = get (codes "hold") d ≡ None
HasHold d (Some hold) = HasInteger (codes "hold") d hold

pub record IsReceiverOf (d : Data) (r : ReceiverRow) : Type 0 where
  pub name : HasText (codes "name") d r.name
  pub filters : HasFilters d r.filters

-- a source names its receiver
pub record IsSourceOf (t : TableRecord) (d : Data) (s : SourceRow) : Type 0 where
  pub name : HasText (codes "name") d s.name
  pub receiver : (r : ReceiverRow) × (slice_get t.receivers s.receiver ≡ Some r) × HasText (codes "receiver") d r.name
  pub label : HasText (codes "label") d (octal s.label)
  pub sdi : HasSdi d s.sdi

-- the bit rate is a key of the root in version 1, and of the group in version 2 (profile: equipment table)
pub record IsGroupOf (root : Data) (t : TableRecord) (d : Data) (g : GroupRow) : Type 0 where
  pub name : HasText (codes "name") d g.name
  pub root_rate : t.version ≡ 1 → HasInteger (codes "rate") root g.rate
  pub own_rate : t.version ≡ 2 → HasInteger (codes "rate") d g.rate

-- an output names its source, and may have a hold in version 2
pub record IsOutputOf (t : TableRecord) (d : Data) (o : OutputRow) : Type 0 where
  pub source : (s : SourceRow) × (slice_get t.sources o.source ≡ Some s) × HasText (codes "source") d s.name
  pub least : HasInteger (codes "min_us") d o.min_us
  pub most : HasInteger (codes "max_us") d o.max_us
  pub hold : t.version ≡ 2 → HasHold d o.hold

pub record IsAsWritten (root : Data) (t : TableRecord) : Type 0 where
  pub version : HasInteger (codes "version") root t.version
  pub rate : IfSome t.rate (HasInteger (codes "rate") root)
  pub receivers : HasRows (codes "receiver") root IsReceiverOf t.receivers
  pub sources : HasRows (codes "source") root (IsSourceOf t) t.sources
  pub groups : HasRows (codes "group") root (IsGroupOf root t) t.groups
  pub outputs : HasRows (codes "group") root (λ d. HasRows (codes "output") d (IsOutputOf t)) t.outputs

-- the bytes are a TOML document, and the record says what is written in it (TOML)
abbrev pub IsWrittenIn : List ℕ → TableRecord → Type 0
IsWrittenIn bytes t = (root : Data) × (document bytes ≡ Some root) × IsAsWritten root t
