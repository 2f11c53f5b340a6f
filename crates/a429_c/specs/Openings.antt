-- Tables as calls from C read them, and the stations that are opened of them (profile: docs/C.md, The calls).
use Rattle.std.specs.Prelude.{◌≡◌, ◌≤◌, ◌<◌, ◌⊎◌, [], ℕ, List, Option, Some, None, Result, true, false, length}
use Rattle.a429_equipment.specs.Limits.{count_bits}
use Rattle.a429_slots.specs.Tables.{groups_of}
use Rattle.a429_slots.specs.FrameStates.{all_fit}
use Rattle.a429_slots.specs.Proposed.{Proposed}
use Rattle.a429_core.specs.MachineStates.{HasTableForEach, StandsForHistory}
use Rattle.a429_core.specs.MachineSteps.{publish_asked}
use Rattle.a429_console.specs.Names.{naming_of}
use Rattle.a429_console.specs.Tables.{IsProposedBy}
use Rattle.a429_given.specs.GivenPlans.{IsNoPlanIn, IsPlanIn}
use Rattle.a429_console.specs.RefusalText.{IsToldOf, OrMemory, refusal_line}
use Rattle.a429_c.specs.Stations.{Held}
use Rattle.a429_c.specs.Statuses.{code_of, line_of, table_code}
use Rattle.a429_c.specs.Calls.{given_or, kept_text, plan_of, status_of, text_after, with_state}
use Rattle.a429_c.specs.declared.statuses.Status.{Status}
use Rattle.a429_c.specs.declared.statuses.Status.TheVariants.{Closed, Memory, SlotsSpent, TooLarge}
use Rattle.a429_c.specs.declared.tables.TableRefusal.{TableRefusal}
use Rattle.a429_c.specs.declared.tables.TableRefusal.TheVariants.{Call, Table}

-- the greatest table or plan text: 16 MiB (profile: limits)
abbrev pub table_limit : ℕ
table_limit = 16777216

-- the bytes of a plan text that is given
abbrev pub given_length : Option (List ℕ) → ℕ
given_length None = 0
given_length (Some text) = length text

abbrev pub AreSmall : List ℕ → Option (List ℕ) → Type 0
AreSmall table plan = (length table ≤ table_limit) × (given_length plan ≤ table_limit)

-- a proposal of the bytes of a table, and of a plan text if one is given
abbrev pub HasProposal : List ℕ → Option (List ℕ) → Proposed → Type 0
HasProposal table plan q = IsPlanIn plan table q × AreSmall table plan

-- why they give no proposal: they are too many, or the table, its
-- plan or that text has this first fault, or an allocation failed
abbrev pub IsNoProposal : List ℕ → Option (List ℕ) → TableRefusal → Type 0
IsNoProposal table plan (Call TooLarge) = (table_limit < length table) ⊎ (table_limit < given_length plan)
IsNoProposal table plan (Call status) = ⊥
IsNoProposal table plan (Table refusal) = AreSmall table plan × OrMemory (IsNoPlanIn plan table) refusal

-- why they give no station whose first frames begin at this slot: that, or the slots cannot be counted, or an
-- allocation failed
abbrev pub IsNoOpening : List ℕ → Option (List ℕ) → ℕ → TableRefusal → Type 0
IsNoOpening table plan first (Call SlotsSpent) = (q : Proposed) × IsPlanIn plan table q × (all_fit first (groups_of q.plan) ≡ false)
IsNoOpening table plan first (Call Memory) = Unit {0}
IsNoOpening table plan first refusal = IsNoProposal table plan refusal

-- why nothing of them is published: that, or an allocation failed
abbrev pub IsNoPublication : List ℕ → TableRefusal → Type 0
IsNoPublication table (Call Memory) = Unit {0}
IsNoPublication table refusal = IsNoProposal table None refusal

-- the number and the text of a refusal; of a table's fault the line that the program prints
abbrev pub IsPutAs : TableRefusal → ℕ → List ℕ → Type 0
IsPutAs (Call status) code text = (code ≡ code_of status) × (text ≡ kept_text (line_of status))
IsPutAs (Table refusal) code text = (code ≡ table_code refusal) × (text ≡ kept_text (refusal_line refusal))

-- what is put for a refusal: it, or instead of a table's fault that an allocation failed
abbrev pub IsPutFor : TableRefusal → TableRefusal → Type 0
IsPutFor (Call status) put = put ≡ Call status
IsPutFor (Table refusal) (Table put) = IsToldOf refusal put
IsPutFor (Table refusal) (Call status) = ⊥

-- a station of these bytes to which nothing has happened, whose first frames begin at this slot: by the plan text if one
-- is given, otherwise by the table's own plan
pub record IsHeldFrom (table : List ℕ) (plan : Option (List ℕ)) (first : ℕ) (m : Held) : Type 0 where
  pub proposal : Proposed
  pub proposed : IsPlanIn plan table proposal
  pub small : AreSmall table plan
  pub fits : all_fit first (groups_of proposal.plan) ≡ true
  pub names : m.names ≡ naming_of proposal.station
  pub stands : StandsForHistory count_bits (record { proposal = proposal; first = first }) [] m.state

abbrev pub IsOpenIn : List ℕ → Option (List ℕ) → ℕ → Option Held → Type 0
IsOpenIn table plan first (Some m) = IsHeldFrom table plan first m
IsOpenIn table plan first None = ⊥

-- an opening is refused with this number and this text
abbrev pub IsRefusedOpening : List ℕ → Option (List ℕ) → ℕ → ℕ → List ℕ → Type 0
IsRefusedOpening table plan first code text = (why : TableRefusal) × IsNoOpening table plan first why × IsPutAs why code text

-- a proposal of the table's bytes was published, which has a slot table for each group: the machine's answer, and the station after it
pub record HasPublishedTable (table : List ℕ) (before after : Held) (outcome : Result ℕ Status) : Type 0 where
  pub proposal : Proposed
  pub proposed : IsProposedBy table proposal
  pub whole : HasTableForEach proposal
  pub small : AreSmall table None
  pub answer : outcome ≡ plan_of (publish_asked before.state proposal).0
  pub moved : after ≡ with_state before (publish_asked before.state proposal).1

-- what a publication finds and leaves in the caller's memory: the station that is held, the number of a plan, the text of the last refusal
pub record PublicationMemory : Type 0 where
  pub held : Option Held
  pub number : ℕ
  pub refusal_text : List ℕ

-- on a closed station its status is answered, and nothing else is looked at
abbrev pub IsClosedPublication : PublicationMemory → PublicationMemory → ℕ → Type 0
IsClosedPublication before after code =
    (code ≡ 10) × (after.held ≡ None) × (after.number ≡ before.number) × (after.refusal_text ≡ kept_text (line_of Closed))

-- a proposal of the table was answered by the machine
pub record IsAnsweredPublication (table : List ℕ) (m : Held) (before after : PublicationMemory) (code : ℕ) : Type 0 where
  pub next : Held
  pub outcome : Result ℕ Status
  pub publication : HasPublishedTable table m next outcome
  pub held : after.held ≡ Some next
  pub status : code ≡ status_of outcome
  pub number : after.number ≡ given_or outcome before.number
  pub refusal_text : after.refusal_text ≡ text_after outcome before.refusal_text

-- the table was refused with this number and this text, or memory was, and nothing else changed
pub record IsRefusedPublication (table : List ℕ) (m : Held) (before after : PublicationMemory) (code : ℕ) : Type 0 where
  pub why : TableRefusal
  pub stands : IsNoPublication table why
  pub put : IsPutAs why code after.refusal_text
  pub held : after.held ≡ Some m
  pub number : after.number ≡ before.number

-- the outcome of a publication
abbrev pub IsPublishing : List ℕ → PublicationMemory → PublicationMemory → Option Held → ℕ → Type 0
IsPublishing table before after None code = IsClosedPublication before after code
IsPublishing table before after (Some m) code = IsAnsweredPublication table m before after code ⊎ IsRefusedPublication table m before after code
