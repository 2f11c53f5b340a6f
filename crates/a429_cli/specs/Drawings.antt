-- The command `draw`: its status, and when it is refused (profile: output). A picture is written of a `Drawing` of `a429_documents`, whose marks are the
-- cells of the plan; no clause says how it is spelled.
use Rattle.std.specs.Prelude.{◌≡◌, ◌≤◌, ◌⊎◌, ℕ, List, Option, Result, MatchResult, Some, None, option_map, position}
use Rattle.std.specs.Str.{bytes_eq}
use Rattle.a429_equipment.specs.declared.rows.GroupRow.{GroupRow}
use Rattle.a429_slots.specs.Proposed.{Proposed}
use Rattle.a429_documents.specs.Drawing.{IsDrawingFault, image_height}
use Rattle.a429_documents.specs.declared.drawing.DrawingFault.{DrawingFault}
use Rattle.a429_documents.specs.declared.drawing.DrawingFault.TheVariants as drawing
use Rattle.a429_arguments.specs.Given.{Given, has_given, number_given}
use Rattle.a429_arguments.specs.declared.options.OptionName.TheVariants as option
use Rattle.a429_console.specs.Tables.{IsGroupRefusal}
use Rattle.a429_console.specs.RefusalText.{OrMemory}
use Rattle.a429_console.specs.declared.refusals.CommandRefusal.{CommandRefusal}
use Rattle.a429_console.specs.declared.refusals.CommandRefusal.TheVariants as refused
use Rattle.a429_cli.specs.declared.drawings.Picture.{Picture}
use Rattle.a429_console.specs.declared.reply.Reply.{Reply}
use Rattle.a429_console.specs.WholeReplies.{Replies}

-- the number of the first group of this name
unfoldable pub group_numbered : List GroupRow → List ℕ → Option ℕ
group_numbered groups name = position (λ g. bytes_eq g.name name) groups

-- the number of the group to draw, by the name that was asked for: Some None draws all, and None means that no group has this name
abbrev pub group_asked : List GroupRow → Option (List ℕ) → Option (Option ℕ)
group_asked groups None = Some None
group_asked groups (Some name) = option_map Some (group_numbered groups name)

-- how many slots of each bus are drawn, in rows of how many, and whether it is a page
abbrev pub picture_of : Given → Picture
picture_of given = record { form = record { slots = number_given given option.Slots; width = number_given given option.Width }; is_page = has_given given option.Html }

-- the group that was asked for is in the plan of a proposal, and its image is not too high
abbrev pub HasImage : Proposed → Option (List ℕ) → Picture → Type 0
HasImage q group picture =
    (number : Option ℕ) × (group_asked q.station.groups group ≡ Some number) × (image_height q.plan picture.form number ≤ 32767)

-- no group has the name that was asked for
abbrev pub IsNoGroup : List GroupRow → Option (List ℕ) → CommandRefusal → Type 0
IsNoGroup groups group refusal = (name : List ℕ) × (group ≡ Some name) × (group_numbered groups name ≡ None) × IsGroupRefusal name refusal

-- or the image would be too high
abbrev pub IsTooHigh : Proposed → Option ℕ → Picture → CommandRefusal → Type 0
IsTooHigh q number picture refusal = IsDrawingFault q.plan picture.form number drawing.TooHigh × (refusal ≡ refused.TooMuch)

abbrev pub IsUndrawn : Proposed → Option (List ℕ) → Picture → CommandRefusal → Type 0
IsUndrawn q group picture refusal =
    IsNoGroup q.station.groups group refusal
    ⊎ ((number : Option ℕ) × (group_asked q.station.groups group ≡ Some number) × IsTooHigh q number picture refusal)

-- the group that is drawn, or that no group has the name that was asked for
abbrev pub GivesGroup : List GroupRow → Option (List ℕ) → Result (Option ℕ) CommandRefusal → Type 0
GivesGroup groups group result = MatchResult result (λ number. group_asked groups group ≡ Some number) (OrMemory (IsNoGroup groups group))

-- a picture of the plan of a proposal, of the group of this number or of all, or that it is too high
abbrev pub GivesNumbered : Proposed → Option ℕ → Picture → Result Reply CommandRefusal → Type 0
GivesNumbered q number picture = Replies (λ status bytes. (image_height q.plan picture.form number ≤ 32767) × (status ≡ 0)) (IsTooHigh q number picture)

-- a picture of the plan of a proposal, or why there is none
abbrev pub GivesNamedImage : Proposed → Option (List ℕ) → Picture → Result Reply CommandRefusal → Type 0
GivesNamedImage q group picture = Replies (λ status bytes. HasImage q group picture × (status ≡ 0)) (IsUndrawn q group picture)

-- the refusal of an image
abbrev pub refusal_of : DrawingFault → CommandRefusal
refusal_of drawing.TooHigh = refused.TooMuch
refusal_of drawing.NoMemory = refused.Memory
