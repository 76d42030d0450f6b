-- The members of an object: a member is absent if there is none of its name, or it is null.
use Rattle.std.{specs.Prelude.{ℕ, List, Option, Some, None, Ok, if◌then◌else◌}, specs.Option.ok_or}
use Rattle.serde_json.specs.Data.{Data}
use Rattle.marked_json.specs.Reading.{field_of, is_object}
use Rattle.transaction_event.{specs.declared.fault.PayloadFault.TheVariants.{Missing, WrongType}, specs.Steps.{Checked, checked_map, ◌>>=◌}}

-- An object.
abbrev pub object_of : Data → Option Data
object_of tree = if is_object tree then Some tree else None

-- A member that must be there, of a kind.
abbrev pub required_of : {A : Type 0} → (Data → Option A) → Option Data → Checked A
required_of kind member = ok_or member Missing >>= (λ there. ok_or (kind there) WrongType)

-- The same, by the member's name.
abbrev pub required : {A : Type 0} → (Data → Option A) → List ℕ → Data → Checked A
required kind name tree = required_of kind (field_of name tree)

-- The kind that a member must have if it is there.
abbrev pub if_there : {A : Type 0} → (Data → Option A) → Option Data → Checked (Option A)
if_there kind None = Ok None
if_there kind (Some member) = checked_map Some (ok_or (kind member) WrongType)

-- A member that may be absent, of a kind.
abbrev pub optional : {A : Type 0} → (Data → Option A) → List ℕ → Data → Checked (Option A)
optional kind name tree = if_there kind (field_of name tree)
