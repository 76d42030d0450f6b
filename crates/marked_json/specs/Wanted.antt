-- Members that are looked for by name.
use Rattle.std.{specs.Prelude.{◌&&◌, ℕ, List, ◌∷◌, String, is_none, if◌then◌else◌, Option, Some, option_map, option_and_then}, specs.Global.Global, specs.Option.option_or, specs.Str.bytes_eq}
use Rattle.serde_json.{specs.Data.Data, specs.Find.get_member, specs.View.members_view, specs.declared.value.Value.Value}
use Rattle.marked_json.{specs.declared.node.Node.Node, specs.declared.wanted.Wanted.Wanted, specs.Reading.{node, unless_null}}

-- a key and its value, as a map of `serde_json` holds them
abbrev pub Entry : Type 0
Entry = String Global × Value

-- the name that is looked for
abbrev pub name_of : Wanted → List ℕ
name_of wanted = wanted.name.now

-- the member that was found so far, null or not
abbrev pub first_of : Wanted → Option Data
first_of wanted = option_map node wanted.first

-- the member that was found; one that is null counts as absent
abbrev pub found : Wanted → Option Data
found wanted = option_and_then unless_null (first_of wanted)

-- a member that has the name is taken, if none was taken before
abbrev pub offered : List ℕ → Node → Wanted → Wanted
offered key member wanted =
    if bytes_eq key (36 ∷ wanted.name.now) && is_none wanted.first then record wanted { first = Some member } else wanted

-- the member that is found when those entries are still to come
abbrev pub within : List Entry → Wanted → Option Data
within entries wanted = option_or (first_of wanted) (get_member (36 ∷ name_of wanted) (members_view entries))
