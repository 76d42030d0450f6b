-- The tree of a text, and what a place in it shows.
use Rattle.std.specs.Prelude.{◌==◌, ℕ, List, [], ◌∷◌, map, Bool, is_some, if◌then◌else◌, Option, Some, None, option_map, option_and_then, Result, Ok, Err}
use Rattle.serde_json.{specs.Data.{Data, null, boolean, number, string, array, object, Items, no_items, item, Members}, specs.Find.{as_str, as_array, as_object, get_member}, specs.Read.read, specs.View.view}
use Rattle.marked_json.{specs.declared.fault.JsonFault.JsonFault, specs.declared.fault.JsonFault.TheVariants.NotJson, specs.declared.marked.Marked.Marked, specs.declared.node.Node.Node, specs.declared.node.Items.Items as ItemsLeft, specs.Marking.{Marks, marked, outside}}

-- the tree that `serde_json` reads, or the fault if there is none
abbrev pub tree_or_fault : Option Data → Result Data JsonFault
tree_or_fault (Some tree) = Ok tree
tree_or_fault None = Err NotJson

-- the tree of a marked text
abbrev pub tree_of : Marks → Result Data JsonFault
tree_of (Ok marks) = tree_or_fault (read marks)
tree_of (Err fault) = Err fault

-- the marked reading of a text: the tree of its marked text, or the first fault
abbrev pub marked_reading : List ℕ → Result Data JsonFault
marked_reading text = tree_of (marked outside text)

-- the tree of a text that was read
abbrev pub tree : Marked → Data
tree m = view m.value

-- the place in the tree where a node is
abbrev pub node : Node → Data
node n = view n.value.now

-- the items still to come
abbrev pub left_of : ItemsLeft → List Data
left_of items = map view items.rest.now

-- the string behind the mark, if it begins with that mark
abbrev pub behind_mark : ℕ → List ℕ → Option (List ℕ)
behind_mark mark [] = None
behind_mark mark (c ∷ cs) = if c == mark then Some cs else None

-- a text: a string that begins with `$`, without it
abbrev pub text_of : Data → Option (List ℕ)
text_of tree = option_and_then (behind_mark 36) (as_str tree)

-- a number as it was written: a string that begins with `#`, without it
abbrev pub number_of : Data → Option (List ℕ)
number_of tree = option_and_then (behind_mark 35) (as_str tree)

-- items as a list
abbrev pub list_of : Items → List Data
list_of no_items = []
list_of (item tree items) = tree ∷ list_of items

-- the items of an array, in order
abbrev pub items_of : Data → Option (List Data)
items_of tree = option_map list_of (as_array tree)

-- an object
abbrev pub is_object : Data → Bool
is_object tree = is_some (as_object tree)

-- a member that is null counts as absent
abbrev pub unless_null : Data → Option Data
unless_null null = None
unless_null (boolean b) = Some (boolean b)
unless_null (number n) = Some (number n)
unless_null (string s) = Some (string s)
unless_null (array items) = Some (array items)
unless_null (object members) = Some (object members)

-- the member of that name, kept under `$` and the name
abbrev pub member_of : List ℕ → Members → Option Data
member_of name members = option_and_then unless_null (get_member (36 ∷ name) members)

-- the field of that name of an object
abbrev pub field_of : List ℕ → Data → Option Data
field_of name tree = option_and_then (member_of name) (as_object tree)
