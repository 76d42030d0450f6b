use Rattle.std.{proofs.Common.{◌≡◌, Some, None, map, ap, sym, ◌∙◌}, specs.Prelude.option_and_then}
use Rattle.serde_json.{specs.Find.as_object, specs.View.members_view}
use Rattle.marked_json.{specs.Reading.{node, unless_null}, proofs.WantedMembers.{found_at_end, fields_within, fields_of_none}}
use Rattle.marked_json.proofs.node.Node.find.Goals as goal

pub returns-in-Some : goal.returns-in-Some
returns-in-Some c =
    let is : as_object (node c.args.self) ≡ Some (members_view c.in-Some.members.now.entries) = sym c.in-Some.ensures in
    found_at_end c.find_among.new.wanted
    ∙ ap (map (option_and_then unless_null)) c.find_among.ensures
    ∙ fields_within (node c.args.self) c.in-Some.members.now.entries is c.args.wanted.now c.requires

pub returns-in_default : goal.returns-in_default
returns-in_default c =
    let is : as_object (node c.args.self) ≡ None = sym c.in_default.ensures in
    fields_of_none (node c.args.self) is c.args.wanted.now c.requires
