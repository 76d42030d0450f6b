use Rattle.std.proofs.Common.{◌≡◌, ◌∷◌}
use Rattle.serde_json.{specs.Find.get_member, specs.View.members_view}
use Rattle.marked_json.proofs.node.member_named.Given as goal

abbrev pub invariant-loop-key : goal.invariant-loop-key
invariant-loop-key l = get_member (36 ∷ l.name) (members_view l.key-iterator) ≡ get_member (36 ∷ l.name) (members_view l.members.entries)
