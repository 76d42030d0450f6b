use Rattle.std.proofs.Common.{◌≡◌, ◌≤◌, true, subst, sym}
use Rattle.marked_json.specs.Reading.{node, tree, is_object}
use Rattle.ocppj_frame.{specs.Frame.elements_of, specs.Reply.character_count, specs.Ranges.longest_message_id, proofs.Frames.{Calls, frame_of-Called, Calls-four, Calls-payload}}
use Rattle.ocppj_frame.proofs.incoming.read_tree.Goals as goal

pub invariant_of-result : goal.invariant_of-result
invariant_of-result c =
    let said = c.in-Call.ensures in
    let at_node = frame_of-Called (elements_of (node c.root.result)) c.in-Call.id c.in-Call.action said.0 said.1 in
    let calls : Calls (elements_of (tree c.args.marked)) c.in-Call.id c.in-Call.action said.0 =
    subst (λ shown. Calls (elements_of shown) c.in-Call.id c.in-Call.action said.0) c.root.ensures at_node in
    record {
      short = subst (λ id. character_count id ≤ longest_message_id) (sym c.new.ensures) c.as_str.ensures.short;
      four = Calls-four _ _ _ _ calls;
      object = subst (λ payload. is_object payload ≡ true) (Calls-payload _ _ _ _ calls) calls.has_object;
    }
