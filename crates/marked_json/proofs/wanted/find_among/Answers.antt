use Rattle.std.proofs.Common.{◌≡◌, ◌∷◌, map, ap, sym, refl, ◌∙◌}
use Rattle.marked_json.{specs.declared.node.Node.Node, specs.Wanted.{Entry, offered, within}, proofs.WantedMembers.within-each_offered}
use Rattle.marked_json.proofs.wanted.find_among.Goals as goal

pub loop-key-preserved : goal.loop-key-preserved
loop-key-preserved c =
    let e : Entry = (c.in-Some.key.now, c.in-Some.value.now) in
    let member : Node = record { value = c.in-Some.value } in
    let steps : c.loop-key.key-iterator ≡ e ∷ c.next.new.self = c.in-Some.ensures.steps in
    ap (map (within c.next.new.self)) (c.offer_each.ensures ∙ ap (λ key. map (offered key member) c.loop-key.wanted) c.as_str.ensures.value)
    ∙ within-each_offered e c.next.new.self member refl c.loop-key.wanted
    ∙ sym (ap (λ es. map (within es) c.loop-key.wanted) steps)
    ∙ c.loop-key.invariant
