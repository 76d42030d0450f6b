use Rattle.std.{proofs.Common.{ap, sym, ◌∙◌, ◌≡◌, ◌∷◌}, proofs.lemmas.Bool.false≢true, specs.String.string_bytes}
use Rattle.serde_json.{specs.Find.get_member, specs.View.members_view, proofs.Views.{member_here, member_later}}
use Rattle.marked_json.proofs.node.member_named.Goals as goal

pub loop-key-init : goal.loop-key-init
loop-key-init c = ap (λ es. get_member (36 ∷ c.args.name.now) (members_view es)) (c.into_iter-key-iterator.ensures.into_iter_gives ∙ c.iter-key-items.ensures.rest)

pub returns-then-is_marked : goal.returns-then-is_marked
returns-then-is_marked c =
    let name : 36 ∷ c.args.name.now ≡ string_bytes c.in-Some.key.now = sym (c.is_marked.ensures.0 (cc)) ∙ c.as_str.ensures.value in
    let steps : c.loop-key.key-iterator ≡ (c.in-Some.key.now, c.in-Some.value.now) ∷ c.next.new.self = c.in-Some.ensures.steps in
    sym (member_here _ (c.in-Some.key.now, c.in-Some.value.now) c.next.new.self name) ∙ sym (ap (λ es. get_member (36 ∷ c.args.name.now) (members_view es)) steps) ∙ c.loop-key.invariant

pub loop-key-preserved : goal.loop-key-preserved
loop-key-preserved c =
    let other : 36 ∷ c.args.name.now ≡ string_bytes c.in-Some.key.now → ⊥ = λ same. false≢true (c.if-is_marked.ensures.1 (c.as_str.ensures.value ∙ sym same)) in
    let steps : c.loop-key.key-iterator ≡ (c.in-Some.key.now, c.in-Some.value.now) ∷ c.next.new.self = c.in-Some.ensures.steps in
    sym (member_later _ (c.in-Some.key.now, c.in-Some.value.now) c.next.new.self other) ∙ sym (ap (λ es. get_member (36 ∷ c.args.name.now) (members_view es)) steps) ∙ c.loop-key.invariant

pub returns : goal.returns
returns c =
    sym (ap (λ es. get_member (36 ∷ c.args.name.now) (members_view es)) c.in-None.ensures.steps.0) ∙ c.loop-key.invariant
