use Rattle.std.{proofs.Common.{◌++◌, ◌∷◌, [], ap, sym, ◌∙◌}, proofs.lemmas.List.map-append}
use Rattle.site_desk.specs.Cell.{held}
use Rattle.script_ledgers.proofs.opened_script.passes_of.Goals as goal

pub loop-tally-preserved : goal.loop-tally-preserved
loop-tally-preserved g c =
    let tally = c.in-Some.tally in
    let pass = c.of.ensures ∙ ap (held tally) c.open.ensures in
    c.in_ok-push.ensures.items ∙ (λ i. c.loop-tally.invariant i ++ pass i ∷ []) ∙ sym (map-append (λ t. held t 0) c.loop-tally.yielded (tally ∷ []))
