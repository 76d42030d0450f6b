use Rattle.std.{proofs.Common.{◌≡◌, sym, ◌∙◌, refl}, proofs.lemmas.Bool.false≢true}
use Rattle.journal_script.{specs.declared.lines.MessageLine.TheVariants.AsItIs, specs.Speaking.StandsAsItIs, proofs.MessageText.{line_speaks, never_asked, stands_by_parts, stands_in_script, stands_short}}
use Rattle.journal_script.proofs.lines.MessageLine.of.Goals as goal

pub returns-then-stands_as_it_is-clause-speaks : goal.returns-then-stands_as_it_is-clause-speaks
returns-then-stands_as_it_is-clause-speaks c =
    let e = c.stands_as_it_is.ensures in
    let is = c.if-stands_as_it_is.true in
    let stands = stands_by_parts c.args.name.now c.args.text.now e.named (e.short is) (e.bare is) (e.feedless is) in
    let parts = stands_in_script c.args.name.now c.args.text.now stands in
    line_speaks c.args.name.now c.args.text.now _ _ _ refl refl e.named c.utf8.text parts.0 parts.1 parts.2 c.requires

pub returns-clause-as_it_is : goal.returns-clause-as_it_is
returns-clause-as_it_is c =
    never_asked (StandsAsItIs c.args.name.now c.args.text.now) (λ line. line ≡ AsItIs) c.spaced_line.result
    (λ stands. false≢true (sym c.if-stands_as_it_is.false ∙ c.stands_as_it_is.ensures.all stands.feedless stands.bare (stands_short _ _ stands)))
