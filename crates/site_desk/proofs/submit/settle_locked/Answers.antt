use Rattle.std.proofs.Common.{ap, subst, sym, ◌∙◌}
use Rattle.site_desk.{specs.Cell.{Held, Knows, held, tally_of}, specs.Settle.cell_after, specs.Submit.Submitted, proofs.Submits.{submitted, tells_of}}
use Rattle.site_desk.proofs.submit.settle_locked.Goals as goal

pub settle-requires-clause-known : goal.settle-requires-clause-known
settle-requires-clause-known g c = subst (λ p. Knows c.args.cell.now (tally_of p)) (sym c.pass.view_is) c.requires.can.knows

pub returns-clause-cell : goal.returns-clause-cell
returns-clause-cell g c = c.settle.ensures.cell ∙ ap (λ p. cell_after c.args.cell.now p c.args.command) c.pass.view_is

pub returns-clause-submitted : goal.returns-clause-submitted
returns-clause-submitted g c =
    let may = c.requires.can in let did = c.settle.ensures in
    let pass = held c.pass.inside.tally c.pass.inside.work in
    let next = held c.settle.new.tally c.settle.new.work in
    let knows = subst (λ p. Knows c.args.cell.now (tally_of p)) (sym c.pass.view_is) may.knows in
    subst (λ (p : Held). Submitted c.args.place.now p c.args.command c.settle.result.0 next c.settle.result.1) c.pass.view_is
    (submitted c.args.place.now c.args.number c.args.cell.now c.args.book.now pass c.args.command may.stands may.site may.reached may.counted knows
    c.settle.result.0 c.settle.new.cell c.settle.new.book next c.settle.result.1 (λ _. may.tied) did.answer did.cell did.pass did.bound did.book did.told)

pub returns-clause-tells : goal.returns-clause-tells
returns-clause-tells g c =
    let may = c.requires.can in let did = c.settle.ensures in
    let pass = held c.pass.inside.tally c.pass.inside.work in
    let knows = subst (λ p. Knows c.args.cell.now (tally_of p)) (sym c.pass.view_is) may.knows in
    tells_of c.args.place.now c.args.number c.args.cell.now c.args.book.now pass c.args.command may.stands may.site may.reached may.counted knows
    c.settle.result.0 c.settle.new.cell c.settle.new.book c.settle.result.1 (λ _. may.tied) did.answer did.cell did.book did.told
