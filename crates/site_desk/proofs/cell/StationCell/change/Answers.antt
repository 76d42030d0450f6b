use Rattle.std.proofs.Common.{refl, ap, sym, ◌∙◌, arith}
use Rattle.station_ledger.specs.Ledger.{Ledger}
use Rattle.site_desk.{specs.Cell.held, specs.Settle.cell_after, proofs.Counts.{count_at, count_read, count_part, one_more, cell_more}, proofs.Settled.cell_changed}
use Rattle.site_desk.proofs.cell.StationCell.change.Goals as goal

pub overflow_add-index_mut : goal.overflow_add-index_mut
overflow_add-index_mut c =
    let at = count_at _ _ _ _ c.self.view_is c.tally.view_is c.requires.known in
    let read = count_read c.self.inside.counts.items c.tally.inside.slot c.tally.inside.changes at _ c.index_mut.ensures.value in
    let part = count_part c.self.inside.counts.items c.tally.inside.slot c.tally.inside.changes at in
    let more = one_more c.self.inside.ledger.limits c.self.inside.ledger.content c.args.command c.in-Accepted.field-0 (sym c.apply_judged-answer.ensures.answer ∙ c.in-Accepted.is) in
    let left = ap (λ (l : Ledger). l.content.changes) c.apply_judged-answer.ensures.content in
    omega (arith, read, part, more, left, c.self.invariant.counted, c.apply_judged-answer.ensures.fits)

pub overflow_add-tally : goal.overflow_add-tally
overflow_add-tally c =
    let at = count_at _ _ _ _ c.self.view_is c.tally.view_is c.requires.known in
    let part = count_part c.self.inside.counts.items c.tally.inside.slot c.tally.inside.changes at in
    let more = one_more c.self.inside.ledger.limits c.self.inside.ledger.content c.args.command c.in-Accepted.field-0 (sym c.apply_judged-answer.ensures.answer ∙ c.in-Accepted.is) in
    let left = ap (λ (l : Ledger). l.content.changes) c.apply_judged-answer.ensures.content in
    omega (arith, part, more, left, c.self.invariant.counted, c.apply_judged-answer.ensures.fits)

pub invariant_of-self : goal.invariant_of-self
invariant_of-self c =
    let at = count_at _ _ _ _ c.self.view_is c.tally.view_is c.requires.known in
    let read = count_read c.self.inside.counts.items c.tally.inside.slot c.tally.inside.changes at _ c.index_mut.ensures.value in
    let more = one_more c.self.inside.ledger.limits c.self.inside.ledger.content c.args.command c.in-Accepted.field-0 (sym c.apply_judged-answer.ensures.answer ∙ c.in-Accepted.is) in
    let left = ap (λ (l : Ledger). l.content.changes) c.apply_judged-answer.ensures.content in
    cell_more _ _ _ _ c.self.inside.counts.items c.tally.inside.slot c.tally.inside.changes _ _ _ c.self.invariant at read (left ∙ more) refl c.apply_judged-answer.ensures.reached

pub returns-in-Accepted-clause-cell : goal.returns-in-Accepted-clause-cell
returns-in-Accepted-clause-cell c =
    let at = count_at _ _ _ _ c.self.view_is c.tally.view_is c.requires.known in
    let read = count_read c.self.inside.counts.items c.tally.inside.slot c.tally.inside.changes at _ c.index_mut.ensures.value in
    cell_changed (record {
      station = c.self.inside.station;
      site = c.self.inside.site;
      row = c.self.inside.row;
      limits = c.self.inside.ledger.limits;
      period = c.self.inside.ledger.period;
      order = c.self.inside.ledger.order;
      content = c.self.inside.ledger.content;
      counts = c.self.inside.counts.items;
    })
    (record { station = c.tally.inside.station; slot = c.tally.inside.slot; changes = c.tally.inside.changes; work = c.args.work.now })
    c.args.command c.apply_judged-answer.new.self c.in-Accepted.field-0 _ c.apply_judged-answer.ensures.content
    (sym c.apply_judged-answer.ensures.answer ∙ c.in-Accepted.is) read
    ∙ (λ i. cell_after (c.self.view_is i) (held (c.tally.view_is i) c.args.work.now) c.args.command)
