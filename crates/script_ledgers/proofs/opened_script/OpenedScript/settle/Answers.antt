use Rattle.std.{proofs.Common.{◌<◌, length, set, refl, sym, ap, subst, ◌∙◌, arith}, specs.Prelude.slice_get, proofs.lemmas.Option.slice_get_read}
use Rattle.site_desk.{specs.Cell.held, proofs.Settled.judged_here}
use Rattle.script_ledgers.{specs.Running.IsRunning, proofs.Passes.rises, proofs.Settling.{posts_of_one, settles, site_in_books, still_running}}
use Rattle.script_ledgers.proofs.opened_script.OpenedScript.settle.Goals as goal

pub index_mut-requires : goal.index_mut-requires
index_mut-requires g c =
    let s = c.args.self.now in
    let at = slice_get_read s.cells.items (length s.cells.items) c.args.number c.index_mut-cell.result.now refl (omega (arith, c.requires.there, s.running.all_cells)) c.index_mut-cell.ensures.value in
    let within = site_in_books s.draft.sites s.draft.stations s.cells.items s.books.items s.tallies.items s.running c.args.number c.index_mut-cell.result.now at in
    omega (arith, c.site-site.ensures, within, s.books.ok.0)

pub settle-answer-requires-clause-known : goal.settle-answer-requires-clause-known
settle-answer-requires-clause-known g c =
    let s = c.args.self.now in
    let at = slice_get_read s.cells.items (length s.cells.items) c.args.number c.index_mut-cell.result.now refl (omega (arith, c.requires.there, s.running.all_cells)) c.index_mut-cell.ensures.value in
    let has = slice_get_read s.tallies.items (length s.tallies.items) c.args.number c.index_mut-tally.result.now refl
    (omega (arith, c.requires.there, s.running.all_tallies)) c.index_mut-tally.ensures.value in
    s.running.known c.args.number c.index_mut-cell.result.now c.index_mut-tally.result.now at has

pub settle-answer-requires-clause-held : goal.settle-answer-requires-clause-held
settle-answer-requires-clause-held g c =
    let s = c.args.self.now in
    let at = slice_get_read s.cells.items (length s.cells.items) c.args.number c.index_mut-cell.result.now refl (omega (arith, c.requires.there, s.running.all_cells)) c.index_mut-cell.ensures.value in
    let within = subst (λ n. n < length s.books.items) (sym c.site-site.ensures)
    (site_in_books s.draft.sites s.draft.stations s.cells.items s.books.items s.tallies.items s.running c.args.number c.index_mut-cell.result.now at) in
    let book = slice_get_read s.books.items (length s.books.items) c.site-site.result c.index_mut.result.now refl within c.index_mut.ensures.value in
    let mine = ap (slice_get s.books.items) (sym c.site-site.ensures) ∙ book in
    (s.running.shown c.args.number c.index_mut-cell.result.now c.index_mut.result.now at mine).held

pub settle-answer-requires-clause-room : goal.settle-answer-requires-clause-room
settle-answer-requires-clause-room g c =
    let s = c.args.self.now in
    let at = slice_get_read s.cells.items (length s.cells.items) c.args.number c.index_mut-cell.result.now refl (omega (arith, c.requires.there, s.running.all_cells)) c.index_mut-cell.ensures.value in
    let within = subst (λ n. n < length s.books.items) (sym c.site-site.ensures)
    (site_in_books s.draft.sites s.draft.stations s.cells.items s.books.items s.tallies.items s.running c.args.number c.index_mut-cell.result.now at) in
    let book = slice_get_read s.books.items (length s.books.items) c.site-site.result c.index_mut.result.now refl within c.index_mut.ensures.value in
    let mine = ap (slice_get s.books.items) (sym c.site-site.ensures) ∙ book in
    let few = posts_of_one s.draft.sites s.draft.stations s.cells.items s.books.items s.tallies.items s.running c.site-site.result c.index_mut.result.now book in
    omega (arith, few, c.requires.few)

pub settle-answer-requires-clause-tied : goal.settle-answer-requires-clause-tied
settle-answer-requires-clause-tied g c =
    let s = c.args.self.now in
    let at = slice_get_read s.cells.items (length s.cells.items) c.args.number c.index_mut-cell.result.now refl (omega (arith, c.requires.there, s.running.all_cells)) c.index_mut-cell.ensures.value in
    let within = subst (λ n. n < length s.books.items) (sym c.site-site.ensures)
    (site_in_books s.draft.sites s.draft.stations s.cells.items s.books.items s.tallies.items s.running c.args.number c.index_mut-cell.result.now at) in
    let book = slice_get_read s.books.items (length s.books.items) c.site-site.result c.index_mut.result.now refl within c.index_mut.ensures.value in
    let mine = ap (slice_get s.books.items) (sym c.site-site.ensures) ∙ book in
    (s.running.shown c.args.number c.index_mut-cell.result.now c.index_mut.result.now at mine).tied

pub invariant_of-self : goal.invariant_of-self
invariant_of-self g c =
    let s = c.args.self.now in
    let at = slice_get_read s.cells.items (length s.cells.items) c.args.number c.index_mut-cell.result.now refl (omega (arith, c.requires.there, s.running.all_cells)) c.index_mut-cell.ensures.value in
    let within = subst (λ n. n < length s.books.items) (sym c.site-site.ensures)
    (site_in_books s.draft.sites s.draft.stations s.cells.items s.books.items s.tallies.items s.running c.args.number c.index_mut-cell.result.now at) in
    let book = slice_get_read s.books.items (length s.books.items) c.site-site.result c.index_mut.result.now refl within c.index_mut.ensures.value in
    let mine = ap (slice_get s.books.items) (sym c.site-site.ensures) ∙ book in
    let has = slice_get_read s.tallies.items (length s.tallies.items) c.args.number c.index_mut-tally.result.now refl
    (omega (arith, c.requires.there, s.running.all_tallies)) c.index_mut-tally.ensures.value in
    let new = c.settle-answer.new in
    let told = c.settle-answer.ensures in
    let then = still_running s.draft.sites s.draft.stations s.cells.items s.books.items s.tallies.items s.running c.args.number
    c.index_mut-cell.result.now new.cell (held c.index_mut-tally.result.now c.args.work.now) c.index_mut-tally.result.now new.tally c.index_mut.result.now new.book c.args.command
    c.settle-answer.result.0
    at has mine told.cell told.book told.answer told.known in
    record {
      running =
          subst (λ n. IsRunning s.draft.sites s.draft.stations (set s.cells.items c.args.number new.cell) (set s.books.items n new.book) (set s.tallies.items c.args.number new.tally))
          (sym c.site-site.ensures) then;
    }

pub returns-clause-settled : goal.returns-clause-settled
returns-clause-settled g c =
    let s = c.args.self.now in
    let at = slice_get_read s.cells.items (length s.cells.items) c.args.number c.index_mut-cell.result.now refl (omega (arith, c.requires.there, s.running.all_cells)) c.index_mut-cell.ensures.value in
    settles s.draft s.cells.items s.books.items s.tallies.items s.running c.args.number c.index_mut-cell.result.now
    c.settle-answer.new.cell (held c.index_mut-tally.result.now c.args.work.now) c.args.command c.settle-answer.result.0 at c.settle-answer.ensures.cell
    c.settle-answer.ensures.answer

pub settle-answer-requires-clause-judged : goal.settle-answer-requires-clause-judged
settle-answer-requires-clause-judged g c =
    judged_here _ _ _ _ c.args.command c.judgement-judgement.result.answer c.ledger.ensures.limits c.ledger.ensures.content c.judgement-judgement.ensures

pub returns-clause-work : goal.returns-clause-work
returns-clause-work g c = rises c.settle-answer.result.0 c.args.work.now c.settle-answer.new.work c.settle-answer.ensures.spent
