use Rattle.std.{proofs.Common.{refl, sym, ap, ◌∙◌, ◌++◌, length, arith}, proofs.lemmas.Option.slice_get_read}
use Rattle.ledger_model.specs.Content.{entries}
use Rattle.site_desk.specs.Cell.{Cell}
use Rattle.board_report.proofs.SiteBoards.{some_same}
use Rattle.station_ledger.specs.Listing.{listing_by}
use Rattle.script_ledgers.{specs.Script.{list_answer, listed, order_named, period_named}, specs.State.script_of, proofs.Answered.ok_told, proofs.Named.{is_none, is_of}}
use Rattle.script_ledgers.proofs.opened_script.OpenedScript.put_list.Goals as goal

pub returns-in_ok-listing-in-Some-clause-text : goal.returns-in_ok-listing-in-Some-clause-text
returns-in_ok-listing-in-Some-clause-text g c =
    let s = c.args.self.now in let what = c.args.what in let name = c.args.name.now in let tx = c.args.tx.now in
    let of = is_of s.draft s.cells.items s.books.items s.tallies.items s.running name c.in-Some.number c.station.result c.station.ensures c.in-Some.is in
    let stands = slice_get_read s.cells.items (length s.cells.items) c.in-Some.number c.index.result.now refl (omega (arith, of.less, s.running.all_cells)) c.index.ensures in
    let cell = some_same of.at.cell c.index.result.now (sym of.at.is_cell ∙ stands) in
    let content = of.at.content ∙ ap (λ (x : Cell). x.content) cell ∙ sym c.ledger.ensures.content in
    let order = of.at.order ∙ ap (λ (x : Cell). x.order) cell ∙ sym c.ledger.ensures.order in
    let period = of.at.period ∙ ap (λ (x : Cell). x.period) cell ∙ sym c.ledger.ensures.period in
    let shown = ap (list_answer (order_named (script_of s)) (period_named (script_of s)) what name tx) of.named
    ∙ (λ i. listed what name tx (listing_by (order i) (period i) tx (entries (content i))))
    ∙ ap (listed what name tx) (sym c.in_ok-listing-in-Some.ensures) in
    ok_told c.put_listed.result _ _ (λ h. h ∙ sym shown) c.put_listed.ensures.text

pub returns-in-None-clause-text : goal.returns-in-None-clause-text
returns-in-None-clause-text g c =
    let s = c.args.self.now in let answer = list_answer (order_named (script_of s)) (period_named (script_of s)) c.args.what c.args.name.now c.args.tx.now in
    let none = is_none s.draft s.cells.items s.books.items s.tallies.items s.running c.args.name.now c.station.result c.station.ensures c.in-None.is in
    ok_told c.put_fault.result _ _ (λ h. h ∙ (λ i. c.requires i ++ answer (sym none i))) c.put_fault.ensures
