use Rattle.std.{proofs.Common.{refl, sym, ap, ◌∙◌, ◌++◌, length, arith}, proofs.lemmas.Option.slice_get_read}
use Rattle.ledger_model.{specs.Content.entries, specs.declared.reading.Direction.TheVariants.Export, specs.Energy.energy_by}
use Rattle.site_desk.specs.Cell.{Cell}
use Rattle.board_report.proofs.SiteBoards.{some_same}
use Rattle.script_lines.specs.Texts.{ended_line}
use Rattle.script_ledgers.{specs.Script.{export_answer, export_line, order_named}, specs.State.script_of, proofs.Answered.ok_told, proofs.Named.{is_none, is_of}}
use Rattle.script_ledgers.proofs.opened_script.OpenedScript.put_export.Goals as goal

pub returns-in-Some : goal.returns-in-Some
returns-in-Some g c =
    let s = c.args.self.now in
    let of = is_of s.draft s.cells.items s.books.items s.tallies.items s.running c.args.name.now c.in-Some.number c.station.result c.station.ensures c.in-Some.is in
    let stands = slice_get_read s.cells.items (length s.cells.items) c.in-Some.number c.index.result.now refl (omega (arith, of.less, s.running.all_cells)) c.index.ensures in
    let cell = some_same of.at.cell c.index.result.now (sym of.at.is_cell ∙ stands) in
    let content = of.at.content ∙ ap (λ (x : Cell). x.content) cell ∙ sym c.ledger.ensures.content in
    let order = of.at.order ∙ ap (λ (x : Cell). x.order) cell ∙ sym c.ledger.ensures.order in
    let shown = ap (export_answer (order_named (script_of s))) of.named
    ∙ (λ i. export_line (energy_by (order i) Export (entries (content i)))) ∙ ap export_line (sym c.export-energy.ensures)
    ∙ ap ended_line (sym c.export_text.ensures) ∙ ap ended_line (sym c.as_str.ensures.value) in
    ok_told c.put_line.result _ _ (λ h. h ∙ ap (λ l. c.args.reply.now.items ++ l) (sym shown)) c.put_line.ensures

pub returns-in-None : goal.returns-in-None
returns-in-None g c =
    let s = c.args.self.now in
    let none = is_none s.draft s.cells.items s.books.items s.tallies.items s.running c.args.name.now c.station.result c.station.ensures c.in-None.is in
    ok_told c.put_fault.result _ _ (λ h. h ∙ ap (λ o. c.args.reply.now.items ++ export_answer (order_named (script_of s)) o) (sym none)) c.put_fault.ensures
