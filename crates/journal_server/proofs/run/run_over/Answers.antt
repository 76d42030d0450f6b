use Rattle.std.proofs.Common.{OnOk, subst, sym}
use Rattle.board_report.proofs.ClosedSites.{value_told}
use Rattle.journal_server.{specs.Served.IsToldOf, proofs.Ends.{ended_as, ended_telling}}
use Rattle.kept_desk.specs.Opened.{contents_of}
use Rattle.live_server.specs.Told.{operator_input}
use Rattle.running_desk.specs.Ordered.{lines_in}
use Rattle.journal_server.proofs.run.run_over.Goals as goal

pub returns : goal.returns
returns g c =
    let sites = c.args.plan.now.sites.items in
    let stations = c.args.plan.now.stations.items in
    let ran = c.in_ok-ran.ran in
    let coming = lines_in (operator_input c.args.journalling.live.connections (g.I.Read.remaining c.args.input.now)) in
    let before = g.T.Write.contents c.args.ends.console in
    value_told c.end_run.result _ _
    (λ s h.
    ended_as _ _ _ _ _ _ sites stations _ _ _ c.requires.names c.requires.first (sym c.requires.before)
    (λ log t. subst (λ o. OnOk s.ended (IsToldOf sites stations (contents_of c.args.desk_parts.cells.items) log coming before (g.T.Write.contents o))) (sym t.0)
    (ended_telling s.ended ran.ended (λ seen. seen.items) sites stations c.args.desk_parts.cells.items _ g.K.Opening.first coming before (g.T.Write.contents ran.output) log
    c.in_ok-kept.ensures.opened c.requires.first t.1 t.2 c.in_ok-ran.ensures.tells))
    h)
    c.end_run.ensures
