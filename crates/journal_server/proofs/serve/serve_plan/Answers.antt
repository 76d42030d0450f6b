use Rattle.std.{proofs.Common.{refl, subst}, specs.Io.Buffered.writer_contents, specs.Io.KnownBytes.Appends}
use Rattle.journal_server.{proofs.Ends.script_behind, proofs.HeadLaw.{head_leaves, new_cells_empty, new_cells_of}}
use Rattle.journal_server.proofs.serve.serve_plan.Goals as goal

pub run_plan-requires-clause-cells : goal.run_plan-requires-clause-cells
run_plan-requires-clause-cells g c κs lives = new_cells_of _ _ _ c.in_ok-cells.ensures

pub returns : goal.returns
returns g c =
    let sites = c.args.plan.now.sites.items in
    let stations = c.args.plan.now.stations.items in
    let begun = g.W.Write.contents c.write_head.new.journal.inner in
    let head = c.in_ok-head.head.items in
    let firsts = c.in_ok-cells.cells.items in
    let begins = subst (Appends (writer_contents g.W.Write.contents c.args.ends.journal) begun) c.as_slice-2.ensures.value c.in_ok-write_head.ensures.begins in
    record {
      head = head;
      read = sites;
      firsts = firsts;
      declares = record { names = refl; periods = refl; orders = refl; unchanged = new_cells_empty sites stations firsts c.in_ok-cells.ensures };
      script = script_behind _ _ _ _ _ begun head _ _ begins (c.in_ok-served.ensures head (head_leaves sites stations firsts head c.in_ok-head.ensures c.in_ok-cells.ensures));
    }
