use Rattle.std.{proofs.Common.{◌∙◌, ◌++◌, sym, subst}, specs.Io.Buffered.writer_contents, specs.Io.KnownBytes.Appends}
use Rattle.journal_script.{specs.Cuts.run_begins, proofs.Growing.grows_on}
use Rattle.journal_server.{proofs.Comments.{kept_unless, restored_after}, specs.Served.Leaves, proofs.Ends.{reported, script_behind, telling}}
use Rattle.journal_server.proofs.serve.serve_restored.Goals as goal

pub returns-in-Ok-run_plan-clause-serves : goal.returns-in-Ok-run_plan-clause-serves
returns-in-Ok-run_plan-clause-serves g c =
    let restored = c.in-Ok.restored in
    let told = c.in-Ok.ensures.restored in
    let begun = g.W.Write.contents c.write_head.new.journal.inner in
    let begins = subst (Appends (writer_contents g.W.Write.contents c.args.journal) begun) (c.as_slice-2.ensures.value ∙ c.in-Ok-run_head.ensures) c.in_default-write_head.ensures.begins in
    let sites = c.plan-plan.result.now.sites.items in
    let stations = c.plan-plan.result.now.stations.items in
    let cells = restored.cells.items in
    let leaves : Leaves (told.0 ++ run_begins) sites stations cells =
    subst (λ x. Leaves (told.0 ++ run_begins) x stations cells) (sym c.plan-plan.ensures.sites)
    (subst (λ x. Leaves (told.0 ++ run_begins) restored.draft.sites x cells) (sym c.plan-plan.ensures.stations) (restored_after told.0 restored told.4)) in
    let ran = c.in-Ok-run_plan.ensures (told.0 ++ run_begins) leaves in
    record {
      read = told.0;
      last = told.1;
      rest = g.I.Read.remaining c.restore.new.reader;
      reads = told.2;
      listens = told.3;
      whole = told.4.whole;
      marked = told.4.marked;
      kept = λ e. sym told.4.loses ∙ kept_unless restored.has_lost c.args.restoring.allows_left_out (sym c.is_refused.ensures ∙ c.if-is_refused.false) e;
      no_listen = told.4.no_listen;
      sites = sites;
      stations = stations;
      firsts = cells;
      script = script_behind _ _ _ _ _ begun run_begins _ _ begins
          (telling _ _ _ _ _ _ _ _
          (reported c.in-Ok-run_plan.served.ended sites stations cells
          c.args.restoring.journalling.live.connections _ _ _ _ (grows_on _ _ _ c.in-Ok.ensures.grows c.tell_restored.ensures))
          ran);
    }
