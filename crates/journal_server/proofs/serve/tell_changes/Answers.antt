use Rattle.journal_script.proofs.Growing.{grows_by, grows_on}
use Rattle.journal_server.proofs.serve.tell_changes.Goals as goal

pub returns : goal.returns
returns g c = grows_on _ _ _ (grows_on _ _ _ (grows_by _ _ _ _ c.write_bytes.ensures) (grows_by _ _ _ _ c.write_bytes-2.ensures)) (grows_by _ _ _ _ c.write_bytes-3.ensures)
