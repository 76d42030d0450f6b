use Rattle.journal_script.proofs.Growing.{grows_by, grows_on}
use Rattle.journal_script.proofs.left_out.tell_line.Goals as goal

pub returns : goal.returns
returns g c = grows_on _ _ _ (grows_on _ _ _ c.tell_number.ensures (grows_by _ _ _ _ c.write_bytes.ensures)) (grows_by _ _ _ _ c.write_bytes-2.ensures)
