use Rattle.script_ledgers.proofs.Answered.{value_told}
use Rattle.journal_script.{specs.Place.place_of, specs.Reading.{IsLeft, Leaves}, proofs.UpToListen.leaves}
use Rattle.journal_script.proofs.restoring.restore_script.Goals as goal

pub returns-clause-reads : goal.returns-clause-reads
returns-clause-reads g c =
    let first = (place_of c.begin-script.result).standing in
    let last = (place_of c.read_lines.new.self).standing in
    let r0 = g.R.Read.remaining c.args.reader.now in
    let r1 = g.R.Read.remaining c.read_lines.new.reader in
    value_told c.into_restored.result (λ r. IsLeft last r.0 r.1) (λ r. Leaves r0 r1 r.0 r.1)
    (λ r left. leaves _ first last r0 r1 r.0 r.1 c.begin-script.ensures.most c.begin-script.ensures.begun c.in_ok-read_lines.ensures.reads left) c.into_restored.ensures.left
