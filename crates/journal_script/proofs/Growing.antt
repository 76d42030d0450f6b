-- Bytes that are written behind others.
use Rattle.std.{proofs.Common.{ℕ, List, ◌++◌, Option, Result}, specs.Io.KnownBytes.Appends, proofs.KnownBytes.Appends-trans}
use Rattle.script_lines.specs.Writing.{WritesFront}
use Rattle.journal_script.specs.Restoring.{Grows}

pub grows_on : (a b c : Option (List ℕ)) → Grows a b → Grows b c → Grows a c
grows_on a b c first then = (first.0 ++ then.0, Appends-trans a b c first.0 then.0 first.1 then.1)

-- what was written of some bytes, all of them or a front
pub grows_by : {T E : Type 0} (r : Result T E) (a b : Option (List ℕ)) (bytes : List ℕ) → (written : List ℕ) × Appends a b written × WritesFront r bytes written → Grows a b
grows_by r a b bytes w = (w.0, w.1)
