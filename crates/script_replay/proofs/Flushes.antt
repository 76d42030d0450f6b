-- A replay whose last flush failed.
use Rattle.std.{proofs.Common.{◌≡◌, ℕ, List, [], Result, Ok, Err, OnOk, sym, subst, ◌∙◌, inr, append-nil}, specs.Result.result_and}
use Rattle.script_lines.{specs.declared.fault.ReplayFault.ReplayFault, specs.declared.fault.ReplayFault.TheVariants.WriteFault, specs.Lines.Line}
use Rattle.script_replay.specs.Outcome.{Replays}

module _ (all_read : Type 0) (text : List Line → List ℕ) (max_line_bytes limit : ℕ) (read written : List ℕ) where
  -- after Ok it is a WriteFault, and after a fault that fault stays
  flush_told : (result : Result (Unit {0}) ReplayFault) → OnOk result all_read → Replays all_read text max_line_bytes limit result read written
      → Replays all_read text max_line_bytes limit (result_and {U = Unit {0}} result (Err WriteFault)) read written
  flush_told (Ok _) at_end r = (r.0, inr (at_end, ([], sym r.1 ∙ sym (append-nil written))))
  flush_told (Err fault) at_end r = r

  pub flush_failed : (result passed : Result (Unit {0}) ReplayFault) → passed ≡ result_and {U = Unit {0}} result (Err WriteFault) → OnOk result all_read
      → Replays all_read text max_line_bytes limit result read written → Replays all_read text max_line_bytes limit passed read written
  flush_failed result passed is at_end r =
      subst (λ p. Replays all_read text max_line_bytes limit p read written) (sym is) (flush_told result at_end r)
