-- How a server ends its run.
use Rattle.std.{specs.Prelude.{◌≡◌, ℕ, List, Option, None, Some, OnOk}, specs.declared.result.Result.Result, specs.declared.result.Result.TheVariants.{Ok, Err}, specs.Io.KnownBytes.Appends}
use Rattle.journal_server.{specs.declared.fault.JournalFault.JournalFault, specs.declared.run.Served.Served}
use Rattle.script_replay.specs.Whole.{HasOutput}
use Rattle.ocpp_board.{specs.declared.run.Ran.Ran, specs.Run.IsServerEnd}

-- A server without a journal ends with its fault. Else its run has its passes; and after Ok its operator's lines ended
-- well, and the output took what the console had taken, and then the boards.
abbrev pub EndsUnwritten : {W N T C E : Type 0} → (W → Option (List ℕ)) → (T → Option (List ℕ)) → (E → Option (List ℕ)) → E → Result (Served N T) JournalFault → Ran W C E → Type 0
EndsUnwritten contents consoles reports errors (Err fault) ran = IsServerEnd reports errors ran.ended (Err fault)
EndsUnwritten contents consoles reports errors (Ok s) ran = (ended : Result (Unit {0}) JournalFault) × IsServerEnd reports errors ran.ended ended × (ran.passes ≡ s.passes)
    × OnOk ended ((s.ended ≡ Ok tt) × HasOutput contents ran.ended.output (λ now. Appends (consoles s.console) now s.boards.items))

-- A server with a journal ends with its fault, and loses its output. Else its run has its journal and its passes; and
-- after Ok its operator's lines ended well, and the console took the boards behind what it had taken.
abbrev pub EndsJournalled : {W C E : Type 0} → (C → Option (List ℕ)) → (E → Option (List ℕ)) → E → Result (Served W C) JournalFault → Ran W C E → Type 0
EndsJournalled consoles reports errors (Err fault) ran = IsServerEnd reports errors ran.ended (Err fault) × (ran.ended.output ≡ None)
EndsJournalled consoles reports errors (Ok s) ran = (ended : Result (Unit {0}) JournalFault)
    × IsServerEnd reports errors ran.ended ended × (ran.ended.output ≡ Some s.journal) × (ran.passes ≡ s.passes)
    × OnOk ended ((s.ended ≡ Ok tt) × HasOutput consoles ran.console (λ now. Appends (consoles s.console) now s.boards.items))
