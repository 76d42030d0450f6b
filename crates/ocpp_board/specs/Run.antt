-- The result of a run of the program: its output, its console, its exit status, and its report on standard
-- error.
use Rattle.std.{specs.Prelude.{◌≡◌, ◌≢◌, ◌⊎◌, ℕ, Bool, true, false, List, [], ◌++◌, Option, None, Some, IfSome, OnOk, is_some, codes, if◌then◌else◌}, specs.Io.KnownBytes.Appends, specs.declared.result.Result.Result, specs.declared.result.Result.TheVariants.{Ok, Err}}
use Rattle.clap.{specs.Simple.{App, is_simple, subcommand_of}, specs.Takes.takes, specs.declared.error.kind.ErrorKind.ErrorKind, specs.declared.error.kind.ErrorKind.TheVariants.{DisplayHelp, DisplayVersion}}
use Rattle.journal_script.specs.declared.fault.RestoreFault.{RestoreFault}
use Rattle.journal_script.specs.declared.fault.RestoreFault.TheVariants as restored
use Rattle.journal_server.{specs.declared.fault.JournalFault.JournalFault, specs.declared.fault.JournalFault.TheVariants.{Service, Restore, LeftOut}, specs.Left.Left, specs.Served.{IsNewRun, IsRestoredRun, TellsNew, TellsRestored}, specs.Simulated.IsSimulatedRun}
use Rattle.live_server.specs.Told.{operator_input}
use Rattle.script_lines.specs.declared.fault.ReplayFault.{ReplayFault}
use Rattle.script_lines.specs.declared.fault.ReplayFault.TheVariants as replay
use Rattle.script_replay.{specs.Whole.{HasOutput, IsMistake, IsReplayRun, IsReported, Shows, Writes, fault_report}, specs.declared.whole.Ended.Ended}
use Rattle.site_desk.specs.declared.plan.Plan.{Plan}
use Rattle.running_desk.specs.declared.fault.ServiceFault.{ServiceFault}
use Rattle.running_desk.specs.declared.fault.ServiceFault.TheVariants as service
use Rattle.board_report.specs.declared.closed.BoardsFault.TheVariants as board
use Rattle.site_desk.specs.declared.fault.CloseFault.TheVariants as close
use Rattle.site_desk.specs.declared.fault.DeskFault.TheVariants as desk
use Rattle.station_link.specs.declared.sim.SimFault.TheVariants as sim
use Rattle.ocpp_board.{specs.declared.asked.Task.Task, specs.declared.asked.Task.TheVariants.{Replay, Serve, ServeRestored, Simulate}, specs.declared.station_words.WordFault.WordFault, specs.declared.station_words.WordFault.TheVariants.{BadLimits, BadStation, PlanLimit}, specs.declared.run.Ran.Ran, specs.Arguments.IsAskedBy, specs.Commands.{board_commands, commands_of}}

-- The name of a fault of a server.
abbrev pub service_name : ServiceFault → List ℕ
service_name (service.ListenFailed port code) = codes "ListenFailed"
service_name (service.Desk desk.PlanLimit) = codes "PlanLimit"
service_name (service.Desk desk.StationTwice) = codes "StationTwice"
service_name (service.Desk desk.OutOfMemory) = codes "OutOfMemory"
service_name (service.Sim sim.HandshakeFailed) = codes "HandshakeFailed"
service_name (service.Sim sim.ReadFault) = codes "ReadFault"
service_name (service.Sim sim.WriteFault) = codes "WriteFault"
service_name (service.Sim sim.OutOfMemory) = codes "OutOfMemory"
service_name (service.Input replay.ReadFault) = codes "ReadFault"
service_name (service.Input replay.WriteFault) = codes "WriteFault"
service_name (service.Input replay.TooMuchInput) = codes "TooMuchInput"
service_name (service.Input replay.OutOfMemory) = codes "OutOfMemory"
service_name (service.Output board.OutOfMemory) = codes "OutOfMemory"
service_name (service.Output board.WriteFault) = codes "WriteFault"
service_name (service.Close close.PassMissing) = codes "PassMissing"
service_name (service.Close close.ViewerMissing) = codes "ViewerMissing"
service_name (service.Close close.Torn) = codes "Torn"
service_name service.OutOfMemory = codes "OutOfMemory"

-- The name of a fault of a script to restore.
abbrev pub restore_name : RestoreFault → List ℕ
restore_name restored.NotRestored = codes "NotRestored"
restore_name restored.NotMarked = codes "NotMarked"
restore_name restored.ReadFault = codes "ReadFault"
restore_name restored.TooMuchInput = codes "TooMuchInput"
restore_name restored.OutOfMemory = codes "OutOfMemory"

-- The name of a fault of a server with or without a journal.
abbrev pub server_name : JournalFault → List ℕ
server_name (Service fault) = service_name fault
server_name (Restore fault) = restore_name fault
server_name LeftOut = codes "LeftOut"

-- The name of a fault of the words of a plan.
abbrev pub word_name : WordFault → List ℕ
word_name BadLimits = codes "BadLimits"
word_name (BadStation word) = codes "BadStation"
word_name (PlanLimit word) = codes "PlanLimit"

-- The exit status after a fault of a server: 2 if its plan has a fault, else 1.
abbrev pub fault_status : JournalFault → ℕ
fault_status (Service (service.ListenFailed port code)) = 1
fault_status (Service (service.Desk desk.PlanLimit)) = 2
fault_status (Service (service.Desk desk.StationTwice)) = 2
fault_status (Service (service.Desk desk.OutOfMemory)) = 1
fault_status (Service (service.Sim fault)) = 1
fault_status (Service (service.Input fault)) = 1
fault_status (Service (service.Output fault)) = 1
fault_status (Service (service.Close fault)) = 1
fault_status (Service service.OutOfMemory) = 1
fault_status (Restore fault) = 1
fault_status LeftOut = 1

-- The exit status of a server: 0 after Ok.
abbrev pub server_status : Result (Unit {0}) JournalFault → ℕ
server_status (Ok _) = 0
server_status (Err fault) = fault_status fault

-- The report of a server: nothing after Ok, else `fault <name>`, behind which a line may give the cause.
abbrev pub IsServerReport : Result (Unit {0}) JournalFault → List ℕ → Type 0
IsServerReport (Ok _) text = text ≡ []
IsServerReport (Err fault) text = (cause : List ℕ) × (text ≡ fault_report (server_name fault) ++ cause)

-- A server with this end has its exit status, and its report is on standard error.
pub record IsServerEnd {W E : Type 0} (reports : E → Option (List ℕ)) (errors : E) (run : Ended W E) (ended : Result (Unit {0}) JournalFault) : Type 0 where
  pub status : run.status ≡ server_status ended
  pub text : List ℕ
  pub report : IsServerReport ended text
  pub written : Writes (reports errors) (reports run.errors) run.reported text

-- A server with a journal on its output. If the output comes back, the journal is as it has to be;
-- after Ok it comes back. The console then took what it has to, which belongs to the journal's
-- lines, and then the boards.
pub record IsJournalRun {W C E : Type 0} (contents : W → Option (List ℕ)) (consoles : C → Option (List ℕ))
    (reports : E → Option (List ℕ)) (errors : E) (ran : Ran W C E)
    (holds : Left → Result (Unit {0}) JournalFault → Option (List ℕ) → Type 0) : Type 0 where
  pub ended : Result (Unit {0}) JournalFault
  pub end : IsServerEnd reports errors ran.ended ended
  pub buffer : List ℕ
  pub broken : Bool
  pub boards : List ℕ
  pub journal : IfSome ran.ended.output
      (λ output. (answered : Option (List ℕ))
      × holds (record { now = contents output; buffer = buffer; broken = broken; boards = boards; passes = ran.passes.items }) ended answered
      × OnOk ended (HasOutput consoles ran.console (λ now. Appends answered now boards)))
  pub given : OnOk ended (is_some ran.ended.output ≡ true)

-- A server without a journal. After Ok there is a list of lines like that of a journal, which is
-- not written; the output took what a console has to take, and then the boards.
abbrev pub IsUnwrittenRun : {W C E : Type 0} → (W → Option (List ℕ)) → (E → Option (List ℕ)) → E → Ran W C E → (Left → Result (Unit {0}) JournalFault → Option (List ℕ) → Type 0) → Type 0
IsUnwrittenRun contents reports errors ran holds =
    (ended : Result (Unit {0}) JournalFault) × IsServerEnd reports errors ran.ended ended
    × OnOk ended ((left : Left) × (answered : Option (List ℕ)) × holds left ended answered × (left.passes ≡ ran.passes.items)
    × HasOutput contents ran.ended.output (λ now. Appends answered now left.boards))

-- A server that does not begin, since its words make no plan: the exit status is 2, nothing is
-- written to its output, and standard error has `fault <name>` and a line with the cause.
abbrev pub IsWordMistake : {W E : Type 0} → (E → Option (List ℕ)) → WordFault → W → E → Ended W E → Type 0
IsWordMistake reports fault output errors run = (cause : List ℕ) × IsMistake reports (fault_report (word_name fault) ++ cause) output errors run

-- A run of what the words ask for, with this input, output, console and standard error.
abbrev pub Runs : {W C E : Type 0} → (W → Option (List ℕ)) → (C → Option (List ℕ)) → (E → Option (List ℕ)) → Task → Option (List ℕ) → W → C → E → Ran W C E → Type 0
Runs contents consoles reports Replay input output console errors ran = IsReplayRun contents reports input output errors ran.ended
Runs contents consoles reports (Serve (Err fault) journalling journalled) input output console errors ran = IsWordMistake reports fault output errors ran.ended
Runs contents consoles reports (Serve (Ok plan) journalling true) input output console errors ran =
    IsJournalRun contents consoles reports errors ran
    (λ left ended answered. IsNewRun plan.sites.items plan.stations.items (contents output) left
    (TellsNew ended plan.stations.items (operator_input journalling.live.connections input) (consoles console) answered))
Runs contents consoles reports (Serve (Ok plan) journalling false) input output console errors ran =
    IsUnwrittenRun contents reports errors ran
    (λ left ended answered. IsNewRun plan.sites.items plan.stations.items None left (TellsNew ended plan.stations.items (operator_input journalling.live.connections input) (contents output) answered))
Runs contents consoles reports (ServeRestored restoring true) input output console errors ran =
    IsJournalRun contents consoles reports errors ran
    (λ left ended answered. IsRestoredRun restoring.allows_left_out input (contents output) left
    (TellsRestored ended restoring.journalling.live.connections (consoles console) answered))
Runs contents consoles reports (ServeRestored restoring false) input output console errors ran =
    IsUnwrittenRun contents reports errors ran
    (λ left ended answered. IsRestoredRun restoring.allows_left_out input None left (TellsRestored ended restoring.journalling.live.connections (contents output) answered))
Runs contents consoles reports (Simulate stations events) input output console errors ran =
    IsUnwrittenRun contents reports errors ran (λ left ended answered. (answered ≡ contents output) × IsSimulatedRun stations left)

-- The words ask for help or the version.
abbrev pub IsHelp : ErrorKind → Type 0
IsHelp kind = (kind ≡ DisplayHelp) ⊎ (kind ≡ DisplayVersion)

-- A run of words that the program's options don't take, for this reason: there was no memory; or the text of help or of
-- the version is written; or the mistake is written to standard error, and the exit status is 2.
abbrev pub IsRefusal : {W E : Type 0} → (W → Option (List ℕ)) → (E → Option (List ℕ)) → ErrorKind → W → E → Ended W E → Type 0
IsRefusal contents reports kind output errors run =
    IsReported reports errors run (Err replay.OutOfMemory)
    ⊎ (IsHelp kind × ((text : List ℕ) × Shows contents reports text output errors run)
    ⊎ ((kind ≢ DisplayHelp) × (kind ≢ DisplayVersion) × ((text : List ℕ) × IsMistake reports text output errors run)))

-- A run of a program of these commands and options: of what its words ask for if the options take them, else a
-- refusal.
abbrev pub IsRun : {W C E : Type 0} → (W → Option (List ℕ)) → (C → Option (List ℕ)) → (E → Option (List ℕ)) → App → List (List ℕ) → Option (List ℕ) → W → C → E → Ran W C E → Type 0
IsRun contents consoles reports app words input output console errors ran =
    ((asked : Task) × IsAskedBy (subcommand_of app words) asked × Runs contents consoles reports asked input output console errors ran)
    ⊎ ((kind : ErrorKind) × IsRefusal contents reports kind output errors ran.ended × (takes app words ≡ true → IsReported reports errors ran.ended (Err replay.OutOfMemory)))

-- A run of the program: there was no memory for its commands and options, or it is a run by these commands and options.
abbrev pub IsProgramRun : {W C E : Type 0} → (W → Option (List ℕ)) → (C → Option (List ℕ)) → (E → Option (List ℕ)) → List (List ℕ) → Option (List ℕ) → W → C → E → Ran W C E → Type 0
IsProgramRun contents consoles reports words input output console errors ran =
    IsReported reports errors ran.ended (Err replay.OutOfMemory)
    ⊎ ((app : App) × (is_simple app ≡ true) × (commands_of app ≡ board_commands) × IsRun contents consoles reports app words input output console errors ran)
