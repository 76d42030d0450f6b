-- The result of a replay of a whole input: its output, its exit status, and its report on standard
-- error.
use Rattle.std.{specs.Prelude.{◌≡◌, ℕ, List, [], ◌++◌, Option, None, Some, OnOk, OnSome, codes}, specs.Io.KnownBytes.{Appends, IsAtEnd, append_known}, specs.declared.result.Result.Result, specs.declared.result.Result.TheVariants.{Ok, Err}}
use Rattle.script_lines.{specs.declared.fault.ReplayFault.ReplayFault, specs.declared.fault.ReplayFault.TheVariants.{ReadFault, WriteFault, TooMuchInput, OutOfMemory}, specs.Texts.ended_line, specs.Writing.WritesFront}
use Rattle.script_replay.{specs.Outcome.IsReplay, specs.declared.whole.Ended.Ended}

-- The output took the text of a replay of this input, except for bytes that a buffer kept. After Ok the input is at its
-- end and the buffer kept nothing.
abbrev pub IsReplayOf : Option (List ℕ) → Option (List ℕ) → Option (List ℕ) → Result (Unit {0}) ReplayFault → Type 0
IsReplayOf input before after ended =
    (unread : Option (List ℕ)) × (kept : List ℕ) × IsReplay input unread before (append_known after kept) ended
    × OnOk ended (OnSome input (IsAtEnd unread) × (kept ≡ []))

-- The same for an output that comes back. It is lost only if there was no memory for its buffer.
abbrev pub IsWholeReplay : {W : Type 0} → (W → Option (List ℕ)) → Option (List ℕ) → Option (List ℕ) → Option W → Result (Unit {0}) ReplayFault → Type 0
IsWholeReplay contents input before None ended = ended ≡ Err OutOfMemory
IsWholeReplay contents input before (Some output) ended = IsReplayOf input before (contents output) ended

-- The exit status: 0 after Ok, 1 after a fault.
abbrev pub exit_status : Result (Unit {0}) ReplayFault → ℕ
exit_status (Ok _) = 0
exit_status (Err fault) = 1

-- The name of a fault.
abbrev pub replay_fault_name : ReplayFault → List ℕ
replay_fault_name ReadFault = codes "ReadFault"
replay_fault_name WriteFault = codes "WriteFault"
replay_fault_name TooMuchInput = codes "TooMuchInput"
replay_fault_name OutOfMemory = codes "OutOfMemory"

-- The line `fault <name>`.
abbrev pub fault_report : List ℕ → List ℕ
fault_report name = codes "fault " ++ ended_line name

-- The report of a replay's end: nothing after Ok, else `fault <name>`.
abbrev pub report : Result (Unit {0}) ReplayFault → List ℕ
report (Ok _) = []
report (Err fault) = fault_report (replay_fault_name fault)

-- These bytes were appended; after an error, a front of them.
abbrev pub Writes : {T E : Type 0} → Option (List ℕ) → Option (List ℕ) → Result T E → List ℕ → Type 0
Writes before after reported bytes = (written : List ℕ) × Appends before after written × WritesFront reported bytes written

-- A run with this end has its exit status, and its report is on standard error.
abbrev pub IsReported : {W E : Type 0} → (E → Option (List ℕ)) → E → Ended W E → Result (Unit {0}) ReplayFault → Type 0
IsReported contents errors run ended = (run.status ≡ exit_status ended) × Writes (contents errors) (contents run.errors) run.reported (report ended)

-- A replay as a whole run: from the bytes of its input to those of its output and of standard error, and its exit
-- status.
abbrev pub IsReplayRun : {W E : Type 0} → (W → Option (List ℕ)) → (E → Option (List ℕ)) → Option (List ℕ) → W → E → Ended W E → Type 0
IsReplayRun contents reports input output errors run =
    (ended : Result (Unit {0}) ReplayFault) × IsWholeReplay contents input (contents output) run.output ended × IsReported reports errors run ended

-- The output took this text; after a WriteFault it took a front of it. No other fault comes.
abbrev pub TakesText : Option (List ℕ) → Option (List ℕ) → List ℕ → Result (Unit {0}) ReplayFault → Type 0
TakesText before after text (Ok _) = Appends before after text
TakesText before after text (Err WriteFault) = (written rest : List ℕ) × Appends before after written × (text ≡ written ++ rest)
TakesText before after text (Err ReadFault) = ⊥
TakesText before after text (Err TooMuchInput) = ⊥
TakesText before after text (Err OutOfMemory) = ⊥

-- The output comes back, and this holds for its bytes.
abbrev pub HasOutput : {W : Type 0} → (W → Option (List ℕ)) → Option W → (Option (List ℕ) → Type 0) → Type 0
HasOutput contents None holds = ⊥
HasOutput contents (Some output) holds = holds (contents output)

-- The run writes this text of the program's own to its output.
abbrev pub Shows : {W E : Type 0} → (W → Option (List ℕ)) → (E → Option (List ℕ)) → List ℕ → W → E → Ended W E → Type 0
Shows contents reports text output errors run =
    (ended : Result (Unit {0}) ReplayFault) × HasOutput contents run.output (λ now. TakesText (contents output) now text ended) × IsReported reports errors run ended

-- The run writes nothing to its output, has exit status 2, and writes this text to standard error.
pub record IsMistake {W E : Type 0} (reports : E → Option (List ℕ)) (text : List ℕ) (output : W) (errors : E) (run : Ended W E) : Type 0 where
  pub unwritten : run.output ≡ Some output
  pub status : run.status ≡ 2
  pub written : Writes (reports errors) (reports run.errors) run.reported text
