-- The result of a run of the program: its output, its exit status, and its report on standard
-- error.
use Rattle.std.specs.Prelude.{ℕ, List, Option}
use Rattle.script_replay.{specs.Whole.{IsMistake, IsReplayRun, Shows}, specs.declared.whole.Ended.Ended}
use Rattle.ocpp_replay.{specs.declared.words.TheConstants.{HELP, USAGE, VERSION}, specs.declared.words.Action.Action, specs.declared.words.Action.TheVariants.{Replay, Help, Version, Unknown}}

-- The run of a program that was asked for this, with an input, an output and standard error: a
-- replay, its help, its version, or the usage.
abbrev pub IsRun : {W E : Type 0} → (W → Option (List ℕ)) → (E → Option (List ℕ)) → Action → Option (List ℕ) → W → E → Ended W E → Type 0
IsRun contents reports Replay input output errors run = IsReplayRun contents reports input output errors run
IsRun contents reports Help input output errors run = Shows contents reports HELP.now output errors run
IsRun contents reports Version input output errors run = Shows contents reports VERSION.now output errors run
IsRun contents reports Unknown input output errors run = IsMistake reports USAGE.now output errors run
