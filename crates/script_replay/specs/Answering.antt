-- How much of a line's answer is written.
use Rattle.std.{specs.Prelude.{◌≡◌, ℕ, List, [], ◌∷◌, ◌++◌}, specs.declared.result.Result.Result, specs.declared.result.Result.TheVariants.{Ok, Err}}
use Rattle.script_lines.{specs.declared.fault.ReplayFault.ReplayFault, specs.declared.fault.ReplayFault.TheVariants.{ReadFault, WriteFault, TooMuchInput, OutOfMemory}, specs.Lines.Line}

-- `reply` is the text of `line`, and `new` that of the lines after it
abbrev pub Replies : (List Line → List ℕ) → (List Line → List ℕ) → Line → List ℕ → Type 0
Replies old new line reply = (more : List Line) → old (line ∷ more) ≡ reply ++ new more

-- the answer of a line was not written, or only its front
abbrev pub StopsAtLine : (List Line → List ℕ) → Line → ReplayFault → List ℕ → Type 0
StopsAtLine old line WriteFault written = (more : List Line) → (rest : List ℕ) × (old (line ∷ more) ≡ written ++ rest)
StopsAtLine old line OutOfMemory written = written ≡ []
StopsAtLine old line ReadFault written = ⊥
StopsAtLine old line TooMuchInput written = ⊥

-- what is written for a line
abbrev pub WritesLine : (List Line → List ℕ) → (List Line → List ℕ) → Line → Result (Unit {0}) ReplayFault → List ℕ → Type 0
WritesLine old new line (Ok _) written = Replies old new line written
WritesLine old new line (Err fault) written = StopsAtLine old line fault written
