use Rattle.std.{specs.Prelude.{◌≡◌, List, ℕ, ◌++◌}, specs.declared.result.Result.Result, specs.declared.result.Result.TheVariants.{Ok, Err}}

-- All of these bytes were written, or after an error their front, which may be all of them.
abbrev pub WritesFront : {T E : Type 0} → Result T E → List ℕ → List ℕ → Type 0
WritesFront (Ok _) bytes written = written ≡ bytes
WritesFront (Err _) bytes written = (rest : List ℕ) × (bytes ≡ written ++ rest)
