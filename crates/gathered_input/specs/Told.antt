-- What a read gives in place of bytes, after those that came before.
use Rattle.std.{specs.Prelude.{List, ℕ, Option, None, Some, ⊤}, specs.Io.KnownBytes.IsAtEnd}
use Rattle.gathered_input.{specs.declared.input.Stop.Stop, specs.declared.input.Stop.TheVariants.{End, Fault}}

-- The end is reported only if the input is at its end.
abbrev pub IsTruly : Option (List ℕ) → Option Stop → Type 0
IsTruly remaining None = ⊤
IsTruly remaining (Some End) = IsAtEnd remaining
IsTruly remaining (Some (Fault error)) = ⊤
