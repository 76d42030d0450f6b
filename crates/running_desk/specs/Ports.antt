-- The line of a port that a server listens on.
use Rattle.std.{specs.Prelude.{ℕ, List, ◌++◌, codes}, specs.Fmt.decimal}

-- The line of a word and of a port of 127.0.0.1.
abbrev pub at_port : List ℕ → ℕ → List ℕ
at_port word port = ((word ++ codes " 127.0.0.1:") ++ decimal port) ++ codes "\n"
