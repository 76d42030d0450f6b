-- What the program's words ask for.
use Rattle.std.{specs.Prelude.{◌&&◌, ◌||◌, ℕ, Bool, List, [], ◌∷◌, codes, if◌then◌else◌}, specs.Str.bytes_eq}
use Rattle.ocpp_replay.{specs.declared.words.Action.Action, specs.declared.words.Action.TheVariants.{Replay, Help, Version, Unknown}}

-- The words that ask for the help text.
abbrev pub asks_help : List ℕ → Bool
asks_help word = bytes_eq word (codes "--help") || bytes_eq word (codes "-h")

-- What one word behind the program's name asks for.
abbrev pub word_meaning : List ℕ → Action
word_meaning word =
    if bytes_eq word (codes "replay") then Replay
    else (if asks_help word then Help
    else (if bytes_eq word (codes "--version") || bytes_eq word (codes "-V") then Version
    else Unknown))

-- What two words behind it ask for.
abbrev pub two_meaning : List ℕ → List ℕ → Action
two_meaning word other = if bytes_eq word (codes "replay") && asks_help other then Help else Unknown

-- What words ask for. The first word is the program's name.
abbrev pub words_meaning : List (List ℕ) → Action
words_meaning [] = Replay
words_meaning (name ∷ []) = Replay
words_meaning (name ∷ word ∷ []) = word_meaning word
words_meaning (name ∷ word ∷ other ∷ []) = two_meaning word other
words_meaning (name ∷ word ∷ other ∷ more ∷ words) = Unknown
