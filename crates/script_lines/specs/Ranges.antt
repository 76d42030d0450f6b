-- How long a script's line may be (this product's profile).
use Rattle.std.specs.Prelude.{ℕ}

-- how many bytes a line may have before its line feed
abbrev pub longest_line : ℕ
longest_line = 262_400
