-- How long a script may be (this product's profile).
use Rattle.std.specs.Prelude.{ℕ}

-- how many bytes a script may have: 1 GiB
abbrev pub longest_script : ℕ
longest_script = 1_073_741_824
