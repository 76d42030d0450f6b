use Rattle.std.specs.Prelude.{◌≡◌, List, ◌++◌}

-- A list that the other begins with.
pub record IsPrefix {A : Type 0} (xs ys : List A) : Type 0 where
  pub rest : List A
  pub is : xs ++ rest ≡ ys
