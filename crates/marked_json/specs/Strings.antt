-- What is between the quotes of a string.
use Rattle.std.specs.Prelude.{◌≡◌, ◌&&◌, ◌==◌, ℕ, List, [], ◌∷◌, Bool, true, false, not, Some, None}
use Rattle.serde_json.specs.Data.{Data}
use Rattle.marked_json.specs.Reading.{text_of, number_of, items_of, is_object}

-- each quote is behind a backslash, and no backslash is last; `escaped` says that a backslash was just before
abbrev pub is_content_after : Bool → List ℕ → Bool
is_content_after escaped [] = not escaped
is_content_after true (c ∷ cs) = is_content_after false cs
is_content_after false (c ∷ cs) = not (c == 34) && is_content_after (c == 92) cs

-- the bytes between the quotes of a string
abbrev pub is_content : List ℕ → Bool
is_content = is_content_after false

-- a text with that content, and nothing else
pub record IsTextAlone (content : List ℕ) (tree : Data) : Type 0 where
  pub text : text_of tree ≡ Some content
  pub no_number : number_of tree ≡ None
  pub no_items : items_of tree ≡ None
  pub no_object : is_object tree ≡ false

-- a number with that token, and nothing else
pub record IsNumberAlone (token : List ℕ) (tree : Data) : Type 0 where
  pub number : number_of tree ≡ Some token
  pub no_text : text_of tree ≡ None
  pub no_items : items_of tree ≡ None
  pub no_object : is_object tree ≡ false
